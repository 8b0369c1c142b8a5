-- What is held after the batches of lines: the same over any content of a state, but for the text of its schema.
use Rattle.std.proofs.Common.{◌≡◌, ℕ, List, [], ◌∷◌, map, refl, sym, ap, ◌∙◌, Option, Some, None, Result, Ok, Err}
use Rattle.std.specs.Prelude.{◌≤◌, if◌then◌else◌, is_none}
use Rattle.std.specs.Option.{option_map_or}
use Rattle.std.specs.Result.{result_ok}
use Rattle.std.proofs.lemmas.List.Sums.{fold-append}
use Rattle.cube_base.specs.declared.code.Code.{Code}
use Rattle.cube_model.specs.declared.edit.Edit.{Edit}
use Rattle.cube_model.specs.declared.edit.Fact.{Fact}
use Rattle.cube_model.specs.declared.tree.Grow.{Grow}
use Rattle.cube_model.specs.Allocation.{extended, row_count}
use Rattle.cube_model.specs.Facts.{after}
use Rattle.cube_model.specs.Limits.{MAX_ROWS}
use Rattle.cube_core.specs.Growth.{growth_difference, judge_growth}
use Rattle.edit_plan.specs.Plan.{difference, kept_fact, kept_rows}
use Rattle.fact_keeper.specs.declared.content.KeptFact.{KeptFact}
use Rattle.fact_keeper.specs.declared.content.KeptRows.{KeptRows}
use Rattle.fact_keeper.specs.declared.content.Stored.{Stored}
use Rattle.fact_keeper.specs.Batch.{apply_batch, empty_content}
use Rattle.fact_records.specs.Judge.{judge}
use Rattle.fact_records.specs.Valid.{AreValid}
use Rattle.schema_text.specs.Growth.{dims_with}
use Rattle.schema_text.specs.Schema.{IsSchema, SchemaValue, policy_of, shape_of}
use Rattle.schema_text.specs.SchemaText.{schema_text}
use Rattle.script_text.specs.declared.line.Line.{Line}
use Rattle.script_text.specs.declared.line.Line.TheVariants as line
use Rattle.script_text.specs.declared.reply.Reply.TheVariants as reply
use Rattle.script_text.specs.ScriptLine.{line_of}
use Rattle.script_run.specs.Kept.{apply_all, batches, batches_at, batches_from, batches_of}
use Rattle.script_run.specs.Run.{State, accepted, growth_step, replied, run, schema_at, step, step_from, step_of}
use Rattle.feed_run.specs.Following.{base_batch}
use Rattle.store_law.proofs.Alone.{text-alone}
use Rattle.store_law.proofs.Based.{based-holds}
use Rattle.store_law.proofs.Scripted.{IsKeptAt, policy, weigh}
use Rattle.store_law.proofs.Told.{told-kept}
use Rattle.feed_law.specs.Feeds.{canonical}

-- a content by its parts
same-content : (a b : Stored) → a.schema ≡ b.schema → a.facts ≡ b.facts → a.rows ≡ b.rows → a ≡ b
same-content a b text facts rows =
    ap (λ (t : List ℕ). record { schema = t; facts = a.facts; rows = a.rows }) text
    ∙ ap (λ (f : List KeptFact). record { schema = b.schema; facts = f; rows = a.rows }) facts
    ∙ ap (λ (r : List KeptRows). record { schema = b.schema; facts = b.facts; rows = r }) rows

module _ (schema : SchemaValue) where
  -- of a state any two contents have the same facts and rows
  kept-facts : (state : State) (content : Stored) → IsKeptAt schema state content → content.facts ≡ map kept_fact state.facts
  kept-facts state content kept = told-kept content.facts ∙ ap (map kept_fact) kept.holds.told

  kept-rows : (state : State) (content : Stored) → IsKeptAt schema state content → content.rows ≡ map kept_rows (extended (policy schema) state.dims state.facts)
  kept-rows state content kept = kept.holds.sound.rows_are ∙ ap (λ (facts : List Fact). map kept_rows (extended (policy schema) state.dims facts)) kept.holds.told

  canonical-kept : (state : State) (content : Stored) → IsKeptAt schema state content → canonical content ≡ record content { schema = schema_text (schema_at schema state) }
  canonical-kept state content kept = ap (λ read. option_map_or (λ s. record content { schema = schema_text s }) (result_ok read) content) kept.read

  pub same-kept : (state : State) (a b : Stored) → IsKeptAt schema state a → IsKeptAt schema state b → canonical a ≡ canonical b
  same-kept state a b of_a of_b =
      canonical-kept state a of_a
      ∙ same-content (record a { schema = schema_text (schema_at schema state) }) (record b { schema = schema_text (schema_at schema state) }) refl
      (kept-facts state a of_a ∙ sym (kept-facts state b of_b)) (kept-rows state a of_a ∙ sym (kept-rows state b of_b))
      ∙ sym (canonical-kept state b of_b)

  -- a content that has the one text is so already
  pub canonical-same : (state : State) (content : Stored) → IsKeptAt schema state content → content.schema ≡ schema_text (schema_at schema state) → canonical content ≡ content
  canonical-same state content kept text = canonical-kept state content kept ∙ same-content (record content { schema = schema_text (schema_at schema state) }) content (sym text) refl refl

  -- the one text of the schema stays so

  module _ (state : State) (content : Stored) (text : content.schema ≡ schema_text (schema_at schema state)) where
    text-edit : (change : Edit) → (apply_all (batches_of (weigh schema) schema state (line.Edit change)) content).schema ≡ schema_text (schema_at schema (step_of (weigh schema) schema state (line.Edit change)).state)
    text-edit change = by_judge (judge (policy schema) (shape_of schema) state.dims change state.facts)
      where
        by_judge : (refusal : Option Code) → (apply_all (if is_none refusal then difference (policy schema) state.dims change state.facts ∷ [] else []) content).schema
            ≡ schema_text (schema_at schema (option_map_or (λ refusal. replied state (reply.Refused refusal)) refusal (accepted (weigh schema) schema state (after change state.facts))).state)
        by_judge (Some refusal) = text
        by_judge None = text

    text-growth : (grow : Grow) → (apply_all (batches_of (weigh schema) schema state (line.Grow grow)) content).schema ≡ schema_text (schema_at schema (step_of (weigh schema) schema state (line.Grow grow)).state)
    text-growth grow = by_judge (judge_growth (policy schema) state.dims state.facts grow)
      where
        by_judge : (refusal : Option Code) → (apply_all (if is_none refusal then growth_difference (policy schema) (schema_at schema state) (dims_with grow state.dims) state.facts ∷ [] else []) content).schema
            ≡ schema_text (schema_at schema (option_map_or (λ refusal. replied state (reply.Refused refusal)) refusal (growth_step (weigh schema) schema state grow)).state)
        by_judge (Some refusal) = text
        by_judge None = refl

    text-from : (read : Result Line Code) → (apply_all (batches_from (weigh schema) schema state read) content).schema ≡ schema_text (schema_at schema (step_from (weigh schema) schema state read).state)
    text-from (Err refusal) = text
    text-from (Ok (line.Edit change)) = text-edit change
    text-from (Ok (line.Grow grow)) = text-growth grow
    text-from (Ok line.Nothing) = text
    text-from (Ok (line.Ask asked)) = text

    text-step : (bytes : List ℕ) → (apply_all (batches_at (weigh schema) schema state bytes) content).schema ≡ schema_text (schema_at schema (step (weigh schema) schema state bytes).state)
    unfolding step batches_at
    text-step bytes = text-from (line_of (schema_at schema state) bytes)

  pub text-run : (state : State) (content : Stored) (lines : List (List ℕ)) → content.schema ≡ schema_text (schema_at schema state)
      → (apply_all (batches (weigh schema) schema state lines) content).schema ≡ schema_text (schema_at schema (run (weigh schema) schema state lines).state)
  text-run state content [] text = text
  text-run state content (line ∷ lines) text =
      let now = (step (weigh schema) schema state line).state in
      ap (λ (c : Stored). c.schema) (fold-append (λ now batch. apply_batch batch now) content (batches_at (weigh schema) schema state line) (batches (weigh schema) schema now lines))
      ∙ text-run now (apply_all (batches_at (weigh schema) schema state line) content) lines (text-step state content text line)

  -- a store that was begun by the base of facts
  pub based-kept : (facts : List Fact) → IsSchema schema → AreValid (shape_of schema) schema.dims facts → row_count (extended (policy_of schema) schema.dims facts) ≤ MAX_ROWS
      → IsKeptAt schema (record { dims = schema.dims; facts = facts }) (apply_batch (base_batch schema facts) empty_content)
  based-kept facts known valid few = record { known = known; read = text-alone schema known; holds = based-holds schema facts valid few }
