-- Lines over what other lines leave in a store go on as if they stood behind them.
use Rattle.std.proofs.Common.{◌≡◌, ℕ, ◌+◌, List, [], ◌∷◌, ◌++◌, refl, sym, ap, ◌∙◌, append_assoc, subst, Option, Some, Result, Ok, Err}
use Rattle.std.specs.Prelude.{IsOkAnd}
use Rattle.std.specs.Option.{option_map, option_map_or}
use Rattle.std.specs.Result.{result_ok}
use Rattle.std.proofs.lemmas.List.Sums.{fold-append}
use Rattle.cube_model.specs.declared.edit.Fact.{Fact}
use Rattle.cube_model.specs.declared.statistic.CellStat.{CellStat}
use Rattle.cube_model.specs.Tree.{Dimension}
use Rattle.fact_keeper.specs.declared.content.Stored.{Stored}
use Rattle.fact_keeper.specs.Batch.{apply_batch}
use Rattle.schema_text.specs.Schema.{SchemaValue, over_dims, weigh_of}
use Rattle.schema_text.specs.SchemaText.{BadLine}
use Rattle.script_run.specs.Kept.{apply_all, batches, batches_at}
use Rattle.script_run.specs.Run.{Outcome, State, Step, refusals_in, run, schema_at, step, text_of}
use Rattle.script_run.proofs.Batches.{batches-here}
use Rattle.script_run.proofs.Runs.{replies-append}
use Rattle.script_run.proofs.Steps.{step-here}
use Rattle.cube_cli.specs.SchemaAlone.{schema_alone}
use Rattle.cube_cli.specs.Store.{IsSoundContent, IsSoundOver, batches_over, outcome_over, replies_over, state_over}
use Rattle.store_law.specs.Holds.{GoesOnOver, content_after}
use Rattle.store_law.proofs.Scripted.{IsKeptAt, first-kept, run-kept, weigh}

-- A run reads the dimensions of its state, and not those of its schema.
module _ (weigh : CellStat → ℕ) (schema : SchemaValue) (dims : List Dimension) where
  abbrev here : SchemaValue
  here = over_dims schema dims

  step-same : (state : State) (bytes : List ℕ) → step weigh here state bytes ≡ step weigh schema state bytes
  step-same state bytes = sym (step-here weigh here (schema_at here state) state.facts state bytes refl refl) ∙ step-here weigh schema (schema_at schema state) state.facts state bytes refl refl

  commits-here : (state : State) (bytes : List ℕ) → batches_at weigh here state bytes ≡ batches_at weigh schema state bytes
  commits-here state bytes = sym (batches-here weigh here (schema_at here state) state.facts state bytes refl refl) ∙ batches-here weigh schema (schema_at schema state) state.facts state bytes refl refl

  -- what a line does, and then what the lines behind it do
  abbrev first_then : Step → Outcome → Outcome
  first_then now later = record { replies = text_of now.state.dims now.reply ∷ later.replies; state = later.state; refused = refusals_in now.reply + later.refused }

  run-same : (state : State) (lines : List (List ℕ)) → run weigh here state lines ≡ run weigh schema state lines
  run-same state [] = refl
  run-same state (line ∷ lines) =
      let now = step weigh schema state line in
      ap (λ (s : Step). first_then s (run weigh here s.state lines)) (step-same state line) ∙ ap (first_then now) (run-same now.state lines)

  commits-same : (state : State) (lines : List (List ℕ)) → batches weigh here state lines ≡ batches weigh schema state lines
  commits-same state [] = refl
  commits-same state (line ∷ lines) =
      let now = step weigh schema state line in
      ap (λ bs. bs ++ batches weigh here (step weigh here state line).state lines) (commits-here state line)
      ∙ ap (λ (s : Step). batches_at weigh schema state line ++ batches weigh here s.state lines) (step-same state line)
      ∙ ap (λ bs. batches_at weigh schema state line ++ bs) (commits-same now.state lines)

-- what lines behind others commit
commits-behind : (weigh : CellStat → ℕ) (schema : SchemaValue) (first : State) (lines more : List (List ℕ))
    → batches weigh schema first (lines ++ more) ≡ batches weigh schema first lines ++ batches weigh schema (run weigh schema first lines).state more
commits-behind weigh schema first [] more = refl
commits-behind weigh schema first (line ∷ lines) more =
    let now = step weigh schema first line in
    let committed = batches_at weigh schema first line in
    ap (λ bs. committed ++ bs) (commits-behind weigh schema now.state lines more) ∙ sym (append_assoc committed (batches weigh schema now.state lines) (batches weigh schema (run weigh schema now.state lines).state more))

module _ (schema : SchemaValue) where
  -- what lines do over it is what they do in the state
  module _ (state : State) (content : Stored) (kept : IsKeptAt schema state content) (more : List (List ℕ)) where
    outcome-here : outcome_over content more ≡ Some (run (weigh schema) schema state more)
    outcome-here =
        ap (λ read. option_map (λ s. run (weigh_of s.policy) s (state_over s content) more) (result_ok read)) kept.read
        ∙ ap (λ (facts : List Fact). Some (run (weigh schema) (schema_at schema state) (record { dims = state.dims; facts = facts }) more)) kept.holds.told
        ∙ ap Some (run-same (weigh schema) schema state.dims state more)

    commits-over : batches_over content more ≡ batches (weigh schema) schema state more
    commits-over =
        ap (λ read. option_map_or (λ s. batches (weigh_of s.policy) s (state_over s content) more) (result_ok read) []) kept.read
        ∙ ap (λ (facts : List Fact). batches (weigh schema) (schema_at schema state) (record { dims = state.dims; facts = facts }) more) kept.holds.told
        ∙ commits-same (weigh schema) schema state.dims state more

  -- lines over a content, and others over what these leave
  module _ (content : Stored) (read : schema_alone content.schema ≡ Ok schema) (sound : IsSoundOver schema content) (lines more : List (List ℕ)) where
    abbrev first : State
    first = state_over schema content

    abbrev last : State
    last = (run (weigh schema) schema first lines).state

    at-first : IsKeptAt schema first content
    at-first = first-kept schema content read sound

    left-is : content_after content lines ≡ apply_all (batches (weigh schema) schema first lines) content
    left-is = ap (λ bs. apply_all bs content) (commits-over first content at-first lines)

    at-last : IsKeptAt schema last (content_after content lines)
    at-last = subst (IsKeptAt schema last) (sym left-is) (run-kept schema first content lines at-first)

    replies-on : replies_over content (lines ++ more) ≡ replies_over content lines ++ replies_over (content_after content lines) more
    replies-on =
        let told = λ (o : Option Outcome). option_map_or (λ (outcome : Outcome). outcome.replies) o [] in
        ap told (outcome-here first content at-first (lines ++ more))
        ∙ replies-append (weigh schema) schema first lines more
        ∙ sym (ap (λ o. told o ++ (run (weigh schema) schema last more).replies) (outcome-here first content at-first lines))
        ∙ sym (ap (λ o. replies_over content lines ++ told o) (outcome-here last (content_after content lines) at-last more))

    content-on : content_after content (lines ++ more) ≡ content_after (content_after content lines) more
    content-on =
        ap (λ bs. apply_all bs content) (commits-over first content at-first (lines ++ more) ∙ commits-behind (weigh schema) schema first lines more)
        ∙ fold-append (λ now batch. apply_batch batch now) content (batches (weigh schema) schema first lines) (batches (weigh schema) schema last more)
        ∙ ap (apply_all (batches (weigh schema) schema last more)) (sym left-is)
        ∙ sym (ap (λ bs. apply_all bs (content_after content lines)) (commits-over last (content_after content lines) at-last more))

module _ (content : Stored) (lines more : List (List ℕ)) (sound : IsSoundContent content) where
  pub goes-on : GoesOnOver content lines more
  goes-on = by_read (schema_alone content.schema) refl sound
    where
      by_read : (read : Result SchemaValue BadLine) → schema_alone content.schema ≡ read → IsOkAnd read (λ schema. IsSoundOver schema content) → GoesOnOver content lines more
      by_read (Err bad) is none = absurd none
      by_read (Ok schema) is here = record { replies = replies-on schema content is here lines more; left = content-on schema content is here lines more }
