-- A content with the batches of lines, one line after another.
use Rattle.std.proofs.Common.{◌≡◌, ℕ, List, [], ◌∷◌, refl, sym, ap, ◌∙◌, subst, Option, Some, None, Result, Ok, Err}
use Rattle.std.specs.Prelude.{IsOkAnd, if◌then◌else◌, is_none}
use Rattle.std.specs.Option.{option_map, option_map_or}
use Rattle.std.specs.Result.{result_ok}
use Rattle.std.proofs.lemmas.List.Sums.{fold-append}
use Rattle.cube_base.specs.declared.code.Code.{Code}
use Rattle.cube_model.specs.declared.edit.Edit.{Edit}
use Rattle.cube_model.specs.declared.edit.Edit.TheVariants.{Put, Change, Withdraw}
use Rattle.cube_model.specs.declared.edit.Fact.{Fact}
use Rattle.cube_model.specs.declared.statistic.CellStat.{CellStat}
use Rattle.cube_model.specs.declared.tree.Grow.{Grow}
use Rattle.cube_model.specs.Allocation.{Policy}
use Rattle.cube_model.specs.Facts.{IsId, after}
use Rattle.cube_model.specs.Tree.{Dimension}
use Rattle.fact_groups.specs.Edits.{edited_id}
use Rattle.fact_keeper.specs.declared.content.Stored.{Stored}
use Rattle.fact_keeper.specs.Batch.{apply_batch}
use Rattle.fact_records.specs.Judge.{judge}
use Rattle.fact_records.specs.Shape.{ShapeValue}
use Rattle.fact_records.specs.Valid.{IsEditOf}
use Rattle.region_algebra.specs.Space.{IsRegion}
use Rattle.edit_plan.specs.Plan.{difference}
use Rattle.cube_state.proofs.Accepting.{allowed, judged}
use Rattle.store_audit.specs.Sound.{facts_told}
use Rattle.store_audit.specs.declared.finding.Finding.{Finding}
use Rattle.store_audit.proofs.Once.{sound-none}
use Rattle.schema_text.specs.Growth.{dims_with}
use Rattle.schema_text.specs.Schema.{IsSchema, SchemaValue, policy_of, schema_policy, shape_of, weigh_of}
use Rattle.schema_text.specs.SchemaText.{BadLine}
use Rattle.script_text.specs.declared.line.Line.{Line}
use Rattle.script_text.specs.declared.line.Line.TheVariants as line
use Rattle.script_text.specs.declared.reply.Reply.TheVariants as reply
use Rattle.script_text.specs.declared.word.ScriptWord.{ScriptWord}
use Rattle.script_text.specs.ScriptLine.{command_line, line_of}
use Rattle.script_text.proofs.NamedRegions.{OnFact, command_line-lies, line_of-lies}
use Rattle.cube_core.specs.Growth.{growth_difference, judge_growth}
use Rattle.script_run.specs.Kept.{apply_all, batches, batches_at, batches_from, batches_of}
use Rattle.script_run.specs.Run.{State, accepted, edit_step, growth, growth_step, replied, run, schema_at, step, step_from, step_of}
use Rattle.cube_cli.specs.SchemaAlone.{schema_alone}
use Rattle.cube_cli.specs.Store.{Finds, FindsBy, IsSoundContent, IsSoundOver, state_over}
use Rattle.cube_cli.proofs.Growths.{IsLeafOf, command_line-leaf, line_of-leaf}
use Rattle.store_law.specs.Holds.{HoldsState, content_after, state_reached}
use Rattle.store_law.proofs.Edited.{edited-holds}
use Rattle.store_law.proofs.Grown.{grown-holds}
use Rattle.store_law.proofs.Alone.{alone-schema, text-alone}
use Rattle.store_law.proofs.GrownSchema.{grown-schema}
use Rattle.store_law.proofs.ReadIds.{command_line-id, line_of-id}

-- an accepted edit that is read is one of the measures and the space
pub edit-of : (policy : Policy) (shape : ShapeValue) (dims : List Dimension) (edit : Edit) (facts : List Fact) → IsId (edited_id edit) → OnFact (λ fact. IsRegion dims fact.region) (line.Edit edit)
    → judge policy shape dims edit facts ≡ None → IsEditOf shape dims edit
edit-of policy shape dims (Put fact) facts id region none =
    record { placed = record { id = id; region = region }; values = (allowed shape dims (Put fact) facts (judged policy shape dims (Put fact) facts none).0).cols }
edit-of policy shape dims (Change fact) facts id region none =
    record { placed = record { id = id; region = region }; values = (allowed shape dims (Change fact) facts (judged policy shape dims (Change fact) facts none).0).cols }
edit-of policy shape dims (Withdraw id) facts right region none = right

module _ (schema : SchemaValue) where
  abbrev pub weigh : CellStat → ℕ
  weigh = weigh_of schema.policy

  abbrev pub policy : Policy
  policy = schema_policy weigh schema

  -- A content is the one of a state: its text is a schema over the dimensions of the state, and it holds the facts.
  pub record IsKeptAt (state : State) (content : Stored) : Type 0 where
    pub known : IsSchema (schema_at schema state)
    pub read : schema_alone content.schema ≡ Ok (schema_at schema state)
    pub holds : HoldsState policy (shape_of schema) state.dims state.facts content

  edit-kept : (state : State) (content : Stored) (edit : Edit) → IsKeptAt state content → IsId (edited_id edit) → OnFact (λ fact. IsRegion state.dims fact.region) (line.Edit edit)
      → IsKeptAt (edit_step weigh schema state edit).state (apply_all (batches_of weigh schema state (line.Edit edit)) content)
  edit-kept state content edit kept id region = by_judge (judge policy (shape_of schema) state.dims edit state.facts) refl
    where
      holds : (facts : List Fact) → facts_told content ≡ facts → judge policy (shape_of schema) state.dims edit facts ≡ None
          → HoldsState policy (shape_of schema) state.dims (after edit facts) (apply_batch (difference policy state.dims edit facts) content)
      holds facts told none =
          subst (λ (fs : List Fact). HoldsState policy (shape_of schema) state.dims (after edit fs) (apply_batch (difference policy state.dims edit fs) content)) told
          (edited-holds policy (shape_of schema) state.dims content edit kept.holds.sound (edit-of policy (shape_of schema) state.dims edit facts id region none)
          (ap (judge policy (shape_of schema) state.dims edit) told ∙ none))

      by_judge : (refusal : Option Code) → judge policy (shape_of schema) state.dims edit state.facts ≡ refusal
          → IsKeptAt (option_map_or (λ refusal. replied state (reply.Refused refusal)) refusal (accepted weigh schema state (after edit state.facts))).state
          (apply_all (if is_none refusal then difference policy state.dims edit state.facts ∷ [] else []) content)
      by_judge (Some refusal) is = kept
      by_judge None is = record { known = kept.known; read = kept.read; holds = holds state.facts kept.holds.told is }

  growth-kept : (state : State) (content : Stored) (grow : Grow) → IsKeptAt state content → IsLeafOf state.dims grow
      → IsKeptAt (growth weigh schema state grow).state (apply_all (batches_of weigh schema state (line.Grow grow)) content)
  growth-kept state content grow kept leaf = by_judge (judge_growth policy state.dims state.facts grow) refl
    where
      here : SchemaValue
      here = schema_at schema state

      holds : (facts : List Fact) → facts_told content ≡ facts → judge_growth policy state.dims facts grow ≡ None
          → HoldsState policy (shape_of schema) (dims_with grow state.dims) facts (apply_batch (growth_difference policy (schema_at schema state) (dims_with grow state.dims) facts) content)
      holds facts told none =
          subst (λ (fs : List Fact). HoldsState policy (shape_of schema) (dims_with grow state.dims) fs (apply_batch (growth_difference policy (schema_at schema state) (dims_with grow state.dims) fs) content)) told
          (grown-holds policy (schema_at schema state) content grow kept.known.trees kept.holds.sound leaf.grows
          (ap (λ (fs : List Fact). judge_growth policy state.dims fs grow) told ∙ none))

      by_judge : (refusal : Option Code) → judge_growth policy state.dims state.facts grow ≡ refusal
          → IsKeptAt (option_map_or (λ refusal. replied state (reply.Refused refusal)) refusal (growth_step weigh schema state grow)).state
          (apply_all (if is_none refusal then growth_difference policy (schema_at schema state) (dims_with grow state.dims) state.facts ∷ [] else []) content)
      by_judge (Some refusal) is = kept
      by_judge None is =
          let known : IsSchema (schema_at schema (record state { dims = dims_with grow state.dims })) = grown-schema policy (schema_at schema state) state.facts grow kept.known leaf is in
          record {
            known = known;
            read = text-alone (schema_at schema (record state { dims = dims_with grow state.dims })) known;
            holds = holds state.facts kept.holds.told is;
          }

  said-kept : (state : State) (content : Stored) (said : Line) → IsKeptAt state content → OnFact (λ fact. IsRegion state.dims fact.region) said → ((edit : Edit) → said ≡ line.Edit edit → IsId (edited_id edit))
      → ((grow : Grow) → said ≡ line.Grow grow → IsLeafOf state.dims grow) → IsKeptAt (step_of weigh schema state said).state (apply_all (batches_of weigh schema state said) content)
  said-kept state content (line.Edit edit) kept region id leaf = edit-kept state content edit kept (id edit refl) region
  said-kept state content (line.Grow grow) kept region id leaf = growth-kept state content grow kept (leaf grow refl)
  said-kept state content line.Nothing kept region id leaf = kept
  said-kept state content (line.Ask asked) kept region id leaf = kept

  -- what fields say
  pub fields-kept : (state : State) (content : Stored) (fields : List (List ℕ)) (spelled : Option ScriptWord) (said : Line) → IsKeptAt state content → command_line (schema_at schema state) fields spelled ≡ Ok said
      → IsKeptAt (step_of weigh schema state said).state (apply_all (batches_of weigh schema state said) content)
  fields-kept state content fields spelled said kept is =
      said-kept state content said kept (command_line-lies (schema_at schema state) kept.known.trees fields spelled said is)
      (λ edit same. command_line-id (schema_at schema state) edit fields spelled (is ∙ ap Ok same))
      (λ grow same. command_line-leaf (schema_at schema state) kept.known.trees grow fields spelled (is ∙ ap Ok same))

  step-kept : (state : State) (content : Stored) (bytes : List ℕ) → IsKeptAt state content → IsKeptAt (step weigh schema state bytes).state (apply_all (batches_at weigh schema state bytes) content)
  unfolding step batches_at
  step-kept state content bytes kept = by_line (line_of (schema_at schema state) bytes) refl
    where
      by_line : (read : Result Line Code) → line_of (schema_at schema state) bytes ≡ read → IsKeptAt (step_from weigh schema state read).state (apply_all (batches_from weigh schema state read) content)
      by_line (Err refusal) is = kept
      by_line (Ok said) is =
          said-kept state content said kept (line_of-lies (schema_at schema state) kept.known.trees bytes said is)
          (λ edit same. line_of-id (schema_at schema state) edit bytes (is ∙ ap Ok same))
          (λ grow same. line_of-leaf (schema_at schema state) kept.known.trees grow bytes (is ∙ ap Ok same))

  pub run-kept : (state : State) (content : Stored) (lines : List (List ℕ)) → IsKeptAt state content → IsKeptAt (run weigh schema state lines).state (apply_all (batches weigh schema state lines) content)
  run-kept state content [] kept = kept
  run-kept state content (line ∷ lines) kept =
      let now = step weigh schema state line in
      subst (IsKeptAt (run weigh schema now.state lines).state) (sym (fold-append (λ now batch. apply_batch batch now) content (batches_at weigh schema state line) (batches weigh schema now.state lines)))
      (run-kept now.state (apply_all (batches_at weigh schema state line) content) lines (step-kept state content line kept))

  pub first-kept : (content : Stored) → schema_alone content.schema ≡ Ok schema → IsSoundOver schema content → IsKeptAt (state_over schema content) content
  first-kept content read sound = record { known = alone-schema content.schema schema read; read = read; holds = record { sound = sound; told = refl } }

  -- what is said of the end
  module _ (state : State) (content : Stored) (kept : IsKeptAt state content) where
    pub last-sound : IsSoundContent content
    last-sound = subst (λ read. IsOkAnd read (λ s. IsSoundOver s content)) (sym kept.read) kept.holds.sound

    last-state : IsOkAnd (schema_alone content.schema) (λ s. Some state ≡ Some (state_over s content))
    last-state = subst (λ read. IsOkAnd read (λ s. Some state ≡ Some (state_over s content))) (sym kept.read)
        (ap (λ (facts : List Fact). Some (record { dims = state.dims; facts = facts })) (sym kept.holds.told))

module _ (content : Stored) (lines : List (List ℕ)) (sound : IsSoundContent content) where
  abbrev by_schema : Result SchemaValue BadLine → Stored
  by_schema read = apply_all (option_map_or (λ schema. batches (weigh_of schema.policy) schema (state_over schema content) lines) (result_ok read) []) content

  pub scripted-sound : IsSoundContent (content_after content lines)
  scripted-sound = by_read (schema_alone content.schema) refl sound
    where
      by_read : (read : Result SchemaValue BadLine) → schema_alone content.schema ≡ read → IsOkAnd read (λ schema. IsSoundOver schema content) → IsSoundContent (by_schema read)
      by_read (Err bad) is none = absurd none
      by_read (Ok schema) is here = last-sound schema _ _ (run-kept schema (state_over schema content) content lines (first-kept schema content is here))

  pub scripted-state : IsOkAnd (schema_alone (content_after content lines).schema) (λ schema. state_reached content lines ≡ Some (state_over schema (content_after content lines)))
  scripted-state = by_read (schema_alone content.schema) refl sound
    where
      by_read : (read : Result SchemaValue BadLine) → schema_alone content.schema ≡ read → IsOkAnd read (λ schema. IsSoundOver schema content)
          → IsOkAnd (schema_alone (by_schema read).schema)
          (λ schema. option_map (λ outcome. outcome.state) (option_map (λ schema. run (weigh_of schema.policy) schema (state_over schema content) lines) (result_ok read)) ≡ Some (state_over schema (by_schema read)))
      by_read (Err bad) is none = absurd none
      by_read (Ok schema) is here = last-state schema _ _ (run-kept schema (state_over schema content) content lines (first-kept schema content is here))

  -- so nothing is found in it
  pub scripted-finds : (found : Finding) → Finds (content_after content lines) found → ⊥
  scripted-finds found finds = by_read (schema_alone (content_after content lines).schema) scripted-sound finds
    where
      by_read : (read : Result SchemaValue BadLine) → IsOkAnd read (λ schema. IsSoundOver schema (content_after content lines)) → FindsBy read (content_after content lines) found → ⊥
      by_read (Err bad) none is = none
      by_read (Ok schema) here is = sound-none (policy_of schema) (shape_of schema) schema.dims (content_after content lines) found here is
