-- What edits do that are done one after the other, where those that are refused are skipped.
use Rattle.std.specs.Prelude.{ℕ, ◌+◌, List, [], ◌∷◌, length, Option, None, Some}
use Rattle.std.specs.Option.{option_map_or}
use Rattle.cube_model.specs.declared.edit.Edit.{Edit}
use Rattle.cube_model.specs.declared.edit.Fact.{Fact}
use Rattle.cube_model.specs.declared.statistic.CellStat.{CellStat}
use Rattle.cube_model.specs.Difference.{refreshed}
use Rattle.cube_model.specs.Facts.{after}
use Rattle.fact_records.specs.Judge.{judge}
use Rattle.schema_text.specs.Schema.{SchemaValue, policy_of, shape_of}
use Rattle.cube_core.specs.Cube.{CubeValue, cube_judgement, cube_refreshed, edited}
use Rattle.drill_run.specs.Edits.{edits_of}
use Rattle.drill_run.specs.Space.{drill_schema}

-- the facts that are there, how many ids the accepted edits refreshed, one counted as often as it was, and how many edits were refused
pub record Tally : Type 0 where
  pub facts : List Fact
  pub refreshed : ℕ
  pub refused : ℕ

-- before the first edit
abbrev pub blank_tally : Tally
blank_tally = record { facts = []; refreshed = 0; refused = 0 }

-- one more is refused
abbrev pub with_refusal : Tally → Tally
with_refusal tally = record tally { refused = tally.refused + 1 }

-- one more is accepted, after which these are the facts
abbrev pub with_facts : SchemaValue → List Fact → Tally → Tally
with_facts schema later tally = record tally { facts = later; refreshed = tally.refreshed + length (refreshed (policy_of schema) schema.dims tally.facts later) }

abbrev pub edit_once : SchemaValue → Edit → Tally → Tally
edit_once schema edit tally =
    option_map_or (λ refusal. with_refusal tally) (judge (policy_of schema) (shape_of schema) schema.dims edit tally.facts) (with_facts schema (after edit tally.facts) tally)

abbrev pub edit_all : SchemaValue → List Edit → Tally → Tally
edit_all schema [] tally = tally
edit_all schema (edit ∷ edits) tally = edit_all schema edits (edit_once schema edit tally)

-- The same of a cube: what it is after an edit, and how many facts the edit refreshes, unless it is refused.
abbrev pub cube_after : {P : Type 0} → (P → CellStat → ℕ) → CubeValue P → Edit → CubeValue P
cube_after weigh cube edit = option_map_or (λ refusal. cube) (cube_judgement weigh cube edit) (edited edit cube)

abbrev pub size_refreshed : {P : Type 0} → (P → CellStat → ℕ) → CubeValue P → Edit → Option ℕ
size_refreshed weigh cube edit = option_map_or (λ refusal. None) (cube_judgement weigh cube edit) (Some (length (cube_refreshed weigh cube edit)))

-- the drill of a number
unfoldable pub drill_of : ℕ → Tally
drill_of n = edit_all drill_schema (edits_of n) blank_tally
