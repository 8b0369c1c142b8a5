-- A cube of the drill's schema that weighs by counts.
use Rattle.std.proofs.Common.{◌≡◌, ℕ, List, sym, ap, ◌∙◌}
use Rattle.cube_model.specs.Allocation.{extended, weigh_count}
use Rattle.cube_model.specs.Answer.{answer}
use Rattle.cube_model.specs.declared.statistic.CellStat.{CellStat}
use Rattle.fact_records.specs.Shape.{width_of_all}
use Rattle.schema_text.specs.Schema.{schema_policy}
use Rattle.cube_core.specs.Cube.{CubeValue, cube_answer, cube_rows}
use Rattle.drill_run.specs.Doing.{Tally, blank_tally, drill_of, edit_all}
use Rattle.drill_run.specs.Edits.{first_puts, thirds}
use Rattle.drill_run.specs.Space.{drill_schema, everything}
use Rattle.drill_run.specs.Summary.{drill_rows, terms_of}
use Rattle.drill_run.proofs.Folding.{edit_all-both}
use Rattle.drill_run.proofs.Lying.{weighs-counts}

module _ {P : Type 0} (weigh : P → CellStat → ℕ) (cube : CubeValue P) (is : cube.schema ≡ drill_schema) (weighs : weigh cube.policy ≡ weigh_count) where
  pub rows-are : cube_rows weigh cube ≡ drill_rows cube.facts
  rows-are =
      ap (λ s. extended (schema_policy (weigh cube.policy) s) s.dims cube.facts) is
      ∙ ap (λ w. extended (schema_policy w drill_schema) drill_schema.dims cube.facts) (weighs ∙ sym weighs-counts)

  pub terms-are : (region : List ℕ) → region ≡ everything → cube_answer weigh cube region ≡ terms_of cube.facts
  terms-are region all =
      ap (answer (width_of_all cube.schema.measures) cube.schema.dims (cube_rows weigh cube)) all
      ∙ ap (λ rows. answer (width_of_all cube.schema.measures) cube.schema.dims rows everything) rows-are
      ∙ ap (λ s. answer (width_of_all s.measures) s.dims (drill_rows cube.facts) everything) is

-- the facts come, and then go
pub drill-done : (n : ℕ) (full last : Tally) → full ≡ edit_all drill_schema (first_puts n n) blank_tally → last ≡ edit_all drill_schema (thirds n) full → last ≡ drill_of n
unfolding drill_of
drill-done n full last is goes = goes ∙ ap (edit_all drill_schema (thirds n)) is ∙ sym (edit_all-both drill_schema (first_puts n n) (thirds n) blank_tally)
