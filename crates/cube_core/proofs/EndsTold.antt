-- What a state says of the ends of a region's sum, in the words of the schema whose state it is.
use Rattle.std.proofs.Common.{◌≡◌, ℕ, ◌<◌, List, length, ap, ◌∙◌, subst, Ok, Err, Result}
use Rattle.std.specs.Prelude.{All, IfOk}
use Rattle.cube_model.specs.declared.statistic.CellStat.{CellStat}
use Rattle.cube_model.specs.Allocation.{Policy, extended}
use Rattle.cube_model.specs.Cells.{all_cells, cells_of}
use Rattle.cube_model.specs.Tree.{Dimension}
use Rattle.cube_state.specs.State.{StateValue, rows_in}
use Rattle.fact_records.specs.Shape.{ShapeValue}
use Rattle.fact_records.specs.Valid.{AreValid}
use Rattle.schema_text.specs.Schema.{IsSchema, SchemaValue, schema_policy}
use Rattle.world_law.proofs.Shares.{shared-extended}
use Rattle.world_range.specs.declared.extreme.Extreme.{Extreme}
use Rattle.world_range.specs.Ends.{AreEnds}
use Rattle.world_range.specs.Picks.{end_of}
use Rattle.world_range.proofs.Reached.{ends_reached}
use Rattle.world_range.proofs.Reaching.{have_rows}
use Rattle.cube_core.specs.Cube.{AreFactsOf, CubeValue, IsStateOf, cube_rows}
use Rattle.cube_core.specs.Ranging.{imprecise_picks, picks_in, picks_over}
use Rattle.cube_core.proofs.Stating.{all-same, cube_of, valid-same}

-- what is told of a result is told of what equals it
pub told-same : {A X E : Type 0} (told : A → X) (a b : X) → a ≡ b → (result : Result A E) → IfOk result (λ v. told v ≡ a) → IfOk result (λ v. told v ≡ b)
told-same told a b same (Err e) is = tt
told-same told a b same (Ok v) is = is ∙ same

module _ {P : Type 0} (weigh : P → CellStat → ℕ) (schema : SchemaValue) (state : StateValue P) (of : IsStateOf schema state) (cube : CubeValue P) (same : cube_of schema state ≡ cube) (region : List ℕ) (column : ℕ) where
  pub end-same : (extreme : Extreme) → end_of extreme (cells_of state.dims region) column (rows_in weigh state) ≡ end_of extreme (cells_of cube.schema.dims region) column (cube_rows weigh cube)
  end-same extreme =
      all-same weigh schema state of (λ (p : Policy) (shape : ShapeValue) dims. end_of extreme (cells_of dims region) column (extended p dims state.facts))
      ∙ ap (λ (c : CubeValue P). end_of extreme (cells_of c.schema.dims region) column (cube_rows weigh c)) same

  pub picks-same : (extreme : Extreme) → picks_in weigh state extreme region column ≡ picks_over (weigh cube.policy) cube.schema cube.facts extreme region column
  picks-same extreme =
      all-same weigh schema state of (λ (p : Policy) (shape : ShapeValue) dims. imprecise_picks p dims state.facts extreme region column)
      ∙ ap (λ (c : CubeValue P). picks_over (weigh c.policy) c.schema c.facts extreme region column) same

  pub dims-same : state.dims ≡ cube.schema.dims
  dims-same = of.dims_are ∙ ap (λ (c : CubeValue P). c.schema.dims) same

  -- the law of the ends
  pub law-told : IsSchema schema → AreValid state.shape state.dims state.facts → AreEnds cube.schema.dims region column (cube_rows weigh cube)
  law-told is valid =
      let here : AreFactsOf schema state.facts = valid-same weigh schema state of valid in
      let rows = cube_rows weigh (cube_of schema state) in
      let shared = shared-extended (schema_policy (weigh state.policy) schema) schema.dims state.facts is.trees (λ k d lt. (here.each k d lt).accepted.placed.region) in
      subst (λ (c : CubeValue P). AreEnds c.schema.dims region column (cube_rows weigh c)) same (ends_reached schema.dims region column rows (have_rows rows shared))

  -- cells of the space are cells of the cube's
  pub cells-same : {A E : Type 0} (picks : A → List (ℕ × ℕ)) (result : Result A E) → IfOk result (λ v. All (λ pick. pick.1 < length (all_cells state.dims)) (picks v)) → IfOk result (λ v. All (λ pick. pick.1 < length (all_cells cube.schema.dims)) (picks v))
  cells-same picks (Err e) are = tt
  cells-same picks (Ok v) are = subst (λ (dims : List Dimension). All (λ pick. pick.1 < length (all_cells dims)) (picks v)) dims-same are
