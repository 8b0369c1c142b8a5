-- What is listed of the placed facts is what is defined of the cube's.
use Rattle.std.proofs.Common.{◌≡◌, ◌+◌, ◌∙◌, ap, arith, length, subst, sym}
use Rattle.std.specs.Prelude.{All}
use Rattle.fact_records.specs.Shape.{width_of_all}
use Rattle.schema_text.specs.Schema.{IsSchema, schema_policy}
use Rattle.world_law.specs.Placed.{IsPlacedFact}
use Rattle.cube_core.proofs.Listing.{listed}
use Rattle.cube_core.proofs.PlacedRows.{IsAllocated, length-placed, placed-fit}
use Rattle.cube_core.proofs.cube.Cube.worlds.Goals as goal

pub enumerate-requires-clause-placed : goal.enumerate-requires-clause-placed
enumerate-requires-clause-placed g c =
    let cube = c.args.self.now in
    let schema = ap (λ v. v.schema) c.self.view_is in
    let all = c.as_slice.ensures ∙ c.in_ok-placed.ensures.placed in
    let allocated = subst (λ ps. All IsAllocated ps) (sym c.as_slice.ensures) c.in_ok-placed.ensures.allocations in
    let counted : c.columns-columns.result ≡ 1 + width_of_all cube.schema.measures = c.columns-columns.ensures.columns ∙ ap (λ shape. 1 + width_of_all shape.measures) c.shape.ensures.shape ∙ ap (λ s. 1 + width_of_all s.measures) schema in
    let fit = placed-fit (schema_policy (g.P.WeightPolicy.weigh cube.policy) cube.schema) cube.schema cube.facts c.facts.ensures.valid (subst IsSchema schema c.space-space.ensures.schema) c.columns-columns.result counted c.as_slice.result.now all allocated in
    subst (λ dims. All (IsPlacedFact dims c.columns-columns.result) c.as_slice.result.now) (sym (c.space-space.ensures.dims ∙ ap (λ s. s.dims) schema)) fit

pub enumerate-requires-clause-few : goal.enumerate-requires-clause-few
enumerate-requires-clause-few g c =
    let cube = c.args.self.now in
    let all = c.as_slice.ensures ∙ c.in_ok-placed.ensures.placed in
    omega (arith, ap length all, length-placed (schema_policy (g.P.WeightPolicy.weigh cube.policy) cube.schema) cube.schema cube.facts c.facts.ensures.valid)

pub returns-clause-sum : goal.returns-clause-sum
returns-clause-sum g c =
    let cube = c.args.self.now in
    let schema = ap (λ v. v.schema) c.self.view_is in
    let all = c.as_slice.ensures ∙ c.in_ok-placed.ensures.placed in
    let counted : c.columns-columns.result ≡ 1 + width_of_all cube.schema.measures = c.columns-columns.ensures.columns ∙ ap (λ shape. 1 + width_of_all shape.measures) c.shape.ensures.shape ∙ ap (λ s. 1 + width_of_all s.measures) schema in
    listed cube.schema.dims c.space-space.result.now c.args.r _ c.as_slice.result.now (width_of_all cube.schema.measures) c.columns-columns.result (c.space-space.ensures.dims ∙ ap (λ s. s.dims) schema) all counted c.enumerate.result
    c.enumerate.ensures.worlds c.enumerate.ensures.mass c.enumerate.ensures.totals
