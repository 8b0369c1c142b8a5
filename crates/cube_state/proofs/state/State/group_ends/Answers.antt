-- The sides of the group's rows tell what its facts add, by their sum or their number, or one by one.
use Rattle.std.proofs.Common.{ap, pos, rules, subst, ◌∙◌}
use Rattle.std.specs.Int.{w128}
use mir.Val.{SFits}
use Rattle.std.proofs.lemmas.Bool.{not-false, not-true}
use Rattle.std.proofs.lemmas.Int.{to_z-of_z}
use Rattle.alloc_rows.specs.Alloc.{IsAllocation}
use Rattle.fact_groups.specs.Groups.{Group}
use Rattle.cube_state.proofs.EndsAt.{ends-counted, ends-either, ends-inside, ends-outside, wide-sums}
use Rattle.cube_state.proofs.EitherEnds.{ids-some}
use Rattle.cube_state.proofs.state.State.group_ends.Goals as goal

pub returns-then-not-sides : goal.returns-then-not-sides
returns-then-not-sides g c =
    ends-outside g.P.WeightPolicy.weigh c.args.self.now c.facts-facts.ensures.valid c.facts-facts.ensures.trees _ c.shape.ensures c.columns.ensures.shape c.args.code c.args.group.now c.requires.group c.args.column c.args.region.now (subst (λ (g : Group). IsAllocation g.spread) c.group.view_is c.rows.ensures.kept) _ (c.rows.ensures.rows ∙ ap (λ (g : Group). g.spread.rows) c.group.view_is) _ c.sides_of-sides.ensures
    (not-true _ c.if-not-sides.true)

pub sum_of-sum-requires : goal.sum_of-sum-requires
sum_of-sum-requires g c = wide-sums g.P.WeightPolicy.weigh c.args.self.now c.facts-facts.ensures.valid c.facts-facts.ensures.trees _ c.shape.ensures c.columns.ensures.shape c.args.code c.args.group.now c.requires.group c.args.column c.requires.column

pub returns-then-not-sides-2 : goal.returns-then-not-sides-2
returns-then-not-sides-2 g c =
    let fits : SFits w128 c.sum_of-sum.result = search rules in
    simp to_z-of_z
    (ends-inside g.P.WeightPolicy.weigh c.args.self.now c.facts-facts.ensures.valid c.facts-facts.ensures.trees _ c.shape.ensures c.columns.ensures.shape c.args.code c.args.group.now c.requires.group c.args.column c.args.region.now (subst (λ (g : Group). IsAllocation g.spread) c.group.view_is c.rows.ensures.kept) _ (c.rows.ensures.rows ∙ ap (λ (g : Group). g.spread.rows) c.group.view_is) _ c.sides_of-sides.ensures
    (not-false _ c.if-not-sides.false) (not-true _ c.if-not-sides-2.true) c.requires.column _ c.sum_of-sum.ensures)

pub returns-then-column-eq0 : goal.returns-then-column-eq0
returns-then-column-eq0 g c =
    let fits : SFits w128 c.from.result = search rules in
    simp to_z-of_z
    (ends-counted g.P.WeightPolicy.weigh c.args.self.now c.facts-facts.ensures.valid c.facts-facts.ensures.trees _ c.shape.ensures c.columns.ensures.shape c.args.code c.args.group.now c.requires.group c.args.column c.args.region.now (subst (λ (g : Group). IsAllocation g.spread) c.group.view_is c.rows.ensures.kept) _ (c.rows.ensures.rows ∙ ap (λ (g : Group). g.spread.rows) c.group.view_is) _ c.sides_of-sides.ensures
    (not-false _ c.if-not-sides.false) (not-false _ c.if-not-sides-2.false) c.if-column-eq0.true _ (c.from.ensures ∙ ap (λ (g : Group). pos g.count) c.group.view_is))

pub either_ends-requires-clause-ids : goal.either_ends-requires-clause-ids
either_ends-requires-clause-ids g c = ids-some _ _ _ c.facts-facts.ensures.facts _ _ c.ids_at.ensures

pub returns : goal.returns
returns g c =
    ends-either g.P.WeightPolicy.weigh c.args.self.now c.facts-facts.ensures.valid c.facts-facts.ensures.trees _ c.shape.ensures c.columns.ensures.shape c.args.code c.args.group.now c.requires.group c.args.column c.args.region.now (subst (λ (g : Group). IsAllocation g.spread) c.group.view_is c.rows.ensures.kept) _ (c.rows.ensures.rows ∙ ap (λ (g : Group). g.spread.rows) c.group.view_is) _ c.sides_of-sides.ensures
    (not-false _ c.if-not-sides.false) (not-false _ c.if-not-sides-2.false) _ c.facts-facts.ensures.facts _ c.ids_at.ensures _ c.either_ends.ensures.least c.either_ends.ensures.greatest
