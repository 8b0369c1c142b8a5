-- At first all facts are left.
use Rattle.std.proofs.Common.{rules, ap, ◌∙◌}
use Rattle.std.specs.Int.{w64, w128}
use Rattle.std.specs.Int.Signed.{nat_abs-le}
use mir.Val.{SFits}
use Rattle.std.proofs.lemmas.Int.{to_z-of_z}
use Rattle.cube_model.specs.Cells.{cells_of}
use Rattle.cube_core.proofs.Picking.{picked-left, picked-next, picked-none, picked-sum, pushed-imprecise, pushed-precise}
use Rattle.cube_core.proofs.ranging.picks_of.Goals as goal

pub loop-fact-init : goal.loop-fact-init
loop-fact-init g c = picked-none _ _ _ _ _ _ _ _ _ c.facts.ensures.valid c.new-picks.ensures (c.into_iter-fact-iterator.ensures.into_iter_gives ∙ c.iter-fact-items.ensures ∙ c.facts.ensures.facts)

-- each is there
pub spread_of-spread-requires : goal.spread_of-spread-requires
spread_of-spread-requires g c = (picked-left _ _ _ _ _ _ _ c.loop-fact.invariant c.in-Some.ensures.steps).found

pub is_imprecise-requires-clause-there : goal.is_imprecise-requires-clause-there
is_imprecise-requires-clause-there g c = (picked-left _ _ _ _ _ _ _ c.loop-fact.invariant c.in-Some.ensures.steps).found

-- and then a fact less is left
pub loop-fact-preserved-in-Continue-1 : goal.loop-fact-preserved-in-Continue-1
loop-fact-preserved-in-Continue-1 g c =
    let value_fits : SFits w64 c.column_of-value.result = search rules in
    let sum_fits : SFits w128 c.with_own-sum.result = search rules in
    simp to_z-of_z
    (picked-next _ _ _ _ _ _ _ c.loop-fact.invariant c.in-Some.ensures.steps _ (c.inside-inside.ensures ∙ ap (λ dims. cells_of dims c.args.r) c.space.ensures) _ c.column_of-value.ensures (nat_abs-le c.column_of-value.result (search rules)) _ c.spread_of-spread.ensures
    c.rows.ensures.kept _ c.rows.ensures.rows _ (simp to_z-of_z at c.pick-cell.ensures) _ _ (simp to_z-of_z at c.with_own-sum.ensures)
    (pushed-imprecise c.args.state.now.dims c.in-Some.fact _ c.is_imprecise.ensures c.if-is_imprecise.true _ _ _ c.in_ok-push.ensures.ok))

pub loop-fact-preserved : goal.loop-fact-preserved
loop-fact-preserved g c =
    let value_fits : SFits w64 c.column_of-value.result = search rules in
    let sum_fits : SFits w128 c.with_own-sum.result = search rules in
    simp to_z-of_z
    (picked-next _ _ _ _ _ _ _ c.loop-fact.invariant c.in-Some.ensures.steps _ (c.inside-inside.ensures ∙ ap (λ dims. cells_of dims c.args.r) c.space.ensures) _ c.column_of-value.ensures (nat_abs-le c.column_of-value.result (search rules)) _ c.spread_of-spread.ensures
    c.rows.ensures.kept _ c.rows.ensures.rows _ (simp to_z-of_z at c.pick-cell.ensures) _ _ (simp to_z-of_z at c.with_own-sum.ensures)
    (pushed-precise c.args.state.now.dims c.in-Some.fact _ c.is_imprecise.ensures c.if-is_imprecise.false _ _))

-- at the end none is
pub returns-clause-sum : goal.returns-clause-sum
returns-clause-sum g c = picked-sum _ _ _ _ _ _ _ _ _ _ c.loop-fact.invariant c.in-None.ensures.steps.0
