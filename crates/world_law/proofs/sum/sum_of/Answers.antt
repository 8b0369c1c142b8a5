use Rattle.std.proofs.Common.{arith, rules}
use Rattle.std.specs.Int.{w128}
use mir.Val.{SFits}
use Rattle.std.proofs.lemmas.Int.{to_z-of_z}
use Rattle.world_law.proofs.Placing.{placed_for}
use Rattle.world_law.proofs.Summing.{sums_count, sums_mass, sums_next, sums_none, sums_totals}
use Rattle.world_law.proofs.sum.sum_of.Goals as goal

pub loop-column-init : goal.loop-column-init
loop-column-init c = sums_none c.args.space.now c.args.r c.args.placed.now _ c.new-totals.ensures

pub walk_column-requires-clause-placed : goal.walk_column-requires-clause-placed
walk_column-requires-clause-placed c = placed_for c.args.space.now c.args.columns c.loop-column.column c.args.placed.now c.requires.placed (omega (arith, c.loop-column-test.true))

pub loop-column-preserved : goal.loop-column-preserved
loop-column-preserved c =
    let fits : SFits w128 c.in_ok-found.found.total = search rules in
    sums_next c.args.space.now c.args.r c.args.placed.now _ _ _ _ _ _ _ _ c.loop-column.invariant c.in_ok-found.ensures.worlds c.in_ok-found.ensures.mass c.in_ok-found.ensures.total (simp to_z-of_z at c.in_ok-push.ensures.ok)

pub returns-clause-worlds : goal.returns-clause-worlds
returns-clause-worlds c = sums_count c.args.space.now c.args.r c.args.placed.now _ _ _ _ _ c.requires.placed c.loop-column.invariant c.loop-column-test.false c.loop-column.auto.column-end

pub returns-clause-mass : goal.returns-clause-mass
returns-clause-mass c = sums_mass c.args.space.now c.args.r c.args.placed.now _ _ _ _ _ c.requires.placed c.loop-column.invariant c.loop-column-test.false c.loop-column.auto.column-end

pub returns-clause-totals : goal.returns-clause-totals
returns-clause-totals c = sums_totals c.args.space.now c.args.r c.args.placed.now _ _ _ _ _ c.requires.placed c.loop-column.invariant c.loop-column-test.false c.loop-column.auto.column-end
