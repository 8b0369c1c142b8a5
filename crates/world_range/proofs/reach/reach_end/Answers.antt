use Rattle.std.proofs.Common.{rules}
use Rattle.std.specs.Int.{w64}
use mir.Val.{SFits}
use Rattle.std.proofs.lemmas.Int.{to_z-of_z}
use Rattle.world_range.proofs.Reaching.{reaching_all_picks, reaching_all_sum, reaching_more}
use Rattle.world_range.proofs.reach.reach_end.Goals as goal

-- one fact more
pub loop-item-preserved : goal.loop-item-preserved
loop-item-preserved c =
    let value_fits : SFits w64 c.column_of-value.result = search rules in
    let sum_fits : SFits w64 c.with_own-sum.result = search rules in
    simp to_z-of_z
    (reaching_more _ _ _ _ _ _ c.loop-item-test.true c.item-item.is _ _ _ _ c.inside-inside.ensures c.column_of-value.ensures c.as_slice.ensures (simp to_z-of_z at c.pick-cell.ensures) c.args.space.now _ _ _ _ c.requires.placed
    c.loop-item.invariant (simp to_z-of_z at c.with_own-sum.ensures) c.in_ok-push.ensures.ok)

pub returns-clause-sum : goal.returns-clause-sum
returns-clause-sum c = reaching_all_sum _ _ _ _ _ _ _ c.loop-item.invariant c.loop-item-test.false

pub returns-clause-picked : goal.returns-clause-picked
returns-clause-picked c = reaching_all_picks _ _ _ _ _ _ _ c.loop-item.invariant c.loop-item-test.false
