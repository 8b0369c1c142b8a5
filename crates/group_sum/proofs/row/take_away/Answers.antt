use Rattle.std.proofs.Common.{get_or, pos, rules, arith}
use Rattle.std.specs.Int.{w128}
use mir.Val.{SFits}
use Rattle.std.proofs.lemmas.Int.{to_z-of_z}
use Rattle.group_sum.proofs.Written.{written_more, same_more}
use Rattle.group_sum.proofs.row.take_away.Goals as goal

-- the place is as it was, so the numerators there fit
pub minus-requires : goal.minus-requires
minus-requires c =
    let own_fits : SFits w128 (get_or c.loop-k.row c.loop-k.k (pos 0)) = search rules in
    let other_fits : SFits w128 (get_or c.args.other.now c.loop-k.k (pos 0)) = search rules in
    let same = c.loop-k.invariant.ahead.each c.loop-k.k (omega arith) in
    simp to_z-of_z (rw same (c.requires.within.each c.loop-k.k (omega arith)))

-- one more place has its numerator
pub loop-k-preserved : goal.loop-k-preserved
loop-k-preserved c =
    let own_fits : SFits w128 (get_or c.loop-k.row c.loop-k.k (pos 0)) = search rules in
    let other_fits : SFits w128 (get_or c.args.other.now c.loop-k.k (pos 0)) = search rules in
    let new_fits : SFits w128 c.minus.result = search rules in
    let same = c.loop-k.invariant.ahead.each c.loop-k.k (omega arith) in
    record {
      done = written_more _ _ _ c.loop-k.invariant.done _ (omega arith) (simp to_z-of_z (grind (arith, to_z-of_z, same)));
      ahead = same_more _ _ _ c.loop-k.invariant.ahead _;
    }
