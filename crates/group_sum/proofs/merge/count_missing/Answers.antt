use Rattle.std.proofs.Common.{◌+◌, ◌<◌, length, arith}
use Rattle.std.specs.Prelude.{not}
use Rattle.group_sum.specs.Back.{IsPlaceBehind}
use Rattle.group_sum.specs.Place.{term_at}
use Rattle.group_sum.proofs.Missing.{behind_more, missing_is, missing_more}
use Rattle.group_sum.proofs.merge.count_missing.Goals.{then-not-is_ahead, else-not-is_ahead}
use Rattle.group_sum.proofs.merge.count_missing.Goals as goal

-- one more is counted, where it is missing
pub loop-j-preserved : goal.loop-j-preserved
loop-j-preserved c =
    let told = rw c.den-den.ensures at (missing_is c.args.own.now.terms c.den-den.result c.first_from-i.result c.requires.own c.first_from-i.ensures.behind c.first_from-i.ensures.first c.is_ahead.result c.is_ahead.ensures.ahead) in
    let more = missing_more c.args.own.now.terms c.args.other.now.terms c.loop-j.j (not c.is_ahead.result) (omega arith) told in
    let behind : c.loop-j.j + 1 < length c.args.other.now.terms → IsPlaceBehind c.args.own.now.terms (term_at c.args.other.now.terms (c.loop-j.j + 1)).den c.first_from-i.result = λ lt.
    behind_more _ c.den-den.result _ _ c.first_from-i.ensures.behind (omega (arith, c.den-den.ensures, c.requires.other.each c.loop-j.j (c.loop-j.j + 1) (omega arith) lt)) in
    elim c.if-not-is_ahead.branch [
      | then-not-is_ahead w ↦ record { counted = grind (arith, more); few = omega arith; behind = behind }
      | else-not-is_ahead w ↦ record { counted = grind (arith, more); few = omega arith; behind = behind }
    ]
