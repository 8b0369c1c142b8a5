use Rattle.std.proofs.Common.{sym, arith}
use Rattle.std.proofs.lemmas.Bool.Decides.{nat_tests}
use Rattle.dim_tree.proofs.Placing.{above_fails, above_more}
use Rattle.dim_tree.proofs.numbering.are_above.Goals as goal
use Rattle.dim_tree.proofs.numbering.are_above.Goals.{else-place-gt0-via-then-place-gt0+else-numbers-parents, else-place-gt0-via-else-place-gt0}

pub returns-then-numbers-parents : goal.returns-then-numbers-parents
returns-then-numbers-parents c = sym (above_fails c.args.numbers.now c.args.parents.now c.loop-place.place c.loop-place-test.true (grind (arith, nat_tests)))

pub loop-place-preserved : goal.loop-place-preserved
loop-place-preserved c =
    above_more c.args.numbers.now c.args.parents.now c.loop-place.place c.loop-place.invariant (elim c.else-place-gt0.branch [
      | else-place-gt0-via-then-place-gt0+else-numbers-parents w ↦ grind (arith, nat_tests)
      | else-place-gt0-via-else-place-gt0 w ↦ grind (arith, nat_tests)
    ])
