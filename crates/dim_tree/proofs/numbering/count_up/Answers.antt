use Rattle.std.proofs.Common.{arith}
use Rattle.dim_tree.proofs.Placing.{range_more}
use Rattle.dim_tree.proofs.numbering.count_up.Goals as goal

pub loop-number-preserved : goal.loop-number-preserved
loop-number-preserved c = grind (arith, range_more 0 c.loop-number.number)
