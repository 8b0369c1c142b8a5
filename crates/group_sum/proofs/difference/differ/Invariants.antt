use Rattle.std.specs.Option.{option_copied, option_map}
use Rattle.group_sum.specs.Heads.{HasSameSums}
use Rattle.group_sum.specs.Rows.{row_term}
use Rattle.group_sum.proofs.difference.differ.Given as goal

-- the sums before k are the same
abbrev pub invariant-loop-k : goal.invariant-loop-k
invariant-loop-k l = HasSameSums l.k (option_map (row_term 0) (option_copied l.whole)) (option_map (row_term 0) (option_copied l.part))
