use Rattle.std.proofs.Common.{◌≡◌, map}
use Rattle.std.specs.List.{range_with_len}
use Rattle.exact_fraction.specs.Ratio.{ratio_of}
use Rattle.linear_pool.proofs.pooling.divide.Given as goal

-- the quotients of the columns so far
abbrev pub invariant-loop-k : goal.invariant-loop-k
invariant-loop-k l = l.pooled ≡ map (λ column. ratio_of column l.scale l.t.terms) (range_with_len l.first l.k)
