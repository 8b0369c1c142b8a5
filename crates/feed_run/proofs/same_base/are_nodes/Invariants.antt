use Rattle.std.proofs.Common.{◌≡◌, drop}
use Rattle.std.specs.Prelude.{◌==◌}
use Rattle.std.specs.Cmp.Lexicographic.{pointwise}
use Rattle.feed_run.proofs.same_base.are_nodes.Given as goal

abbrev pub invariant-loop-d : goal.invariant-loop-d
invariant-loop-d l = pointwise (λ m n. m == n) l.nodes l.region ≡ pointwise (λ m n. m == n) (drop l.d l.nodes) (drop l.d l.region)
