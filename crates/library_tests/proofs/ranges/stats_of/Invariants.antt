use Rattle.library_tests.specs.Few.{AreFewEach}
use Rattle.library_tests.proofs.ranges.stats_of.Given as goal

-- the facts so far are few at each cell
abbrev pub invariant-loop-nodes : goal.invariant-loop-nodes
invariant-loop-nodes l = AreFewEach l.stats
