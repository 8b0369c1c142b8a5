-- Some facts are in groups, and the others are left.
use Rattle.fact_records.specs.Shape.{policy_over, width_of_all}
use Rattle.fact_indexes.proofs.GroupsSoFar.{AreGroupsSoFar}
use Rattle.fact_indexes.proofs.grouping.groups_of.Given as goal

abbrev pub invariant-loop-fact : goal.invariant-loop-fact
invariant-loop-fact g l = AreGroupsSoFar (policy_over (g.P.WeightPolicy.weigh l.policy) l.shape) (width_of_all l.shape.measures) l.space l.facts.facts l.groups l.fact-iterator
