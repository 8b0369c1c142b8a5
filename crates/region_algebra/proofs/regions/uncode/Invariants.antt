use Rattle.region_algebra.proofs.Tuples.{HasNodes}
use Rattle.region_algebra.proofs.regions.uncode.Given as goal

abbrev pub invariant-loop-d : goal.invariant-loop-d
invariant-loop-d l = HasNodes l.dims l.nodes l.d l.rest l.code
