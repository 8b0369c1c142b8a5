use Rattle.region_algebra.proofs.Tuples.{HasLeaves}
use Rattle.region_algebra.proofs.cells.cell_at.Given as goal

abbrev pub invariant-loop-d : goal.invariant-loop-d
invariant-loop-d l = HasLeaves l.dims l.nodes l.d l.rest l.cell
