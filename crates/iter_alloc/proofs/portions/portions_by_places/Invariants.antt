-- The portions of the spots before this one are found.
use Rattle.iter_alloc.proofs.portions.portions_by_places.Given as goal
use Rattle.iter_alloc.proofs.PortionSteps.{Collecting}
use Rattle.iter_alloc.specs.Forest.{at}
use Rattle.iter_alloc.specs.Places.{levels_in, parts}
use Rattle.iter_alloc.specs.Portions.{portion_in}
use Rattle.std.proofs.Common.{drop, length}

abbrev pub invariant-loop-span : goal.invariant-loop-span
invariant-loop-span l =
    Collecting (portion_in l.inside l.layout.cells.keys (at (levels_in l.places))) (parts l.layout.spans.items l.layout.flat.items) (length l.places) (drop l.span-index l.layout.spans.items) l.rest l.portions.items
