-- Climbing starts at the place, falls, and ends at its root.
use Rattle.iter_alloc.proofs.forest.find.Goals as goal
use Rattle.iter_alloc.proofs.Roots.{climb-start}

pub loop-parents-init : goal.loop-parents-init
loop-parents-init c = climb-start c.args.parents.now c.args.place c.requires.forest c.requires.within
