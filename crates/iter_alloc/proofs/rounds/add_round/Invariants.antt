-- What is added already and what is left to add are all.
use Rattle.iter_alloc.proofs.rounds.add_round.Given as goal
use Rattle.iter_alloc.proofs.Sharing.{Adding}
use Rattle.iter_alloc.specs.Places.{parts}
use Rattle.std.proofs.Common.{drop}

abbrev pub invariant-loop-span : goal.invariant-loop-span
invariant-loop-span l = Adding (parts l.spans l.fn.flat) l.initial.places (drop l.span-index l.spans) l.rest l.places
