-- What is added already and what is left to add are all.
use Rattle.iter_alloc.proofs.rounds.add_shares.Given as goal
use Rattle.iter_alloc.proofs.Sharing.{Giving}
use Rattle.iter_alloc.specs.Forest.{at}
use Rattle.iter_alloc.specs.Places.{levels_in}
use Rattle.iter_alloc.specs.Rounds.{share_by}
use Rattle.std.proofs.Common.{◌*◌, drop}

abbrev pub invariant-loop-i : goal.invariant-loop-i
invariant-loop-i l = Giving (λ i. l.members * share_by (at (levels_in l.initial.places)) l.own i) l.own l.initial.places (drop l.i-index l.own) l.places
