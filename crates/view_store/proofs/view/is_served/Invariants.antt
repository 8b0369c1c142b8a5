-- Whether the region is served is told by the dimensions from this one on.
use Rattle.std.proofs.Common.{◌≡◌, drop}
use Rattle.view_store.specs.Rolling.{serves}
use Rattle.view_store.proofs.view.is_served.Given as goal

abbrev pub invariant-loop-d : goal.invariant-loop-d
invariant-loop-d l = serves l.space l.depths l.r ≡ serves (drop l.d l.space) (drop l.d l.depths) (drop l.d l.r)
