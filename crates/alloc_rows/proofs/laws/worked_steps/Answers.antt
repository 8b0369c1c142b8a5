-- The definitions compute it.
use Rattle.std.proofs.Common.{refl}
use Rattle.alloc_rows.proofs.laws.worked_steps.Goals as goal

pub returns : goal.returns
returns c = record { first = refl; another = refl; moved = refl; last = refl }
