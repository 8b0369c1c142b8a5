use Rattle.std.proofs.Common.{refl}
use Rattle.std.specs.Fmt.{digits}
use Rattle.fact_fields.proofs.laws.worked_fields.Goals as goal

-- the definitions compute it
pub returns : goal.returns
unfolding digits
returns c = record { on_leaves = refl; on_roots = refl }
