use Rattle.store_audit.proofs.Once.{same-finding, sound-none}
use Rattle.store_audit.proofs.laws.one_finding.Goals as goal

pub returns : goal.returns
returns c = record { same = same-finding; none = sound-none }
