-- The entry is the place's, and so what a walk meets there.
use Rattle.std.proofs.Common.{Some, rules}
use Rattle.staged_map.proofs.Held.{held-next}
use Rattle.staged_map.proofs.staged.Staged.at.Goals as goal

pub returns-in_err-as_ref-clause-next : goal.returns-in_err-as_ref-clause-next
returns-in_err-as_ref-clause-next g c = held-next c.args.self.now c.args.i _ (search rules)

pub returns-clause-next : goal.returns-clause-next
returns-clause-next g c = held-next c.args.self.now c.args.i (Some (c.in_ok-key.key.now, c.in_ok-as_ref.field-0.now)) (search rules)
