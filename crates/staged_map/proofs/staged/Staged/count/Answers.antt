-- The map's keys differ, and so do those that have a value, each of which a walk meets with it.
use Rattle.std.proofs.Common.{rules}
use Rattle.staged_map.proofs.Held.{IsDistinct-held, lookup-held}
use Rattle.staged_map.proofs.staged.Staged.count.Goals as goal

pub returns-clause-once : goal.returns-clause-once
returns-clause-once g c = IsDistinct-held c.args.self.now (search rules)

pub returns-clause-each : goal.returns-clause-each
returns-clause-each g c = λ key. lookup-held c.args.self.now key (search rules)
