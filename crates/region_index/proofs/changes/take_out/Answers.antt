-- The ids without one of them.
use Rattle.region_index.proofs.OneId.{among-taken, ascends-taken}
use Rattle.region_index.proofs.changes.take_out.Goals as goal

pub returns-in-Some-clause-ascending : goal.returns-in-Some-clause-ascending
returns-in-Some-clause-ascending c = ascends-taken c.args.ids.now.items _ c.in-Some.id c.requires c.take_out_one.ensures

pub returns-in-Some-clause-members : goal.returns-in-Some-clause-members
returns-in-Some-clause-members c = among-taken c.args.ids.now.items _ c.args.id c.in-Some.id c.in-Some.is c.take_out_one.ensures
