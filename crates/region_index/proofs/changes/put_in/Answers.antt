-- The ids with one more.
use Rattle.std.proofs.lemmas.Result.{on_ok_weaker}
use Rattle.region_index.proofs.OneId.{among-put, ascends-put}
use Rattle.region_index.proofs.changes.put_in.Goals as goal

pub returns-in-Some-clause-ascending : goal.returns-in-Some-clause-ascending
returns-in-Some-clause-ascending c = on_ok_weaker c.put_in_one.result (ascends-put c.args.ids.now.items _ c.in-Some.id c.requires) c.put_in_one.ensures

pub returns-in-Some-clause-members : goal.returns-in-Some-clause-members
returns-in-Some-clause-members c = on_ok_weaker c.put_in_one.result (among-put c.args.ids.now.items _ c.args.id c.in-Some.id c.in-Some.is) c.put_in_one.ensures
