-- What is put fits what is left, and once it is added the drafts are the entries made anew.
use Rattle.view_store.proofs.Staging.{are-remade, facts_put-fits}
use Rattle.view_store.proofs.drafts.remake_entries.Goals as goal

pub add_changes-requires-clause-within : goal.add_changes-requires-clause-within
add_changes-requires-clause-within c = facts_put-fits c.args.cuts.now.dims c.args.cuts.now.depths c.args.columns c.args.entries.now c.args.changes.now c.requires.entries c.requires.changes c.in_ok-drafts.drafts c.in_ok-drafts.ensures

pub returns : goal.returns
returns c = are-remade c.args.cuts.now.dims c.args.cuts.now.depths c.args.columns c.args.entries.now c.args.changes.now c.requires.entries c.requires.changes c.in_ok-drafts.drafts c.in_ok-drafts.ensures c.add_changes.new.drafts c.in_ok-add_changes.ensures.shares c.in_ok-add_changes.ensures.keys c.in_ok-add_changes.ensures.over
