-- What is taken away can be, and what is left are the drafts.
use Rattle.view_store.proofs.Staging.{can-take, facts_taken_away-fits, left_over-from}
use Rattle.view_store.proofs.drafts.left_over.Goals as goal

pub taken_away-requires-clause-within : goal.taken_away-requires-clause-within
taken_away-requires-clause-within c = facts_taken_away-fits c.args.cuts.now.dims c.args.cuts.now.depths c.args.columns c.args.entries.now c.args.changes.now c.requires.entries c.requires.changes

pub take_all_away-requires-clause-there : goal.take_all_away-requires-clause-there
take_all_away-requires-clause-there c =
    can-take c.args.cuts.now.dims c.args.cuts.now.depths c.args.columns c.args.entries.now c.args.changes.now c.requires.entries c.requires.changes c.in_ok-parts.parts c.in_ok-parts.ensures.shares c.in_ok-parts.ensures.keys c.in_ok-parts.ensures.over

pub returns : goal.returns
returns c =
    left_over-from c.args.cuts.now.dims c.args.cuts.now.depths c.args.columns c.args.entries.now c.args.changes.now c.requires.entries c.requires.changes c.in_ok-parts.parts c.in_ok-parts.ensures.shares c.in_ok-parts.ensures.keys c.in_ok-parts.ensures.over
    c.take_all_away.result c.take_all_away.ensures
