-- The whole is added to the draft of the region that holds the rows.
use Rattle.view_store.proofs.Drafting.{keys-whole, over-whole, shares-whole, whole-fits}
use Rattle.view_store.specs.Cuts.{HoldsRows}
use Rattle.view_store.specs.Drafts.{draft_at}
use Rattle.view_store.proofs.drafts.add_spread.Goals as goal

pub add_share-requires-clause-within : goal.add_share-requires-clause-within
add_share-requires-clause-within c =
    let holds : HoldsRows c.args.cuts.now.dims c.args.cuts.now.depths c.args.rows.now c.in-Some.code = rw c.in-Some.is at c.requires.over in
    whole-fits c.args.cuts.now.dims c.args.cuts.now.depths c.args.columns c.args.entries.now c.args.share.now c.args.rows.now c.requires.spread c.in-Some.code holds (draft_at c.args.columns c.args.entries.now c.args.drafts.now c.in-Some.code) (c.requires.within c.in-Some.code holds.in_view).share

pub returns-in-Some-clause-shares : goal.returns-in-Some-clause-shares
returns-in-Some-clause-shares c =
    let holds : HoldsRows c.args.cuts.now.dims c.args.cuts.now.depths c.args.rows.now c.in-Some.code = rw c.in-Some.is at c.requires.over in
    shares-whole c.args.cuts.now.dims c.args.cuts.now.depths c.args.columns c.args.entries.now c.args.share.now c.args.rows.now c.requires.spread c.in-Some.code holds c.args.drafts.now c.add_share.new.drafts c.add_share.result c.add_share.ensures.adds

pub returns-in-Some-clause-keys : goal.returns-in-Some-clause-keys
returns-in-Some-clause-keys c =
    let holds : HoldsRows c.args.cuts.now.dims c.args.cuts.now.depths c.args.rows.now c.in-Some.code = rw c.in-Some.is at c.requires.over in
    keys-whole c.args.cuts.now.dims c.args.cuts.now.depths c.args.columns c.args.entries.now c.args.share.now c.args.rows.now c.requires.spread c.in-Some.code holds c.args.drafts.now c.add_share.new.drafts c.add_share.result c.add_share.ensures.adds

pub returns-in-Some-clause-over : goal.returns-in-Some-clause-over
returns-in-Some-clause-over c =
    let holds : HoldsRows c.args.cuts.now.dims c.args.cuts.now.depths c.args.rows.now c.in-Some.code = rw c.in-Some.is at c.requires.over in
    over-whole c.args.cuts.now.dims c.args.cuts.now.depths c.args.columns c.args.entries.now c.args.share.now c.args.rows.now c.requires.spread c.in-Some.code holds c.args.drafts.now c.add_share.new.drafts c.add_share.result c.add_share.ensures.adds
