-- Its facts with their rows are added; the region that holds all cells of its region holds the rows.
use Rattle.view_store.proofs.Drafting.{rows-held, spread-of}
use Rattle.view_store.proofs.drafts.add_change.Goals as goal

pub add_spread-requires-clause-over : goal.add_spread-requires-clause-over
add_spread-requires-clause-over c =
    rw c.as_slice-rows.ensures (rows-held c.args.cuts.now.dims c.args.cuts.now.depths c.args.columns c.args.change.now c.over_region-over.result c.requires.change c.over_region-over.ensures.over)

pub add_spread-requires-clause-spread : goal.add_spread-requires-clause-spread
add_spread-requires-clause-spread c = rw (c.share.ensures, c.as_slice-rows.ensures) (spread-of c.args.cuts.now.dims c.args.columns c.args.change.now c.requires.change)

pub returns-clause-shares : goal.returns-clause-shares
returns-clause-shares c = rw (c.share.ensures, c.as_slice-rows.ensures) at c.add_spread.ensures.shares
