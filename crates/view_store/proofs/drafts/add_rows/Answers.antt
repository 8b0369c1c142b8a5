-- The share of the next row is added to the draft of the region over its cell.
use Rattle.view_store.proofs.Drafting.{HasRows-next, HasRows-none, row-fits}
use Rattle.view_store.proofs.drafts.add_rows.Goals as goal

pub loop-cell-init : goal.loop-cell-init
loop-cell-init c = HasRows-none _ _ _ _ _ _ c.requires.drafts

pub add_share-requires-clause-within : goal.add_share-requires-clause-within
add_share-requires-clause-within c =
    let fits = c.requires.within c.over_cell-code.result c.over_cell-code.ensures.in_view in
    row-fits c.args.cuts.now.dims c.args.cuts.now.depths c.args.columns c.args.entries.now c.args.share.now c.args.rows.now c.args.drafts.now c.loop-cell.drafts c.loop-cell.cell-index c.over_cell-code.result c.loop-cell-test.true
    c.loop-cell.invariant c.over_cell-code.ensures c.requires.spread.width fits.held fits.share

pub loop-cell-preserved : goal.loop-cell-preserved
loop-cell-preserved c =
    HasRows-next c.args.cuts.now.dims c.args.cuts.now.depths c.args.columns c.args.entries.now c.args.share.now c.args.rows.now c.args.drafts.now c.loop-cell.drafts c.loop-cell.cell-index c.over_cell-code.result c.loop-cell-test.true
    c.loop-cell.invariant c.over_cell-code.ensures c.add_share.new.drafts c.in_ok-add_share.ensures.adds c.in_ok-add_share.ensures.whole
