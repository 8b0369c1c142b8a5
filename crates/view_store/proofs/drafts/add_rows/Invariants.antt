-- The shares of the rows before this one were added.
use Rattle.std.proofs.Common.{take}
use Rattle.view_store.proofs.Drafting.{HasRows}
use Rattle.view_store.proofs.drafts.add_rows.Given as goal

abbrev pub invariant-loop-cell : goal.invariant-loop-cell
invariant-loop-cell l = HasRows l.cuts.dims l.cuts.depths l.columns l.entries l.share (take l.cell-index l.rows) l.initial.drafts l.drafts
