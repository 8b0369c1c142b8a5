-- The rows are parted where the search found the cell, or at the gap for it.
use Rattle.std.proofs.Common.{◌+◌, ◌∙◌, sym}
use Rattle.std.proofs.lemmas.List.{take_rest}
use Rattle.alloc_rows.proofs.RowPlaces.{above_at, above_gap, below_at, below_gap}
use Rattle.alloc_rows.proofs.stepping.part_at.Goals as goal

pub returns-in-Ok-clause-smaller : goal.returns-in-Ok-clause-smaller
returns-in-Ok-clause-smaller c = sym (below_at c.args.rows.now c.args.cell c.in-Ok.at c.requires c.in-Ok.ensures.found)

pub returns-in-Ok-clause-greater : goal.returns-in-Ok-clause-greater
returns-in-Ok-clause-greater c = take_rest c.args.rows.now (c.in-Ok.at + 1) ∙ sym (above_at c.args.rows.now c.args.cell c.in-Ok.at c.requires c.in-Ok.ensures.found)

pub returns-in-Err-clause-smaller : goal.returns-in-Err-clause-smaller
returns-in-Err-clause-smaller c = sym (below_gap c.args.rows.now c.args.cell c.in-Err.at c.in-Err.ensures.absent)

pub returns-in-Err-clause-greater : goal.returns-in-Err-clause-greater
returns-in-Err-clause-greater c = take_rest c.args.rows.now c.in-Err.at ∙ sym (above_gap c.args.rows.now c.args.cell c.in-Err.at c.in-Err.ensures.absent)
