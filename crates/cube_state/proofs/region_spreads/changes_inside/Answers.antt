-- All changes of the region's cells are kept.
use Rattle.std.proofs.Common.{◌∙◌, ap}
use Rattle.std.proofs.lemmas.List.{take_all}
use Rattle.alloc_rows.specs.Changed.{changes_among}
use Rattle.cube_model.specs.Cells.{cells_of}
use Rattle.cube_state.proofs.region_spreads.changes_inside.Goals as goal

pub returns : goal.returns
returns c =
    c.loop-change.invariant ∙ ap (changes_among (cells_of c.args.space.now c.args.r)) (take_all c.loop-change.change-index c.as_slice-change-items.result.now c.loop-change-test.false ∙ c.as_slice-change-items.ensures.items)
