-- Of the changes before this one, those of the region's cells are kept.
use Rattle.std.proofs.Common.{◌≡◌, take}
use Rattle.alloc_rows.specs.Changed.{changes_among}
use Rattle.cube_model.specs.Cells.{cells_of}
use Rattle.cube_state.proofs.region_spreads.changes_inside.Given as goal

abbrev pub invariant-loop-change : goal.invariant-loop-change
invariant-loop-change l = l.inside ≡ changes_among (cells_of l.space l.r) (take l.change-index l.change-items)
