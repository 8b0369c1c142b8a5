-- The leaves of a cell reach every cut, and the region over them holds the cell.
use Rattle.std.proofs.Common.{◌∙◌}
use Rattle.cube_model.specs.Cells.{all_cells}
use Rattle.region_algebra.proofs.LeafTuples.{are_leaves, cells-are}
use Rattle.region_algebra.proofs.Numbers.{found-passes}
use Rattle.view_store.proofs.CutRegions.{holds-own_cell}
use Rattle.view_store.proofs.Reaching.{leaves-reach}
use Rattle.view_store.proofs.cut.cut_code.Goals as goal

pub unwrap-requires : goal.unwrap-requires
unwrap-requires c =
    let are = found-passes (are_leaves c.args.space.now) (all_cells c.args.space.now) c.args.cell c.cell_at.result (cells-are c.args.space.now c.dims.ensures.trees) c.cell_at.ensures.cell in
    c.code_over.ensures.some ∙ leaves-reach c.args.space.now c.args.depths.now c.cell_at.result c.requires.depths are

pub returns : goal.returns
returns c = holds-own_cell c.args.space.now c.args.depths.now c.cell_at.result c.args.cell c.unwrap.result c.dims.ensures.trees c.cell_at.ensures.region c.cell_at.ensures.cell (rw c.unwrap.ensures at c.code_over.ensures.over)
