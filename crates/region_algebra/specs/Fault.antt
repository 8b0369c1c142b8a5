-- Why dimensions are refused as a space.
use Rattle.std.specs.Prelude.{ℕ, List, length, nat_le, nat_lt, ◌||◌, ◌==◌, if◌then◌else◌, Option, Some, None}
use Rattle.cube_model.specs.Limits.{MAX_DIMS, SPACE_LIMIT}
use Rattle.cube_model.specs.Tree.{Dimension}
use Rattle.region_algebra.specs.Space.{cell_total, region_total}
use Rattle.region_algebra.specs.declared.space.SpaceFault.{SpaceFault}
use Rattle.region_algebra.specs.declared.space.SpaceFault.TheVariants.{Dims, Cells, Nodes}

-- the first of the limits that so many dimensions pass, with so many cells and so many regions
abbrev pub limit_fault : ℕ → ℕ → ℕ → Option SpaceFault
limit_fault dims cells regions =
    if dims == 0 || nat_lt MAX_DIMS dims then Some (Dims dims)
    else (if nat_le SPACE_LIMIT cells then Some Cells
    else (if nat_le SPACE_LIMIT regions then Some Nodes else None))

-- why dimensions are no space
abbrev pub space_fault : List Dimension → Option SpaceFault
space_fault dims = limit_fault (length dims) (cell_total dims) (region_total dims)
