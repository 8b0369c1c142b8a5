-- The regions over a cell.
use Rattle.std.specs.Prelude.{ℕ, List}
use Rattle.cube_model.specs.Cells.{cells_of, is_among, places_from}
use Rattle.cube_model.specs.Tree.{Dimension}
use Rattle.region_algebra.specs.Space.{all_regions}

-- the codes of the regions that hold a cell, ascending: of all regions' codes those at which the cell is one of the region's
unfoldable pub codes_over : List Dimension → ℕ → List ℕ
codes_over dims cell = places_from (λ region. is_among (cells_of dims region) cell) 0 (all_regions dims)
