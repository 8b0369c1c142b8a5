-- How many cells facts may lie in, and when these are too many.
use Rattle.cube_model.specs.declared.edit.Fact.{Fact}
use Rattle.iter_alloc.specs.declared.fault.IterFault.{IterFault}
use Rattle.iter_alloc.specs.declared.fault.IterFault.TheVariants.{Many, Memory}
use Rattle.cube_model.specs.Cells.{cells_of}
use Rattle.cube_model.specs.Facts.{is_precise}
use Rattle.cube_model.specs.Limits.{MAX_FACTS, MAX_CELLS}
use Rattle.cube_model.specs.Tree.{Dimension}
use Rattle.fact_records.specs.FactList.{IsAscending}
use Rattle.region_algebra.specs.Space.{IsRegion}
use Rattle.std.specs.List.{sum_by}
use Rattle.std.specs.Prelude.{All, filter, not, ◌≡◌, ℕ, ◌<◌, ◌≤◌, List, length}

-- the cells of the imprecise facts, those of each fact counted
abbrev pub cells_in_all : List Dimension → List Fact → ℕ
cells_in_all dims facts = sum_by (λ fact. length (cells_of dims fact.region)) (filter (λ fact. not (is_precise dims fact)) facts)

-- the most cells that are listed
abbrev pub MOST_CELLS : ℕ
MOST_CELLS = 2097152

-- facts in order of their ids, each with a region of the space that is not too large, and not too many
pub record ArePlacedIn (dims : List Dimension) (facts : List Fact) : Type 0 where
  pub ascending : IsAscending facts
  pub few : length facts ≤ MAX_FACTS
  pub regions : All (λ fact. IsRegion dims fact.region) facts
  pub sizes : All (λ fact. length (cells_of dims fact.region) ≤ MAX_CELLS) facts

-- Why nothing is answered: too many cells, with their number, and exactly where they are; or out of memory, which comes only
-- where they are not.
abbrev pub IsIterFault : List Dimension → List Fact → IterFault → Type 0
IsIterFault dims facts (Many cells) = (cells ≡ cells_in_all dims facts) × (MOST_CELLS < cells)
IsIterFault dims facts Memory = cells_in_all dims facts ≤ MOST_CELLS
