-- The facts that worlds are made of.
use Rattle.std.specs.Prelude.{◌≡◌, ℕ, ◌+◌, ◌≤◌, ◌*◌, List, [], ◌∷◌, All, length, map, nat_lt, nat_abs, if◌then◌else◌, Option, Some, None}
use Rattle.std.specs.Option.{option_map_or}
use Rattle.alloc_rows.specs.Alloc.{IsAllocation}
use Rattle.cube_model.specs.Allocation.{ExtendedFact}
use Rattle.cube_model.specs.Cells.{AreRows, cells_of}
use Rattle.cube_model.specs.Limits.{MAX_CELLS, MAX_VALUE}
use Rattle.cube_model.specs.Tree.{Dimension}
use Rattle.region_algebra.specs.Space.{product}
use Rattle.world_law.specs.Choices.{Choice, choice_of}
use Rattle.world_law.specs.Limits.{MAX_MASS, MAX_WORLDS}
use Rattle.world_law.specs.declared.placed.Placed.{Placed}
use Rattle.world_law.specs.declared.sum.WorldFault.{WorldFault}
use Rattle.world_law.specs.declared.sum.WorldFault.TheVariants as world_fault

-- a placed fact as one of an extended database; its id, of which worlds take no notice, is 0
abbrev pub placed_fact : Placed → ExtendedFact
placed_fact p = record { id = 0; values = p.cols; allocation = record { den = p.den; rows = p.rows } }

abbrev pub placed_facts : List Placed → List ExtendedFact
placed_facts placed = map placed_fact placed

-- what is left of a fact where its id is not known
abbrev pub placed_of : ExtendedFact → Placed
placed_of e = record { den = e.allocation.den; rows = e.allocation.rows; cols = e.values }

-- a placed fact: its rows are an allocation over cells of the space, of not too many; it has one value less than there are columns, and none is large
pub record IsPlacedFact (dims : List Dimension) (columns : ℕ) (p : Placed) : Type 0 where
  pub allocation : IsAllocation (record { den = p.den; rows = p.rows })
  pub cells : AreRows dims p.rows
  pub few : length p.rows ≤ MAX_CELLS
  pub width : length p.cols + 1 ≡ columns
  pub small : All (λ value. nat_abs value ≤ MAX_VALUE) p.cols

-- what a column of it needs
pub record IsPlacedFor (dims : List Dimension) (column : ℕ) (p : Placed) : Type 0 where
  pub allocation : IsAllocation (record { den = p.den; rows = p.rows })
  pub cells : AreRows dims p.rows
  pub width : column ≤ length p.cols
  pub small : All (λ value. nat_abs value ≤ MAX_VALUE) p.cols

-- the choices of placed facts, for a region's column
abbrev pub choices_of : List Dimension → List ℕ → ℕ → List Placed → List Choice
choices_of dims region column placed = map (choice_of (cells_of dims region) column) (placed_facts placed)

-- the first product of a number with the numbers in front, one more at a time, that is above a limit
abbrev pub product_above : ℕ → ℕ → List ℕ → Option ℕ
product_above most product [] = None
product_above most product (n ∷ ns) = if nat_lt most (product * n) then Some (product * n) else product_above most (product * n) ns

abbrev pub row_counts : List Placed → List ℕ
row_counts placed = map (λ p. length p.rows) placed

abbrev pub dens : List Placed → List ℕ
dens placed = map (λ p. p.den) placed

-- why worlds are not listed: there are too many, as the product of the first numbers of rows shows; or their weights
-- add up to too much
abbrev pub fault_of : List Placed → Option WorldFault
fault_of placed =
    option_map_or (λ product. Some (world_fault.Many product)) (product_above MAX_WORLDS 1 (row_counts placed))
    (if nat_lt MAX_MASS (product (dens placed)) then Some world_fault.Wide else None)

-- out of memory is said only where there is no other fault, and any other fault where it is the one
abbrev pub IsWorldFaultOf : List Placed → WorldFault → Type 0
IsWorldFaultOf placed (world_fault.Many product) = fault_of placed ≡ Some (world_fault.Many product)
IsWorldFaultOf placed world_fault.Wide = fault_of placed ≡ Some world_fault.Wide
IsWorldFaultOf placed world_fault.Memory = fault_of placed ≡ None
