-- The law of the totals over all worlds.
use Rattle.std.specs.Prelude.{◌≡◌, ℕ, ◌≤◌, ◌/◌, List, All, sum_by, ℤ, pos, ◌*ℤ◌, ◌∷◌, slice_index_or}
use Rattle.std.specs.Int.{◌∣◌}
use Rattle.cube_model.specs.declared.term.Term.{Term}
use Rattle.cube_model.specs.Allocation.{ExtendedFact}
use Rattle.cube_model.specs.Answer.{answer, total_by, weight_inside}
use Rattle.cube_model.specs.Cells.{cells_of}
use Rattle.cube_model.specs.Tree.{Dimension}
use Rattle.world_law.specs.Worlds.{column_of, mass, total}

-- a fact's weights add up to its denominator, which is not 0
pub record IsShared (e : ExtendedFact) : Type 0 where
  pub whole : sum_by (λ row. row.1) e.allocation.rows ≡ e.allocation.den
  pub some : 1 ≤ e.allocation.den

-- a fact's expected part of a region's column, over all worlds: the column times the weight inside, times the mass divided by the denominator
abbrev pub part_of : List ℕ → ℕ → ℕ → ExtendedFact → ℤ
part_of cells column whole e = column_of column e *ℤ pos (weight_inside cells e.allocation) *ℤ pos (whole / e.allocation.den)

-- what the facts expect, added up
abbrev pub expected : List Dimension → List ℕ → ℕ → List ExtendedFact → ℤ
expected dims region column facts = total_by (part_of (cells_of dims region) column (mass facts)) facts

-- a column of a term: column 0 is the count
abbrev pub numerator : ℕ → Term → ℤ
numerator column t = slice_index_or (pos t.count ∷ t.sums) column (pos 0)

-- what terms stand for in so many worlds: each numerator times the mass divided by its denominator
abbrev pub cleared : ℕ → ℕ → List Term → ℤ
cleared whole column terms = total_by (λ t. numerator column t *ℤ pos (whole / t.den)) terms

-- The answer at a region is the exact expectation over all worlds, cleared of denominators: each of these divides the mass, and the terms stand for the total of each column.
pub record IsLawful (columns : ℕ) (dims : List Dimension) (region : List ℕ) (facts : List ExtendedFact) : Type 0 where
  pub dens : All (λ t. t.den ∣ mass facts) (answer columns dims facts region)
  pub totals : (column : ℕ) → column ≤ columns → total dims region column facts ≡ cleared (mass facts) column (answer columns dims facts region)
