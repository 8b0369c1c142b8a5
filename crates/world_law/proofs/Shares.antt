-- Facts that are spread over their regions have weights that add up to their denominators.
use Rattle.std.proofs.Common.{◌≡◌, ℕ, ◌≤◌, Bool, true, false, List, [], ◌∷◌, length, refl, arith}
use Rattle.std.specs.Prelude.{All, sum_by, ◌==◌, if◌then◌else◌}
use Rattle.std.proofs.lemmas.Bool.Decides.{nat_tests}
use Rattle.std.proofs.lemmas.List.Elements.{All-map}
use Rattle.std.proofs.lemmas.List.Sums.{sum_by-cons}
use Rattle.cube_model.specs.declared.edit.Fact.{Fact}
use Rattle.cube_model.specs.Allocation.{Allocation, Policy, allocation, extended, rows_of, spread, spread_by, spread_evenly}
use Rattle.cube_model.specs.Cells.{cells_of}
use Rattle.cube_model.specs.Tree.{Dimension, IsTree}
use Rattle.region_algebra.specs.Space.{IsRegion}
use Rattle.region_algebra.proofs.Turns.{cells-some}
use Rattle.world_law.specs.Law.{IsShared}

-- an allocation's weights add up to its denominator, which is not 0
record IsWhole (a : Allocation) : Type 0 where
  whole : sum_by (λ row. row.1) a.rows ≡ a.den
  some : 1 ≤ a.den

even_rows : (cells : List ℕ) → sum_by (λ row. row.1) (spread_evenly cells).rows ≡ length cells
even_rows [] = refl
even_rows (cell ∷ cells) = omega (arith, sum_by-cons (λ (row : ℕ × ℕ). row.1) (cell, 1) (spread_evenly cells).rows, even_rows cells)

weighed_rows : (weight : ℕ → ℕ) (cells : List ℕ) → sum_by (λ row. row.1) (rows_of weight cells) ≡ sum_by weight cells
weighed_rows weight [] = refl
weighed_rows weight (cell ∷ cells) = grind (arith, nat_tests, weighed_rows weight cells, sum_by-cons weight cell cells, sum_by-cons (λ (row : ℕ × ℕ). row.1) (cell, weight cell) (rows_of weight cells))

either_whole : (b c : Bool) (even weighed : Allocation) → IsWhole even → (c ≡ false → IsWhole weighed) → IsWhole (if b then even else (if c then even else weighed))
either_whole true c even weighed first second = first
either_whole false true even weighed first second = first
either_whole false false even weighed first second = second refl

spread_whole : (weight : ℕ → ℕ) (cells : List ℕ) → 1 ≤ length cells → IsWhole (spread weight cells)
spread_whole weight cells some =
    either_whole (length cells == 1) (sum_by weight cells == 0) (spread_evenly cells) (spread_by weight cells) (record { whole = even_rows cells; some = some })
    (λ weighs. record { whole = weighed_rows weight cells; some = grind (arith, nat_tests) })

allocation_whole : (policy : Policy) (dims : List Dimension) (facts : List Fact) (fact : Fact) → All IsTree dims → IsRegion dims fact.region → IsWhole (allocation policy dims facts fact)
unfolding allocation
allocation_whole policy dims facts fact trees named = spread_whole _ (cells_of dims fact.region) (cells-some dims fact.region trees named)

-- facts whose regions are regions of the dimensions
pub shared-extended : (policy : Policy) (dims : List Dimension) (facts : List Fact) → All IsTree dims → All (λ f. IsRegion dims f.region) facts → All IsShared (extended policy dims facts)
unfolding extended
shared-extended policy dims facts trees named =
    All-map IsShared (λ (f : Fact). record { id = f.id; values = f.cols; allocation = allocation policy dims facts f }) facts
    (λ k d lt. let is = allocation_whole policy dims facts _ trees (named k d lt) in record { whole = is.whole; some = is.some })
