-- The rows of facts, fact by fact.
use Rattle.std.proofs.Common.{◌≡◌, ℕ, ◌≤◌, Bool, true, false, List, [], ◌∷◌, length, map, refl, arith}
use Rattle.std.specs.Prelude.{filter, nat_lt, ◌==◌, if◌then◌else◌, None, Ok, Result}
use Rattle.std.specs.List.{sum_by}
use Rattle.std.proofs.lemmas.Bool.Decides.{nat_tests}
use Rattle.std.proofs.lemmas.List.{length-map}
use Rattle.cube_model.specs.declared.edit.Fact.{Fact}
use Rattle.cube_model.specs.Allocation.{Allocation, ExtendedFact, Policy, allocation, extended, spread, spread_by, spread_evenly}
use Rattle.cube_model.specs.Cells.{AreRows, cells_of}
use Rattle.cube_model.specs.Limits.{MAX_CELLS}
use Rattle.cube_model.specs.Tree.{Dimension}
use Rattle.fact_records.specs.Accepted.{region_refusal}
use Rattle.alloc_rows.proofs.Spreading.{AreRows-spreads}

-- the rows of some of the facts among all
abbrev pub rows_among : Policy → List Dimension → List Fact → List Fact → List ExtendedFact
rows_among policy dims all facts = map (λ f. record { id = f.id; values = f.cols; allocation = allocation policy dims all f }) facts

pub extended-among : (policy : Policy) (dims : List Dimension) (facts : List Fact) → extended policy dims facts ≡ rows_among policy dims facts facts
unfolding extended
extended-among policy dims facts = refl

-- a fact has no more rows than its region has cells
filter-le : (p : ℕ × ℕ → Bool) (rows : List (ℕ × ℕ)) → length (filter p rows) ≤ length rows
filter-le p [] = omega arith
filter-le p (row ∷ rows) = grind (arith, filter-le p rows)

either-le : (b c : Bool) (n : ℕ) (even weighed : Allocation) → length even.rows ≤ n → length weighed.rows ≤ n → length (if b then even else (if c then even else weighed)).rows ≤ n
either-le true c n even weighed first second = first
either-le false true n even weighed first second = first
either-le false false n even weighed first second = second

spread-le : (weight : ℕ → ℕ) (cells : List ℕ) → length (spread weight cells).rows ≤ length cells
spread-le weight cells =
    let even : length (spread_evenly cells).rows ≤ length cells = omega (arith, length-map {B = ℕ × ℕ} cells (λ cell. (cell, 1))) in
    let weighed : length (spread_by weight cells).rows ≤ length cells = omega (arith, filter-le (λ row. nat_lt 0 row.1) (map (λ cell. (cell, weight cell)) cells), length-map {B = ℕ × ℕ} cells (λ cell. (cell, weight cell))) in
    either-le (length cells == 1) (sum_by weight cells == 0) (length cells) (spread_evenly cells) (spread_by weight cells) even weighed

pub allocation-le : (policy : Policy) (dims : List Dimension) (all : List Fact) (fact : Fact) → length (allocation policy dims all fact).rows ≤ length (cells_of dims fact.region)
unfolding allocation
allocation-le policy dims all fact = spread-le _ (cells_of dims fact.region)

-- a region that is not refused has few cells
pub few_cells : (dims : List Dimension) (region : List ℕ) → region_refusal dims region ≡ None → length (cells_of dims region) ≤ MAX_CELLS
few_cells dims region accepted = grind (arith, nat_tests)

-- its rows are of cells that there are
pub AreRows-allocation : (policy : Policy) (dims : List Dimension) (all : List Fact) (fact : Fact) → AreRows dims (allocation policy dims all fact).rows
unfolding allocation
AreRows-allocation policy dims all fact =
    let made : Result Allocation ℕ = Ok (allocation policy dims all fact) in
    AreRows-spreads made _ dims fact.region refl
