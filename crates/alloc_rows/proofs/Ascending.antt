-- Rows of a region's cells over their sum are an allocation.
use Rattle.std.proofs.Common.{◌≡◌, ℕ, zero, suc, ◌<◌, ◌≤◌, true, List, [], ◌∷◌, length, map, refl, ap, sym, ◌∙◌, arith}
use Rattle.std.proofs.lemmas.Bool.Decides.{nat_tests}
use Rattle.std.proofs.lemmas.List.Elements.{filter_passes}
use Rattle.std.proofs.lemmas.List.Sums.{sum_by-cons}
use Rattle.std.specs.List.{sum_by}
use Rattle.std.specs.Prelude.{All, nat_lt}
use Rattle.cube_model.specs.Allocation.{rows_of}
use Rattle.cube_model.specs.Ascending.{ascends_from}
use Rattle.cube_model.specs.Cells.{cells_of}
use Rattle.cube_model.specs.Limits.{DEN_LIMIT, MAX_CELLS}
use Rattle.cube_model.specs.Tree.{Dimension}
use Rattle.cube_model.proofs.Ascending.{ascends_cells, ascends_filter, ascends_map}
use Rattle.alloc_rows.specs.Alloc.{IsAllocation}

-- the rows of a region's cells ascend
pub rows_of-ascend : (weight : ℕ → ℕ) (dims : List Dimension) (region : List ℕ) → ascends_from (λ row. row.0) 0 (rows_of weight (cells_of dims region)) ≡ true
rows_of-ascend weight dims region =
    let cells = cells_of dims region in
    let all = map (λ cell. (cell, weight cell)) cells in
    ascends_filter (λ (row : ℕ × ℕ). row.0) (λ row. nat_lt 0 row.1) 0 all (ascends_map (λ (row : ℕ × ℕ). row.0) (λ cell. (cell, weight cell)) 0 cells ∙ ascends_cells dims region)

-- the rows weigh as much as the cells
rows_of-total : (weight : ℕ → ℕ) (cells : List ℕ) → sum_by (λ row. row.1) (rows_of weight cells) ≡ sum_by weight cells
rows_of-total weight [] = refl
rows_of-total weight (cell ∷ cells) = grind (arith, nat_tests, rows_of-total weight cells, sum_by-cons weight cell cells, sum_by-cons (λ (row : ℕ × ℕ). row.1) (cell, weight cell) (rows_of weight cells))

rows_of-some : (weight : ℕ → ℕ) (cells : List ℕ) → All (λ row. 1 ≤ row.1) (rows_of weight cells)
rows_of-some weight cells k d within = grind (arith, nat_tests, filter_passes (λ (row : ℕ × ℕ). nat_lt 0 row.1) (map (λ cell. (cell, weight cell)) cells) k d within)

-- the rows of a region's cells over their sum are an allocation
pub IsAllocation-weighed : (weight : ℕ → ℕ) (dims : List Dimension) (region : List ℕ) (den : ℕ) (rows : List (ℕ × ℕ))
    → den ≡ sum_by weight (cells_of dims region) → rows ≡ rows_of weight (cells_of dims region) → 1 ≤ den → den < DEN_LIMIT → IsAllocation (record { den = den; rows = rows })
IsAllocation-weighed weight dims region den rows sum are some limit = record {
  ascending = rw are (rows_of-ascend weight dims region);
  weights = rw are (rows_of-some weight (cells_of dims region));
  total = rw are (rows_of-total weight (cells_of dims region)) ∙ sym sum;
  some = some;
  limit = limit;
}

-- even rows are those of weights 1
rows_of-even : (cells : List ℕ) → map (λ cell. (cell, 1)) cells ≡ rows_of (λ cell. 1) cells
rows_of-even [] = refl
rows_of-even (cell ∷ cells) = ap (λ rows. (cell, 1) ∷ rows) (rows_of-even cells)

sum_by-ones : (cells : List ℕ) → length cells ≡ sum_by (λ cell. 1) cells
sum_by-ones [] = refl
sum_by-ones (cell ∷ cells) = omega (arith, sum_by-cons (λ (c : ℕ). 1) cell cells, sum_by-ones cells)

pub IsAllocation-even : (dims : List Dimension) (region : List ℕ) (den : ℕ) (rows : List (ℕ × ℕ))
    → den ≡ length (cells_of dims region) → rows ≡ map (λ cell. (cell, 1)) (cells_of dims region) → 1 ≤ den → den ≤ MAX_CELLS → IsAllocation (record { den = den; rows = rows })
IsAllocation-even dims region den rows count are some few =
    IsAllocation-weighed (λ cell. 1) dims region den rows (count ∙ sum_by-ones (cells_of dims region)) (are ∙ rows_of-even (cells_of dims region)) some (omega arith)

-- and so is the row of one cell
one-weighs : (cell : ℕ) → All {X = ℕ × ℕ} (λ row. 1 ≤ row.1) ((cell, 1) ∷ [])
one-weighs cell zero d within = omega arith
one-weighs cell (suc k) d within = absurd (omega arith)

pub IsAllocation-cell : (cell : ℕ) → IsAllocation (record { den = 1; rows = (cell, 1) ∷ [] })
IsAllocation-cell cell = record {
  ascending = grind (arith, nat_tests);
  weights = one-weighs cell;
  total = refl;
  some = omega arith;
  limit = omega arith;
}
