-- Sums and rows of weights that differ at one cell.
use Rattle.std.proofs.Common.{◌≡◌, ◌≢◌, ℕ, ◌+◌, ◌<◌, ◌≤◌, Bool, true, false, List, [], ◌∷◌, filter, eqb, refl, arith}
use Rattle.std.proofs.lemmas.Bool.Decides.{nat_tests}
use Rattle.std.proofs.lemmas.Grind.{common_steps}
use Rattle.std.proofs.lemmas.List.Sums.{sum_by-cons}
use Rattle.std.specs.List.{sum_by}
use Rattle.std.specs.Prelude.{All, nat_lt}
use Rattle.cube_model.specs.Allocation.{rows_of}
use Rattle.cube_model.specs.Ascending.{ascends_from}
use Rattle.cube_model.specs.Cells.{is_among}
use Rattle.cube_model.proofs.Ascending.{ascends_first, ascends_least}
use Rattle.alloc_rows.proofs.Spreading.{rows_of-same, sum_by-same}
use Rattle.alloc_rows.specs.Rows.{with_row}

abbrev ascend : ℕ → List ℕ → Bool
ascend least cells = ascends_from (λ (cell : ℕ). cell) least cells

-- one of cells is no smaller than the least
among-least : (least : ℕ) (cells : List ℕ) (cell : ℕ) → ascend least cells ≡ true → is_among cells cell ≡ true → least ≤ cell
among-least least [] cell ascends among = grind (arith, nat_tests)
among-least least (c ∷ cells) cell ascends among =
    let first = ascends_first (λ (k : ℕ). k) least c cells ascends in
    grind (arith, nat_tests, first.from, among, among-least (c + 1) cells cell first.others)

module _ (weight : ℕ → ℕ) (cell : ℕ) where
  -- of greater cells there are only rows of greater cells
  none_below : (least : ℕ) (cells : List ℕ) → cell < least → ascend least cells ≡ true → filter (λ row. nat_lt row.0 cell) (rows_of weight cells) ≡ []
  none_below least [] above ascends = refl
  none_below least (c ∷ cells) above ascends =
      let first = ascends_first (λ (k : ℕ). k) least c cells ascends in
      grind (arith, nat_tests, common_steps, first.from, none_below (c + 1) cells (omega (arith, first.from)) first.others)

  all_above : (least : ℕ) (cells : List ℕ) → cell < least → ascend least cells ≡ true → filter (λ row. nat_lt cell row.0) (rows_of weight cells) ≡ rows_of weight cells
  all_above least [] above ascends = refl
  all_above least (c ∷ cells) above ascends =
      let first = ascends_first (λ (k : ℕ). k) least c cells ascends in
      grind (arith, nat_tests, common_steps, first.from, all_above (c + 1) cells (omega (arith, first.from)) first.others)

module _ (before after : ℕ → ℕ) (cell : ℕ) (same : (c : ℕ) → c ≢ cell → before c ≡ after c) where
  same_above : (least : ℕ) (cells : List ℕ) → cell < least → ascend least cells ≡ true → All (λ c. before c ≡ after c) cells
  same_above least cells above ascends i d within = same _ (omega (arith, ascends_least (λ (k : ℕ). k) least cells ascends i d within))

  -- the sum changes by what the cell weighs
  sum_by-either : (least c : ℕ) (cells : List ℕ) (here : Bool) → eqb c cell ≡ here → ascend (c + 1) cells ≡ true → (is_among cells cell ≡ true → sum_by after cells + before cell ≡ sum_by before cells + after cell)
      → is_among (c ∷ cells) cell ≡ true → sum_by after (c ∷ cells) + before cell ≡ sum_by before (c ∷ cells) + after cell
  sum_by-either least c cells true is ascends rest among =
      let at : c ≡ cell = grind (arith, nat_tests) in
      let others = sum_by-same before after cells (same_above (c + 1) cells (omega arith) ascends) in
      grind (arith, at, others, sum_by-cons before c cells, sum_by-cons after c cells)
  sum_by-either least c cells false is ascends rest among =
      let apart : c ≢ cell = grind (arith, nat_tests) in
      grind (arith, nat_tests, among, is, rest, same c apart, sum_by-cons before c cells, sum_by-cons after c cells)

  pub sum_by-changed : (least : ℕ) (cells : List ℕ) → ascend least cells ≡ true → is_among cells cell ≡ true → sum_by after cells + before cell ≡ sum_by before cells + after cell
  sum_by-changed least [] ascends among = grind (arith, nat_tests)
  sum_by-changed least (c ∷ cells) ascends among =
      let first = ascends_first (λ (k : ℕ). k) least c cells ascends in
      sum_by-either least c cells (eqb c cell) refl first.others (sum_by-changed (c + 1) cells first.others) among

  -- and the rows by the row of the cell
  rows_of-either : (c : ℕ) (cells : List ℕ) (here : Bool) → eqb c cell ≡ here → ascend (c + 1) cells ≡ true → (is_among cells cell ≡ true → rows_of after cells ≡ with_row (rows_of before cells) cell (after cell))
      → is_among (c ∷ cells) cell ≡ true → rows_of after (c ∷ cells) ≡ with_row (rows_of before (c ∷ cells)) cell (after cell)
  rows_of-either c cells true is ascends rest among =
      let at : c ≡ cell = grind (arith, nat_tests) in
      let others = rows_of-same before after cells (same_above (c + 1) cells (omega arith) ascends) in
      grind (arith, nat_tests, common_steps, at, others, none_below before cell (c + 1) cells (omega arith) ascends, all_above before cell (c + 1) cells (omega arith) ascends)
  rows_of-either c cells false is ascends rest among =
      let apart : c ≢ cell = grind (arith, nat_tests) in
      let within : is_among cells cell ≡ true = grind (arith, nat_tests) in
      let smaller : c < cell = omega (arith, among-least (c + 1) cells cell ascends within) in
      grind (arith, nat_tests, common_steps, smaller, rest within, same c apart)

  pub rows_of-changed : (least : ℕ) (cells : List ℕ) → ascend least cells ≡ true → is_among cells cell ≡ true → rows_of after cells ≡ with_row (rows_of before cells) cell (after cell)
  rows_of-changed least [] ascends among = grind (arith, nat_tests)
  rows_of-changed least (c ∷ cells) ascends among =
      let first = ascends_first (λ (k : ℕ). k) least c cells ascends in
      rows_of-either c cells (eqb c cell) refl first.others (rows_of-changed (c + 1) cells first.others) among

-- a cell weighs no more than all
pub among-le : (weight : ℕ → ℕ) (cells : List ℕ) (cell : ℕ) → is_among cells cell ≡ true → weight cell ≤ sum_by weight cells
among-le weight [] cell among = grind (arith, nat_tests)
among-le weight (c ∷ cells) cell among = grind (arith, nat_tests, among, sum_by-cons weight c cells, among-le weight cells cell)
