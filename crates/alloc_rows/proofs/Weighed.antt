-- The rows of cells that are weighed one after another.
use Rattle.std.proofs.Common.{◌≡◌, ℕ, ◌+◌, ◌*◌, ◌<◌, ◌≤◌, true, false, List, [], ◌∷◌, ◌++◌, length, map, append_assoc, refl, ap, sym, ◌∙◌, arith}
use Rattle.std.specs.Prelude.{filter, nat_lt}
use Rattle.std.proofs.lemmas.Bool.Decides.{nat_tests}
use Rattle.std.proofs.lemmas.List.{append-nil, length-append, map-append}
use Rattle.std.proofs.lemmas.List.Elements.{filter-append}
use Rattle.std.proofs.lemmas.List.Sums.{sum_by_push}
use Rattle.std.specs.List.{sum_by}
use Rattle.cube_model.specs.Allocation.{rows_of}
use Rattle.cube_model.specs.Limits.{MAX_VALUE}

-- Some of the cells have been weighed, and the others are left. The total is bounded by the counts behind the weights.
pub record Weighed (weight count : ℕ → ℕ) (cells done left : List ℕ) (total : ℕ) (rows : List (ℕ × ℕ)) : Type 0 where
  pub all : done ++ left ≡ cells
  pub sum : total ≡ sum_by weight done
  pub rows_are : rows ≡ rows_of weight done
  pub bound : total ≤ length done + sum_by count done * MAX_VALUE

-- what a walk yielded is all, once nothing is left
pub walked : (done left cells : List ℕ) → done ++ left ≡ cells → left ≡ [] → done ≡ cells
walked done left cells all none = sym (append-nil done) ∙ ap (λ others. done ++ others) (sym none) ∙ all

-- one cell more
module _ (weight count : ℕ → ℕ) (cells done left rest : List ℕ) (cell total weighs : ℕ) (rows : List (ℕ × ℕ)) (so_far : Weighed weight count cells done left total rows) (next : left ≡ cell ∷ rest) (is : weighs ≡ weight cell) where
  all-more : (done ++ cell ∷ []) ++ rest ≡ cells
  all-more = append_assoc done (cell ∷ []) rest ∙ ap (λ others. done ++ others) (sym next) ∙ so_far.all

  rows-more : rows_of weight (done ++ cell ∷ []) ≡ rows ++ rows_of weight (cell ∷ [])
  rows-more =
      ap (filter (λ row. nat_lt 0 row.1)) (map-append (λ c. (c, weight c)) done (cell ∷ []))
      ∙ filter-append (λ row. nat_lt 0 row.1) (map (λ c. (c, weight c)) done) (map (λ c. (c, weight c)) (cell ∷ []))
      ∙ ap (λ before. before ++ rows_of weight (cell ∷ [])) (sym so_far.rows_are)

  -- that weighs nothing
  pub weighed-nothing : weighs ≤ 0 → Weighed weight count cells (done ++ cell ∷ []) rest total rows
  weighed-nothing none = record {
    all = all-more;
    sum = omega (arith, so_far.sum, sum_by_push weight done cell, is, none);
    rows_are = sym (rows-more ∙ ap (λ more. rows ++ more) no_row ∙ append-nil rows);
    bound = omega (arith, so_far.bound, length-append done (cell ∷ []), sum_by_push count done cell);
  }
    where
      no : nat_lt 0 (weight cell) ≡ false
      no = grind (arith, nat_tests, is, none)

      no_row : rows_of weight (cell ∷ []) ≡ []
      no_row = rw no refl

  -- that weighs something
  pub weighed-more : (now : List (ℕ × ℕ)) (after : ℕ) → 0 < weighs → weighs ≤ 1 + count cell * MAX_VALUE → after ≡ total + weighs → now ≡ rows ++ (cell, weighs) ∷ [] → Weighed weight count cells (done ++ cell ∷ []) rest after now
  weighed-more now after some most sum pushed = record {
    all = all-more;
    sum = omega (arith, so_far.sum, sum_by_push weight done cell, is, sum);
    rows_are = pushed ∙ ap (λ w. rows ++ (cell, w) ∷ []) is ∙ ap (λ more. rows ++ more) (sym a_row) ∙ sym rows-more;
    bound = omega (arith, so_far.bound, length-append done (cell ∷ []), sum_by_push count done cell, sum, most);
  }
    where
      yes : nat_lt 0 (weight cell) ≡ true
      yes = grind (arith, nat_tests, is, some)

      a_row : rows_of weight (cell ∷ []) ≡ (cell, weight cell) ∷ []
      a_row = rw yes refl
