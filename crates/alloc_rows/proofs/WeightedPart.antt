-- What there is by weight alone of what is spread.
use Rattle.std.proofs.Common.{◌≡◌, ℕ, ◌+◌, ◌*◌, ◌<◌, ◌≤◌, List, [], ◌∷◌, get_or, length, refl, arith}
use Rattle.std.proofs.lemmas.Bool.Decides.{nat_tests}
use Rattle.std.proofs.lemmas.List.Sums.{sum_by-cons}
use Rattle.std.specs.List.{sum_by}
use Rattle.cube_model.specs.Allocation.{Allocation, rows_of, spread, spread_by}
use Rattle.cube_model.specs.Limits.{MAX_VALUE}
use Rattle.alloc_rows.specs.Alloc.{IsAllocation}
use Rattle.alloc_rows.specs.Rows.{first_weight, weighted_part}

-- where all cells weigh 0 there are no rows by weight
none_weigh : (weight : ℕ → ℕ) (cells : List ℕ) → sum_by weight cells ≡ 0 → rows_of weight cells ≡ []
none_weigh weight [] sum = refl
none_weigh weight (cell ∷ cells) sum = grind (arith, nat_tests, sum, sum_by-cons weight cell cells, none_weigh weight cells)

-- else the first row's cell weighs something
first_weighs : (weight : ℕ → ℕ) (cells : List ℕ) → 1 ≤ sum_by weight cells → 1 ≤ first_weight weight (rows_of weight cells)
first_weighs weight [] some = absurd (omega arith)
first_weighs weight (cell ∷ cells) some = grind (arith, nat_tests, some, sum_by-cons weight cell cells, first_weighs weight cells)

-- Of what is spread over several cells there is that by weight.
pub weighted_part-spread : (weight : ℕ → ℕ) (cells : List ℕ) → 1 < length cells → weighted_part weight (spread weight cells) ≡ spread_by weight cells
weighted_part-spread weight [] several = absurd (omega arith)
weighted_part-spread weight (cell ∷ cells) several =
    grind (arith, nat_tests, several, sum_by-cons weight cell cells, none_weigh weight (cell ∷ cells), first_weighs weight (cell ∷ cells))

-- weights that are bounded by counts add up to no more than these allow
pub sum_by-bounded : (weight count : ℕ → ℕ) (cells : List ℕ) → ((cell : ℕ) → weight cell ≤ 1 + count cell * MAX_VALUE) → sum_by weight cells ≤ length cells + sum_by count cells * MAX_VALUE
sum_by-bounded weight count [] bound = omega arith
sum_by-bounded weight count (cell ∷ cells) bound = omega (arith, bound cell, sum_by-cons weight cell cells, sum_by-cons count cell cells, sum_by-bounded weight count cells bound)

-- the first row's cell, as it is read
pub first_weight-read : (weight : ℕ → ℕ) (rows : List (ℕ × ℕ)) (d : ℕ × ℕ) → 1 ≤ length rows → first_weight weight rows ≡ weight (get_or rows 0 d).0
first_weight-read weight [] d some = absurd (omega arith)
first_weight-read weight (row ∷ rows) d some = refl

-- an allocation has rows, since they weigh something
pub some_rows : (a : Allocation) → IsAllocation a → 1 ≤ length a.rows
some_rows a is = some_from a.rows (omega (arith, is.total, is.some))
  where
    some_from : (rows : List (ℕ × ℕ)) → 1 ≤ sum_by (λ row. row.1) rows → 1 ≤ length rows
    some_from [] some = some
    some_from (row ∷ rows) some = omega arith
