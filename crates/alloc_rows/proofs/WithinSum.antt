-- The weights inside a region are within the denominator.
use Rattle.std.proofs.Common.{◌≡◌, ℕ, ◌+◌, ◌<◌, ◌≤◌, Bool, List, [], ◌∷◌, get_or, length, filter, take, arith}
use Rattle.std.proofs.lemmas.List.Sums.{sum_by-cons, sum_by-take-le, sum_by_more_le}
use Rattle.std.specs.List.{sum_by}
use Rattle.cube_model.specs.Allocation.{Allocation}
use Rattle.cube_model.specs.Cells.{is_among}
use Rattle.alloc_rows.specs.Alloc.{IsAllocation}

-- the weight of the rows whose cells are among these
abbrev pub sum_inside : List ℕ → List (ℕ × ℕ) → ℕ
sum_inside cells rows = sum_by (λ row. row.1) (filter (λ row. is_among cells row.0) rows)

filter-le : (p : ℕ × ℕ → Bool) (rows : List (ℕ × ℕ)) → sum_by (λ row. row.1) (filter p rows) ≤ sum_by (λ row. row.1) rows
filter-le p [] = omega arith
filter-le p (row ∷ rows) = grind (arith, filter-le p rows, sum_by-cons (λ (row : ℕ × ℕ). row.1) row rows, sum_by-cons (λ (row : ℕ × ℕ). row.1) row (filter p rows))

inside-le : (cells : List ℕ) (rows : List (ℕ × ℕ)) → sum_inside cells rows ≤ sum_by (λ row. row.1) rows
inside-le cells rows = filter-le (λ row. is_among cells row.0) rows

module _ (cells : List ℕ) (a : Allocation) (rows : List (ℕ × ℕ)) (i sum : ℕ) (are : rows ≡ a.rows) (kept : IsAllocation a) (so_far : sum ≡ sum_inside cells (take i rows)) where
  total : sum_by (λ row. row.1) rows ≡ a.den
  total = rw are kept.total

  -- the sum of those before a row, with the row too
  pub inside-next-le : (d : ℕ × ℕ) → i < length rows → sum + (get_or rows i d).1 ≤ a.den
  inside-next-le d within = omega (arith, so_far, total, inside-le cells (take i rows), sum_by_more_le (λ (row : ℕ × ℕ). row.1) rows i d within)

  pub inside-so_far-le : sum ≤ a.den
  inside-so_far-le = omega (arith, so_far, total, inside-le cells (take i rows), sum_by-take-le (λ (row : ℕ × ℕ). row.1) rows i)
