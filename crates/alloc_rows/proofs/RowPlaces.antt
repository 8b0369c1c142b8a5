-- Where a row stands among rows that ascend by cell, and which rows are before it and behind it.
use Rattle.std.proofs.Common.{◌≡◌, ℕ, zero, suc, ◌+◌, ◌<◌, ◌≤◌, Bool, true, false, List, [], ◌∷◌, take, drop, get_or, add-one, length, filter, refl, ap, arith}
use Rattle.std.proofs.lemmas.Bool.Decides.{nat_tests}
use Rattle.std.specs.Prelude.{nat_lt}
use Rattle.cube_base.specs.Search.{IsKeyAt, IsKeyGap}
use Rattle.cube_model.specs.Ascending.{ascends_from}
use Rattle.cube_model.proofs.Ascending.{ascends_later}

abbrev pub no_row : ℕ × ℕ
no_row = (0, 0)

abbrev pub key : ℕ × ℕ → ℕ
key row = row.0

-- a filter that only the rows before a place pass, and one that only those from it on pass
filter-front : (p : ℕ × ℕ → Bool) (rows : List (ℕ × ℕ)) (n : ℕ) → ((i : ℕ) → i < n → i < length rows → p (get_or rows i no_row) ≡ true) → ((i : ℕ) → n ≤ i → i < length rows → p (get_or rows i no_row) ≡ false) → filter p rows ≡ take n rows
filter-front p [] zero before behind = refl
filter-front p [] (suc n) before behind = refl
filter-front p (row ∷ rows) zero before behind =
    let here : p row ≡ false = behind 0 (omega arith) (omega arith) in
    rw (here, filter-front p rows 0 (λ i lt within. absurd (omega arith)) (λ i le within. behind (suc i) (omega arith) (omega arith))) refl
filter-front p (row ∷ rows) (suc n) before behind =
    let here : p row ≡ true = before 0 (omega arith) (omega arith) in
    rw (here, filter-front p rows n (λ i lt within. before (suc i) (omega arith) (omega arith)) (λ i le within. behind (suc i) (omega arith) (omega arith))) refl

filter-back : (p : ℕ × ℕ → Bool) (rows : List (ℕ × ℕ)) (n : ℕ) → ((i : ℕ) → i < n → i < length rows → p (get_or rows i no_row) ≡ false) → ((i : ℕ) → n ≤ i → i < length rows → p (get_or rows i no_row) ≡ true) → filter p rows ≡ drop n rows
filter-back p [] zero before behind = refl
filter-back p [] (suc n) before behind = refl
filter-back p (row ∷ rows) zero before behind =
    let here : p row ≡ true = behind 0 (omega arith) (omega arith) in
    rw (here, filter-back p rows 0 (λ i lt within. absurd (omega arith)) (λ i le within. behind (suc i) (omega arith) (omega arith))) refl
filter-back p (row ∷ rows) (suc n) before behind =
    let here : p row ≡ false = before 0 (omega arith) (omega arith) in
    rw (here, filter-back p rows n (λ i lt within. before (suc i) (omega arith) (omega arith)) (λ i le within. behind (suc i) (omega arith) (omega arith))) refl

module _ (rows : List (ℕ × ℕ)) (cell place : ℕ) (ascends : ascends_from key 0 rows ≡ true) (at : IsKeyAt key no_row rows cell place) where
  rises : (i j : ℕ) → i < j → j < length rows → key (get_or rows i no_row) < key (get_or rows j no_row)
  rises i j before within = ascends_later key 0 rows ascends i j no_row no_row before within

  -- the rows before it are of smaller cells
  pub below_at : filter (λ row. nat_lt row.0 cell) rows ≡ take place rows
  below_at = filter-front (λ row. nat_lt row.0 cell) rows place (λ i lt within. smaller i lt) (λ i le within. later i le within)
    where
      smaller : (i : ℕ) → i < place → nat_lt (get_or rows i no_row).0 cell ≡ true
      smaller i lt = grind (arith, nat_tests, at.has_key, rises i place lt at.in_range)

      later : (i : ℕ) → place ≤ i → i < length rows → nat_lt (get_or rows i no_row).0 cell ≡ false
      later i le within = grind (arith, nat_tests, at.has_key, rises place i, λ (same : place ≡ i). ap (λ n. key (get_or rows n no_row)) same)

  -- those behind it are of greater ones
  pub above_at : filter (λ row. nat_lt cell row.0) rows ≡ drop (place + 1) rows
  above_at = rw add-one (filter-back (λ row. nat_lt cell row.0) rows (suc place) (λ i lt within. sooner i lt) (λ i le within. greater i le within))
    where
      sooner : (i : ℕ) → i < suc place → nat_lt cell (get_or rows i no_row).0 ≡ false
      sooner i lt = grind (arith, nat_tests, at.has_key, at.in_range, rises i place, λ (same : i ≡ place). ap (λ n. key (get_or rows n no_row)) same)

      greater : (i : ℕ) → suc place ≤ i → i < length rows → nat_lt cell (get_or rows i no_row).0 ≡ true
      greater i le within = grind (arith, nat_tests, at.has_key, rises place i (omega arith) within)

module _ (rows : List (ℕ × ℕ)) (cell place : ℕ) (gap : IsKeyGap key no_row rows cell place) where
  -- the rows before a gap are of smaller cells
  pub below_gap : filter (λ row. nat_lt row.0 cell) rows ≡ take place rows
  below_gap = filter-front (λ row. nat_lt row.0 cell) rows place (λ i lt within. grind (arith, nat_tests, gap.smaller_before i lt)) (λ i le within. grind (arith, nat_tests, gap.greater_after i le within))

  -- those from it on are of greater ones
  pub above_gap : filter (λ row. nat_lt cell row.0) rows ≡ drop place rows
  above_gap = filter-back (λ row. nat_lt cell row.0) rows place (λ i lt within. grind (arith, nat_tests, gap.smaller_before i lt)) (λ i le within. grind (arith, nat_tests, gap.greater_after i le within))
