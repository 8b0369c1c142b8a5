-- What the row of a term becomes when another is added to it or taken from it.
use Rattle.std.proofs.Common.{◌≡◌, ℕ, zero, suc, ◌+◌, ◌-◌, ◌<◌, ◌≤◌, List, [], ◌∷◌, length, get_or, ℤ, pos, ◌-ℤ◌, nat_abs, Some, sym, ap, subst, ◌∙◌, refl, arith}
use Rattle.std.proofs.lemmas.Int.{ints}
use Rattle.cube_model.specs.declared.term.Term.{Term}
use Rattle.cube_model.specs.Limits.{WIDE}
use Rattle.group_sum.specs.Heads.{AreWithin, IsTermOf, Lists, remainder_in, total_in}
use Rattle.group_sum.specs.Rows.{IsRow, difference_at, row_of, row_term, total_at}

-- the numerators of two terms that are added up fit
pub total_fits : (x y : Term) → x.count + y.count ≤ WIDE → AreWithin (length x.sums) (total_in (Some x) (Some y)) → AreWithin (length (row_of x)) (total_at (row_of x) (row_of y))
total_fits x y count sums = record { each = each }
  where
    each : (k : ℕ) → k < length (row_of x) → nat_abs (total_at (row_of x) (row_of y) k) ≤ WIDE
    each zero lt = count
    each (suc k) lt = sums.each k (omega arith)

-- and those of one that is taken from the other
pub difference_fits : (x y : Term) → y.count ≤ x.count → x.count ≤ WIDE → AreWithin (length x.sums) (remainder_in (Some x) (Some y)) → AreWithin (length (row_of x)) (difference_at (row_of x) (row_of y))
difference_fits x y less count sums = record { each = each }
  where
    each : (k : ℕ) → k < length (row_of x) → nat_abs (difference_at (row_of x) (row_of y) k) ≤ WIDE
    each zero lt =
        let left : pos x.count -ℤ pos y.count ≡ pos (x.count - y.count) = omega (arith, ints) in
        let bound : nat_abs (pos (x.count - y.count)) ≤ WIDE = omega arith in
        subst (λ z. nat_abs z ≤ WIDE) (sym left) bound
    each (suc k) lt = sums.each k (omega arith)

-- a row is that of a term with these numerators
pub record IsRowOf (den values weight : ℕ) (numerator : ℕ → ℤ) (row : List ℤ) : Type 0 where
  pub is_row : IsRow row
  pub term : IsTermOf den values weight numerator (row_term den row)

row_becomes : (den values weight : ℕ) (numerator : ℕ → ℤ) (row : List ℤ) → length row ≡ suc values → get_or row 0 (pos 0) ≡ pos weight → ((k : ℕ) → k < values → get_or row (suc k) (pos 0) ≡ numerator k) → IsRowOf den values weight numerator row
row_becomes den values weight numerator [] len count sums = absurd (omega arith)
row_becomes den values weight numerator (first ∷ others) len count sums =
    let own : IsRow (first ∷ others) = subst (λ z. IsRow (z ∷ others)) (sym count) refl in
    record {
      is_row = own;
      term = record {
        has_den = refl;
        count = ap nat_abs count;
        columns = omega arith;
        sums = record { each = λ k lt. sums k (omega arith) };
      };
    }

-- the row of one term with that of another added is that of the total
pub total_row : (x y : Term) (row : List ℤ) → length row ≡ length (row_of x) → Lists row (total_at (row_of x) (row_of y)) → IsRowOf x.den (length x.sums) (x.count + y.count) (total_in (Some x) (Some y)) row
total_row x y row len lists = row_becomes x.den (length x.sums) (x.count + y.count) (total_in (Some x) (Some y)) row len (lists.each 0 (omega arith)) (λ k lt. lists.each (suc k) (omega arith))

-- and with it taken away that of what is left
pub difference_row : (x y : Term) (row : List ℤ) → y.count ≤ x.count → length row ≡ length (row_of x) → Lists row (difference_at (row_of x) (row_of y)) → IsRowOf x.den (length x.sums) (x.count - y.count) (remainder_in (Some x) (Some y)) row
difference_row x y row less len lists =
    let left : pos x.count -ℤ pos y.count ≡ pos (x.count - y.count) = omega (arith, ints) in
    let first : get_or row 0 (pos 0) ≡ pos x.count -ℤ pos y.count = lists.each 0 (omega arith) in
    row_becomes x.den (length x.sums) (x.count - y.count) (remainder_in (Some x) (Some y)) row len (omega (arith, ints, first, left)) (λ k lt. lists.each (suc k) (omega arith))

-- The row of a term, a row to be added to it or taken from it, and what it becomes.
pub record IsRowPair (columns : ℕ) (x : Term) (row other : List ℤ) : Type 0 where
  pub of_term : row ≡ row_of x
  pub len : length (row_of x) ≡ columns
  pub is_row : IsRow other

module _ (columns : ℕ) (x : Term) (row other : List ℤ) (pair : IsRowPair columns x row other) where
  -- a term has one sum less than numerators
  values_are : length x.sums ≡ columns - 1
  values_are = omega (arith, pair.len)

  pub total_fits_row : x.count + (row_term 0 other).count ≤ WIDE → AreWithin (columns - 1) (total_in (Some x) (Some (row_term 0 other))) → AreWithin (length row) (total_at row other)
  total_fits_row count sums =
      let fits = total_fits x (row_term 0 other) count (rw values_are sums) in
      rw pair.of_term (subst (λ o. AreWithin (length (row_of x)) (total_at (row_of x) o)) pair.is_row fits)

  pub difference_fits_row : (row_term 0 other).count ≤ x.count → x.count ≤ WIDE → AreWithin (columns - 1) (remainder_in (Some x) (Some (row_term 0 other))) → AreWithin (length row) (difference_at row other)
  difference_fits_row less most sums =
      let fits = difference_fits x (row_term 0 other) less most (rw values_are sums) in
      rw pair.of_term (subst (λ o. AreWithin (length (row_of x)) (difference_at (row_of x) o)) pair.is_row fits)

  pub total_of_row : (new : List ℤ) → length new ≡ columns → Lists new (total_at row other) → IsRowOf x.den (length x.sums) (x.count + (row_term 0 other).count) (total_in (Some x) (Some (row_term 0 other))) new
  total_of_row new len lists =
      let of_x : Lists new (total_at (row_of x) other) = subst (λ r. Lists new (total_at r other)) pair.of_term lists in
      total_row x (row_term 0 other) new (len ∙ sym pair.len) (subst (λ o. Lists new (total_at (row_of x) o)) (sym pair.is_row) of_x)

  pub difference_of_row : (new : List ℤ) → length new ≡ columns → (row_term 0 other).count ≤ x.count → Lists new (difference_at row other) → IsRowOf x.den (columns - 1) (x.count - (row_term 0 other).count) (remainder_in (Some x) (Some (row_term 0 other))) new
  difference_of_row new len less lists =
      let of_x : Lists new (difference_at (row_of x) other) = subst (λ r. Lists new (difference_at r other)) pair.of_term lists in
      rw (← values_are) (difference_row x (row_term 0 other) new less (len ∙ sym pair.len) (subst (λ o. Lists new (difference_at (row_of x) o)) (sym pair.is_row) of_x))
