-- How a column's sums over a common multiple compare with those of the count.
use Rattle.std.proofs.Common.{◌≡◌, ℕ, zero, suc, ◌+◌, ◌*◌, ◌/◌, ◌<◌, ◌≤◌, true, List, [], ◌∷◌, length, refl, ap, ◌∙◌, arith, ℤ, pos, ◌*ℤ◌}
use Rattle.std.specs.Prelude.{nat_abs, All}
use Rattle.std.specs.Int.{◌∣◌}
use Rattle.std.proofs.lemmas.Int.{unsigned_abs-mul}
use Rattle.std.proofs.lemmas.List.Sums.{sum_by-cons}
use Rattle.std.proofs.lemmas.Bool.Decides.{nat_tests}
use Rattle.std.proofs.Math.Nat.{mul-div_cancel', div-mul_cancel, mul-le-mul_right, le_of_mul-le-mul_right, one-le-mul}
use Rattle.cube_model.specs.declared.term.Term.{Term}
use Rattle.cube_model.specs.Limits.{MAX_VALUE}
use Rattle.group_sum.specs.Terms.{are_terms_from}
use Rattle.group_sum.proofs.Ascending.{first_is}
use Rattle.exact_fraction.specs.Number.{gcd}
use Rattle.exact_fraction.specs.Fraction.{Fraction, reduced, term_fraction, column_fractions, sum_over, abs_over}
use Rattle.exact_fraction.specs.Moderate.{IsModerateTerm}
use Rattle.exact_fraction.specs.Laws.{IsCommonMultiple}
use Rattle.exact_fraction.proofs.Divisors.{gcd-is}
use Rattle.exact_fraction.proofs.Columns.{column_of, column_bound, reduced_size}
use Rattle.exact_fraction.proofs.Passes.{first_of, rest_of, sum_small}

-- the sum of a first fraction and the others
pub abs_over-cons : (multiple : ℕ) (f : Fraction) (fs : List Fraction) → abs_over multiple (f ∷ fs) ≡ nat_abs f.num * (multiple / f.den) + abs_over multiple fs
abs_over-cons multiple f fs = sum_by-cons (λ (f : Fraction). nat_abs f.num * (multiple / f.den)) f fs

-- a sum is no larger than its absolute values together
pub sum_within_abs : (multiple : ℕ) (fs : List Fraction) → nat_abs (sum_over multiple fs) ≤ abs_over multiple fs
sum_within_abs multiple [] = omega arith
sum_within_abs multiple (f ∷ fs) =
    let here : nat_abs (f.num *ℤ pos (multiple / f.den)) ≤ nat_abs f.num * (multiple / f.den) = omega (arith, unsigned_abs-mul f.num (pos (multiple / f.den))) in
    rw (abs_over-cons multiple f fs) (sum_small (f.num *ℤ pos (multiple / f.den)) (sum_over multiple fs) (nat_abs f.num * (multiple / f.den)) (abs_over multiple fs) here (sum_within_abs multiple fs))

-- a share of a fraction in lowest terms, times the denominator that it had
share_times : (num : ℤ) (den multiple : ℕ) → 1 ≤ den → (reduced num den).den ∣ multiple → nat_abs (reduced num den).num * (multiple / (reduced num den).den) * den ≡ nat_abs num * multiple
share_times num den multiple some divides =
    let is = gcd-is (nat_abs num) den some in
    let size_is : (nat_abs (reduced num den).num) * gcd (nat_abs num) den ≡ nat_abs num = ap (λ n. n * gcd (nat_abs num) den) (reduced_size num den) ∙ div-mul_cancel (gcd (nat_abs num) den) is.0 in
    let den_is : (reduced num den).den * gcd (nat_abs num) den ≡ den = div-mul_cancel (gcd (nat_abs num) den) is.1 in
    let multiple_is : (reduced num den).den * (multiple / (reduced num den).den) ≡ multiple = mul-div_cancel' (reduced num den).den divides in
    joined (nat_abs (reduced num den).num) (multiple / (reduced num den).den) (reduced num den).den (gcd (nat_abs num) den) (nat_abs num) den multiple size_is den_is multiple_is
  where
    joined : (x q d g n den m : ℕ) → x * g ≡ n → d * g ≡ den → d * q ≡ m → x * q * den ≡ n * m
    joined x q d g n den m size_is den_is multiple_is = rw (← size_is, ← den_is, ← multiple_is) (omega arith)

-- a share of a number that is at most so many times another is at most so many times that one's share
share_le_share : (most : ℕ) (num count : ℤ) (den multiple : ℕ) → 1 ≤ den → (reduced num den).den ∣ multiple → (reduced count den).den ∣ multiple → nat_abs num ≤ most * nat_abs count
    → nat_abs (reduced num den).num * (multiple / (reduced num den).den) ≤ most * (nat_abs (reduced count den).num * (multiple / (reduced count den).den))
share_le_share most num count den multiple some divides divides_count le =
    let first = share_times num den multiple some divides in
    let second = share_times count den multiple some divides_count in
    le_of_mul-le-mul_right (scaled _ _ (nat_abs num) (nat_abs count) first second le) some
  where
    scaled : (x y n k : ℕ) → x * den ≡ n * multiple → y * den ≡ k * multiple → n ≤ most * k → x * den ≤ most * y * den
    scaled x y n k first second le = omega (arith, first, ap (λ z. most * z) second, mul-le-mul_right multiple le)

module _ (columns column : ℕ) (in_columns : column < columns) (multiple : ℕ) where
  -- a column is at most MAX_VALUE times the count
  pub abs_over_count : (least : ℕ) (terms : List Term) → 1 ≤ least → are_terms_from columns least terms ≡ true → All IsModerateTerm terms → IsCommonMultiple multiple (column_fractions column terms) → IsCommonMultiple multiple (column_fractions 0 terms)
      → abs_over multiple (column_fractions column terms) ≤ MAX_VALUE * abs_over multiple (column_fractions 0 terms)
  abs_over_count least [] from ok moderate is is_count = omega arith
  abs_over_count least (t ∷ terms) from ok moderate is is_count =
      let first = first_is columns least t terms ok in
      let whole = first.whole in
      let within : column ≤ length t.sums = grind (arith, nat_tests) in
      let divides = first_of (λ (f : Fraction). f.den ∣ multiple) (term_fraction column t) (column_fractions column terms) is.each in
      let divides_count = first_of (λ (f : Fraction). f.den ∣ multiple) (term_fraction 0 t) (column_fractions 0 terms) is_count.each in
      let others : IsCommonMultiple multiple (column_fractions column terms) = record { some = is.some; each = rest_of (λ (f : Fraction). f.den ∣ multiple) (term_fraction column t) (column_fractions column terms) is.each } in
      let others_count : IsCommonMultiple multiple (column_fractions 0 terms) = record { some = is_count.some; each = rest_of (λ (f : Fraction). f.den ∣ multiple) (term_fraction 0 t) (column_fractions 0 terms) is_count.each } in
      let here = share_le_share MAX_VALUE (column_of column t) (pos t.count) t.den multiple (omega (arith, first.from)) divides divides_count (column_bound t (moderate 0 t (omega arith)) column within) in
      let rest = abs_over_count (t.den + 1) terms (omega arith) first.others (λ k d lt. moderate (suc k) d (omega arith)) others others_count in
      rw (abs_over-cons multiple (term_fraction column t) (column_fractions column terms), abs_over-cons multiple (term_fraction 0 t) (column_fractions 0 terms)) (omega arith)

-- the count is its absolute value, and at least 1
pub count_over : (multiple : ℕ) (terms : List Term) → sum_over multiple (column_fractions 0 terms) ≡ pos (abs_over multiple (column_fractions 0 terms))
count_over multiple [] = refl
count_over multiple (t ∷ terms) =
    rw (abs_over-cons multiple (term_fraction 0 t) (column_fractions 0 terms), count_over multiple terms) refl

pub count_some : (columns multiple : ℕ) (terms : List Term) → 1 ≤ length terms → are_terms_from columns 1 terms ≡ true → IsCommonMultiple multiple (column_fractions 0 terms) → 1 ≤ abs_over multiple (column_fractions 0 terms)
count_some columns multiple [] some ok is = absurd (omega arith)
count_some columns multiple (t ∷ terms) some ok is =
    let first = first_is columns 1 t terms ok in
    let whole = first.whole in
    let counted : 1 ≤ t.count = grind (arith, nat_tests) in
    let divides = first_of (λ (f : Fraction). f.den ∣ multiple) (term_fraction 0 t) (column_fractions 0 terms) is.each in
    let share = share_times (pos t.count) t.den multiple first.from divides in
    rw (abs_over-cons multiple (term_fraction 0 t) (column_fractions 0 terms)) (above _ (abs_over multiple (column_fractions 0 terms)) t.den (t.count * multiple) share (one-le-mul counted is.some))
  where
    above : (x rest den n : ℕ) → x * den ≡ n → 1 ≤ n → 1 ≤ x + rest
    above zero rest den n e some = absurd (omega arith)
    above (suc x) rest den n e some = omega arith
