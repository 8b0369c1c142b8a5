-- The whole numbers next to fractions bound what the fractions add up to.
use Rattle.std.proofs.Common.{◌≡◌, ℕ, ◌*◌, ◌/◌, ◌≤◌, List, [], ◌∷◌, sym, ap, ◌∙◌, arith, ℤ, pos, neg_ℤ, ◌+ℤ◌, ◌*ℤ◌, ◌≤ℤ◌, ◌<ℤ◌}
use Rattle.std.specs.Prelude.{nat_abs}
use Rattle.std.specs.Int.{◌∣◌}
use Rattle.std.proofs.lemmas.Int.{ints}
use Rattle.std.proofs.Math.Nat.{mul-div_cancel', div-mul_cancel}
use Rattle.cube_model.specs.Answer.{total_by}
use Rattle.cube_model.proofs.Products.{times-sum}
use Rattle.exact_fraction.specs.Number.{gcd}
use Rattle.exact_fraction.specs.Fraction.{UNIT, Fraction, reduced, sum_over, floor_of, ceiling_of}
use Rattle.exact_fraction.specs.Laws.{IsCommonMultiple, AreBounds, BoundSum, IsLowest, EqualsSum}
use Rattle.exact_fraction.proofs.Divisors.{gcd-is, gcd_some, gcd_unique, apart-cofactors, cofactor_some}
use Rattle.exact_fraction.proofs.Products.{times-times, times_swapped, sum-le-sum, times-le-times, le_of_times-le-times, lt_of_times-lt-times, eq_of_times-eq-times, int_div-times, rounds_down, neg-times, neg-le-neg}
use Rattle.exact_fraction.proofs.Columns.{reduced_size}
use Rattle.exact_fraction.proofs.Passes.{AreFractions, first_of, rest_of}

-- the whole numbers next to a fraction
module _ (f : Fraction) (some : 1 ≤ f.den) where
  pub floor_below : (floor_of f *ℤ pos f.den) ≤ℤ (f.num *ℤ pos UNIT)
  floor_below = (rounds_down (f.num *ℤ pos UNIT) f.den some).0

  ceiling_above : (f.num *ℤ pos UNIT) ≤ℤ (ceiling_of f *ℤ pos f.den)
  ceiling_above =
      let below = (rounds_down (neg_ℤ f.num *ℤ pos UNIT) f.den some).0 in
      rw neg-times (neg-le-neg _ _ (rw (← neg-times f.num UNIT) below))

  -- bound it
  pub next_bound : AreBounds (floor_of f) (ceiling_of f) f.num f.den
  next_bound = record { above_lo = floor_below; below_hi = ceiling_above }

  -- and are at most one apart
  pub next_close : ceiling_of f ≤ℤ (floor_of f +ℤ pos 1)
  next_close =
      let a = f.num *ℤ pos UNIT in
      let below = (rounds_down a f.den some).1 in
      let above : neg_ℤ a <ℤ (floor_of (record { num = neg_ℤ f.num; den = f.den }) *ℤ pos f.den +ℤ pos f.den) = rw (← neg-times f.num UNIT) (rounds_down (neg_ℤ f.num *ℤ pos UNIT) f.den some).1 in
      let ceiling = neg-times (floor_of (record { num = neg_ℤ f.num; den = f.den })) f.den in
      let wide : (ceiling_of f *ℤ pos f.den) <ℤ ((floor_of f +ℤ pos 2) *ℤ pos f.den) = rw (times-sum (floor_of f) (pos 2) f.den) (omega (arith, ints)) in
      let close = lt_of_times-lt-times (ceiling_of f) (floor_of f +ℤ pos 2) f.den wide in
      omega (arith, ints)

-- bounds of a fraction bound it over a multiple of its denominator
scaled_bounds : (lo hi num : ℤ) (den multiple : ℕ) → den ∣ multiple → AreBounds lo hi num den → AreBounds lo hi (num *ℤ pos (multiple / den)) multiple
scaled_bounds lo hi num den multiple divides are =
    let whole : den * (multiple / den) ≡ multiple = mul-div_cancel' den divides in
    let grown : (x : ℤ) → x *ℤ pos den *ℤ pos (multiple / den) ≡ x *ℤ pos multiple = λ x. times-times x den (multiple / den) ∙ ap (λ n. x *ℤ pos n) whole in
    let turned : num *ℤ pos UNIT *ℤ pos (multiple / den) ≡ num *ℤ pos (multiple / den) *ℤ pos UNIT = times_swapped num UNIT (multiple / den) in
    record {
      above_lo = rw (← grown lo, ← turned) (times-le-times _ _ (multiple / den) are.above_lo);
      below_hi = rw (← grown hi, ← turned) (times-le-times _ _ (multiple / den) are.below_hi);
    }

-- bounds add up
summed_bounds : (lo hi num lo' hi' num' : ℤ) (multiple : ℕ) → AreBounds lo hi num multiple → AreBounds lo' hi' num' multiple → AreBounds (lo +ℤ lo') (hi +ℤ hi') (num +ℤ num') multiple
summed_bounds lo hi num lo' hi' num' multiple first second = record {
  above_lo = rw (times-sum lo lo' multiple, times-sum num num' UNIT) (sum-le-sum _ _ _ _ first.above_lo second.above_lo);
  below_hi = rw (times-sum hi hi' multiple, times-sum num num' UNIT) (sum-le-sum _ _ _ _ first.below_hi second.below_hi);
}

-- so do those of each fraction
pub totals_bound : (fs : List Fraction) → AreFractions fs → BoundSum (total_by floor_of fs) (total_by ceiling_of fs) fs
totals_bound [] some multiple is = record { above_lo = omega (arith, ints); below_hi = omega (arith, ints) }
totals_bound (f ∷ fs) some multiple is =
    let here = first_of (λ (f : Fraction). 1 ≤ f.den) f fs some in
    let divides = first_of (λ (f : Fraction). f.den ∣ multiple) f fs is.each in
    let others : IsCommonMultiple multiple fs = record { some = is.some; each = rest_of (λ (f : Fraction). f.den ∣ multiple) f fs is.each } in
    summed_bounds (floor_of f) (ceiling_of f) (f.num *ℤ pos (multiple / f.den)) (total_by floor_of fs) (total_by ceiling_of fs) (sum_over multiple fs) multiple
    (scaled_bounds (floor_of f) (ceiling_of f) f.num f.den multiple divides (next_bound f here))
    (totals_bound fs (rest_of (λ (f : Fraction). 1 ≤ f.den) f fs some) multiple others)

-- a fraction and its lowest terms
module _ (num : ℤ) (den : ℕ) (some : 1 ≤ den) where
  pub reduced_num : (reduced num den).num *ℤ pos (gcd (nat_abs num) den) ≡ num
  reduced_num = int_div-times num (gcd (nat_abs num) den) (gcd-is (nat_abs num) den some).0

  pub reduced_den : (reduced num den).den * gcd (nat_abs num) den ≡ den
  reduced_den = div-mul_cancel (gcd (nat_abs num) den) (gcd-is (nat_abs num) den some).1

  reduced_apart : gcd (nat_abs (reduced num den).num) (reduced num den).den ≡ 1
  reduced_apart =
      let g = gcd (nat_abs num) den in
      let is = gcd-is (nat_abs num) den some in
      let apart = apart-cofactors g (nat_abs num / g) (den / g) (gcd_some (nat_abs num) den some) (rw (mul-div_cancel' g is.0, mul-div_cancel' g is.1) is) in
      rw (reduced_size num den) (gcd_unique (nat_abs num / g) (den / g) 1 (cofactor_some (nat_abs num) den some) apart)

  pub reduced_lowest : IsLowest (floor_of (reduced num den)) (ceiling_of (reduced num den)) (reduced num den).num (reduced num den).den
  reduced_lowest =
      let some_den = cofactor_some (nat_abs num) den some in
      record { some = some_den; lowest = reduced_apart; bounds = next_bound (reduced num den) some_den; close = next_close (reduced num den) some_den }

-- the sums over two common multiples stand to each other as these
pub crossed : (fs : List Fraction) (m n : ℕ) → IsCommonMultiple m fs → IsCommonMultiple n fs → sum_over m fs *ℤ pos n ≡ sum_over n fs *ℤ pos m
crossed [] m n is_m is_n = ap pos (omega arith)
crossed (f ∷ fs) m n is_m is_n =
    let m_is : f.den * (m / f.den) ≡ m = mul-div_cancel' f.den (first_of (λ (f : Fraction). f.den ∣ m) f fs is_m.each) in
    let n_is : f.den * (n / f.den) ≡ n = mul-div_cancel' f.den (first_of (λ (f : Fraction). f.den ∣ n) f fs is_n.each) in
    let others_m : IsCommonMultiple m fs = record { some = is_m.some; each = rest_of (λ (f : Fraction). f.den ∣ m) f fs is_m.each } in
    let others_n : IsCommonMultiple n fs = record { some = is_n.some; each = rest_of (λ (f : Fraction). f.den ∣ n) f fs is_n.each } in
    let turned : m / f.den * n ≡ n / f.den * m = cross f.den (m / f.den) (n / f.den) m n m_is n_is in
    let here : f.num *ℤ pos (m / f.den) *ℤ pos n ≡ f.num *ℤ pos (n / f.den) *ℤ pos m = times-times f.num (m / f.den) n ∙ ap (λ k. f.num *ℤ pos k) turned ∙ sym (times-times f.num (n / f.den) m) in
    times-sum (f.num *ℤ pos (m / f.den)) (sum_over m fs) n ∙ ap (λ z. z +ℤ sum_over m fs *ℤ pos n) here ∙ ap (λ z. f.num *ℤ pos (n / f.den) *ℤ pos m +ℤ z) (crossed fs m n others_m others_n) ∙ sym (times-sum (f.num *ℤ pos (n / f.den)) (sum_over n fs) m)
  where
    cross : (d x y m n : ℕ) → d * x ≡ m → d * y ≡ n → x * n ≡ y * m
    cross d x y m n m_is n_is = rw (← m_is, ← n_is) (omega arith)

-- so the sum over one common multiple, in lowest terms, is the sum over each
pub reduced_equals : (fs : List Fraction) (m : ℕ) → IsCommonMultiple m fs → EqualsSum (reduced (sum_over m fs) m).num (reduced (sum_over m fs) m).den fs
reduced_equals fs m is n is_n =
    let f = reduced (sum_over m fs) m in
    let g = gcd (nat_abs (sum_over m fs)) m in
    eq_of_times-eq-times (f.num *ℤ pos n) (sum_over n fs *ℤ pos f.den) g (gcd_some (nat_abs (sum_over m fs)) m is.some)
    (times_swapped f.num n g ∙ ap (λ z. z *ℤ pos n) (reduced_num (sum_over m fs) m is.some) ∙ crossed fs m n is is_n ∙ ap (λ k. sum_over n fs *ℤ pos k) (sym (reduced_den (sum_over m fs) m is.some)) ∙ sym (times-times (sum_over n fs) f.den g))

-- bounds of a fraction bound each fraction that it equals
pub equal_bounds : (lo hi num num' : ℤ) (den den' : ℕ) → 1 ≤ den → AreBounds lo hi num den → num *ℤ pos den' ≡ num' *ℤ pos den → AreBounds lo hi num' den'
equal_bounds lo hi num num' den den' some are equals =
    let value : num *ℤ pos UNIT *ℤ pos den' ≡ num' *ℤ pos UNIT *ℤ pos den = times_swapped num UNIT den' ∙ ap (λ z. z *ℤ pos UNIT) equals ∙ times_swapped num' den UNIT in
    record {
      above_lo = le_of_times-le-times (lo *ℤ pos den') (num' *ℤ pos UNIT) den some (rw (times_swapped lo den' den, ← value) (times-le-times _ _ den' are.above_lo));
      below_hi = le_of_times-le-times (num' *ℤ pos UNIT) (hi *ℤ pos den') den some (rw (times_swapped hi den' den, ← value) (times-le-times _ _ den' are.below_hi));
    }
