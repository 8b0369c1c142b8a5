-- The bounds of a moderate column can be divided by those of its count.
use Rattle.std.proofs.Common.{◌≡◌, ℕ, suc, ◌+◌, ◌*◌, ◌<◌, ◌≤◌, List, [], ◌∷◌, length, refl, subst, sym, inl, inr, arith, ℤ, pos, negsuc, neg_ℤ, ◌+ℤ◌, ◌≤ℤ◌}
use Rattle.std.specs.Prelude.{nat_abs, All}
use Rattle.std.proofs.lemmas.Int.{ints}
use Rattle.std.proofs.lemmas.Bool.{cases_Bool}
use Rattle.std.proofs.lemmas.List.{length-map}
use Rattle.std.proofs.Math.Nat.{mul-le-mul_left, mul-le-mul_right, mul-le-mul, le_of_mul-le-mul_right}
use Rattle.cube_model.specs.declared.term.Term.{Term}
use Rattle.cube_model.specs.Answer.{total_by}
use Rattle.cube_model.specs.Limits.{MAX_FACTS, MAX_VALUE, WIDE}
use Rattle.group_sum.specs.Terms.{TermList, AreTerms}
use Rattle.exact_fraction.specs.Fraction.{UNIT, Fraction, reduced, term_fraction, column_fractions, common_den, sum_over, abs_over, floor_of, ceiling_of}
use Rattle.exact_fraction.specs.Moderate.{IsModerate}
use Rattle.exact_fraction.specs.Signed.{MOST_WHOLE}
use Rattle.exact_fraction.specs.declared.sums.Value.{Value}
use Rattle.exact_fraction.specs.One.{is_wide, sum_of}
use Rattle.exact_fraction.specs.Ratio.{joint_den, CanDivide}
use Rattle.exact_fraction.specs.Laws.{AreBounds}
use Rattle.exact_fraction.proofs.Products.{times-le-times, le_of_times-le-times, neg-times}
use Rattle.exact_fraction.proofs.Columns.{column_of, column_small}
use Rattle.exact_fraction.proofs.Passes.{AreFractions, first_of, rest_of}
use Rattle.exact_fraction.proofs.Totals.{abs_over_bound}
use Rattle.exact_fraction.proofs.Bounding.{next_close, reduced_lowest}
use Rattle.exact_fraction.proofs.Told.{common_multiple, sum_narrow, sum_wide, sum_tells}
use Rattle.exact_fraction.proofs.Shares.{sum_within_abs, abs_over_count, count_over}
use Rattle.exact_fraction.proofs.Ratios.{joint_left, joint_right, fs_some, cs_some}

-- the bounds of a sum are as far apart as there are fractions, at most
totals_close : (fs : List Fraction) → AreFractions fs → total_by ceiling_of fs ≤ℤ (total_by floor_of fs +ℤ pos (length fs))
totals_close [] some = omega (arith, ints)
totals_close (f ∷ fs) some =
    let here = next_close f (first_of (λ (f : Fraction). 1 ≤ f.den) f fs some) in
    let others = totals_close fs (rest_of (λ (f : Fraction). 1 ≤ f.den) f fs some) in
    added (floor_of f) (ceiling_of f) (total_by floor_of fs) (total_by ceiling_of fs) (length fs) here others
  where
    added : (x y lo hi : ℤ) (n : ℕ) → y ≤ℤ (x +ℤ pos 1) → hi ≤ℤ (lo +ℤ pos n) → (y +ℤ hi) ≤ℤ (x +ℤ lo +ℤ pos (suc n))
    added x y lo hi n here others = omega (arith, ints)

lowest_close : (fs : List Fraction) (n : ℕ) → AreFractions fs → 1 ≤ n → ceiling_of (reduced (sum_over (common_den fs) fs) (common_den fs)) ≤ℤ (floor_of (reduced (sum_over (common_den fs) fs) (common_den fs)) +ℤ pos n)
lowest_close fs n some few =
    let is = common_multiple fs some in
    let lowest = reduced_lowest (sum_over (common_den fs) fs) (common_den fs) is.some in
    more _ _ lowest.close
  where
    more : (lo hi : ℤ) → hi ≤ℤ (lo +ℤ pos 1) → hi ≤ℤ (lo +ℤ pos n)
    more lo hi close = omega (arith, ints)

sum_close : (fs : List Fraction) → AreFractions fs → 1 ≤ length fs → (sum_of fs).hi ≤ℤ ((sum_of fs).lo +ℤ pos (length fs))
sum_close fs some few = elim (cases_Bool (is_wide fs)) [
  | inl wide ↦ rw (sum_wide fs wide) (totals_close fs some)
  | inr narrow ↦ rw (sum_narrow fs narrow) (lowest_close fs (length fs) some few)
]

-- a count is not below 0
pub positive : (n : ℕ) → pos 0 ≤ℤ pos n
positive n = omega (arith, ints)

count_floors : (terms : List Term) → pos 0 ≤ℤ total_by floor_of (column_fractions 0 terms)
count_floors [] = positive 0
count_floors (t ∷ terms) = added _ _ (positive _) (count_floors terms)
  where
    added : (x y : ℤ) → pos 0 ≤ℤ x → pos 0 ≤ℤ y → pos 0 ≤ℤ (x +ℤ y)
    added x y le_x le_y = omega (arith, ints)

pub count_from : (terms : List Term) → pos 0 ≤ℤ (sum_of (column_fractions 0 terms)).lo
count_from terms =
    let cs = column_fractions 0 terms in
    elim (cases_Bool (is_wide cs)) [
      | inl wide ↦ rw (sum_wide cs wide) (count_floors terms)
      | inr narrow ↦
          let P : ℤ → Type 0 = λ z. pos 0 ≤ℤ floor_of (reduced z (common_den cs)) in
          rw (sum_narrow cs narrow) (subst P (sym (count_over (common_den cs) terms)) (positive _))
    ]

-- what the bounds of a count say of it
module _ (m B : ℕ) (clo chi : ℤ) (some : 1 ≤ m) (count_bounds : AreBounds clo chi (pos B) m) (from : pos 0 ≤ℤ clo) where
  order : clo ≤ℤ chi
  order = le_of_times-le-times clo chi m some (through _ _ _ count_bounds.above_lo count_bounds.below_hi)
    where
      through : (x y z : ℤ) → x ≤ℤ y → y ≤ℤ z → x ≤ℤ z
      through x y z first second = omega (arith, ints)

  natural : (z : ℤ) → pos 0 ≤ℤ z → z ≡ pos (nat_abs z)
  natural (pos n) le = refl
  natural (negsuc n) le = absurd (omega (arith, ints))

  chi_is : chi ≡ pos (nat_abs chi)
  chi_is = natural chi (let le = order in omega (arith, ints))

  clo_is : clo ≡ pos (nat_abs clo)
  clo_is = natural clo from

  -- the count in units, below and above
  pub count_below : B * UNIT ≤ nat_abs chi * m
  count_below = let le = rw chi_is at count_bounds.below_hi in omega (arith, ints)

  pub count_above : nat_abs clo * m ≤ B * UNIT
  count_above = let le = rw clo_is at count_bounds.above_lo in omega (arith, ints)

  -- and of a sum that is at most so many times the count
  module _ (n : ℕ) (slo shi A : ℤ) (sum_bounds : AreBounds slo shi A m) (A_le : nat_abs A ≤ MAX_VALUE * B) (sums : shi ≤ℤ (slo +ℤ pos n)) (counts : chi ≤ℤ (clo +ℤ pos n)) where
    -- the sum is at most MAX_VALUE times the greater count
    times_count : MAX_VALUE * B * UNIT ≤ MAX_VALUE * nat_abs chi * m
    times_count = scaled B (nat_abs chi) (mul-le-mul_left MAX_VALUE count_below)
      where
        scaled : (b c : ℕ) → MAX_VALUE * (b * UNIT) ≤ MAX_VALUE * (c * m) → MAX_VALUE * b * UNIT ≤ MAX_VALUE * c * m
        scaled b c le = omega arith

    slo_below : slo ≤ℤ pos (MAX_VALUE * nat_abs chi)
    slo_below =
        let least : A ≤ℤ pos (MAX_VALUE * B) = omega (arith, ints) in
        let units = times-le-times A (pos (MAX_VALUE * B)) UNIT least in
        let low = sum_bounds.above_lo in
        let count = times_count in
        le_of_times-le-times slo (pos (MAX_VALUE * nat_abs chi)) m some (omega (arith, ints))

    shi_above : neg_ℤ (pos (MAX_VALUE * nat_abs chi)) ≤ℤ shi
    shi_above =
        let most : neg_ℤ (pos (MAX_VALUE * B)) ≤ℤ A = omega (arith, ints) in
        let units = rw (neg-times (pos (MAX_VALUE * B)) UNIT) at (times-le-times (neg_ℤ (pos (MAX_VALUE * B))) A UNIT most) in
        let high = sum_bounds.below_hi in
        let count = times_count in
        le_of_times-le-times (neg_ℤ (pos (MAX_VALUE * nat_abs chi))) shi m some (rw (neg-times (pos (MAX_VALUE * nat_abs chi)) m) (omega (arith, ints)))

    apart : nat_abs chi ≤ nat_abs clo + n
    apart = let close = rw (chi_is, clo_is) at counts in omega (arith, ints)

    -- so where the count is known to be above 0, it is at most MOST_WHOLE times the smaller one
    slo_small : n ≤ MAX_FACTS → 1 ≤ nat_abs clo → nat_abs slo ≤ MOST_WHOLE * nat_abs clo
    slo_small few above = let low = slo_below in let high = shi_above in let close = apart in omega (arith, ints)

    shi_small : n ≤ MAX_FACTS → 1 ≤ nat_abs clo → nat_abs shi ≤ MOST_WHOLE * nat_abs clo
    shi_small few above = let low = slo_below in let high = shi_above in let close = apart in omega (arith, ints)

    -- and the count is moderate itself
    count_small : B ≤ n * (MAX_FACTS * m) → nat_abs chi ≤ n * (MAX_FACTS * UNIT + 1)
    count_small le =
        le_of_mul-le-mul_right (scaled (nat_abs chi) (nat_abs clo) (mul-le-mul_right m apart) count_above (mul-le-mul_right UNIT le)) some
      where
        scaled : (c l : ℕ) → c * m ≤ (l + n) * m → l * m ≤ B * UNIT → B * UNIT ≤ n * (MAX_FACTS * m) * UNIT → c * m ≤ n * (MAX_FACTS * UNIT + 1) * m
        scaled c l first second third = omega (arith, first, second, third)

    scaled_count : (scale : ℕ) → n ≤ MAX_FACTS → scale ≤ 1_000_000 → B ≤ n * (MAX_FACTS * m) → nat_abs chi * scale ≤ WIDE
    scaled_count scale few small le =
        let bound : nat_abs chi ≤ MAX_FACTS * (MAX_FACTS * UNIT + 1) = omega (arith, count_small le, mul-le-mul_right (MAX_FACTS * UNIT + 1) few) in
        omega (arith, mul-le-mul bound small)

    pub can_divide : (scale : ℕ) → n ≤ MAX_FACTS → scale ≤ 1_000_000 → B ≤ n * (MAX_FACTS * m) → (sum count : Value) → sum.lo ≡ slo → sum.hi ≡ shi → count.lo ≡ clo → count.hi ≡ chi → CanDivide scale sum count
    can_divide scale few small le sum count is_slo is_shi is_clo is_chi = record {
      from = rw is_clo from;
      order = rw (is_clo, is_chi) order;
      narrow = rw is_chi (scaled_count scale few small le);
      lo = rw (is_clo, is_slo) (slo_small few);
      hi = rw (is_clo, is_shi) (shi_small few);
    }

-- the bounds of a moderate column, and of its count
pub column_can_divide : (list : TermList) (column scale : ℕ) → AreTerms list → IsModerate list.terms → column < list.columns → 1 ≤ length list.terms → scale ≤ 1_000_000
    → CanDivide scale (sum_of (column_fractions column list.terms)) (sum_of (column_fractions 0 list.terms))
column_can_divide list column scale are moderate in_columns some small =
    let fs = column_fractions column list.terms in
    let cs = column_fractions 0 list.terms in
    let some_fs = fs_some list column scale are moderate in_columns in
    let some_cs = cs_some list column scale are moderate in_columns in
    let m = joint_den fs cs in
    let left = joint_left fs cs some_fs some_cs in
    let right = joint_right fs cs some_fs some_cs in
    let sum_bounds = (sum_tells fs some_fs).bounds m left in
    let count_bounds = rw (count_over m list.terms) at ((sum_tells cs some_cs).bounds m right) in
    let A_le : nat_abs (sum_over m fs) ≤ MAX_VALUE * abs_over m cs = omega (arith, sum_within_abs m fs, abs_over_count list.columns column in_columns m 1 list.terms (omega arith) are.terms moderate.each left right) in
    let counted : All (λ t. nat_abs (column_of 0 t) ≤ MAX_FACTS * t.den) list.terms = λ k d lt. (moderate.each k d lt).count in
    let B_le = rw (length-map list.terms (term_fraction 0)) at (abs_over_bound MAX_FACTS m cs (column_small MAX_FACTS list.columns 0 1 list.terms (omega arith) are.terms counted)) in
    let sums = rw (length-map list.terms (term_fraction column)) at (sum_close fs some_fs (rw (length-map list.terms (term_fraction column)) some)) in
    let counts = rw (length-map list.terms (term_fraction 0)) at (sum_close cs some_cs (rw (length-map list.terms (term_fraction 0)) some)) in
    can_divide m (abs_over m cs) (sum_of cs).lo (sum_of cs).hi left.some count_bounds (count_from list.terms) (length list.terms) (sum_of fs).lo (sum_of fs).hi (sum_over m fs) sum_bounds A_le sums counts scale moderate.few small B_le (sum_of fs) (sum_of cs) refl refl refl refl
