-- What a quotient tells.
use Rattle.std.proofs.Common.{◌≡◌, ℕ, suc, ◌*◌, ◌<◌, ◌≤◌, ◌==◌, ◌⊎◌, true, false, if◌then◌else◌, List, [], ◌∷◌, length, refl, sym, ap, ◌∙◌, inl, inr, arith, ℤ, pos, negsuc, neg_ℤ, ◌*ℤ◌, ◌≤ℤ◌}
use Rattle.std.specs.Prelude.{nat_abs}
use Rattle.exact_fraction.specs.declared.sums.Value.{Value}
use Rattle.exact_fraction.specs.Ratio.{joint_den, reduced_quotient, exact_quotient, wide_quotient, is_wide_quotient, quotient_or_bounds, ratio_of, IsExactQuotient}
use Rattle.exact_fraction.specs.Laws.{TellsSum, TellsQuotient, EqualsQuotient}
use Rattle.exact_fraction.proofs.Sizes.{positive, count_below, count_above, column_can_divide}
use Rattle.exact_fraction.proofs.Shares.{count_over, count_some}
use Rattle.exact_fraction.proofs.Told.{sum_tells}
use Rattle.exact_fraction.specs.Moderate.{IsModerate}
use Rattle.exact_fraction.specs.One.{sum_of, one_of}
use Rattle.exact_fraction.specs.Signed.{fraction_of}
use Rattle.exact_fraction.specs.declared.fraction.SignedFraction.{SignedFraction}
use Rattle.exact_fraction.specs.declared.quotients.Quotient.TheVariants.{Undefined}
use Rattle.cube_model.specs.declared.term.Term.{Term}
use Rattle.std.specs.Int.{is_negative}
use Rattle.std.proofs.lemmas.Int.{ints}
use Rattle.std.proofs.lemmas.Bool.{cases_Bool}
use Rattle.std.proofs.lemmas.Bool.Decides.{nat_tests}
use Rattle.std.proofs.Math.Nat.{mul-le-mul_left, mul-pos}
use Rattle.group_sum.specs.Terms.{TermList, AreTerms}
use Rattle.exact_fraction.specs.Number.{gcd}
use Rattle.exact_fraction.specs.Fraction.{UNIT, Fraction, column_fractions, sum_over, abs_over, floor_of, ceiling_of}
use Rattle.exact_fraction.proofs.Products.{times-times, times_swapped, times-le-times, le_of_times-le-times, eq_of_times-eq-times, neg-times}
use Rattle.exact_fraction.proofs.Bounding.{floor_below, reduced_num, reduced_den, reduced_lowest, crossed, equal_bounds}
use Rattle.exact_fraction.proofs.Divisors.{gcd_some}
use Rattle.exact_fraction.proofs.Passes.{AreFractions}
use Rattle.exact_fraction.proofs.Ratios.{joint_left, joint_right, fs_some, cs_some}

-- a product rises with a factor of the right sign
times_rise : (x : ℤ) (p q : ℕ) → ((pos 0 ≤ℤ x) × (p ≤ q)) ⊎ ((x ≤ℤ pos 0) × (q ≤ p)) → (x *ℤ pos p) ≤ℤ (x *ℤ pos q)
times_rise (pos n) p q (inl (from, le)) = omega (arith, ints, mul-le-mul_left n le)
times_rise (pos n) p q (inr (to, le)) =
    let none : n ≡ 0 = omega (arith, ints) in
    rw none (omega (arith, ints))
times_rise (negsuc n) p q (inl (from, le)) = absurd (omega (arith, ints))
times_rise (negsuc n) p q (inr (to, le)) = omega (arith, ints, mul-le-mul_left (suc n) le)

-- a number of units below the quotient of a bound by a divisor is below the quotient that they bound
below_law : (x low num : ℤ) (d count m scale : ℕ) → (x *ℤ pos (d * scale)) ≤ℤ (low *ℤ pos UNIT) → (low *ℤ pos m) ≤ℤ (num *ℤ pos UNIT) → ((pos 0 ≤ℤ x) × (count * UNIT ≤ d * m)) ⊎ ((x ≤ℤ pos 0) × (d * m ≤ count * UNIT)) → (x *ℤ pos (count * scale)) ≤ℤ (num *ℤ pos UNIT)
below_law x low num d count m scale divided bound side =
    let scaled : ((pos 0 ≤ℤ x) × (scale * (count * UNIT) ≤ scale * (d * m))) ⊎ ((x ≤ℤ pos 0) × (scale * (d * m) ≤ scale * (count * UNIT))) =
    elim side [ inl both ↦ inl (both.0, mul-le-mul_left scale both.1) | inr both ↦ inr (both.0, mul-le-mul_left scale both.1) ] in
    let rise = times_rise x (scale * (count * UNIT)) (scale * (d * m)) scaled in
    let left : x *ℤ pos (count * scale) *ℤ pos UNIT ≡ x *ℤ pos (scale * (count * UNIT)) = times-times x (count * scale) UNIT ∙ ap (λ k. x *ℤ pos k) (turned count scale UNIT) in
    let right : x *ℤ pos (d * scale) *ℤ pos m ≡ x *ℤ pos (scale * (d * m)) = times-times x (d * scale) m ∙ ap (λ k. x *ℤ pos k) (turned d scale m) in
    let first = rw (right, times_swapped low UNIT m) at (times-le-times (x *ℤ pos (d * scale)) (low *ℤ pos UNIT) m divided) in
    let second = times-le-times (low *ℤ pos m) (num *ℤ pos UNIT) UNIT bound in
    le_of_times-le-times (x *ℤ pos (count * scale)) (num *ℤ pos UNIT) UNIT (omega arith) (rw left (through _ _ _ _ rise first second))
  where
    turned : (a b c : ℕ) → a * b * c ≡ b * (a * c)
    turned a b c = omega arith

    through : (a b c d : ℤ) → a ≤ℤ b → b ≤ℤ c → c ≤ℤ d → a ≤ℤ d
    through a b c d first second third = omega (arith, ints)

-- the floor of a number that is not above 0 is not above 0
floor_to : (z : ℤ) (d : ℕ) → 1 ≤ d → z ≤ℤ pos 0 → floor_of (record { num = z; den = d }) ≤ℤ pos 0
floor_to z d some le =
    let low = floor_below (record { num = z; den = d }) some in
    let units = times-le-times z (pos 0) UNIT le in
    le_of_times-le-times (floor_of (record { num = z; den = d })) (pos 0) d some (through _ _ low units)
  where
    through : (a b : ℤ) → a ≤ℤ b → b ≤ℤ pos (0 * UNIT) → a ≤ℤ pos (0 * d)
    through a b first second = omega (arith, ints)

module _ (least most count m scale : ℕ) (num : ℤ) (some : 1 ≤ least) (ordered : least ≤ most) (some_scale : 1 ≤ scale) (above : least * m ≤ count * UNIT) (below : count * UNIT ≤ most * m) where
  -- a lower bound over the divisor of its sign
  lower_told : (z : ℤ) → (z *ℤ pos m) ≤ℤ (num *ℤ pos UNIT) → (floor_of (record { num = z; den = (if is_negative z then least else most) * scale }) *ℤ pos (count * scale)) ≤ℤ (num *ℤ pos UNIT)
  lower_told (pos n) bound =
      let known : is_negative (pos n) ≡ false = grind (arith, nat_tests) in
      let f : Fraction = record { num = pos n; den = most * scale } in
      rw known (below_law (floor_of f) (pos n) num most count m scale (floor_below f (mul-pos (omega arith) some_scale)) bound (inl (positive _, below)))
  lower_told (negsuc n) bound =
      let f : Fraction = record { num = negsuc n; den = least * scale } in
      below_law (floor_of f) (negsuc n) num least count m scale (floor_below f (mul-pos some some_scale)) bound (inr (floor_to (negsuc n) (least * scale) (mul-pos some some_scale) (omega (arith, ints)), above))

  -- and an upper one
  flipped : (x z : ℤ) (d : ℕ) → (x *ℤ pos (d * scale)) ≤ℤ (neg_ℤ z *ℤ pos UNIT) → (num *ℤ pos UNIT) ≤ℤ (z *ℤ pos m) → ((pos 0 ≤ℤ x) × (count * UNIT ≤ d * m)) ⊎ ((x ≤ℤ pos 0) × (d * m ≤ count * UNIT)) → (num *ℤ pos UNIT) ≤ℤ (neg_ℤ x *ℤ pos (count * scale))
  flipped x z d divided bound side =
      let turned : (neg_ℤ z *ℤ pos m) ≤ℤ (neg_ℤ num *ℤ pos UNIT) = rw (neg-times z m, neg-times num UNIT) (omega (arith, ints)) in
      let law = rw (neg-times num UNIT) at (below_law x (neg_ℤ z) (neg_ℤ num) d count m scale divided turned side) in
      rw (neg-times x (count * scale)) (omega (arith, ints))

  upper_told : (z : ℤ) → (num *ℤ pos UNIT) ≤ℤ (z *ℤ pos m) → (num *ℤ pos UNIT) ≤ℤ (ceiling_of (record { num = z; den = (if is_negative z then most else least) * scale }) *ℤ pos (count * scale))
  upper_told (pos n) bound =
      let known : is_negative (pos n) ≡ false = grind (arith, nat_tests) in
      let f : Fraction = record { num = neg_ℤ (pos n); den = least * scale } in
      rw known (flipped (floor_of f) (pos n) least (floor_below f (mul-pos some some_scale)) bound (inr (floor_to (neg_ℤ (pos n)) (least * scale) (mul-pos some some_scale) (omega (arith, ints)), above)))
  upper_told (negsuc n) bound =
      let f : Fraction = record { num = pos (suc n); den = most * scale } in
      flipped (floor_of f) (negsuc n) most (floor_below f (mul-pos (omega arith) some_scale)) bound (inl (positive _, below))

-- what the quotient of bounds tells
module _ (scale : ℕ) (fs cs : List Fraction) (some_scale : 1 ≤ scale) (counts : (m : ℕ) → sum_over m cs ≡ pos (abs_over m cs)) where
  module _ (sum count : Value) (sums : TellsSum fs sum) (counted : TellsSum cs count) (from : pos 0 ≤ℤ count.lo) (order : nat_abs count.lo ≤ nat_abs count.hi) where
    bounds_tell : (nat_abs count.lo == 0) ≡ false → 1 ≤ nat_abs count.lo → TellsQuotient scale fs cs (wide_quotient scale sum count)
    bounds_tell test some = rw test (record {
      below = λ m is_fs is_cs.
          let count_bounds = rw (counts m) at (counted.bounds m is_cs) in
          lower_told (nat_abs count.lo) (nat_abs count.hi) (abs_over m cs) m scale (sum_over m fs) some order some_scale (count_above m (abs_over m cs) count.lo count.hi is_fs.some count_bounds from) (count_below m (abs_over m cs) count.lo count.hi is_fs.some count_bounds from) sum.lo (sums.bounds m is_fs).above_lo;
      above = λ m is_fs is_cs.
          let count_bounds = rw (counts m) at (counted.bounds m is_cs) in
          upper_told (nat_abs count.lo) (nat_abs count.hi) (abs_over m cs) m scale (sum_over m fs) some order some_scale (count_above m (abs_over m cs) count.lo count.hi is_fs.some count_bounds from) (count_below m (abs_over m cs) count.lo count.hi is_fs.some count_bounds from) sum.hi (sums.bounds m is_fs).below_hi;
      lowest = tt;
      equal = tt;
    })

    pub wide_tells : TellsQuotient scale fs cs (wide_quotient scale sum count)
    wide_tells = elim (cases_Bool (nat_abs count.lo == 0)) [
      | inl none ↦ rw none (record { below = tt; above = tt; lowest = tt; equal = tt })
      | inr some ↦ bounds_tell some (grind (arith, nat_tests))
    ]

  -- what a fraction tells
  module _ (some_fs : AreFractions fs) (some_cs : AreFractions cs) (some_count : 1 ≤ abs_over (joint_den fs cs) cs) where
    abbrev J : ℕ
    J = joint_den fs cs

    some_den : 1 ≤ abs_over J cs * scale
    some_den = mul-pos some_count some_scale

    -- over every common multiple it is the quotient
    quotient_equals : EqualsQuotient scale fs cs (reduced_quotient scale fs cs).num (reduced_quotient scale fs cs).den
    quotient_equals m is_fs is_cs =
        let f = reduced_quotient scale fs cs in
        let A = sum_over J fs in
        let B = abs_over J cs in
        let g = gcd (nat_abs A) (B * scale) in
        let left = joint_left fs cs some_fs some_cs in
        let right = joint_right fs cs some_fs some_cs in
        let cross = crossed fs m J is_fs left in
        let counted : abs_over m cs * J ≡ B * m = ap nat_abs (rw (counts m, counts J) at (crossed cs m J is_cs right)) in
        eq_of_times-eq-times (f.num *ℤ pos (abs_over m cs * scale)) (sum_over m fs *ℤ pos f.den) (g * J) (mul-pos (gcd_some (nat_abs A) (B * scale) some_den) left.some)
        (times-times f.num (abs_over m cs * scale) (g * J) ∙ ap (λ k. f.num *ℤ pos k) (turn_count (abs_over m cs) g B m counted) ∙ sym (times-times f.num g (B * m * scale)) ∙ ap (λ z. z *ℤ pos (B * m * scale)) (reduced_num A (B * scale) some_den)
        ∙ ap (λ k. A *ℤ pos k) (turn_middle B m) ∙ sym (times-times A m (B * scale)) ∙ ap (λ z. z *ℤ pos (B * scale)) (sym cross) ∙ times-times (sum_over m fs) J (B * scale)
        ∙ ap (λ k. sum_over m fs *ℤ pos k) (turn_den f.den g B (reduced_den A (B * scale) some_den)) ∙ sym (times-times (sum_over m fs) f.den (g * J)))
      where
        turn_count : (c g B m : ℕ) → c * J ≡ B * m → c * scale * (g * J) ≡ g * (B * m * scale)
        turn_count c g B m e = omega (arith, ap (λ k. k * (scale * g)) e)

        turn_middle : (B m : ℕ) → B * m * scale ≡ m * (B * scale)
        turn_middle B m = omega arith

        turn_den : (d g B : ℕ) → d * g ≡ B * scale → J * (B * scale) ≡ d * (g * J)
        turn_den d g B e = omega (arith, ap (λ k. k * J) e)

    pub exact_tells : TellsQuotient scale fs cs (exact_quotient (reduced_quotient scale fs cs))
    exact_tells =
        let f = reduced_quotient scale fs cs in
        let lowest = reduced_lowest (sum_over J fs) (abs_over J cs * scale) some_den in
        record {
          below = λ m is_fs is_cs. (equal_bounds (floor_of f) (ceiling_of f) f.num (sum_over m fs) f.den (abs_over m cs * scale) lowest.some lowest.bounds (quotient_equals m is_fs is_cs)).above_lo;
          above = λ m is_fs is_cs. (equal_bounds (floor_of f) (ceiling_of f) f.num (sum_over m fs) f.den (abs_over m cs * scale) lowest.some lowest.bounds (quotient_equals m is_fs is_cs)).below_hi;
          lowest = lowest;
          equal = quotient_equals;
        }

-- the same of terms
module _ (list : TermList) (column scale : ℕ) (are : AreTerms list) (moderate : IsModerate list.terms) (in_columns : column < list.columns) (some : 1 ≤ length list.terms) (some_scale : 1 ≤ scale) where
  exact_terms_tell : TellsQuotient scale (column_fractions column list.terms) (column_fractions 0 list.terms) (exact_quotient (reduced_quotient scale (column_fractions column list.terms) (column_fractions 0 list.terms)))
  exact_terms_tell =
      let fs = column_fractions column list.terms in
      let cs = column_fractions 0 list.terms in
      let some_fs = fs_some list column scale are moderate in_columns in
      let some_cs = cs_some list column scale are moderate in_columns in
      exact_tells scale fs cs some_scale (λ m. count_over m list.terms) some_fs some_cs (count_some list.columns (joint_den fs cs) list.terms some are.terms (joint_right fs cs some_fs some_cs))

  wide_terms_tell : scale ≤ 1_000_000 → TellsQuotient scale (column_fractions column list.terms) (column_fractions 0 list.terms) (wide_quotient scale (sum_of (column_fractions column list.terms)) (sum_of (column_fractions 0 list.terms)))
  wide_terms_tell small =
      let fs = column_fractions column list.terms in
      let cs = column_fractions 0 list.terms in
      let some_fs = fs_some list column scale are moderate in_columns in
      let some_cs = cs_some list column scale are moderate in_columns in
      let can = column_can_divide list column scale are moderate in_columns some small in
      wide_tells scale fs cs some_scale (λ m. count_over m list.terms) (sum_of fs) (sum_of cs) (sum_tells fs some_fs) (sum_tells cs some_cs) can.from (sizes_ordered _ _ can.from can.order)
    where
      sizes_ordered : (lo hi : ℤ) → pos 0 ≤ℤ lo → lo ≤ℤ hi → nat_abs lo ≤ nat_abs hi
      sizes_ordered lo hi from order = omega (arith, ints)

-- the value of a sum and of a quotient by its cases
pub one_is : (column : ℕ) (terms : List Term) → one_of column terms ≡ sum_of (column_fractions column terms)
unfolding one_of
one_is column terms = refl

ratio_some : (column scale : ℕ) (terms : List Term) → 1 ≤ length terms → ratio_of column scale terms ≡ quotient_or_bounds column scale terms
unfolding ratio_of
ratio_some column scale [] some = absurd (omega arith)
ratio_some column scale (t ∷ terms) some = refl

pub ratio_none : (column scale : ℕ) (terms : List Term) → length terms ≡ 0 → Undefined ≡ ratio_of column scale terms
unfolding ratio_of
ratio_none column scale [] none = refl
ratio_none column scale (t ∷ terms) none = absurd (omega arith)

pub ratio_exact : (column scale : ℕ) (terms : List Term) (p : SignedFraction) → 1 ≤ length terms → IsExactQuotient scale (column_fractions column terms) (column_fractions 0 terms) p → exact_quotient (fraction_of p) ≡ ratio_of column scale terms
ratio_exact column scale terms p some is = rw (ratio_some column scale terms some, is.narrow) (ap exact_quotient is.parts.fraction)

pub wide_told : (column scale : ℕ) (terms : List Term) (sum count : Value) → sum ≡ one_of column terms → count ≡ one_of 0 terms → 1 ≤ length terms → is_wide_quotient scale (column_fractions column terms) (column_fractions 0 terms) ≡ true
    → wide_quotient scale sum count ≡ ratio_of column scale terms
wide_told column scale terms sum count sum_is count_is some wide = rw (ratio_some column scale terms some, wide, sum_is, count_is) refl

-- what the quotient of terms tells
pub ratio_tells : (list : TermList) (column scale : ℕ) → AreTerms list → IsModerate list.terms → column < list.columns → 1 ≤ length list.terms → 1 ≤ scale → scale ≤ 1_000_000
    → TellsQuotient scale (column_fractions column list.terms) (column_fractions 0 list.terms) (ratio_of column scale list.terms)
ratio_tells list column scale are moderate in_columns some some_scale small = elim (cases_Bool (is_wide_quotient scale (column_fractions column list.terms) (column_fractions 0 list.terms))) [
  | inl wide ↦
      rw (ratio_some column scale list.terms some, wide, one_is column list.terms, one_is 0 list.terms) (wide_terms_tell list column scale are moderate in_columns some some_scale small)
  | inr narrow ↦ rw (ratio_some column scale list.terms some, narrow) (exact_terms_tell list column scale are moderate in_columns some some_scale)
]
