-- The quotient of the bounds of a sum by those of a count.
use Rattle.std.proofs.Common.{◌≡◌, ℕ, ◌*◌, ◌≤◌, ◌==◌, if◌then◌else◌, false, Some, None, refl, arith, ℤ}
use Rattle.std.specs.Prelude.{nat_abs}
use Rattle.std.specs.Int.{is_negative}
use Rattle.std.proofs.lemmas.Int.{ints}
use Rattle.std.proofs.lemmas.Bool.Decides.{nat_tests}
use Rattle.std.proofs.Math.Nat.{mul-le-mul_right}
use Rattle.cube_model.specs.Limits.{WIDE}
use Rattle.exact_fraction.specs.declared.sums.Value.{Value}
use Rattle.exact_fraction.specs.declared.quotients.Quotient.TheVariants.{Is}
use Rattle.exact_fraction.specs.Fraction.{floor_of, ceiling_of}
use Rattle.exact_fraction.specs.Signed.{MOST_WHOLE}
use Rattle.exact_fraction.specs.Ratio.{CanDivide, wide_quotient}

module _ (scale : ℕ) (sum count : Value) (least most : ℕ) (least_is : least ≡ nat_abs count.lo) (most_is : most ≡ nat_abs count.hi) (some : 1 ≤ least) where
  -- the greater count is the greater divisor
  module _ (can : CanDivide scale sum count) where
    ordered : least ≤ most
    ordered = omega (arith, ints, can.from, can.order)

    pub narrow_divisors : (least * scale ≤ WIDE) × (most * scale ≤ WIDE)
    narrow_divisors =
        let narrow : most * scale ≤ WIDE = rw most_is can.narrow in
        (omega (arith, mul-le-mul_right scale ordered), narrow)

    pub lo_size : (nat_abs sum.lo ≤ MOST_WHOLE * least) × (nat_abs sum.lo ≤ MOST_WHOLE * most)
    lo_size =
        let bound : nat_abs sum.lo ≤ MOST_WHOLE * least = rw least_is (can.lo (rw (← least_is) some)) in
        (bound, omega (arith, ordered))

    pub hi_size : (nat_abs sum.hi ≤ MOST_WHOLE * least) × (nat_abs sum.hi ≤ MOST_WHOLE * most)
    hi_size =
        let bound : nat_abs sum.hi ≤ MOST_WHOLE * least = rw least_is (can.hi (rw (← least_is) some)) in
        (bound, omega (arith, ordered))

  -- what is divided is the quotient
  pub wide_told : (lo hi : ℤ) → lo ≡ floor_of (record { num = sum.lo; den = (if is_negative sum.lo then least else most) * scale }) → hi ≡ ceiling_of (record { num = sum.hi; den = (if is_negative sum.hi then most else least) * scale })
      → Is (Some lo) (Some hi) None ≡ wide_quotient scale sum count
  wide_told lo hi lo_is hi_is =
      let above : (nat_abs count.lo == 0) ≡ false = grind (arith, nat_tests) in
      rw (above, lo_is, hi_is, least_is, most_is) refl
