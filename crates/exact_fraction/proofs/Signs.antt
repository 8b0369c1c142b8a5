-- Numbers by their sign and size, and the whole numbers next to a fraction.
use Rattle.std.proofs.Common.{◌≡◌, ℕ, zero, suc, ◌+◌, ◌-◌, ◌*◌, ◌/◌, ◌%◌, ◌<◌, ◌≤◌, Bool, true, false, ◌==◌, refl, ap, arith, add-one, pos, negsuc, neg_ℤ, ◌*ℤ◌}
use Rattle.std.specs.Prelude.{nat_abs}
use Rattle.std.specs.Int.{int_div_euclid}
use Rattle.std.specs.Int.RustNames.{int_div}
use Rattle.std.proofs.lemmas.Bool.Decides.{nat_tests}
use Rattle.std.proofs.lemmas.Nat.{div-mul-add, div-add-mod', mod_below}
use Rattle.std.proofs.Math.Nat.{zero-div, mul_comm, zero-mul, mul-zero, mul-le-mul_right, div-le_of_le-mul}
use lib.IntN.{neg_ℤ-neg_ℤ}
use Rattle.exact_fraction.specs.Fraction.{UNIT, reduced, floor_of, ceiling_of}
use Rattle.exact_fraction.specs.Number.{gcd}
use Rattle.exact_fraction.specs.Signed.{next_above, signed}

pub nat_abs-signed : (negative : Bool) (n : ℕ) → nat_abs (signed negative n) ≡ n
nat_abs-signed false n = refl
nat_abs-signed true zero = refl
nat_abs-signed true (suc n) = refl

pub int_div-signed : (negative : Bool) (n g : ℕ) → int_div (signed negative n) (pos g) ≡ signed negative (n / g)
int_div-signed false n g = refl
int_div-signed true zero g = rw (zero-div g) refl
int_div-signed true (suc n) g = refl

pub signed-times : (negative : Bool) (n k : ℕ) → signed negative n *ℤ pos k ≡ signed negative (k * n)
signed-times false n k = ap pos (mul_comm n k)
signed-times true zero k = rw (zero-mul, mul-zero) refl
signed-times true (suc n) k = ap (λ m. neg_ℤ (pos m)) (mul_comm (suc n) k)

-- lowest terms by size
pub reduced-signed : (negative : Bool) (size den : ℕ) → reduced (signed negative size) den ≡ record { num = signed negative (size / gcd size den); den = den / gcd size den }
reduced-signed negative size den = rw (nat_abs-signed negative size, int_div-signed negative size (gcd size den)) refl

-- a negative number of units over den is rounded away from 0
floor_below : (k den whole rest : ℕ) → whole * den + rest ≡ suc k → rest < den → int_div_euclid (negsuc k) (pos den) ≡ neg_ℤ (pos (next_above whole rest))
floor_below k den whole zero parts lt =
    elim whole as (λ w. w * den + 0 ≡ suc k → int_div_euclid (negsuc k) (pos den) ≡ neg_ℤ (pos (next_above w 0))) [
      | zero ↦ λ e. absurd (omega arith)
      | suc w ↦ λ e. ap negsuc (rw (last k w den (omega arith) e) (div-mul-add w den (den - 1) (omega arith)))
    ] parts
  where
    last : (k w den : ℕ) → 0 < den → suc w * den + 0 ≡ suc k → k ≡ w * den + (den - 1)
    last k w den some e = omega arith
floor_below k den whole (suc rest) parts lt =
    let left_over : (suc rest == 0) ≡ false = grind (arith, nat_tests) in
    rw (left_over, add-one) (ap negsuc (rw (omega_k k (whole * den) rest parts) (div-mul-add whole den rest (omega arith))))
  where
    omega_k : (k m rest : ℕ) → m + suc rest ≡ suc k → k ≡ m + rest
    omega_k k m rest e = omega arith

floor_negative : (size den whole rest : ℕ) → whole * den + rest ≡ size * UNIT → rest < den → floor_of (record { num = signed true size; den = den }) ≡ neg_ℤ (pos (next_above whole rest))
floor_negative zero den zero rest parts lt =
    let none : rest ≡ 0 = omega arith in
    rw (none, zero-div) refl
floor_negative zero den (suc whole) rest parts lt = absurd (omega arith)
floor_negative (suc size) den whole rest parts lt =
    let units : suc size * UNIT ≡ suc (size * UNIT + 999_999_999) = omega arith in
    rw units (floor_below (size * UNIT + 999_999_999) den whole rest (omega arith) lt)

module _ (size den whole rest : ℕ) (parts : whole * den + rest ≡ size * UNIT) (lt : rest < den) where
  floor-positive : floor_of (record { num = signed false size; den = den }) ≡ pos whole
  floor-positive = rw (← parts) (ap pos (div-mul-add whole den rest lt))

  floor-negative : floor_of (record { num = signed true size; den = den }) ≡ neg_ℤ (pos (next_above whole rest))
  floor-negative = floor_negative size den whole rest parts lt

  -- above a fraction stands what is below the negative one
  ceiling-positive : ceiling_of (record { num = signed false size; den = den }) ≡ pos (next_above whole rest)
  ceiling-positive = rw floor-negative (neg_ℤ-neg_ℤ (pos (next_above whole rest)))

  ceiling-negative : ceiling_of (record { num = signed true size; den = den }) ≡ neg_ℤ (pos whole)
  ceiling-negative = rw (neg_ℤ-neg_ℤ (pos size), floor-positive) refl

  -- the same by a sign that is known
  pub floor-true : (negative : Bool) → negative ≡ true → floor_of (record { num = signed negative size; den = den }) ≡ signed true (next_above whole rest)
  floor-true negative is = rw is floor-negative

  pub floor-false : (negative : Bool) → negative ≡ false → floor_of (record { num = signed negative size; den = den }) ≡ signed false whole
  floor-false negative is = rw is floor-positive

  pub ceiling-true : (negative : Bool) → negative ≡ true → ceiling_of (record { num = signed negative size; den = den }) ≡ signed true whole
  ceiling-true negative is = rw is ceiling-negative

  pub ceiling-false : (negative : Bool) → negative ≡ false → ceiling_of (record { num = signed negative size; den = den }) ≡ signed false (next_above whole rest)
  ceiling-false negative is = rw is ceiling-positive

-- no whole number next to a fraction is much larger than it
module _ (most size den : ℕ) (some : 1 ≤ den) (le : size ≤ most * den) where
  whole_small : size * UNIT / den ≤ most * UNIT
  whole_small = div-le_of_le-mul den (scaled (mul-le-mul_right UNIT le))
    where
      scaled : size * UNIT ≤ most * den * UNIT → size * UNIT ≤ den * (most * UNIT)
      scaled h = omega arith

  next_small : next_above (size * UNIT / den) (size * UNIT % den) ≤ most * UNIT + 1
  next_small = let whole = whole_small in grind (arith, nat_tests)

  pub floor_small : (negative : Bool) → nat_abs (floor_of (record { num = signed negative size; den = den })) ≤ most * UNIT + 1
  floor_small negative = elim negative as (λ b. nat_abs (floor_of (record { num = signed b size; den = den })) ≤ most * UNIT + 1) [
    | true ↦ rw (floor-negative size den (size * UNIT / den) (size * UNIT % den) (div-add-mod' (size * UNIT) den) (mod_below (size * UNIT) den some), nat_abs-signed true) next_small
    | false ↦ omega (arith, whole_small)
  ]

  pub ceiling_small : (negative : Bool) → nat_abs (ceiling_of (record { num = signed negative size; den = den })) ≤ most * UNIT + 1
  ceiling_small negative = elim negative as (λ b. nat_abs (ceiling_of (record { num = signed b size; den = den })) ≤ most * UNIT + 1) [
    | true ↦ rw (ceiling-negative size den (size * UNIT / den) (size * UNIT % den) (div-add-mod' (size * UNIT) den) (mod_below (size * UNIT) den some), nat_abs-signed true) (omega (arith, whole_small))
    | false ↦ rw (ceiling-positive size den (size * UNIT / den) (size * UNIT % den) (div-add-mod' (size * UNIT) den) (mod_below (size * UNIT) den some)) next_small
  ]
