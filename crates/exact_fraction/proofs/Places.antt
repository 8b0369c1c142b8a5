-- The digits of a quotient.
use Rattle.std.proofs.Common.{◌≡◌, ℕ, ◌+◌, ◌*◌, ◌/◌, ◌%◌, ◌^◌, ◌<◌, ◌≤◌, arith, add-one, ap}
use Rattle.std.proofs.Math.Nat.{pow-suc, pow-le-pow_right, mul-le-mul, mul-le-mul_right, le_of_mul-le-mul_right}
use Rattle.exact_fraction.specs.Fraction.{UNIT}
use Rattle.exact_fraction.specs.Signed.{MOST_WHOLE}

module _ (size den whole rest place : ℕ) (parts : whole * den + rest ≡ size * 10 ^ place) where
  -- one digit more
  pub digit_next : 0 < den → (whole * 10 + rest * 10 / den) * den + rest * 10 % den ≡ size * 10 ^ (place + 1)
  digit_next some = rw (add-one, pow-suc) (scaled (rest * 10 / den) (rest * 10 % den) (10 ^ place) parts (omega arith))
    where
      scaled : (digit left power : ℕ) → whole * den + rest ≡ size * power → digit * den + left ≡ rest * 10 → (whole * 10 + digit) * den + left ≡ size * (power * 10)
      scaled digit left power before now = omega (arith, before, now)

  -- the whole units are as few as the fraction allows
  pub whole_below : 0 < den → size ≤ MOST_WHOLE * den → place ≤ 9 → whole ≤ MOST_WHOLE * UNIT
  whole_below some bound few =
      let power : 10 ^ place ≤ UNIT = pow-le-pow_right {n = 10} (omega arith) few in
      le_of_mul-le-mul_right (scaled (10 ^ place) parts (mul-le-mul bound power)) some
    where
      scaled : (power : ℕ) → whole * den + rest ≡ size * power → size * power ≤ MOST_WHOLE * den * UNIT → whole * den ≤ MOST_WHOLE * UNIT * den
      scaled power e le = omega (arith, e, le)

module _ (size den units : ℕ) (some : 0 < den) where
  -- all digits at once
  pub units_at_once : (size / den * units + size % den * units / den) * den + size % den * units % den ≡ size * units
  units_at_once = scaled (size / den) (size % den) (size % den * units / den) (size % den * units % den) (omega (arith, some)) (omega (arith, some))
    where
      scaled : (whole rest digits left : ℕ) → whole * den + rest ≡ size → digits * den + left ≡ rest * units → (whole * units + digits) * den + left ≡ size * units
      scaled whole rest digits left parts now = omega (arith, ap (λ n. n * units) parts, now)

  -- which are as few as the fraction allows
  pub units_below : (whole left : ℕ) → whole * den + left ≡ size * units → size ≤ MOST_WHOLE * den → whole ≤ MOST_WHOLE * units
  units_below whole left parts bound = le_of_mul-le-mul_right (scaled (mul-le-mul_right units bound)) some
    where
      scaled : size * units ≤ MOST_WHOLE * den * units → whole * den ≤ MOST_WHOLE * units * den
      scaled le = omega (arith, parts, le)
