-- Lowest terms of a fraction that is divided by a scale.
use Rattle.std.proofs.Common.{◌≡◌, ℕ, ◌*◌, ◌/◌, ◌<◌, ◌≤◌, Some, None, sym, ap, ◌∙◌, arith}
use Rattle.std.specs.Int.{IsGcd, ◌∣◌}
use Rattle.std.proofs.lemmas.Nat.Gcd.{dvd_trans}
use Rattle.std.proofs.Math.Nat.{mul-div_cancel', div-div-eq-div-mul, dvd-mul_left, one-dvd, mul-pos, mul-one, mul-div_cancel_left, div-le_self, le_trans}
use Rattle.cube_model.specs.Limits.{WIDE}
use Rattle.exact_fraction.specs.Number.{gcd, within}
use Rattle.exact_fraction.specs.Fraction.{Fraction, reduced}
use Rattle.exact_fraction.specs.Signed.{signed, fraction_of, signed_lowest, StandsFor, MOST_WHOLE}
use Rattle.exact_fraction.specs.declared.fraction.SignedFraction.{SignedFraction}
use Rattle.exact_fraction.proofs.Divisors.{gcd-is, gcd_some, gcd_unique, gcd-scaled, apart-cofactors, apart-product, cofactor_some, cofactor_le}
use Rattle.exact_fraction.proofs.Signs.{nat_abs-signed, reduced-signed}
use Rattle.exact_fraction.proofs.Passes.{within_some, within_none}

-- what is left of both numbers has nothing in common
pub cofactors_apart : (a b : ℕ) → 1 ≤ b → IsGcd (a / gcd a b) (b / gcd a b) 1
cofactors_apart a b some =
    let is = gcd-is a b some in
    apart-cofactors (gcd a b) (a / gcd a b) (b / gcd a b) (gcd_some a b some) (rw (mul-div_cancel' (gcd a b) is.0, mul-div_cancel' (gcd a b) is.1) is)

-- a number that divides one that has nothing in common has nothing in common
apart-divisor : (a b c : ℕ) → c ∣ a → IsGcd a b 1 → IsGcd c b 1
apart-divisor a b c divides apart = (one-dvd c, one-dvd b, λ d in_c in_b. apart.2 d (dvd_trans d in_c divides) in_b)

module _ (size den scale : ℕ) (some : 1 ≤ den) (some_scale : 1 ≤ scale) where
  -- the divisors of the two steps
  abbrev first : ℕ
  first = gcd size den

  abbrev second : ℕ
  second = gcd (size / first) scale

  first_some : 1 ≤ first
  first_some = gcd_some size den some

  second_some : 1 ≤ second
  second_some = gcd_some (size / first) scale some_scale

  -- what is left of the size after both
  size_is : first * second * (size / first / second) ≡ size
  size_is =
      let outer = mul-div_cancel' first (gcd-is size den some).0 in
      let inner = mul-div_cancel' second (gcd-is (size / first) scale some_scale).0 in
      joined first second (size / first / second) (size / first) size inner outer
    where
      joined : (g h x y z : ℕ) → h * x ≡ y → g * y ≡ z → g * h * x ≡ z
      joined g h x y z inner outer = rw (← outer, ← inner) (omega arith)

  -- and what is left of the denominator and the scale
  den_is : first * second * (den / first * (scale / second)) ≡ den * scale
  den_is =
      let left = mul-div_cancel' first (gcd-is size den some).1 in
      let right = mul-div_cancel' second (gcd-is (size / first) scale some_scale).1 in
      joined first second (den / first) (scale / second) den scale left right
    where
      joined : (g h x y a b : ℕ) → g * x ≡ a → h * y ≡ b → g * h * (x * y) ≡ a * b
      joined g h x y a b left right = rw (← left, ← right) (omega arith)

  -- the divisor of both at once
  pub gcd-twice : gcd size (den * scale) ≡ first * second
  gcd-twice =
      let rest_divides : size / first / second ∣ size / first = rw (mul-div_cancel' second (gcd-is (size / first) scale some_scale).0) at (dvd-mul_left (size / first / second) second) in
      let apart = apart-product (size / first / second) (den / first) (scale / second) (apart-divisor (size / first) (den / first) (size / first / second) rest_divides (cofactors_apart size den some)) (cofactors_apart (size / first) scale some_scale) in
      let scaled = gcd-scaled (first * second) (size / first / second) (den / first * (scale / second)) 1 (mul-pos first_some second_some) apart in
      gcd_unique size (den * scale) (first * second) (mul-pos some some_scale) (rw (size_is, den_is, mul-one) at scaled)

  -- so the two steps end in lowest terms
  pub size-twice : size / gcd size (den * scale) ≡ size / first / second
  size-twice = rw gcd-twice (sym (div-div-eq-div-mul size first second))

  pub den-twice : den * scale / gcd size (den * scale) ≡ den / first * (scale / second)
  den-twice = ap (λ g. den * scale / g) gcd-twice ∙ ap (λ n. n / (first * second)) (sym den_is) ∙ mul-div_cancel_left (den / first * (scale / second)) (mul-pos first_some second_some)

-- parts in lowest terms, and what is left of their size and the scale
module _ (p first second : SignedFraction) (scale : ℕ) (some : 1 ≤ p.den) (some_scale : 1 ≤ scale) (is_first : first ≡ signed_lowest p) (is_second : second ≡ signed_lowest (record { negative = first.negative; size = first.size; den = scale })) where
  -- the quotient by the scale
  abbrev value : Fraction
  value = reduced (signed p.negative p.size) (p.den * scale)

  first_size : first.size ≡ p.size / gcd p.size p.den
  first_size = ap (λ (q : SignedFraction). q.size) is_first

  second_size : second.size ≡ p.size / gcd p.size p.den / gcd (p.size / gcd p.size p.den) scale
  second_size = ap (λ (q : SignedFraction). q.size) is_second ∙ ap (λ n. n / gcd n scale) first_size

  both_den : first.den * second.den ≡ p.den / gcd p.size p.den * (scale / gcd (p.size / gcd p.size p.den) scale)
  both_den = ap (λ n. n * second.den) (ap (λ (q : SignedFraction). q.den) is_first) ∙ ap (λ n. p.den / gcd p.size p.den * n) (ap (λ (q : SignedFraction). q.den) is_second ∙ ap (λ n. scale / gcd n scale) first_size)

  same_sign : second.negative ≡ p.negative
  same_sign = ap (λ (q : SignedFraction). q.negative) is_second ∙ ap (λ (q : SignedFraction). q.negative) is_first

  value_den : value.den ≡ first.den * second.den
  value_den = ap (λ n. p.den * scale / gcd n (p.den * scale)) (nat_abs-signed p.negative p.size) ∙ den-twice p.size p.den scale some some_scale ∙ sym both_den

  value_is : fraction_of (record { negative = second.negative; size = second.size; den = first.den * second.den }) ≡ value
  value_is =
      let size_is = second_size ∙ sym (size-twice p.size p.den scale some some_scale) in
      let den_is = both_den ∙ sym (den-twice p.size p.den scale some some_scale) in
      rw (same_sign, size_is, den_is) (sym (reduced-signed p.negative p.size (p.den * scale)))

  pub scaled_wide : None ≡ within (first.den * second.den) → WIDE < value.den
  scaled_wide told = rw value_den (within_none (first.den * second.den) told)

  pub scaled_told : (den : ℕ) → Some den ≡ within (first.den * second.den) → p.size ≤ WIDE → p.size ≤ MOST_WHOLE * (p.den * scale) → StandsFor value (record { negative = second.negative; size = second.size; den = den })
  scaled_told den told within_wide size =
      let parts = within_some (first.den * second.den) den told in
      let size_is = second_size ∙ sym (size-twice p.size p.den scale some some_scale) in
      let den_is = both_den ∙ sym (den-twice p.size p.den scale some some_scale) in
      record {
        fraction = rw (← parts.0) value_is;
        some = rw (← parts.0, den_is) (cofactor_some p.size (p.den * scale) (mul-pos some some_scale));
        narrow = parts.1;
        within = rw size_is (le_trans (div-le_self p.size (gcd p.size (p.den * scale))) within_wide);
        size = rw (size_is, ← parts.0, den_is) (cofactor_le MOST_WHOLE p.size (p.den * scale) (mul-pos some some_scale) size);
      }
