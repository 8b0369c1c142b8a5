-- A product with the most that a divisor goes into 2^64 - 1 comes near a quotient.
use Rattle.std.proofs.Common.{◌≡◌, ℕ, ◌+◌, ◌*◌, ◌/◌, ◌^◌, ◌-◌, ◌<◌, ◌≤◌, ap, sym, ◌∙◌, subst, arith}
use Rattle.std.proofs.Math.Nat.{div-eq_of_lt-le, div-mul-le_self, lt-mul-div-succ, mul-le-mul_left, mul-le-mul_right}

-- it is not above
low-product : (n m inverse low : ℕ) → inverse * m ≤ 18446744073709551615 → low * 18446744073709551616 ≤ n * inverse → low * m ≤ n
low-product n m inverse low into product = omega (arith, mul-le-mul_left n into, mul-le-mul_right m product)

-- and at most one below
low-near : (n m inverse low : ℕ) → n ≤ 18446744073709551615 → 18446744073709551616 ≤ m * (inverse + 1) → n * inverse + 1 ≤ 18446744073709551616 * (low + 1) → 1 ≤ m → n < low * m + 2 * m
low-near n m inverse low small into product some = omega (arith, mul-le-mul_left n into, mul-le-mul_right m product, mul-le-mul_right m small, some)

module _ (n m inverse : ℕ) (small : n < 2 ^ 64) (some : 1 ≤ m) (is : inverse ≡ (2 ^ 64 - 1) / m) where
  abbrev low : ℕ
  low = n * inverse / 18446744073709551616

  into : inverse * m ≤ 18446744073709551615
  into = subst (λ i. i * m ≤ 18446744073709551615) (sym is) (div-mul-le_self 18446744073709551615 m)

  past : 18446744073709551616 ≤ m * (inverse + 1)
  past = subst (λ i. 18446744073709551615 < m * (i + 1)) (sym is) (lt-mul-div-succ 18446744073709551615 some)

  pub low-fits : low * m ≤ n
  low-fits = low-product n m inverse low into (div-mul-le_self (n * inverse) 18446744073709551616)

  near : n < low * m + 2 * m
  near =
      let product : n * inverse < 18446744073709551616 * (low + 1) = lt-mul-div-succ (n * inverse) (omega arith) in
      low-near n m inverse low (omega (arith, small)) past (omega (arith, product)) some

  pub low-is : (q : ℕ) → q ≡ low → n - q * m < m → q ≡ n / m
  low-is q same below = same ∙ sym (div-eq_of_lt-le m low-fits (omega (arith, below, low-fits, ap (λ k. k * m) same)))

  pub low-is_less : (q : ℕ) → q ≡ low → m ≤ n - q * m → q + 1 ≡ n / m
  low-is_less q same above = ap (λ k. k + 1) same ∙ sym (div-eq_of_lt-le m (omega (arith, above, low-fits, some, ap (λ k. k * m) same)) (omega (arith, near)))
