-- Greatest common divisors and least common multiples.
use Rattle.std.proofs.Common.{◌≡◌, ℕ, zero, suc, ◌+◌, ◌-◌, ◌*◌, ◌/◌, ◌%◌, ◌<◌, ◌≤◌, Bool, true, false, Option, Some, None, ◌&&◌, refl, sym, ap, ◌∙◌, inl, inr, arith}
use Rattle.std.specs.Prelude.{unwrap_or}
use Rattle.std.specs.Int.{IsGcd, ◌∣◌}
use Rattle.std.specs.List.{find, range_with_len}
use Rattle.std.proofs.lemmas.Bool.{cases_lt}
use Rattle.std.proofs.lemmas.Bool.Decides.{nat_tests}
use Rattle.std.proofs.lemmas.Nat.{le-div}
use Rattle.std.proofs.lemmas.Nat.Gcd.{dvd_refl, dvd-zero, dvd_trans, dvd_antisymm, le_of_dvd, dvd_of_mod-eq-zero, mod-eq-zero_of_dvd, IsGcd-from_zero, IsGcd-swap, IsGcd-from_mod, same_from_IsGcd, le_from_IsGcd}
use Rattle.std.proofs.Math.Nat.{mod-eq-sub-mul-div, mul-div-mul_left, mul-sub, mul-zero, zero-mul, mul-one, mul_assoc, dvd-mul_left, dvd-mul_right, pos_of_dvd_of_pos, mul-div_cancel', mul-pos, mul-dvd-mul_left, div-le_of_le-mul, eq_of_mul-eq-mul_left, dvd_of_mul-dvd-mul_left, div-le_of_le-mul, one-dvd}
use Rattle.exact_fraction.specs.Number.{greatest_to, divides, gcd, lcm}

-- a remainder scales with both numbers
mod-scaled : (k a b : ℕ) → 0 < k → (k * a) % (k * b) ≡ k * (a % b)
mod-scaled k a b some =
    mod-eq-sub-mul-div (k * a) (k * b) ∙ ap (λ q. k * a - k * b * q) (mul-div-mul_left a b some) ∙ ap (λ p. k * a - p) (mul_assoc k b (a / b)) ∙ sym (ap (λ r. k * r) (mod-eq-sub-mul-div a b) ∙ mul-sub k a (b * (a / b)))

-- what Euclid finds, and what he finds where both numbers are scaled
record Found (a b : ℕ) : Type 0 where
  divisor : ℕ
  is : IsGcd a b divisor
  scaled : (k : ℕ) → 0 < k → IsGcd (k * a) (k * b) (k * divisor)

at_zero : (a b : ℕ) → b ≡ 0 → Found a b
at_zero a b none = record { divisor = a; is = IsGcd-from_zero a b none; scaled = λ k some. IsGcd-from_zero (k * a) (k * b) (ap (λ n. k * n) none ∙ mul-zero k) }

euclid : (most a b : ℕ) → b ≤ most → Found a b
euclid zero a b le = at_zero a b (omega arith)
euclid (suc most) a b le = elim (cases_lt 0 b) [
  | inl lt ↦
      let rest = euclid most b (a % b) (omega arith) in
      record {
        divisor = rest.divisor;
        is = IsGcd-from_mod a b rest.divisor rest.is;
        scaled = λ k some. IsGcd-from_mod (k * a) (k * b) (k * rest.divisor) (rw (mod-scaled k a b some) (rest.scaled k some));
      }
  | inr none ↦ at_zero a b (omega arith)
]

not_true : (b : Bool) → (b ≡ true → ⊥) → b ≡ false
not_true true never = absurd (never refl)
not_true false never = refl

-- the greatest number that passes
greatest_is : (passes : ℕ → Bool) (n g : ℕ) → 1 ≤ g → g ≤ n → passes g ≡ true → ((d : ℕ) → passes d ≡ true → d ≤ g) → greatest_to passes n ≡ g
unfolding greatest_to
greatest_is passes zero g some le passed most = absurd (omega arith)
greatest_is passes (suc n) g some le passed most = elim (cases_lt n g) [
  | inl lt ↦
      let same : g ≡ suc n = omega arith in
      let here : passes (suc n) ≡ true = rw (← same) passed in
      rw here (sym same)
  | inr lower ↦
      let here : passes (suc n) ≡ false = not_true (passes (suc n)) (λ above. omega (arith, most (suc n) above)) in
      rw here (greatest_is passes n g some lower passed most)
]

-- the least number that passes, of n numbers from start
least_is : (passes : ℕ → Bool) (start n m : ℕ) → start ≤ m → m < start + n → passes m ≡ true → ((k : ℕ) → start ≤ k → passes k ≡ true → m ≤ k) → find passes (range_with_len start n) ≡ Some m
least_is passes start zero m from below passed least = absurd (omega arith)
least_is passes start (suc n) m from below passed least = elim (cases_lt start m) [
  | inl lt ↦
      let here : passes start ≡ false = not_true (passes start) (λ before. omega (arith, least start (omega arith) before)) in
      rw here (least_is passes (start + 1) n m (omega arith) (omega arith) passed (λ k from_k passed_k. least k (omega arith) passed_k))
  | inr first ↦
      let same : m ≡ start = omega arith in
      let here : passes start ≡ true = rw (← same) passed in
      rw here (ap Some (sym same))
]

-- a test for divisors says which they are
both_divide : (c d m n : ℕ) → (divides c m && divides d n) ≡ true → (c ∣ m) × (d ∣ n)
both_divide c d m n both =
    let left : m % c ≡ 0 = grind (arith, nat_tests) in
    let right : n % d ≡ 0 = grind (arith, nat_tests) in
    (dvd_of_mod-eq-zero c left, dvd_of_mod-eq-zero d right)

test_of : (c d m n : ℕ) → c ∣ m → d ∣ n → (divides c m && divides d n) ≡ true
test_of c d m n left right =
    let left_rest = mod-eq-zero_of_dvd c left in
    let right_rest = mod-eq-zero_of_dvd d right in
    grind (arith, nat_tests)

-- the greatest common divisor is the one that every common divisor divides
pub gcd_unique : (a b g : ℕ) → 1 ≤ b → IsGcd a b g → gcd a b ≡ g
unfolding gcd
gcd_unique a b g some is =
    let above : 0 < g = pos_of_dvd_of_pos is.1 (omega arith) in
    greatest_is (λ d. divides d a && divides d b) b g (omega arith) (le_of_dvd (omega arith) is.1) (test_of g g a b is.0 is.1)
    (λ d both. let parts = both_divide d d a b both in le_from_IsGcd a b g d is above parts.0 parts.1)

-- Euclid's steps, at most so many: they compute where the search is too long
unfoldable pub by_steps : ℕ → ℕ → ℕ → Option ℕ
by_steps zero a b = None
by_steps (suc most) a zero = Some a
by_steps (suc most) a (suc b) = by_steps most (suc b) (a % suc b)

by_steps-is : (most a b g : ℕ) → by_steps most a b ≡ Some g → IsGcd a b g
unfolding by_steps
by_steps-is zero a b g found = absurd (cc)
by_steps-is (suc most) a zero g found = let same : a ≡ g = cc in rw (← same) (IsGcd-from_zero a zero refl)
by_steps-is (suc most) a (suc b) g found = IsGcd-from_mod a (suc b) g (by_steps-is most (suc b) (a % suc b) g found)

-- where they end, they find the greatest common divisor
pub gcd_by : (a b g : ℕ) → 1 ≤ b → by_steps 200 a b ≡ Some g → gcd a b ≡ g
gcd_by a b g some found = gcd_unique a b g some (by_steps-is 200 a b g found)

pub gcd-is : (a b : ℕ) → 1 ≤ b → IsGcd a b (gcd a b)
gcd-is a b some =
    let found = euclid b a b (omega arith) in
    rw (gcd_unique a b found.divisor some found.is) found.is

pub gcd_some : (a b : ℕ) → 1 ≤ b → 1 ≤ gcd a b
gcd_some a b some = pos_of_dvd_of_pos (gcd-is a b some).1 some

-- what is left of the second number is at least 1
pub gcd-one : (a b : ℕ) → b ≡ 1 → gcd a b ≡ 1
gcd-one a b one = ap (gcd a) one ∙ gcd_unique a 1 1 (omega arith) (one-dvd a, dvd_refl 1, λ d _ h. h)

pub cofactor_some : (a b : ℕ) → 1 ≤ b → 1 ≤ b / gcd a b
cofactor_some a b some = le-div 1 b (gcd a b) (gcd_some a b some) (omega (arith, le_of_dvd some (gcd-is a b some).1))

-- and it bounds what is left of the first as it bounded the first
pub cofactor_le : (m a b : ℕ) → 1 ≤ b → a ≤ m * b → a / gcd a b ≤ m * (b / gcd a b)
cofactor_le m a b some le =
    let whole : gcd a b * (b / gcd a b) ≡ b = mul-div_cancel' (gcd a b) (gcd-is a b some).1 in
    div-le_of_le-mul (gcd a b) (scaled (gcd a b) (b / gcd a b) whole)
  where
    scaled : (g rest : ℕ) → g * rest ≡ b → a ≤ g * (m * rest)
    scaled g rest whole = let shown : m * (g * rest) ≡ g * (m * rest) = omega arith in rw (← shown, whole) le

-- it scales with both numbers
pub gcd-scaled : (k a b g : ℕ) → 0 < k → IsGcd a b g → IsGcd (k * a) (k * b) (k * g)
gcd-scaled k a b g some is =
    let found = euclid b a b (omega arith) in
    rw (same_from_IsGcd a b g found.divisor is found.is) (found.scaled k some)

-- so what is left of both has no common divisor
pub apart-cofactors : (g a b : ℕ) → 0 < g → IsGcd (g * a) (g * b) g → IsGcd a b 1
apart-cofactors g a b some is =
    let found = euclid b a b (omega arith) in
    let same : g * 1 ≡ g * found.divisor = mul-one g ∙ same_from_IsGcd (g * a) (g * b) g (g * found.divisor) is (found.scaled g some) in
    rw (eq_of_mul-eq-mul_left g some 1 found.divisor same) found.is

-- what divides a product and has nothing in common with one factor divides the other
pub dvd_of_apart : (d a b : ℕ) → IsGcd d a 1 → d ∣ b * a → d ∣ b
dvd_of_apart d a zero apart divides_both = dvd-zero d
dvd_of_apart d a (suc b) apart divides_both =
    let scaled = gcd-scaled (suc b) d a 1 (omega arith) apart in
    rw mul-one at (scaled.2 d (dvd-mul_left d (suc b)) divides_both)

-- nothing in common with two factors, nothing with their product
pub apart-product : (a b c : ℕ) → IsGcd a b 1 → IsGcd a c 1 → IsGcd a (b * c) 1
apart-product a b c left right = (
  one-dvd a,
  one-dvd (b * c),
  λ d in_a in_product.
      let apart : IsGcd d c 1 = (one-dvd d, one-dvd c, λ e in_d in_c. right.2 e (dvd_trans e in_d in_a) in_c) in
      left.2 d in_a (dvd_of_apart d c b apart in_product),
)

-- a common multiple that divides every common multiple
pub record IsLcm (a b m : ℕ) : Type 0 where
  pub left : a ∣ m
  pub right : b ∣ m
  pub least : (k : ℕ) → a ∣ k → b ∣ k → m ∣ k

same_from_IsLcm : (a b m n : ℕ) → IsLcm a b m → IsLcm a b n → m ≡ n
same_from_IsLcm a b m n first second = dvd_antisymm (first.least n second.left second.right) (second.least m first.left first.right)

-- the least common multiple is the one that divides every common multiple
pub lcm_unique : (a b m : ℕ) → 1 ≤ a → 1 ≤ b → IsLcm a b m → lcm a b ≡ m
unfolding lcm
lcm_unique a b m some_a some_b is =
    let product : 0 < a * b = mul-pos some_a some_b in
    let in_product : m ∣ a * b = is.least (a * b) (dvd-mul_right a b) (dvd-mul_left b a) in
    let above : 1 ≤ m = pos_of_dvd_of_pos in_product product in
    let below : m < 1 + a * b = omega (arith, le_of_dvd product in_product) in
    ap (λ found. unwrap_or found 0)
    (least_is (λ k. divides a k && divides b k) 1 (a * b) m above below (test_of a b m m is.left is.right)
    (λ k from both. let parts = both_divide a b k k both in le_of_dvd from (is.least k parts.0 parts.1)))

-- one number times what the greatest common divisor leaves of the other
product-is : (a b : ℕ) → 1 ≤ b → IsLcm a b (a * (b / gcd a b))
product-is a b some =
    let g = gcd a b in
    let is = gcd-is a b some in
    let above : 0 < g = gcd_some a b some in
    let a_is : g * (a / g) ≡ a = mul-div_cancel' g is.0 in
    let b_is : g * (b / g) ≡ b = mul-div_cancel' g is.1 in
    let apart : IsGcd (b / g) (a / g) 1 = IsGcd-swap _ _ _ (apart-cofactors g (a / g) (b / g) above (rw (a_is, b_is) is)) in
    record {
      left = dvd-mul_right a (b / g);
      right = let turned : a / g * b ≡ a * (b / g) = turned_product g (a / g) (b / g) a b a_is b_is in rw (← turned) (dvd-mul_left b (a / g));
      least = λ k in_a in_b.
          let k_is : a * (k / a) ≡ k = mul-div_cancel' a in_a in
          let both : g * (b / g) ∣ g * (k / a * (a / g)) = rw (b_is, factors g (k / a) (a / g) a k a_is k_is) in_b in
          let rest : b / g ∣ k / a = dvd_of_apart (b / g) (a / g) (k / a) apart (dvd_of_mul-dvd-mul_left (b / g) above both) in
          rw (← k_is) (mul-dvd-mul_left (b / g) a rest);
    }
  where
    turned_product : (g x y a b : ℕ) → g * x ≡ a → g * y ≡ b → x * b ≡ a * y
    turned_product g x y a b a_is b_is = rw (← a_is, ← b_is) (omega arith)

    factors : (g x y a k : ℕ) → g * y ≡ a → a * x ≡ k → g * (x * y) ≡ k
    factors g x y a k a_is k_is = rw (← k_is, ← a_is) (omega arith)

-- so it is that product
pub lcm-product : (a b : ℕ) → 1 ≤ b → lcm a b ≡ a * (b / gcd a b)
unfolding lcm
lcm-product zero b some = rw (zero-mul b, zero-mul (b / gcd zero b)) refl
lcm-product (suc a) b some = lcm_unique (suc a) b (suc a * (b / gcd (suc a) b)) (omega arith) some (product-is (suc a) b some)

-- with the divisor that Euclid's steps find
pub lcm_by : (a b g : ℕ) → 1 ≤ b → by_steps 200 a b ≡ Some g → lcm a b ≡ a * (b / g)
lcm_by a b g some found = lcm-product a b some ∙ ap (λ d. a * (b / d)) (gcd_by a b g some found)

pub lcm-is : (a b : ℕ) → 1 ≤ b → IsLcm a b (lcm a b)
lcm-is a b some = rw (lcm-product a b some) (product-is a b some)

pub lcm_some : (a b : ℕ) → 1 ≤ a → 1 ≤ b → 1 ≤ lcm a b
lcm_some a b some_a some_b =
    pos_of_dvd_of_pos ((lcm-is a b some_b).least (a * b) (dvd-mul_right a b) (dvd-mul_left b a)) (mul-pos some_a some_b)

-- it is at least the first, and at least the second
pub le-lcm : (a b : ℕ) → 1 ≤ a → 1 ≤ b → a ≤ lcm a b
le-lcm a b some_a some_b = le_of_dvd (lcm_some a b some_a some_b) (lcm-is a b some_b).left

pub lcm-le : (a b : ℕ) → 1 ≤ a → 1 ≤ b → b ≤ lcm a b
lcm-le a b some_a some_b = le_of_dvd (lcm_some a b some_a some_b) (lcm-is a b some_b).right

pub lcm-one : (a : ℕ) → lcm a 1 ≡ a
lcm-one a = same_from_IsLcm a 1 (lcm a 1) a (lcm-is a 1 (omega arith)) (record { left = dvd_refl a; right = one-dvd a; least = λ k in_a in_one. in_a })

pub one-lcm : (b : ℕ) → 1 ≤ b → lcm 1 b ≡ b
one-lcm b some = same_from_IsLcm 1 b (lcm 1 b) b (lcm-is 1 b some) (record { left = one-dvd b; right = dvd_refl b; least = λ k in_one in_b. in_b })

pub lcm_assoc : (a b c : ℕ) → 1 ≤ b → 1 ≤ c → lcm (lcm a b) c ≡ lcm a (lcm b c)
lcm_assoc a b c some_b some_c =
    let first = lcm-is a b some_b in
    let both = lcm-is (lcm a b) c some_c in
    let last = lcm-is b c some_c in
    same_from_IsLcm a (lcm b c) (lcm (lcm a b) c) (lcm a (lcm b c))
    (record {
      left = dvd_trans a first.left both.left;
      right = last.least (lcm (lcm a b) c) (dvd_trans b first.right both.left) both.right;
      least = λ k in_a in_rest. both.least k (first.least k in_a (dvd_trans b last.left in_rest)) (dvd_trans c last.right in_rest);
    })
    (lcm-is a (lcm b c) (lcm_some b c some_b some_c))
