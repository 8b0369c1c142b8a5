-- Signed numbers times natural ones: what std lacks of their laws.
use Rattle.std.proofs.Common.{◌≡◌, ℕ, suc, ◌+◌, ◌*◌, ◌/◌, ◌<◌, ◌≤◌, sym, ap, ◌∙◌, arith, ℤ, pos, negsuc, neg_ℤ, ◌+ℤ◌, ◌*ℤ◌, ◌≤ℤ◌, ◌<ℤ◌}
use Rattle.std.specs.Prelude.{nat_abs}
use Rattle.std.specs.Int.{int_div_euclid, ◌∣◌}
use Rattle.std.specs.Int.RustNames.{int_div}
use Rattle.std.proofs.lemmas.Int.{ints}
use Rattle.std.proofs.Math.Nat.{mul-le-mul_right, le_of_mul-le-mul_right, lt_of_mul-lt-mul_right, eq_of_mul-eq-mul_right, div-mul_cancel}
use Rattle.cube_model.proofs.Products.{times_parts}
use borrow.Author.Differences.{up, down, neg_is, le_out, lt_out, at_most_in, below_in, same_in, same_out}

pub times-times : (x : ℤ) (m n : ℕ) → x *ℤ pos m *ℤ pos n ≡ x *ℤ pos (m * n)
times-times x m n =
    same_in _ _ (omega (arith, times_parts (x *ℤ pos m) n, ap (λ k. k * n) (times_parts x m).0, ap (λ k. k * n) (times_parts x m).1, times_parts x (m * n)))

pub times_swapped : (x : ℤ) (m n : ℕ) → x *ℤ pos m *ℤ pos n ≡ x *ℤ pos n *ℤ pos m
times_swapped x m n = times-times x m n ∙ ap (λ k. x *ℤ pos k) (turned m n) ∙ sym (times-times x n m)
  where
    turned : (m n : ℕ) → m * n ≡ n * m
    turned m n = omega arith

-- the order under sums and products
pub sum-le-sum : (x y z w : ℤ) → x ≤ℤ y → z ≤ℤ w → (x +ℤ z) ≤ℤ (y +ℤ w)
sum-le-sum x y z w le_x le_z = omega (arith, ints)

pub times-le-times : (x y : ℤ) (n : ℕ) → x ≤ℤ y → (x *ℤ pos n) ≤ℤ (y *ℤ pos n)
times-le-times x y n le = at_most_in _ _ (omega (arith, mul-le-mul_right n (le_out x y le), times_parts x n, times_parts y n))

pub le_of_times-le-times : (x y : ℤ) (n : ℕ) → 0 < n → (x *ℤ pos n) ≤ℤ (y *ℤ pos n) → x ≤ℤ y
le_of_times-le-times x y n some le =
    at_most_in _ _ (le_of_mul-le-mul_right (scaled (times_parts x n) (times_parts y n) (le_out _ _ le)) some)
  where
    scaled : (up (x *ℤ pos n) ≡ up x * n) × (down (x *ℤ pos n) ≡ down x * n) → (up (y *ℤ pos n) ≡ up y * n) × (down (y *ℤ pos n) ≡ down y * n) → up (x *ℤ pos n) + down (y *ℤ pos n) ≤ up (y *ℤ pos n) + down (x *ℤ pos n) → (up x + down y) * n ≤ (up y + down x) * n
    scaled first second h = omega (arith, first, second, h)

pub lt_of_times-lt-times : (x y : ℤ) (n : ℕ) → (x *ℤ pos n) <ℤ (y *ℤ pos n) → x <ℤ y
lt_of_times-lt-times x y n lt =
    below_in _ _ (lt_of_mul-lt-mul_right n (scaled (times_parts x n) (times_parts y n) (lt_out _ _ lt)))
  where
    scaled : (up (x *ℤ pos n) ≡ up x * n) × (down (x *ℤ pos n) ≡ down x * n) → (up (y *ℤ pos n) ≡ up y * n) × (down (y *ℤ pos n) ≡ down y * n) → up (x *ℤ pos n) + down (y *ℤ pos n) < up (y *ℤ pos n) + down (x *ℤ pos n) → (up x + down y) * n < (up y + down x) * n
    scaled first second h = omega (arith, first, second, h)

pub eq_of_times-eq-times : (x y : ℤ) (n : ℕ) → 0 < n → x *ℤ pos n ≡ y *ℤ pos n → x ≡ y
eq_of_times-eq-times x y n some same =
    same_in _ _ (eq_of_mul-eq-mul_right n some _ _ (scaled (times_parts x n) (times_parts y n) (same_out _ _ same)))
  where
    scaled : (up (x *ℤ pos n) ≡ up x * n) × (down (x *ℤ pos n) ≡ down x * n) → (up (y *ℤ pos n) ≡ up y * n) × (down (y *ℤ pos n) ≡ down y * n) → (up (x *ℤ pos n) ≡ up (y *ℤ pos n)) × (down (x *ℤ pos n) ≡ down (y *ℤ pos n)) → (up x + down y) * n ≡ (up y + down x) * n
    scaled first second h = omega (arith, first, second, h)

-- the quotient q that rounds down: q * k is at most the number, and more than the number less k
pub rounds_down : (a : ℤ) (k : ℕ) → 0 < k → ((int_div_euclid a (pos k) *ℤ pos k) ≤ℤ a) × (a <ℤ (int_div_euclid a (pos k) *ℤ pos k +ℤ pos k))
rounds_down (pos a) k some = (omega (arith, ints), omega (arith, ints))
rounds_down (negsuc a) k some = (omega (arith, ints), omega (arith, ints))

pub neg-times : (x : ℤ) (n : ℕ) → neg_ℤ x *ℤ pos n ≡ neg_ℤ (x *ℤ pos n)
neg-times x n = same_in _ _ (omega (arith, ints, times_parts x n, times_parts (neg_ℤ x) n, ap (λ k. k * n) (neg_is x).0, ap (λ k. k * n) (neg_is x).1))

pub neg-le-neg : (x y : ℤ) → x ≤ℤ neg_ℤ y → y ≤ℤ neg_ℤ x
neg-le-neg x y le = omega (arith, ints)

-- an exact quotient
pub int_div-times : (num : ℤ) (g : ℕ) → g ∣ nat_abs num → int_div num (pos g) *ℤ pos g ≡ num
int_div-times (pos n) g divides = ap pos (div-mul_cancel g divides)
int_div-times (negsuc n) g divides = neg-times (pos (suc n / g)) g ∙ ap (λ k. neg_ℤ (pos k)) (div-mul_cancel g divides)
