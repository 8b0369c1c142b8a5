-- Signed numbers times natural ones: the parts of a product, and the product of a sum.
use Rattle.std.proofs.Common.{◌≡◌, ℕ, ◌*◌, ap, arith, ℤ, pos, ◌+ℤ◌, ◌*ℤ◌}
use borrow.Author.Differences.{up, down, sum_is_lem, product_is, same_in}

-- times a natural number, in parts
pub times_parts : (x : ℤ) (n : ℕ) → (up (x *ℤ pos n) ≡ up x * n) × (down (x *ℤ pos n) ≡ down x * n)
times_parts x n = omega (arith, product_is x (pos n))

pub times-sum : (x y : ℤ) (n : ℕ) → (x +ℤ y) *ℤ pos n ≡ x *ℤ pos n +ℤ y *ℤ pos n
times-sum x y n = same_in _ _ (omega (arith, ap (λ k. k * n) (sum_is_lem x y), times_parts (x +ℤ y) n, times_parts x n, times_parts y n, sum_is_lem (x *ℤ pos n) (y *ℤ pos n)))
