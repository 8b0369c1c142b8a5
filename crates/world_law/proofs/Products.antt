-- Signed numbers times natural ones: what std lacks of their laws.
use Rattle.std.proofs.Common.{◌≡◌, ℕ, ◌+◌, ◌*◌, ap, arith, ℤ, pos, ◌+ℤ◌, ◌*ℤ◌}
use borrow.Author.Differences.{up, down, sum_is_lem, product_is, same_in}

-- a product is that of each part
parts : (x : ℤ) (n : ℕ) → (up (x *ℤ pos n) ≡ up x * n) × (down (x *ℤ pos n) ≡ down x * n)
parts x n = omega (arith, product_is x (pos n))

pub sum-scaled : (x y : ℤ) (n : ℕ) → (x +ℤ y) *ℤ pos n ≡ x *ℤ pos n +ℤ y *ℤ pos n
sum-scaled x y n =
    let sum = ap (λ k. k * n) (sum_is_lem x y) in
    same_in _ _ (omega (arith, sum, parts (x +ℤ y) n, parts x n, parts y n, sum_is_lem (x *ℤ pos n) (y *ℤ pos n)))

pub scaled-sum : (x : ℤ) (m n : ℕ) → x *ℤ pos (m + n) ≡ x *ℤ pos m +ℤ x *ℤ pos n
scaled-sum x m n = same_in _ _ (omega (arith, parts x (m + n), parts x m, parts x n, sum_is_lem (x *ℤ pos m) (x *ℤ pos n)))

pub scaled-twice : (x : ℤ) (m n : ℕ) → x *ℤ pos m *ℤ pos n ≡ x *ℤ pos (m * n)
scaled-twice x m n =
    let first = parts x m in
    same_in _ _ (omega (arith, parts (x *ℤ pos m) n, ap (λ k. k * n) first.0, ap (λ k. k * n) first.1, parts x (m * n)))

pub scaled-none : (n : ℕ) → pos 0 *ℤ pos n ≡ pos 0
scaled-none n = ap pos (omega arith)

pub scaled-one : (x : ℤ) → x *ℤ pos 1 ≡ x
scaled-one x = same_in _ _ (omega (arith, parts x 1))

pub scaled-by_none : (x : ℤ) → x *ℤ pos 0 ≡ pos 0
scaled-by_none x = same_in _ _ (omega (arith, parts x 0))

-- either number may be the signed one
pub product_comm : (n : ℕ) (x : ℤ) → pos n *ℤ x ≡ x *ℤ pos n
product_comm n x = same_in _ _ (omega (arith, product_is (pos n) x, parts x n))
