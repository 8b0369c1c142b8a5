-- What few facts in groups add up to stays within limits.
use Rattle.std.proofs.Common.{◌≡◌, ℕ, ◌+◌, ◌*◌, ◌≤◌, Bool, true, false, List, [], ◌∷◌, length, refl, ap, ◌∙◌, arith, inl, inr, ℤ, pos, ◌+ℤ◌, ◌*ℤ◌}
use Rattle.std.specs.Prelude.{All, nat_abs, slice_index_or, ◌==◌, if◌then◌else◌}
use Rattle.std.specs.List.{sum_by}
use Rattle.std.proofs.lemmas.Bool.{cases_lt}
use Rattle.std.proofs.lemmas.Bool.Decides.{nat_tests}
use Rattle.std.proofs.lemmas.Int.{ints, unsigned_abs-mul}
use Rattle.std.proofs.lemmas.List.Elements.{All-head, All-tail}
use Rattle.std.proofs.lemmas.List.Sums.{sum_by-cons}
use Rattle.std.proofs.Math.Nat.{mul-le-mul_left, mul-le-mul_right}
use Rattle.cube_model.specs.Allocation.{Allocation}
use Rattle.cube_model.specs.Answer.{total_by, weight_inside}
use Rattle.cube_model.specs.Cells.{is_among}
use Rattle.cube_model.specs.Limits.{DEN_LIMIT, MAX_FACTS, MAX_VALUE, WIDE}
use Rattle.alloc_rows.specs.Alloc.{IsAllocation}
use Rattle.fact_groups.specs.Groups.{Group, count_in, sum_in}
use Rattle.fact_groups.proofs.Filters.{sum_by-filter-le}
use Rattle.fact_groups.proofs.Groups.{count_in-sum, count_over, sum_in-total, sum_over}

-- a group of a fact or more over some columns: its spread is an allocation, and its sums are those of small values
pub record IsModest (columns : ℕ) (g : Group) : Type 0 where
  pub some : 1 ≤ g.count
  pub spread_is : IsAllocation g.spread
  pub width : length g.sums ≡ columns
  pub small : (k : ℕ) → nat_abs (slice_index_or g.sums k (pos 0)) ≤ MAX_VALUE * g.count

-- how many facts groups have
abbrev pub members : List Group → ℕ
members groups = sum_by (λ g. g.count) groups

-- Numerators of so many facts: no count passes their number times its denominator, no sum MAX_VALUE times its count, and nothing
-- has a denominator from DEN_LIMIT on.
pub record AreModest (facts : ℕ) (count : ℕ → ℕ) (sum : ℕ → ℕ → ℤ) : Type 0 where
  pub counts : (d : ℕ) → count d ≤ facts * d
  pub sums : (k d : ℕ) → nat_abs (sum k d) ≤ MAX_VALUE * count d
  pub limit : (d : ℕ) → DEN_LIMIT ≤ d → count d ≡ 0

-- the weight inside cells is at most the denominator
pub inside-le : (cells : List ℕ) (a : Allocation) → IsAllocation a → weight_inside cells a ≤ a.den
inside-le cells a is = omega (arith, is.total, sum_by-filter-le (λ (row : ℕ × ℕ). is_among cells row.0) (λ row. row.1) a.rows)

module _ (columns : ℕ) (cells : List ℕ) (den : ℕ) where
  module _ (g : Group) (is : IsModest columns g) where
    one-count : count_over cells den g ≤ g.count * den
    one-count = by (g.spread.den == den) refl
      where
        by : (b : Bool) → (g.spread.den == den) ≡ b → (if b then g.count * weight_inside cells g.spread else 0) ≤ g.count * den
        by true same =
            let its : g.spread.den ≡ den = grind (arith, nat_tests, same) in
            mul-le-mul_left g.count (omega (arith, its, inside-le cells g.spread is.spread_is))
        by false other = omega arith

    one-limit : DEN_LIMIT ≤ den → count_over cells den g ≡ 0
    one-limit most = by (g.spread.den == den) refl
      where
        by : (b : Bool) → (g.spread.den == den) ≡ b → (if b then g.count * weight_inside cells g.spread else 0) ≡ 0
        by true same =
            let its : g.spread.den ≡ den = grind (arith, nat_tests, same) in
            absurd (omega (arith, its, most, is.spread_is.limit))
        by false other = refl

    one-size : (k : ℕ) → nat_abs (sum_over cells k den g) ≤ MAX_VALUE * count_over cells den g
    one-size k = by (g.spread.den == den)
      where
        by : (b : Bool) → nat_abs (if b then pos (weight_inside cells g.spread) *ℤ slice_index_or g.sums k (pos 0) else pos 0) ≤ MAX_VALUE * (if b then g.count * weight_inside cells g.spread else 0)
        by true =
            let w = weight_inside cells g.spread in
            let most : w * nat_abs (slice_index_or g.sums k (pos 0)) ≤ w * (MAX_VALUE * g.count) = mul-le-mul_left w (is.small k) in
            omega (arith, unsigned_abs-mul (pos w) (slice_index_or g.sums k (pos 0)), most)
        by false = omega (arith, ints)

  -- so is what groups add up to
  counts-of : (groups : List Group) → All (IsModest columns) groups → sum_by (count_over cells den) groups ≤ members groups * den
  counts-of [] each = omega arith
  counts-of (g ∷ groups) each =
      omega (
        arith,
        one-count g (All-head (IsModest columns) g groups each),
        counts-of groups (All-tail (IsModest columns) g groups each),
        sum_by-cons (count_over cells den) g groups,
        ap (λ n. n * den) (sum_by-cons (λ (g : Group). g.count) g groups),
      )

  limit-of : (groups : List Group) → All (IsModest columns) groups → DEN_LIMIT ≤ den → sum_by (count_over cells den) groups ≡ 0
  limit-of [] each most = refl
  limit-of (g ∷ groups) each most =
      omega (arith, one-limit g (All-head (IsModest columns) g groups each) most, limit-of groups (All-tail (IsModest columns) g groups each) most, sum_by-cons (count_over cells den) g groups)

  sums-of : (k : ℕ) (groups : List Group) → All (IsModest columns) groups → nat_abs (total_by (sum_over cells k den) groups) ≤ MAX_VALUE * sum_by (count_over cells den) groups
  sums-of k [] each = omega arith
  sums-of k (g ∷ groups) each =
      added (sum_over cells k den g) (total_by (sum_over cells k den) groups) (count_over cells den g) (sum_by (count_over cells den) groups) (sum_by (count_over cells den) (g ∷ groups))
      (one-size g (All-head (IsModest columns) g groups each) k) (sums-of k groups (All-tail (IsModest columns) g groups each)) (sum_by-cons (count_over cells den) g groups)
    where
      added : (a b : ℤ) (m n all : ℕ) → nat_abs a ≤ MAX_VALUE * m → nat_abs b ≤ MAX_VALUE * n → all ≡ m + n → nat_abs (a +ℤ b) ≤ MAX_VALUE * all
      added a b m n all first second sum = omega (arith, ints, first, second, sum)

  -- also where they are added up by their absolute values
  pub sizes-of : (k : ℕ) (groups : List Group) → All (IsModest columns) groups → sum_by (λ g. nat_abs (sum_over cells k den g)) groups ≤ MAX_VALUE * sum_by (count_over cells den) groups
  sizes-of k [] each = omega arith
  sizes-of k (g ∷ groups) each =
      omega (
        arith,
        one-size g (All-head (IsModest columns) g groups each) k,
        sizes-of k groups (All-tail (IsModest columns) g groups each),
        sum_by-cons (count_over cells den) g groups,
        sum_by-cons (λ (g : Group). nat_abs (sum_over cells k den g)) g groups,
      )

pub modest-groups : (columns : ℕ) (cells : List ℕ) (groups : List Group) → All (IsModest columns) groups → AreModest (members groups) (count_in cells groups) (sum_in cells groups)
modest-groups columns cells groups each = record {
  counts = λ d. omega (arith, count_in-sum cells d groups, counts-of columns cells d groups each);
  sums = λ k d.
      rw (count_in-sum cells d groups, sum_in-total cells k d groups) (sums-of columns cells d k groups each);
  limit = λ d most. count_in-sum cells d groups ∙ limit-of columns cells d groups each most;
}

-- where there are few facts, nothing passes WIDE
module _ (facts : ℕ) (count : ℕ → ℕ) (sum : ℕ → ℕ → ℤ) (modest : AreModest facts count sum) (few : facts ≤ MAX_FACTS) where
  pub product-within : (d : ℕ) → MAX_VALUE * count d ≤ WIDE
  product-within d = elim (cases_lt d DEN_LIMIT) [
    | inl below ↦ omega (arith, modest.counts d, mul-le-mul_right d few, below)
    | inr most ↦ omega (arith, modest.limit d most)
  ]

  pub count-within : (d : ℕ) → count d ≤ WIDE
  count-within d = omega (arith, product-within d)

  pub sum-within : (k d : ℕ) → nat_abs (sum k d) ≤ WIDE
  sum-within k d = omega (arith, modest.sums k d, product-within d)
