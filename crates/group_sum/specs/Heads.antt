-- Terms of a denominator, which may not be there, and what becomes of two of them.
use Rattle.std.specs.Prelude.{◌≡◌, ◌≢◌, ℕ, ◌+◌, ◌<◌, ◌≤◌, ◌⊎◌, List, length, Option, Some, ℤ, pos, ◌+ℤ◌, ◌-ℤ◌, nat_abs, slice_index_or}
use Rattle.std.specs.Option.{option_map_or}
use Rattle.cube_model.specs.declared.term.Term.{Term}
use Rattle.cube_model.specs.Limits.{WIDE}

-- the count's numerator of a term, 0 where there is none
abbrev pub head_count : Option Term → ℕ
head_count term = option_map_or (λ t. t.count) term 0

-- the numerator of a further column, 0 where there is none
abbrev pub head_sum : Option Term → ℕ → ℤ
head_sum term k = option_map_or (λ t. slice_index_or t.sums k (pos 0)) term (pos 0)

-- those of two terms added up
abbrev pub total_in : Option Term → Option Term → ℕ → ℤ
total_in left right k = head_sum left k +ℤ head_sum right k

-- those of a term without those of a part of it
abbrev pub remainder_in : Option Term → Option Term → ℕ → ℤ
remainder_in whole part k = head_sum whole k -ℤ head_sum part k

-- none of so many numerators passes WIDE
pub record AreWithin (values : ℕ) (numerator : ℕ → ℤ) : Type 0 where
  pub each : (k : ℕ) → k < values → nat_abs (numerator k) ≤ WIDE

-- the sums have these numerators at their places
pub record Lists (sums : List ℤ) (numerator : ℕ → ℤ) : Type 0 where
  pub each : (k : ℕ) → k < length sums → slice_index_or sums k (pos 0) ≡ numerator k

-- a term that has these numerators
pub record IsTermOf (den values weight : ℕ) (numerator : ℕ → ℤ) (term : Term) : Type 0 where
  pub has_den : term.den ≡ den
  pub count : term.count ≡ weight
  pub columns : length term.sums ≡ values
  pub sums : Lists term.sums numerator

-- one term for two
abbrev pub IsTotal : Term → Term → Term → Type 0
IsTotal x y term = IsTermOf x.den (length x.sums) (x.count + y.count) (total_in (Some x) (Some y)) term

-- two terms, either of which may not be there, have other sums
abbrev pub HasOtherSums : ℕ → Option Term → Option Term → Type 0
HasOtherSums values whole part = (k : ℕ) × (k < values) × (head_sum whole k ≢ head_sum part k)

-- two terms, either of which may not be there, have the same sums
abbrev pub HasSameSums : ℕ → Option Term → Option Term → Type 0
HasSameSums values whole part = (k : ℕ) → k < values → head_sum whole k ≡ head_sum part k

-- nothing can be left: the count would be below 0, or 0 beside another numerator
abbrev pub HasNoRemainder : ℕ → Option Term → Option Term → Type 0
HasNoRemainder values whole part = (head_count whole < head_count part) ⊎ ((head_count whole ≡ head_count part) × HasOtherSums values whole part)

-- something can be left, or nothing of all numerators
pub record HasRemainder (values : ℕ) (whole part : Option Term) : Type 0 where
  pub less : head_count part ≤ head_count whole
  pub same : head_count whole ≡ head_count part → HasSameSums values whole part
