-- What adding a share does to one term.
use Rattle.std.specs.Prelude.{◌≡◌, ℕ, ◌+◌, ◌<◌, ◌≤◌, List, length, slice_index_or, ℤ, pos, ◌+ℤ◌, ◌*ℤ◌, nat_abs, replicate}
use Rattle.cube_model.specs.declared.term.Term.{Term}
use Rattle.cube_model.specs.Limits.{WIDE}

-- the sum at a place, with the weight times the value there
abbrev pub scaled_sum : List ℤ → ℕ → List ℤ → ℕ → ℤ
scaled_sum sums weight values k = slice_index_or sums k (pos 0) +ℤ pos weight *ℤ slice_index_or values k (pos 0)

-- with the weight times each value added, no sum passes WIDE
pub record SumsFit (sums : List ℤ) (weight : ℕ) (values : List ℤ) : Type 0 where
  pub columns : length values ≡ length sums
  pub each : (k : ℕ) → k < length values → nat_abs (scaled_sum sums weight values k) ≤ WIDE

-- the weight times each value was added to the sum at its place
pub record AddsScaled (old new : List ℤ) (weight : ℕ) (values : List ℤ) : Type 0 where
  pub columns : length new ≡ length old
  pub each : (k : ℕ) → k < length values → slice_index_or new k (pos 0) ≡ scaled_sum old weight values k

-- with units added to the count, and the weight times each value to its sum, no numerator of the term passes WIDE
pub record TermFits (term : Term) (units weight : ℕ) (values : List ℤ) : Type 0 where
  pub count : term.count + units ≤ WIDE
  pub sums : SumsFit term.sums weight values

-- units were added to the count of the term, and the weight times each value to its sum
pub record RaisesTerm (old new : Term) (units weight : ℕ) (values : List ℤ) : Type 0 where
  pub den : new.den ≡ old.den
  pub count : new.count ≡ old.count + units
  pub sums : AddsScaled old.sums new.sums weight values

-- a term that has no share yet
abbrev pub bare_term : ℕ → ℕ → Term
bare_term den columns = record { den = den; count = 0; sums = replicate columns (pos 0) }
