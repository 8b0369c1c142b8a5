-- The terms of two answers merged, and what is left of one without those of the other.
use Rattle.std.specs.Prelude.{◌≡◌, ◌≢◌, ℕ, ◌+◌, ◌<◌, ◌≤◌, ◌⊎◌, ◌-◌, ◌+ℤ◌, ◌-ℤ◌, nat_abs}
use Rattle.cube_model.specs.Answer.{count_of, merge, numerator_of, term_of}
use Rattle.cube_model.specs.Limits.{WIDE}
use Rattle.group_sum.specs.declared.difference.SubFault.{SubFault}
use Rattle.group_sum.specs.declared.difference.SubFault.TheVariants.{Less, Memory}
use Rattle.group_sum.specs.Terms.{TermList}
use Rattle.group_sum.specs.Heads.{HasRemainder}

-- with the numerators of both added up, none passes WIDE
pub record FitsMerge (old other : TermList) : Type 0 where
  pub counts : (d : ℕ) → count_of old.terms d + count_of other.terms d ≤ WIDE
  pub sums : (d k : ℕ) → k + 1 < old.columns → nat_abs (numerator_of old.terms d (k + 1) +ℤ numerator_of other.terms d (k + 1)) ≤ WIDE

-- at every denominator all numerators are those of both added up
pub record Merges (old other new : TermList) : Type 0 where
  pub columns : new.columns ≡ old.columns
  pub counts : (d : ℕ) → count_of new.terms d ≡ count_of old.terms d + count_of other.terms d
  pub sums : (d k : ℕ) → k + 1 < old.columns → numerator_of new.terms d (k + 1) ≡ numerator_of old.terms d (k + 1) +ℤ numerator_of other.terms d (k + 1)

-- no numerator of the difference passes WIDE; that of the count never does
pub record FitsDifference (whole part : TermList) : Type 0 where
  pub sums : (d k : ℕ) → k + 1 < whole.columns → nat_abs (numerator_of whole.terms d (k + 1) -ℤ numerator_of part.terms d (k + 1)) ≤ WIDE

-- at every denominator all numerators are those of the whole without those of the part
pub record Subtracts (whole part difference : TermList) : Type 0 where
  pub columns : difference.columns ≡ whole.columns
  pub counts : (d : ℕ) → count_of difference.terms d + count_of part.terms d ≡ count_of whole.terms d
  pub sums : (d k : ℕ) → k + 1 < whole.columns → numerator_of difference.terms d (k + 1) ≡ numerator_of whole.terms d (k + 1) -ℤ numerator_of part.terms d (k + 1)

-- merged with the part it gives the whole
pub record IsDifference (whole part difference : TermList) : Type 0 where
  pub columns : difference.columns ≡ whole.columns
  pub merges : merge (whole.columns - 1) difference.terms part.terms ≡ whole.terms

-- another numerator than the count's is not the same in both
abbrev pub Differs : TermList → TermList → ℕ → Type 0
Differs whole part d = (k : ℕ) × (k + 1 < whole.columns) × (numerator_of whole.terms d (k + 1) ≢ numerator_of part.terms d (k + 1))

-- of the difference at a denominator, the count's numerator is below 0, or it is 0 and another is not
abbrev pub IsBad : TermList → TermList → ℕ → Type 0
IsBad whole part d = (count_of whole.terms d < count_of part.terms d) ⊎ ((count_of whole.terms d ≡ count_of part.terms d) × Differs whole part d)

-- there is a difference, since no denominator is bad
abbrev pub HasDifference : TermList → TermList → Type 0
HasDifference whole part = (d : ℕ) → ¬ IsBad whole part d

-- at each denominator something can be left
pub record HasRemainders (whole part : TermList) : Type 0 where
  pub each : (d : ℕ) → HasRemainder (whole.columns - 1) (term_of whole.terms d) (term_of part.terms d)

-- the denominator is bad, and no smaller one is
pub record IsFirstBad (whole part : TermList) (den : ℕ) : Type 0 where
  pub bad : IsBad whole part den
  pub first : (d : ℕ) → d < den → ¬ IsBad whole part d

-- what a fault says: where it runs out of memory, no denominator is bad
abbrev pub IsDifferenceFault : TermList → TermList → SubFault → Type 0
IsDifferenceFault whole part (Less den) = IsFirstBad whole part den
IsDifferenceFault whole part Memory = HasDifference whole part
