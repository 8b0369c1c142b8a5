-- A fraction by its sign and its size, as the code holds it.
use Rattle.std.specs.Prelude.{◌≡◌, ℕ, ◌+◌, ◌/◌, ◌^◌, ◌≤◌, ◌==◌, if◌then◌else◌, Bool, true, false, List, ℤ, pos, neg_ℤ, ◌+ℤ◌, ◌-ℤ◌, nat_abs, ◌*◌, ◌∷◌, drop}
use Rattle.std.specs.Int.{is_negative}
use Rattle.cube_model.specs.declared.term.Term.{Term}
use Rattle.cube_model.specs.Limits.{WIDE}
use Rattle.exact_fraction.specs.declared.fraction.SignedFraction.{SignedFraction}
use Rattle.exact_fraction.specs.declared.column.SignedSums.{SignedSums}
use Rattle.exact_fraction.specs.Number.{gcd}
use Rattle.exact_fraction.specs.Fraction.{Fraction, column_fractions, sum_over, abs_over}

-- a number by its sign and its size
abbrev pub signed : Bool → ℕ → ℤ
signed false size = pos size
signed true size = neg_ℤ (pos size)

-- the fraction
abbrev pub fraction_of : SignedFraction → Fraction
fraction_of p = record { num = signed p.negative p.size; den = p.den }

-- a number over a denominator
abbrev pub signed_over : ℤ → ℕ → SignedFraction
signed_over num den = record { negative = is_negative num; size = nat_abs num; den = den }

-- a fraction in lowest terms
abbrev pub signed_lowest : SignedFraction → SignedFraction
signed_lowest p = record { negative = p.negative; size = p.size / gcd p.size p.den; den = p.den / gcd p.size p.den }

-- the whole part, or the next whole number where something is left over
abbrev pub next_above : ℕ → ℕ → ℕ
next_above whole rest = if rest == 0 then whole else whole + 1

-- the greatest whole part of a fraction that bounds are given for
abbrev pub MOST_WHOLE : ℕ
MOST_WHOLE = 2 ^ 80

-- and of the fraction of a moderate term
abbrev pub MOST_PART : ℕ
MOST_PART = 2 ^ 60

-- the largest denominator for which a number below it, in units, has 64 bits
abbrev pub SMALL_DEN : ℕ
SMALL_DEN = 18_446_744_073

-- p is the fraction at a place of a column, which is a moderate one
pub record IsFractionAt (column : ℕ) (terms : List Term) (i : ℕ) (p : SignedFraction) : Type 0 where
  pub next : drop i (column_fractions column terms) ≡ fraction_of p ∷ drop (i + 1) (column_fractions column terms)
  pub some : 1 ≤ p.den
  pub narrow : p.den ≤ WIDE
  pub size : p.size ≤ MOST_PART * p.den

-- over a multiple of the denominators, the sums are the sum of the fractions, and together that of the absolute values
pub record AreSignedSums (multiple : ℕ) (fs : List Fraction) (sums : SignedSums) : Type 0 where
  pub sum : sum_over multiple fs ≡ pos sums.above -ℤ pos sums.below
  pub size : sums.above + sums.below ≡ abs_over multiple fs
  pub within : sums.above + sums.below ≤ WIDE

-- a number of this sign and size was added to that of the sums to which it belongs
pub record AddsToSums (old : SignedSums) (negative : Bool) (share : ℕ) (new : SignedSums) : Type 0 where
  pub sum : pos new.above -ℤ pos new.below ≡ pos old.above -ℤ pos old.below +ℤ signed negative share
  pub size : new.above + new.below ≡ old.above + old.below + share
  pub within : new.above + new.below ≤ WIDE

-- p is a fraction that bounds can be given for
pub record StandsFor (f : Fraction) (p : SignedFraction) : Type 0 where
  pub fraction : fraction_of p ≡ f
  pub some : 1 ≤ p.den
  pub narrow : p.den ≤ WIDE
  pub within : p.size ≤ WIDE
  pub size : p.size ≤ MOST_WHOLE * p.den

-- p is the sum over a denominator
pub record IsSumOver (sums : SignedSums) (over : ℕ) (p : SignedFraction) : Type 0 where
  pub num : signed p.negative p.size ≡ pos sums.above -ℤ pos sums.below
  pub den : p.den ≡ over
  pub size : p.size ≤ sums.above + sums.below
