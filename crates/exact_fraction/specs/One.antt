-- A sum of terms as one fraction, with the whole numbers about it in units of 10^-9.
use Rattle.std.specs.Prelude.{◌≡◌, ℕ, false, ◌||◌, List, Bool, if◌then◌else◌, nat_lt, Some, None}
use Rattle.cube_model.specs.declared.term.Term.{Term}
use Rattle.cube_model.specs.Answer.{total_by}
use Rattle.cube_model.specs.Limits.{WIDE}
use Rattle.exact_fraction.specs.declared.sums.Value.{Value}
use Rattle.exact_fraction.specs.declared.fraction.SignedFraction.{SignedFraction}
use Rattle.exact_fraction.specs.Signed.{StandsFor}
use Rattle.exact_fraction.specs.Fraction.{Fraction, reduced, column_fractions, common_den, sum_over, abs_over, floor_of, ceiling_of}

-- the sum cannot be given as one fraction
abbrev pub is_wide : List Fraction → Bool
is_wide fs = nat_lt WIDE (common_den fs) || nat_lt WIDE (abs_over (common_den fs) fs)

-- a fraction, with the whole numbers next to it
abbrev pub exact_value : Fraction → Value
exact_value f = record { lo = floor_of f; hi = ceiling_of f; exact = Some (f.num, f.den) }

-- the whole numbers about each fraction, added up
abbrev pub wide_value : List Fraction → Value
wide_value fs = record { lo = total_by floor_of fs; hi = total_by ceiling_of fs; exact = None }

-- the sum of some fractions
abbrev pub sum_of : List Fraction → Value
sum_of fs = if is_wide fs then wide_value fs else exact_value (reduced (sum_over (common_den fs) fs) (common_den fs))

-- the sum of a column, the count being column 0
unfoldable pub one_of : ℕ → List Term → Value
one_of column terms = sum_of (column_fractions column terms)

-- p is the sum of fractions, which can be given as one
pub record IsExactSum (fs : List Fraction) (p : SignedFraction) : Type 0 where
  pub narrow : is_wide fs ≡ false
  pub parts : StandsFor (reduced (sum_over (common_den fs) fs) (common_den fs)) p
