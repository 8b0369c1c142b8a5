-- A column divided by the count and a scale.
use Rattle.std.specs.Prelude.{◌≡◌, ℕ, ◌*◌, ◌≤◌, false, ◌||◌, ◌==◌, List, [], ◌∷◌, ◌++◌, Bool, if◌then◌else◌, nat_lt, ℤ, pos, ◌≤ℤ◌, nat_abs, Some, None}
use Rattle.std.specs.Int.{is_negative}
use Rattle.cube_model.specs.declared.term.Term.{Term}
use Rattle.cube_model.specs.Limits.{WIDE}
use Rattle.exact_fraction.specs.declared.sums.Value.{Value}
use Rattle.exact_fraction.specs.declared.quotients.Quotient.{Quotient}
use Rattle.exact_fraction.specs.declared.quotients.Quotient.TheVariants.{Undefined, Is}
use Rattle.exact_fraction.specs.Fraction.{Fraction, reduced, column_fractions, common_den, sum_over, abs_over, floor_of, ceiling_of}
use Rattle.exact_fraction.specs.declared.fraction.SignedFraction.{SignedFraction}
use Rattle.exact_fraction.specs.Signed.{StandsFor, MOST_WHOLE}
use Rattle.exact_fraction.specs.One.{one_of}

-- the least common multiple of the denominators of both
abbrev pub joint_den : List Fraction → List Fraction → ℕ
joint_den fs cs = common_den (fs ++ cs)

-- the quotient of two sums and a scale in lowest terms
abbrev pub reduced_quotient : ℕ → List Fraction → List Fraction → Fraction
reduced_quotient scale fs cs = reduced (sum_over (joint_den fs cs) fs) (abs_over (joint_den fs cs) cs * scale)

-- it cannot be given as one fraction
abbrev pub is_wide_quotient : ℕ → List Fraction → List Fraction → Bool
is_wide_quotient scale fs cs =
    nat_lt WIDE (joint_den fs cs) || nat_lt WIDE (abs_over (joint_den fs cs) fs) || nat_lt WIDE (abs_over (joint_den fs cs) cs) || nat_lt WIDE (reduced_quotient scale fs cs).den

-- a fraction, with the whole numbers next to it
abbrev pub exact_quotient : Fraction → Quotient
exact_quotient f = Is (Some (floor_of f)) (Some (ceiling_of f)) (Some (f.num, f.den))

-- the count that makes the quotient of a sum smaller, and the one that makes it greater
abbrev pub lower_divisor : ℤ → Value → ℕ
lower_divisor sum count = if is_negative sum then nat_abs count.lo else nat_abs count.hi

abbrev pub upper_divisor : ℤ → Value → ℕ
upper_divisor sum count = if is_negative sum then nat_abs count.hi else nat_abs count.lo

-- the quotient of the bounds of a sum by those of a count, where those of the count are above 0
abbrev pub wide_quotient : ℕ → Value → Value → Quotient
wide_quotient scale sum count =
    if nat_abs count.lo == 0
    then Is None None None
    else Is (Some (floor_of (record { num = sum.lo; den = lower_divisor sum.lo count * scale }))) (Some (ceiling_of (record { num = sum.hi; den = upper_divisor sum.hi count * scale }))) None

-- the quotient of a column by the count and a scale, where there is a term
abbrev pub quotient_or_bounds : ℕ → ℕ → List Term → Quotient
quotient_or_bounds column scale terms =
    if is_wide_quotient scale (column_fractions column terms) (column_fractions 0 terms)
    then wide_quotient scale (one_of column terms) (one_of 0 terms)
    else exact_quotient (reduced_quotient scale (column_fractions column terms) (column_fractions 0 terms))

unfoldable pub ratio_of : ℕ → ℕ → List Term → Quotient
ratio_of column scale [] = Undefined
ratio_of column scale (t ∷ terms) = quotient_or_bounds column scale (t ∷ terms)

-- p is the quotient, which can be given as one fraction
pub record IsExactQuotient (scale : ℕ) (fs cs : List Fraction) (p : SignedFraction) : Type 0 where
  pub narrow : is_wide_quotient scale fs cs ≡ false
  pub parts : StandsFor (reduced_quotient scale fs cs) p

-- the bounds of a sum can be divided by those of a count and a scale
pub record CanDivide (scale : ℕ) (sum count : Value) : Type 0 where
  pub from : pos 0 ≤ℤ count.lo
  pub order : count.lo ≤ℤ count.hi
  pub narrow : nat_abs count.hi * scale ≤ WIDE
  pub lo : 1 ≤ nat_abs count.lo → nat_abs sum.lo ≤ MOST_WHOLE * nat_abs count.lo
  pub hi : 1 ≤ nat_abs count.lo → nat_abs sum.hi ≤ MOST_WHOLE * nat_abs count.lo
