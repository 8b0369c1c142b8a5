-- What the bounds and the fraction of a sum or a quotient say of the numbers that they stand for.
use Rattle.std.specs.Prelude.{◌≡◌, ℕ, ◌*◌, ◌≤◌, List, [], All, Option, IsSomeAnd, ℤ, pos, ◌*ℤ◌, ◌+ℤ◌, ◌≤ℤ◌, nat_abs, IfSome}
use Rattle.std.specs.Int.{◌∣◌}
use Rattle.exact_fraction.specs.declared.sums.Value.{Value}
use Rattle.exact_fraction.specs.declared.quotients.Quotient.{Quotient}
use Rattle.exact_fraction.specs.declared.quotients.Quotient.TheVariants.{Undefined, Is}
use Rattle.exact_fraction.specs.Number.{gcd}
use Rattle.exact_fraction.specs.Fraction.{UNIT, Fraction, sum_over, abs_over}

-- a number above 0 that every denominator divides
pub record IsCommonMultiple (multiple : ℕ) (fs : List Fraction) : Type 0 where
  pub some : 1 ≤ multiple
  pub each : All (λ f. f.den ∣ multiple) fs

-- lo units are not above num over den, and hi units are not below it
pub record AreBounds (lo hi num : ℤ) (den : ℕ) : Type 0 where
  pub above_lo : (lo *ℤ pos den) ≤ℤ (num *ℤ pos UNIT)
  pub below_hi : (num *ℤ pos UNIT) ≤ℤ (hi *ℤ pos den)

-- over every common multiple, the bounds hold of the sum of fractions
abbrev pub BoundSum : ℤ → ℤ → List Fraction → Type 0
BoundSum lo hi fs = (multiple : ℕ) → IsCommonMultiple multiple fs → AreBounds lo hi (sum_over multiple fs) multiple

-- a fraction in lowest terms, with bounds that hold of it and are next to it
pub record IsLowest (lo hi num : ℤ) (den : ℕ) : Type 0 where
  pub some : 1 ≤ den
  pub lowest : gcd (nat_abs num) den ≡ 1
  pub bounds : AreBounds lo hi num den
  pub close : hi ≤ℤ (lo +ℤ pos 1)

-- over every common multiple, num over den is the sum of fractions
abbrev pub EqualsSum : ℤ → ℕ → List Fraction → Type 0
EqualsSum num den fs = (multiple : ℕ) → IsCommonMultiple multiple fs → num *ℤ pos multiple ≡ sum_over multiple fs *ℤ pos den

-- what a value tells of the sum of fractions
pub record TellsSum (fs : List Fraction) (value : Value) : Type 0 where
  pub bounds : BoundSum value.lo value.hi fs
  pub lowest : IfSome value.exact (λ x. IsLowest value.lo value.hi x.0 x.1)
  pub equal : IfSome value.exact (λ x. EqualsSum x.0 x.1 fs)

-- over every common multiple, lo units are not above the sum of fs over that of cs and the scale
abbrev pub IsBelowQuotient : ℕ → List Fraction → List Fraction → ℤ → Type 0
IsBelowQuotient scale fs cs lo = (multiple : ℕ) → IsCommonMultiple multiple fs → IsCommonMultiple multiple cs → (lo *ℤ pos (abs_over multiple cs * scale)) ≤ℤ (sum_over multiple fs *ℤ pos UNIT)

-- and hi units are not below it
abbrev pub IsAboveQuotient : ℕ → List Fraction → List Fraction → ℤ → Type 0
IsAboveQuotient scale fs cs hi = (multiple : ℕ) → IsCommonMultiple multiple fs → IsCommonMultiple multiple cs → (sum_over multiple fs *ℤ pos UNIT) ≤ℤ (hi *ℤ pos (abs_over multiple cs * scale))

-- and num over den is it
abbrev pub EqualsQuotient : ℕ → List Fraction → List Fraction → ℤ → ℕ → Type 0
EqualsQuotient scale fs cs num den = (multiple : ℕ) → IsCommonMultiple multiple fs → IsCommonMultiple multiple cs → num *ℤ pos (abs_over multiple cs * scale) ≡ sum_over multiple fs *ℤ pos den

-- what the parts of a quotient tell: a fraction comes with both bounds
pub record TellsParts (scale : ℕ) (fs cs : List Fraction) (lo hi : Option ℤ) (exact : Option (ℤ × ℕ)) : Type 0 where
  pub below : IfSome lo (IsBelowQuotient scale fs cs)
  pub above : IfSome hi (IsAboveQuotient scale fs cs)
  pub lowest : IfSome exact (λ x. IsSomeAnd lo (λ l. IsSomeAnd hi (λ h. IsLowest l h x.0 x.1)))
  pub equal : IfSome exact (λ x. EqualsQuotient scale fs cs x.0 x.1)

-- what a quotient tells
abbrev pub TellsQuotient : ℕ → List Fraction → List Fraction → Quotient → Type 0
TellsQuotient scale fs cs Undefined = fs ≡ []
TellsQuotient scale fs cs (Is lo hi exact) = TellsParts scale fs cs lo hi exact
