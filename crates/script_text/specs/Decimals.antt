-- Numbers in units of 10^-9, and fractions, as texts.
use Rattle.std.specs.Prelude.{ℕ, zero, suc, ◌+◌, ◌/◌, ◌%◌, List, [], ◌∷◌, ◌++◌, length, map, ◌==◌, ◌&&◌, if◌then◌else◌, Option, Some, None, codes, ℤ, pos, neg_ℤ, nat_abs}
use Rattle.std.specs.Fmt.{decimal, sign_text, signed_decimal}
use Rattle.std.specs.Int.{is_negative}
use Rattle.std.specs.Int.Digits.{digits_of}
use Rattle.std.specs.List.{flat_map, list_all, slice_split}
use Rattle.std.specs.Option.{option_map}
use Rattle.std.specs.Str.Parse.{digits_value}
use Rattle.exact_fraction.specs.declared.quotients.Quotient.{Quotient}
use Rattle.exact_fraction.specs.declared.quotients.Quotient.TheVariants.{Undefined, Is}
use Rattle.exact_fraction.specs.declared.sums.Value.{Value}
use Rattle.exact_fraction.specs.Fraction.{UNIT}
use Rattle.text_lines.specs.Text.{is_digit, is_number}

-- the digits of a number of any size
unfoldable pub whole_text : ℕ → List ℕ
whole_text n = if n == 0 then 48 ∷ [] else map (λ d. 48 + d) (digits_of 10 n)

-- its last digits, so many, with leading zeros
unfoldable pub last_digits : ℕ → ℕ → List ℕ
last_digits zero n = []
last_digits (suc k) n = last_digits k (n / 10) ++ (48 + n % 10) ∷ []

-- how many digits stand after the point
abbrev pub PLACES : ℕ
PLACES = 9

-- a size in units: the whole part, a point, and the rest
abbrev pub size_text : ℕ → List ℕ
size_text size = whole_text (size / UNIT) ++ 46 ∷ last_digits PLACES (size % UNIT)

-- a number of units: `-` where it is below 0, and its size
abbrev pub units_text : ℤ → List ℕ
units_text units = sign_text (is_negative units) ++ size_text (nat_abs units)

-- a bound; `-` alone where there is none
abbrev pub bound_text : Option ℤ → List ℕ
bound_text None = codes "-"
bound_text (Some units) = units_text units

-- a fraction with its sign in front; the numerator alone over 1
abbrev pub fraction_text : ℤ → ℕ → List ℕ
fraction_text num den = if den == 1 then signed_decimal num else signed_decimal num ++ 47 ∷ decimal den

-- one fraction, or `wide` where there is none
abbrev pub exact_text : Option (ℤ × ℕ) → List ℕ
exact_text None = codes "wide"
exact_text (Some fraction) = fraction_text fraction.0 fraction.1

-- the bounds of a number, and its fraction
abbrev pub bounds_fields : Value → List (List ℕ)
bounds_fields value = units_text value.lo ∷ units_text value.hi ∷ exact_text value.exact ∷ []

-- those of a quotient; none where there is no count to divide by
abbrev pub quotient_fields : Quotient → List (List ℕ)
quotient_fields Undefined = []
quotient_fields (Is lo hi exact) = bound_text lo ∷ bound_text hi ∷ exact_text exact ∷ []

-- the quotient that a number is, over no count
abbrev pub quotient_of : Value → Quotient
quotient_of value = Is (Some value.lo) (Some value.hi) value.exact

-- the fields of one quotient after the other
abbrev pub pool_fields : List Quotient → List (List ℕ)
pool_fields quotients = flat_map quotient_fields quotients

-- Printed bounds read back.

-- the units that digits before a point and after it spell
abbrev pub size_of_parts : List (List ℕ) → Option ℕ
size_of_parts [] = None
size_of_parts (whole ∷ []) = None
size_of_parts (whole ∷ places ∷ []) = if is_number whole && list_all is_digit places && length places == PLACES then Some (digits_value 10 (whole ++ places)) else None
size_of_parts (whole ∷ places ∷ more ∷ parts) = None

abbrev pub size_in : List ℕ → Option ℕ
size_in bytes = size_of_parts (slice_split (λ b. b == 46) bytes)

-- and with `-` in front, where the number is below 0
abbrev pub units_in : List ℕ → Option ℤ
units_in [] = None
units_in (b ∷ bytes) = if b == 45 then option_map (λ size. neg_ℤ (pos size)) (size_in bytes) else option_map (λ size. pos size) (size_in (b ∷ bytes))
