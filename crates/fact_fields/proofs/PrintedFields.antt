-- Numbers and values are fields of a line.
use Rattle.std.proofs.Common.{◌≡◌, ℕ, suc, ◌*◌, ◌^◌, ◌<◌, ◌≤◌, Bool, true, List, [], ◌∷◌, ◌++◌, length, refl, arith, length-append, lit≤, ℤ, pos, negsuc}
use Rattle.std.specs.Prelude.{All, ◌&&◌, nat_abs, nat_le, nat_lt}
use Rattle.std.specs.Fmt.{decimal, signed_decimal}
use Rattle.std.specs.List.{flat_map, list_all}
use Rattle.std.proofs.lemmas.Bool.{and_parts}
use Rattle.std.proofs.lemmas.Bool.Decides.{nat_tests}
use Rattle.std.proofs.lemmas.Fmt.{digits_decimal, length-decimal-le, length_signed_le}
use Rattle.std.proofs.lemmas.Int.{ints}
use Rattle.std.proofs.lemmas.List.Elements.{All-head, All-tail}
use Rattle.std.proofs.lemmas.List.Folds.{list_all-append}
use Rattle.cube_base.specs.Name.{is_name_byte}
use Rattle.cube_model.specs.Limits.{MAX_COLS, MAX_VALUE}
use Rattle.text_lines.specs.Text.{is_digit}
use Rattle.text_lines.proofs.Ascii.{ascii_is_utf8}
use Rattle.text_lines.proofs.Numbers.{digits_model}
use Rattle.schema_text.proofs.WrittenLines.{IsField}
use Rattle.fact_fields.specs.FactRow.{value_text}

-- bytes from 32 to 126
abbrev pub is_printed : ℕ → Bool
is_printed b = nat_le 32 b && nat_lt b 127

printed-digits : (bytes : List ℕ) → list_all is_digit bytes ≡ true → list_all is_printed bytes ≡ true
printed-digits [] digits = refl
printed-digits (b ∷ bytes) digits =
    let parts = and_parts (is_digit b) (list_all is_digit bytes) digits in
    let first : is_printed b ≡ true = grind (arith, nat_tests, parts.0) in
    rw (first, printed-digits bytes parts.1) refl

-- they pass what each of them passes
printed-pass : (p : ℕ → Bool) → ((b : ℕ) → is_printed b ≡ true → p b ≡ true) → (bytes : List ℕ) → list_all is_printed bytes ≡ true → list_all p bytes ≡ true
printed-pass p each [] printed = refl
printed-pass p each (b ∷ bytes) printed =
    let parts = and_parts (is_printed b) (list_all is_printed bytes) printed in
    rw (each b parts.0, printed-pass p each bytes parts.1) refl

-- so a few of them are a field
pub IsField-printed : (bytes : List ℕ) → list_all is_printed bytes ≡ true → length bytes ≤ 128 → IsField bytes
IsField-printed bytes printed short = record {
  bytes_are = printed-pass is_name_byte (λ b e. grind (arith, nat_tests, e)) bytes printed;
  utf8 = ascii_is_utf8 bytes (printed-pass (λ b. nat_lt b 128) (λ b e. grind (arith, nat_tests, e)) bytes printed);
  short = short;
}

-- a number of 64 bits is one
pub IsField-number : (n : ℕ) → n < 2 ^ 64 → IsField (decimal n)
IsField-number n fits =
    let short = length-decimal-le 20 n (omega arith) (omega arith) fits in
    IsField-printed (decimal n) (printed-digits (decimal n) (digits_decimal digits_model n fits)) (omega (arith, short))

-- and so are the values of a measure
abbrev AreSmall : List ℤ → Type 0
AreSmall values = All (λ value. nat_abs value ≤ MAX_VALUE) values

printed-value : (value : ℤ) → nat_abs value ≤ MAX_VALUE → list_all is_printed (signed_decimal value) ≡ true
printed-value (pos n) small = printed-digits (decimal n) (digits_decimal digits_model n (omega (arith, ints)))
printed-value (negsuc n) small = printed-digits (decimal (suc n)) (digits_decimal digits_model (suc n) (omega (arith, ints)))

short-value : (value : ℤ) → nat_abs value ≤ MAX_VALUE → length (signed_decimal value) ≤ 14
short-value (pos n) small = length_signed_le 13 (pos n) (omega (arith, ints)) (omega (arith, ints))
short-value (negsuc n) small = length_signed_le 13 (negsuc n) (omega (arith, ints)) (omega (arith, ints))

abbrev behind : List ℤ → List ℕ
behind values = flat_map (λ v. 58 ∷ signed_decimal v) values

printed-behind : (values : List ℤ) → AreSmall values → list_all is_printed (behind values) ≡ true
printed-behind [] small = refl
printed-behind (value ∷ values) small =
    let first = printed-value value (All-head (λ v. nat_abs v ≤ MAX_VALUE) value values small) in
    let rest = printed-behind values (All-tail (λ v. nat_abs v ≤ MAX_VALUE) value values small) in
    rw (list_all-append is_printed (signed_decimal value) (behind values), first, rest) refl

short-behind : (values : List ℤ) → AreSmall values → length (behind values) ≤ 15 * length values
short-behind [] small = lit≤ tt
short-behind (value ∷ values) small =
    let first = short-value value (All-head (λ v. nat_abs v ≤ MAX_VALUE) value values small) in
    let rest = short-behind values (All-tail (λ v. nat_abs v ≤ MAX_VALUE) value values small) in
    omega (arith, length-append (signed_decimal value) (behind values), first, rest)

pub IsField-values : (values : List ℤ) → length values ≤ MAX_COLS → All (λ value. nat_abs value ≤ MAX_VALUE) values → IsField (value_text values)
IsField-values [] few small = IsField-printed [] refl (lit≤ tt)
IsField-values (value ∷ values) few small =
    let here = All-head (λ v. nat_abs v ≤ MAX_VALUE) value values small in
    let others = All-tail (λ v. nat_abs v ≤ MAX_VALUE) value values small in
    let printed : list_all is_printed (signed_decimal value ++ behind values) ≡ true =
    rw (list_all-append is_printed (signed_decimal value) (behind values), printed-value value here, printed-behind values others) refl in
    IsField-printed (value_text (value ∷ values)) printed (omega (arith, length-append (signed_decimal value) (behind values), short-value value here, short-behind values others))
