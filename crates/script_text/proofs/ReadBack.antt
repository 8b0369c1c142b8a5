-- Printed bounds read back.
use Rattle.std.proofs.Common.{◌≡◌, ℕ, suc, ◌/◌, ◌%◌, ◌<◌, true, false, List, [], ◌∷◌, ◌++◌, length, refl, ap, ◌∙◌, arith, Some, ℤ, pos, negsuc}
use Rattle.std.specs.Prelude.{◌==◌}
use Rattle.std.specs.Fmt.{sign_text}
use Rattle.std.specs.Int.{is_negative}
use Rattle.std.specs.List.{All, list_all, slice_split}
use Rattle.std.specs.Option.{option_map}
use Rattle.std.specs.Str.Parse.{digits_value}
use Rattle.std.proofs.lemmas.Bool.Decides.{nat_tests}
use Rattle.std.proofs.lemmas.List.Elements.{All-cons, All-nil}
use Rattle.std.proofs.lemmas.List.Splits.{slice_split_at, slice_split_none}
use Rattle.exact_fraction.specs.Fraction.{UNIT}
use Rattle.text_lines.specs.Text.{is_digit}
use Rattle.text_lines.proofs.Numbers.{IsNumber-from_test}
use Rattle.script_text.specs.Decimals.{PLACES, last_digits, size_in, size_of_parts, size_text, units_in, units_text, whole_text}
use Rattle.script_text.proofs.Digits.{digits_value-last_digits, last_digits-digits, length-last_digits, whole_text-number, whole_text-value}

-- no digit is a point
no_point : (bytes : List ℕ) → list_all is_digit bytes ≡ true → All (λ b. (b == 46) ≡ false) bytes
no_point [] digits = All-nil (λ b. (b == 46) ≡ false)
no_point (b ∷ bytes) digits =
    let here : (b == 46) ≡ false = grind (arith, nat_tests) in
    let rest : list_all is_digit bytes ≡ true = grind (arith, nat_tests) in
    All-cons (λ b. (b == 46) ≡ false) b bytes here (no_point bytes rest)

-- digits before a point and behind it
parts-of : (whole places : List ℕ) → list_all is_digit whole ≡ true → list_all is_digit places ≡ true → slice_split (λ b. b == 46) (whole ++ 46 ∷ places) ≡ whole ∷ places ∷ []
parts-of whole places first last =
    slice_split_at (λ b. b == 46) whole 46 places (no_point whole first) refl ∙ ap (λ parts. whole ∷ parts) (slice_split_none (λ b. b == 46) places (no_point places last))

-- a printed size
size_in-text : (size : ℕ) → size_in (size_text size) ≡ Some size
size_in-text size =
    let whole = whole_text (size / UNIT) in
    let places = last_digits PLACES (size % UNIT) in
    let number = whole_text-number (size / UNIT) in
    let first = (IsNumber-from_test whole number).digits in
    let last = last_digits-digits PLACES (size % UNIT) in
    let count = length-last_digits PLACES (size % UNIT) in
    let spelled : digits_value 10 (whole ++ places) ≡ size =
    digits_value-last_digits whole PLACES (size % UNIT) (omega arith) ∙ omega (arith, whole_text-value (size / UNIT)) in
    ap size_of_parts (parts-of whole places first last) ∙ rw (number, last, count, spelled) refl

-- a text that begins with a digit is that of a size
units_in-digits : (bytes more : List ℕ) → list_all is_digit bytes ≡ true → 0 < length bytes → units_in (bytes ++ more) ≡ option_map (λ size. pos size) (size_in (bytes ++ more))
units_in-digits [] more digits some = absurd (omega arith)
units_in-digits (b ∷ bytes) more digits some =
    let other : (b == 45) ≡ false = grind (arith, nat_tests) in
    rw other refl

pub units_in-text : (units : ℤ) → units_in (units_text units) ≡ Some units
units_in-text (pos n) =
    let number = IsNumber-from_test (whole_text (n / UNIT)) (whole_text-number (n / UNIT)) in
    let above : is_negative (pos n) ≡ false = grind (arith, nat_tests) in
    ap (λ below. units_in (sign_text below ++ size_text n)) above ∙ units_in-digits (whole_text (n / UNIT)) (46 ∷ last_digits PLACES (n % UNIT)) number.digits number.some ∙ ap (option_map (λ size. pos size)) (size_in-text n)
units_in-text (negsuc n) = rw (size_in-text (suc n)) refl
