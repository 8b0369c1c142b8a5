-- A number has one spelling: the digits that are printed for it.
use Rattle.std.proofs.Common.{◌≡◌, ℕ, zero, suc, ◌<◌, ◌≤◌, ◌^◌, Bool, true, false, List, length, get_or, refl, sym, ◌∙◌, ap, arith, rules, lit<}
use Rattle.std.specs.Prelude.{◌&&◌, nat_le, Some, None, if◌then◌else◌}
use Rattle.std.specs.Fmt.{decimal}
use Rattle.std.specs.List.{list_all}
use Rattle.std.specs.Str.Parse.{digits_value}
use Rattle.std.proofs.lemmas.Bool.Decides.{nat_tests}
use Rattle.std.proofs.lemmas.Fmt.{decimal-digits_value, digits_decimal, digits_value-decimal, decimal_digit, first_decimal, decimal_nonempty}
use Rattle.std.proofs.lemmas.Str.Parse.{IsDigitsTest, IsNumeralModel, numerals_by_value}
use Rattle.text_lines.specs.Text.{is_digit, is_number, number_in}

-- a test of all bytes tells the texts of digits
tells_digits : IsDigitsTest (λ ds. list_all is_digit ds ≡ true)
tells_digits = search rules

pub digits_model : IsNumeralModel (λ ds. list_all is_digit ds ≡ true) (digits_value 10)
digits_model = numerals_by_value _ tells_digits

-- what a number is: digits, at least one, the first of which is 0 only if it is alone
pub record IsNumber (bytes : List ℕ) : Type 0 where
  pub digits : list_all is_digit bytes ≡ true
  pub some : 0 < length bytes
  pub one_zero : get_or bytes 0 0 ≡ 48 → length bytes ≡ 1

pub IsNumber-from_test : (bytes : List ℕ) → is_number bytes ≡ true → IsNumber bytes
IsNumber-from_test bytes test = grind (arith, nat_tests)

pub test-from_IsNumber : (bytes : List ℕ) → IsNumber bytes → is_number bytes ≡ true
test-from_IsNumber bytes number = grind (arith, nat_tests)

-- the value of a choice that was taken
taken : (a b c : Bool) (v n : ℕ) → (if a && b && c then Some v else None) ≡ Some n → (a ≡ true) × (v ≡ n)
taken true true true v n e = (refl, cc)
taken true true false v n e = cc
taken true false c v n e = cc
taken false b c v n e = cc

-- the digits that are printed for a number begin with 0 only for 0
one_zero-decimal : (n : ℕ) → n < 2 ^ 64 → get_or (decimal n) 0 0 ≡ 48 → length (decimal n) ≡ 1
one_zero-decimal zero fits first = ap length (decimal_digit 0 (lit< tt))
one_zero-decimal (suc n) fits first = absurd (omega (arith, first_decimal (suc n) (omega arith) fits))

-- the digits that are printed for a number are one
is_number-decimal : (n : ℕ) → n < 2 ^ 64 → is_number (decimal n) ≡ true
is_number-decimal n fits =
    test-from_IsNumber (decimal n)
    (record {
      digits = digits_decimal digits_model n fits;
      some = decimal_nonempty n fits;
      one_zero = one_zero-decimal n fits;
    })

-- bytes that spell a number are the digits that are printed for it
pub spelled-is_decimal : (least most n : ℕ) (bytes : List ℕ) → n < 2 ^ 64 → number_in least most bytes ≡ Some n → bytes ≡ decimal n
spelled-is_decimal least most n bytes fits read =
    let found = taken (is_number bytes) (nat_le least (digits_value 10 bytes)) (nat_le (digits_value 10 bytes) most) (digits_value 10 bytes) n read in
    let number = IsNumber-from_test bytes found.0 in
    sym (decimal-digits_value digits_model bytes number.digits number.some number.one_zero (omega (arith, found.1)))
    ∙ ap decimal found.1

-- the digits that are printed for a number spell it
pub number_in-decimal : (least most n : ℕ) → n < 2 ^ 64 → least ≤ n → n ≤ most → number_in least most (decimal n) ≡ Some n
number_in-decimal least most n fits low high =
    rw (is_number-decimal n fits, digits_value-decimal digits_model n fits) (grind (arith, nat_tests))
