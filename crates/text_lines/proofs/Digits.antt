-- The value of digits that are read one after another.
use Rattle.std.proofs.Common.{◌≡◌, ℕ, ◌+◌, ◌-◌, ◌*◌, ◌^◌, ◌<◌, ◌≤◌, Bool, true, false, List, length, take, get_or, refl, ap, sym, ◌∙◌, Some, None, arith, lit≤}
use Rattle.std.specs.Prelude.{◌&&◌, nat_lt, if◌then◌else◌}
use Rattle.std.specs.Char.{digit_value}
use Rattle.std.specs.List.{list_all}
use Rattle.std.specs.Str.Parse.{digits_value}
use Rattle.std.proofs.lemmas.Bool.Decides.{nat_tests}
use Rattle.std.proofs.lemmas.Grind.{common_steps}
use Rattle.std.proofs.lemmas.Int.Digits.{digits_value_more}
use Rattle.std.proofs.lemmas.List.{take_all}
use Rattle.std.proofs.lemmas.List.Folds.{list_all_at, list_all_more}
use Rattle.std.proofs.lemmas.Nat.{pow-add}
use Rattle.std.proofs.Math.Nat.{pow-le-pow_right}
use Rattle.std.proofs.lemmas.Str.Parse.{digits_value-take-le}
use Rattle.text_lines.specs.Text.{is_digit}

-- bytes that are digits, and their value, which fits
pub record HasRead (bytes : List ℕ) (value : ℕ) : Type 0 where
  pub digits : list_all is_digit bytes ≡ true
  pub is : value ≡ digits_value 10 bytes
  pub fits : value < 2 ^ 64

-- a digit's value in std's words
digit_value-digit : (b : ℕ) → is_digit b ≡ true → digit_value b ≡ b - 48
digit_value-digit b digit = grind (arith, nat_tests)

-- a choice that was taken, and one that was not
taken : (test : Bool) (v n : ℕ) → (if test then Some v else None) ≡ Some n → (test ≡ true) × (v ≡ n)
taken true v n e = (refl, cc)
taken false v n e = cc

refused : (test : Bool) (v : ℕ) → (if test then Some v else None) ≡ None → test ≡ false
refused true v e = cc
refused false v e = refl

module _ (bytes : List ℕ) (i value : ℕ) (below : i < length bytes) (read : HasRead (take i bytes) value) where
  -- the value with the next digit
  value-more : is_digit (get_or bytes i 0) ≡ true → value * 10 + (get_or bytes i 0 - 48) ≡ digits_value 10 (take (i + 1) bytes)
  value-more digit =
      omega (arith, digits_value_more 10 bytes i below, read.is, digit_value-digit (get_or bytes i 0) digit)

  -- one more digit was read
  pub HasRead-next : (n : ℕ) → (if is_digit (get_or bytes i 0) && nat_lt (value * 10 + (get_or bytes i 0 - 48)) (2 ^ 64) then Some (value * 10 + (get_or bytes i 0 - 48)) else None) ≡ Some n
      → HasRead (take (i + 1) bytes) n
  HasRead-next n more =
      let found = taken (is_digit (get_or bytes i 0) && nat_lt (value * 10 + (get_or bytes i 0 - 48)) (2 ^ 64)) (value * 10 + (get_or bytes i 0 - 48)) n more in
      let digit : is_digit (get_or bytes i 0) ≡ true = grind (arith, common_steps, found.0) in
      record {
        digits = list_all_more is_digit bytes i 0 below ∙ grind (arith, common_steps, read.digits, digit);
        is = sym found.1 ∙ value-more digit;
        fits = grind (arith, nat_tests, found.0, found.1);
      }

  -- where the next byte is refused, so are all the bytes
  pub refused-all : (if is_digit (get_or bytes i 0) && nat_lt (value * 10 + (get_or bytes i 0 - 48)) (2 ^ 64) then Some (value * 10 + (get_or bytes i 0 - 48)) else None) ≡ None
      → None ≡ (if list_all is_digit bytes && nat_lt (digits_value 10 bytes) (2 ^ 64) then Some (digits_value 10 bytes) else None)
  refused-all other = either (is_digit (get_or bytes i 0)) refl
    where
      test : (is_digit (get_or bytes i 0) && nat_lt (value * 10 + (get_or bytes i 0 - 48)) (2 ^ 64)) ≡ false
      test = refused _ (value * 10 + (get_or bytes i 0 - 48)) other

      too_large : is_digit (get_or bytes i 0) ≡ true → nat_lt (digits_value 10 bytes) (2 ^ 64) ≡ false
      too_large digit = grind (arith, nat_tests, test, digit, value-more digit, digits_value-take-le 10 bytes (i + 1) (lit≤ tt))

      all_or_none : (all fits : Bool) (v : ℕ) → fits ≡ false → None ≡ (if all && fits then Some v else None)
      all_or_none true fits v large = rw large refl
      all_or_none false fits v large = refl

      either : (digit : Bool) → is_digit (get_or bytes i 0) ≡ digit
          → None ≡ (if list_all is_digit bytes && nat_lt (digits_value 10 bytes) (2 ^ 64) then Some (digits_value 10 bytes) else None)
      either true digit = all_or_none (list_all is_digit bytes) (nat_lt (digits_value 10 bytes) (2 ^ 64)) (digits_value 10 bytes) (too_large digit)
      either false other = rw (list_all_at is_digit bytes i 0 below other) refl

-- fewer than 20 digits always fit
pub record HasReadFew (bytes : List ℕ) (i value : ℕ) : Type 0 where
  pub read : HasRead (take i bytes) value
  pub small : value < 10 ^ i

module _ (bytes : List ℕ) (i value : ℕ) (below : i < length bytes) (few : length bytes ≤ 19) (before : HasReadFew bytes i value) where
  -- the value with the next digit
  pub small-more : is_digit (get_or bytes i 0) ≡ true → value * 10 + (get_or bytes i 0 - 48) < 10 ^ (i + 1)
  small-more digit =
      let one_more : 10 ^ (i + 1) ≡ 10 * 10 ^ i = pow-add 10 i 1 ∙ omega arith in
      let low : get_or bytes i 0 - 48 < 10 = grind (arith, nat_tests) in
      omega (arith, before.small, one_more, low)

  pub fits-more : is_digit (get_or bytes i 0) ≡ true → value * 10 + (get_or bytes i 0 - 48) < 2 ^ 64
  fits-more digit =
      let within : i + 1 ≤ 19 = omega (arith, below, few) in
      let most : 10 ^ (i + 1) ≤ 10 ^ 19 = pow-le-pow_right (lit≤ tt) within in
      omega (arith, small-more digit, most)

  pub HasReadFew-next : is_digit (get_or bytes i 0) ≡ true → HasReadFew bytes (i + 1) (value * 10 + (get_or bytes i 0 - 48))
  HasReadFew-next digit =
      let more = fits-more digit in
      record {
        read = HasRead-next bytes i value below before.read (value * 10 + (get_or bytes i 0 - 48)) (grind (arith, nat_tests, digit, more));
        small = small-more digit;
      }

  pub refused-few : is_digit (get_or bytes i 0) ≡ false → None ≡ (if list_all is_digit bytes && nat_lt (digits_value 10 bytes) (2 ^ 64) then Some (digits_value 10 bytes) else None)
  refused-few other = refused-all bytes i value below before.read (rw other refl)

-- all bytes were read
pub HasRead-all : (bytes : List ℕ) (value n : ℕ) → length bytes ≤ n → HasRead (take n bytes) value
    → Some value ≡ (if list_all is_digit bytes && nat_lt (digits_value 10 bytes) (2 ^ 64) then Some (digits_value 10 bytes) else None)
HasRead-all bytes value n all read =
    let whole : take n bytes ≡ bytes = take_all n bytes all in
    let digits : list_all is_digit bytes ≡ true = ap (list_all is_digit) (sym whole) ∙ read.digits in
    let is : digits_value 10 bytes ≡ value = ap (digits_value 10) (sym whole) ∙ sym read.is in
    let small : nat_lt value (2 ^ 64) ≡ true = grind (arith, nat_tests, read.fits) in
    rw (digits, is, small) refl
