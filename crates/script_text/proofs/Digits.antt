-- The digits of a number of any size, its last digits, and what the digits of printed numbers are.
use Rattle.std.proofs.Common.{◌≡◌, ℕ, zero, suc, ◌+◌, ◌-◌, ◌*◌, ◌/◌, ◌%◌, ◌^◌, ◌<◌, ◌≤◌, true, false, List, [], ◌∷◌, ◌++◌, length, take, drop, map, get_or, refl, sym, ap, ◌∙◌, arith, append_assoc, append-nil}
use Rattle.std.specs.Prelude.{◌==◌}
use Rattle.std.specs.Char.{digit_value}
use Rattle.std.specs.Fmt.{decimal}
use Rattle.std.specs.Int.Digits.{AllBelowBase, digits_of, number_from_digits}
use Rattle.std.specs.List.{list_all}
use Rattle.std.specs.Str.Parse.{digits_value}
use Rattle.std.proofs.lemmas.Bool.Decides.{nat_tests}
use Rattle.std.proofs.lemmas.Fmt.{decimal_by_steps_wide, decimal_digit, decimal_step_wide}
use Rattle.std.proofs.lemmas.Int.Digits.{all_below_base_digits_of, digits_of_step, digits_value_is, digits_value_push, first_digits_of, number_digits_of}
use Rattle.std.proofs.lemmas.List.{length-append, map-append, take_rest}
use Rattle.std.proofs.lemmas.List.Folds.{list_all-append}
use Rattle.std.proofs.Math.Nat.{mul_assoc, pow-suc, pow-zero}
use Rattle.exact_fraction.specs.Fraction.{UNIT}
use Rattle.text_lines.specs.Text.{is_digit, is_number}
use Rattle.text_lines.proofs.Numbers.{test-from_IsNumber}
use Rattle.script_text.specs.Decimals.{PLACES, last_digits, whole_text}

-- the bytes of digits
abbrev glyphs : List ℕ → List ℕ
glyphs digits = map (λ d. 48 + d) digits

-- a number above 0 has the digits that std gives it
whole_text-some : (n : ℕ) → 0 < n → whole_text n ≡ glyphs (digits_of 10 n)
unfolding whole_text
whole_text-some n some =
    let other : (n == 0) ≡ false = grind (arith, nat_tests) in
    rw other refl

whole_text-zero : whole_text 0 ≡ 48 ∷ []
unfolding whole_text
whole_text-zero = refl

-- a digit more
whole_text-step : (n : ℕ) → 0 < n → whole_text n ≡ glyphs (digits_of 10 (n / 10)) ++ (48 + n % 10) ∷ []
whole_text-step n some =
    whole_text-some n some ∙ ap glyphs (digits_of_step 10 n (omega arith) some) ∙ map-append (λ d. 48 + d) (digits_of 10 (n / 10)) (n % 10 ∷ [])

-- what is printed for a number of up to 64 digits
pub decimal-whole_text : (n : ℕ) → n < 10 ^ 64 → decimal n ≡ whole_text n
decimal-whole_text n fits = decimal_by_steps_wide (λ n digits. digits ≡ whole_text n) one more n fits
  where
    one : (n : ℕ) → n < 10 → (48 + n) ∷ [] ≡ whole_text n
    one zero small = sym whole_text-zero
    one (suc n) small =
        let none : suc n / 10 ≡ 0 = omega arith in
        let rest : suc n % 10 ≡ suc n = omega arith in
        sym (whole_text-step (suc n) (omega arith) ∙ rw (none, rest) refl)

    more : (n : ℕ) (digits : List ℕ) → 10 ≤ n → digits ≡ whole_text (n / 10) → digits ++ (48 + n % 10) ∷ [] ≡ whole_text n
    more n digits large same =
        ap (λ l. l ++ (48 + n % 10) ∷ []) (same ∙ whole_text-some (n / 10) (omega arith)) ∙ sym (whole_text-step n (omega arith))

-- the number of a digit's byte
glyph-digit : (d : ℕ) → d < 10 → is_digit (48 + d) ≡ true
glyph-digit d small = grind (arith, nat_tests)

glyph-value : (d : ℕ) → d < 10 → digit_value (48 + d) ≡ d
glyph-value d small = grind (arith, nat_tests)

glyphs-digits : (digits : List ℕ) → AllBelowBase 10 digits → list_all is_digit (glyphs digits) ≡ true
glyphs-digits [] below = refl
glyphs-digits (d ∷ digits) below = rw (glyph-digit d below.0) (glyphs-digits digits below.1)

glyphs-values : (digits : List ℕ) → AllBelowBase 10 digits → map digit_value (glyphs digits) ≡ digits
glyphs-values [] below = refl
glyphs-values (d ∷ digits) below = rw (glyph-value d below.0, glyphs-values digits below.1) refl

glyphs-number : (digits : List ℕ) → AllBelowBase 10 digits → 0 < get_or digits 0 0 → is_number (glyphs digits) ≡ true
glyphs-number [] below first = absurd (omega arith)
glyphs-number (d ∷ digits) below first =
    test-from_IsNumber (glyphs (d ∷ digits))
    (record {
      digits = glyphs-digits (d ∷ digits) below;
      some = omega arith;
      one_zero = λ is_zero. absurd (omega arith);
    })

-- the digits of a number are one, and spell it
pub whole_text-number : (n : ℕ) → is_number (whole_text n) ≡ true
unfolding whole_text
whole_text-number zero = refl
whole_text-number (suc n) =
    rw (whole_text-some (suc n) (omega arith)) (glyphs-number (digits_of 10 (suc n)) (all_below_base_digits_of 10 (suc n) (omega arith)) (first_digits_of 10 (suc n) (omega arith) (omega arith)))

pub whole_text-value : (n : ℕ) → digits_value 10 (whole_text n) ≡ n
unfolding whole_text
whole_text-value zero = refl
whole_text-value (suc n) =
    let digits = digits_of 10 (suc n) in
    ap (digits_value 10) (whole_text-some (suc n) (omega arith)) ∙ digits_value_is 10 (glyphs digits)
    ∙ ap (number_from_digits 10) (glyphs-values digits (all_below_base_digits_of 10 (suc n) (omega arith))) ∙ number_digits_of 10 (suc n) (omega arith)

-- the last digits are so many digits
pub last_digits-digits : (k n : ℕ) → list_all is_digit (last_digits k n) ≡ true
unfolding last_digits
last_digits-digits zero n = refl
last_digits-digits (suc k) n =
    let small : n % 10 < 10 = omega arith in
    list_all-append is_digit (last_digits k (n / 10)) ((48 + n % 10) ∷ []) ∙ rw (last_digits-digits k (n / 10), glyph-digit (n % 10) small) refl

pub length-last_digits : (k n : ℕ) → length (last_digits k n) ≡ k
unfolding last_digits
length-last_digits zero n = refl
length-last_digits (suc k) n = simp length-append (omega (arith, length-last_digits k (n / 10)))

-- digits with the last digits of a number behind them spell both
pub digits_value-last_digits : (digits : List ℕ) (k n : ℕ) → n < 10 ^ k → digits_value 10 (digits ++ last_digits k n) ≡ digits_value 10 digits * 10 ^ k + n
unfolding last_digits
digits_value-last_digits digits zero n small =
    ap (digits_value 10) (append-nil digits) ∙ omega (arith, pow-zero 10)
digits_value-last_digits digits (suc k) n small =
    let front = digits ++ last_digits k (n / 10) in
    let fewer : n / 10 < 10 ^ k = omega (arith, pow-suc 10 k) in
    let before = digits_value-last_digits digits k (n / 10) fewer in
    let byte : digit_value (48 + n % 10) ≡ n % 10 = glyph-value (n % 10) (omega arith) in
    let shifted : digits_value 10 digits * 10 ^ suc k ≡ digits_value 10 digits * 10 ^ k * 10 =
    ap (λ p. digits_value 10 digits * p) (pow-suc 10 k) ∙ sym (mul_assoc (digits_value 10 digits) (10 ^ k) 10) in
    ap (digits_value 10) (sym (append_assoc digits (last_digits k (n / 10)) ((48 + n % 10) ∷ []))) ∙ digits_value_push 10 front (48 + n % 10) ∙ omega (arith, before, byte, shifted)

-- behind a 1, they are what is printed
pub decimal-last_digits : (k n : ℕ) → n < 10 ^ k → 10 ^ k + n < 10 ^ 64 → decimal (10 ^ k + n) ≡ 49 ∷ last_digits k n
unfolding last_digits
decimal-last_digits zero n small fits =
    let one : 10 ^ zero + n ≡ 1 = omega (arith, pow-zero 10) in
    ap decimal one ∙ decimal_digit 1 (omega arith)
decimal-last_digits (suc k) n small fits =
    let more : 10 ^ suc k ≡ 10 ^ k * 10 = pow-suc 10 k in
    let fewer : n / 10 < 10 ^ k = omega arith in
    let front : (10 ^ suc k + n) / 10 ≡ 10 ^ k + n / 10 = omega arith in
    let last : (10 ^ suc k + n) % 10 ≡ n % 10 = omega arith in
    let before : decimal (10 ^ k + n / 10) ≡ 49 ∷ last_digits k (n / 10) = decimal-last_digits k (n / 10) fewer (omega arith) in
    decimal_step_wide (10 ^ suc k + n) (omega arith) fits ∙ rw (front, last, before) refl

-- the places of a rest, as they are printed behind the 1 of a whole more
pub printed-places : (rest : ℕ) (digits : List ℕ) → rest < UNIT → digits ≡ decimal (UNIT + rest) → digits ≡ 49 ∷ last_digits PLACES rest
printed-places rest digits small printed = printed ∙ decimal-last_digits PLACES rest small (omega arith)

-- what stands behind the first byte
pub behind_first : (b : ℕ) (bytes rest : List ℕ) → bytes ≡ b ∷ rest → take (length bytes - 1) (drop 1 bytes) ≡ rest
behind_first b bytes rest cut = take_rest bytes 1 ∙ ap (drop 1) cut
