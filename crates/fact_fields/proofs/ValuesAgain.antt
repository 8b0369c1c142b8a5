-- The values that a field of a measure was written of are read again.
use Rattle.std.proofs.Common.{◌≡◌, ℕ, suc, ◌+◌, ◌^◌, ◌<◌, ◌≤◌, Bool, true, false, List, [], ◌∷◌, ◌++◌, length, map, Some, refl, ap, ◌∙◌, arith, ℤ, pos, negsuc}
use Rattle.std.specs.Prelude.{All, fold, ◌==◌, if◌then◌else◌, ◌+ℤ◌, int_lt, nat_abs, neg_ℤ}
use Rattle.std.specs.Fmt.{decimal, signed_decimal}
use Rattle.std.specs.List.{flat_map, list_all, slice_split}
use Rattle.std.specs.Option.{option_map}
use Rattle.std.proofs.lemmas.Bool.{eqb-true, or_parts}
use Rattle.std.proofs.lemmas.Bool.Decides.{nat_tests}
use Rattle.std.proofs.lemmas.Fmt.{digits_decimal}
use Rattle.std.proofs.lemmas.Int.{ints}
use Rattle.std.proofs.lemmas.List.{append-nil}
use Rattle.std.proofs.lemmas.List.Elements.{All-cons, All-head, All-nil, All-tail}
use Rattle.std.proofs.lemmas.List.Splits.{slice_split_at, slice_split_none}
use Rattle.text_lines.specs.Text.{is_digit, number_in}
use Rattle.text_lines.proofs.Numbers.{digits_model, number_in-decimal}
use Rattle.fact_records.specs.Values.{all_of, has_negative, part_in, signed_number_in, sums_to}
use Rattle.fact_records.proofs.PartTexts.{part_in-Some}
use Rattle.fact_fields.specs.FactRow.{value_text}

-- the digits of a number do not begin with a minus
unsigned : (most : ℕ) (bytes : List ℕ) (n : ℕ) → number_in 0 most bytes ≡ Some n → signed_number_in most bytes ≡ Some (pos n)
unsigned most [] n e = cc e
unsigned most (b ∷ bytes) n e = either (b == 45) refl
  where
    either : (minus : Bool) → (b == 45) ≡ minus → (if minus then option_map (λ k. neg_ℤ (pos k)) (number_in 1 most bytes) else option_map (λ k. pos k) (number_in 0 most (b ∷ bytes))) ≡ Some (pos n)
    either true same = let none : number_in 0 most (45 ∷ bytes) ≡ Some n = rw (eqb-true b 45 same) at e in cc none
    either false other = ap (option_map (λ k. pos k)) e

pub signed-again : (most : ℕ) (value : ℤ) → most < 2 ^ 64 → nat_abs value ≤ most → signed_number_in most (signed_decimal value) ≡ Some value
signed-again most (pos n) fits within = unsigned most (decimal n) n (number_in-decimal 0 most n (omega (arith, ints)) (omega arith) (omega (arith, ints)))
signed-again most (negsuc n) fits within = ap (option_map (λ k. neg_ℤ (pos k))) (number_in-decimal 1 most (suc n) (omega (arith, ints)) (omega arith) (omega (arith, ints)))

-- parts
part-again : (scale : ℕ) (value : ℤ) → scale < 2 ^ 64 → int_lt value (pos 0) ≡ false → nat_abs value ≤ scale → part_in scale (signed_decimal value) ≡ Some value
part-again scale (pos n) fits some within = part_in-Some scale (decimal n) n (number_in-decimal 0 scale n (omega (arith, ints)) (omega arith) (omega (arith, ints)))
part-again scale (negsuc n) fits some within = cc some

pub parts-again : (scale : ℕ) (values : List ℤ) → scale < 2 ^ 64 → has_negative values ≡ false → All (λ value. nat_abs value ≤ scale) values → all_of (map (part_in scale) (map signed_decimal values)) ≡ Some values
parts-again scale [] fits some within = refl
parts-again scale (value ∷ values) fits some within =
    let signs = or_parts (int_lt value (pos 0)) (has_negative values) some in
    let first = part-again scale value fits signs.0 (All-head (λ v. nat_abs v ≤ scale) value values within) in
    let rest = parts-again scale values fits signs.1 (All-tail (λ v. nat_abs v ≤ scale) value values within) in
    rw (first, rest) refl

-- parts that are not below 0 are at most what they add up to, from some number on
parts-from : (n total : ℕ) (values : List ℤ) → has_negative values ≡ false → fold ◌+ℤ◌ (pos n) values ≡ pos total → (n ≤ total) × All (λ value. nat_abs value ≤ total) values
parts-from n total [] none sum = (omega (arith, ints), All-nil (λ value. nat_abs value ≤ total))
parts-from n total (pos value ∷ values) none sum =
    let others : has_negative values ≡ false = (or_parts (int_lt (pos value) (pos 0)) (has_negative values) none).1 in
    let rest = parts-from (n + value) total values others sum in
    (omega (arith, rest.0), All-cons (λ value. nat_abs value ≤ total) (pos value) values (omega (arith, rest.0)) rest.1)
parts-from n total (negsuc value ∷ values) none sum = cc

pub parts-within : (scale : ℕ) (values : List ℤ) → has_negative values ≡ false → sums_to scale values ≡ true → All (λ value. nat_abs value ≤ scale) values
parts-within scale values none sum = (parts-from 0 scale values none (grind (arith, nat_tests, sum))).1

-- no value has a colon in it
no_colon_in : (bytes : List ℕ) → list_all is_digit bytes ≡ true → All (λ b. (b == 58) ≡ false) bytes
no_colon_in [] digits = All-nil (λ b. (b == 58) ≡ false)
no_colon_in (b ∷ bytes) digits =
    let first : (b == 58) ≡ false = grind (arith, nat_tests) in
    let rest : list_all is_digit bytes ≡ true = grind (arith, nat_tests) in
    All-cons (λ b. (b == 58) ≡ false) b bytes first (no_colon_in bytes rest)

no_colon : (value : ℤ) → nat_abs value < 2 ^ 64 → All (λ b. (b == 58) ≡ false) (signed_decimal value)
no_colon (pos n) small = no_colon_in (decimal n) (digits_decimal digits_model n (omega (arith, ints)))
no_colon (negsuc n) small = All-cons (λ b. (b == 58) ≡ false) 45 (decimal (suc n)) refl (no_colon_in (decimal (suc n)) (digits_decimal digits_model (suc n) (omega (arith, ints))))

split-text : (text : List ℕ) (values : List ℤ) → All (λ b. (b == 58) ≡ false) text → All (λ value. nat_abs value < 2 ^ 64) values
    → slice_split (λ b. b == 58) (text ++ flat_map (λ v. 58 ∷ signed_decimal v) values) ≡ text ∷ map signed_decimal values
split-text text [] none small = ap (slice_split (λ b. b == 58)) (append-nil text) ∙ slice_split_none (λ b. b == 58) text none
split-text text (value ∷ values) none small =
    slice_split_at (λ b. b == 58) text 58 (signed_decimal value ++ flat_map (λ v. 58 ∷ signed_decimal v) values) none refl
    ∙ ap (λ texts. text ∷ texts)
    (split-text (signed_decimal value) values (no_colon value (All-head (λ v. nat_abs v < 2 ^ 64) value values small)) (All-tail (λ v. nat_abs v < 2 ^ 64) value values small))

pub split-again : (values : List ℤ) → 1 ≤ length values → All (λ value. nat_abs value < 2 ^ 64) values → slice_split (λ b. b == 58) (value_text values) ≡ map signed_decimal values
split-again [] some small = absurd (omega arith)
split-again (value ∷ values) some small = split-text (signed_decimal value) values (no_colon value (All-head (λ v. nat_abs v < 2 ^ 64) value values small)) (All-tail (λ v. nat_abs v < 2 ^ 64) value values small)
