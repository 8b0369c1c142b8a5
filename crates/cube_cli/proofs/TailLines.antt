-- The first of some lines that is not skipped.
use Rattle.std.proofs.Common.{◌≡◌, ℕ, ◌+◌, ◌<◌, true, false, List, [], ◌∷◌, length, refl, ap, arith}
use Rattle.std.specs.Prelude.{Some, None, not, position}
use Rattle.std.specs.List.{position_or_len}
use Rattle.std.proofs.lemmas.Bool.Decides.{nat_tests}
use Rattle.text_lines.specs.LineText.{is_skipped}

-- Of all lines the first so many are skipped, and the others are left.
pub record AreSkipped (count : ℕ) (left all : List (List ℕ)) : Type 0 where
  pub place : count + position_or_len (λ line. not (is_skipped line)) left ≡ position_or_len (λ line. not (is_skipped line)) all
  pub size : count + length left ≡ length all

first-not : (line : List ℕ) (later : List (List ℕ)) → is_skipped line ≡ false → position_or_len (λ line. not (is_skipped line)) (line ∷ later) ≡ 0
first-not line later is = rw is refl

first-skipped : (line : List ℕ) (later : List (List ℕ)) → is_skipped line ≡ true → position_or_len (λ line. not (is_skipped line)) (line ∷ later) ≡ 1 + position_or_len (λ line. not (is_skipped line)) later
first-skipped line later is = rw is refl

-- one more is skipped
pub skipped-more : (count : ℕ) (line : List ℕ) (later left all : List (List ℕ)) → AreSkipped count left all → left ≡ line ∷ later → is_skipped line ≡ true → AreSkipped (count + 1) later all
skipped-more count line later left all are is skips =
    let one = first-skipped line later skips in
    let here = ap (position_or_len (λ line. not (is_skipped line))) is in
    let size = ap length is in
    record {
      place = omega (arith, are.place, one, here);
      size = omega (arith, are.size, size);
    }

-- none is left
pub skipped-all : (count : ℕ) (left all : List (List ℕ)) → AreSkipped count left all → left ≡ [] → None ≡ position (λ line. not (is_skipped line)) all
skipped-all count left all are none =
    let here = ap (position_or_len (λ line. not (is_skipped line))) none in
    let size = ap length none in
    let same : position_or_len (λ line. not (is_skipped line)) all ≡ length all = omega (arith, are.place, are.size, here, size) in
    grind (arith, nat_tests, same)

-- or one is not skipped
pub skipped-then : (count : ℕ) (line : List ℕ) (later left all : List (List ℕ)) → AreSkipped count left all → left ≡ line ∷ later → is_skipped line ≡ false → Some count ≡ position (λ line. not (is_skipped line)) all
skipped-then count line later left all are is stays =
    let first = first-not line later stays in
    let here = ap (position_or_len (λ line. not (is_skipped line))) is in
    let size = ap length is in
    let same : position_or_len (λ line. not (is_skipped line)) all ≡ count = omega (arith, are.place, first, here) in
    let less : count < length all = omega (arith, are.size, size) in
    grind (arith, nat_tests, same, less)
