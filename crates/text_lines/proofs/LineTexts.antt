-- What a line says without its final CR.
use Rattle.std.proofs.Common.{◌≡◌, ℕ, zero, suc, ◌<◌, length, take, arith, Bool, true, false, List, [], ◌∷◌, ◌++◌, eqb, refl, ap, sym, ◌∙◌}
use Rattle.std.specs.Prelude.{◌==◌, ◌||◌, nat_lt, if◌then◌else◌, slice_get, Some, None}
use Rattle.std.specs.List.{list_all}
use Rattle.std.proofs.lemmas.Bool.{and_from, and_parts, false_from_ne_true}
use Rattle.std.proofs.lemmas.Bool.Decides.{nat_tests}
use Rattle.std.proofs.lemmas.List.{length-take-le}
use Rattle.cube_base.specs.Name.{is_name_byte}
use Rattle.std.proofs.lemmas.Option.{get_or_from_slice_get}
use Rattle.std.specs.Str.{IsUtf8, is_utf8}
use Rattle.std.proofs.lemmas.Str.{IsUtf8-from_is_utf8, is_utf8-from_IsUtf8}
use Rattle.text_lines.specs.LineText.{IsAsItsFront, LINE_FRONT, field_at, is_clean, is_plain, is_skipped, without_cr}
use Rattle.text_lines.proofs.Ascii.{ascii_is_utf8}

-- a byte in front
in_front : (b : ℕ) (line : List ℕ) (last : ℕ) → without_cr (b ∷ (line ++ last ∷ [])) ≡ b ∷ without_cr (line ++ last ∷ [])
in_front b [] last = refl
in_front b (c ∷ line) last = refl

either-in_front : (cr : Bool) (b : ℕ) (rest line : List ℕ) → b ∷ (if cr then rest else line) ≡ (if cr then b ∷ rest else b ∷ line)
either-in_front true b rest line = refl
either-in_front false b rest line = refl

-- the last byte goes where it is CR
pub without_cr-push : (rest : List ℕ) (last : ℕ) → without_cr (rest ++ last ∷ []) ≡ (if eqb last 13 then rest else rest ++ last ∷ [])
without_cr-push [] last = refl
without_cr-push (b ∷ rest) last =
    in_front b rest last ∙ ap (λ l. b ∷ l) (without_cr-push rest last) ∙ either-in_front (eqb last 13) b rest (rest ++ last ∷ [])

pub is_utf8-not : (bytes : List ℕ) → ¬ IsUtf8 bytes → is_utf8 bytes ≡ false
is_utf8-not bytes other = false_from_ne_true (is_utf8 bytes) (λ e. other (IsUtf8-from_is_utf8 bytes e))

-- a line that is UTF-8 is clean where each byte is, and another is not
pub is_clean-not_utf8 : (line : List ℕ) → ¬ IsUtf8 line → false ≡ is_clean line
is_clean-not_utf8 line other = rw (is_utf8-not line other) refl

pub is_clean-utf8 : (line : List ℕ) → IsUtf8 line → true ≡ list_all (λ b. b == 9 || is_name_byte b) line → true ≡ is_clean line
is_clean-utf8 line text bytes = rw (is_utf8-from_IsUtf8 line text) bytes

pub without_cr-last : (line rest : List ℕ) (last : ℕ) → line ≡ rest ++ last ∷ [] → without_cr line ≡ (if eqb last 13 then rest else line)
without_cr-last line rest last parts = ap without_cr parts ∙ without_cr-push rest last ∙ ap (λ l. if eqb last 13 then rest else l) (sym parts)

-- two bytes at the front tell whether a line is passed over
is_skipped-take : (n : ℕ) (line : List ℕ) → is_skipped line ≡ is_skipped (take (suc (suc n)) line)
is_skipped-take n [] = refl
is_skipped-take n (b ∷ []) = refl
is_skipped-take n (b ∷ c ∷ line) = refl

-- a line of more than 4,097 bytes is as its first 4,097
pub IsAsItsFront-long : (line : List ℕ) → LINE_FRONT < length line → IsAsItsFront line
IsAsItsFront-long line more =
    let front : length (take LINE_FRONT line) ≡ LINE_FRONT = length-take-le LINE_FRONT line (omega arith) in
    record {
      skipped = is_skipped-take 4095 line;
      long = grind (arith, nat_tests);
      front_long = grind (arith, nat_tests, front);
    }

-- a field that is there, and one that is not
pub field_at-some : (fields : List (List ℕ)) (place : ℕ) (field : List ℕ) → slice_get fields place ≡ Some field → field ≡ field_at fields place
field_at-some fields place field at = sym (get_or_from_slice_get fields place field [] at)

pub field_at-none : (fields : List (List ℕ)) (place : ℕ) → slice_get fields place ≡ None → [] ≡ field_at fields place
field_at-none [] place none = refl
field_at-none (field ∷ fields) zero none = cc
field_at-none (field ∷ fields) (suc place) none = field_at-none fields place none

-- bytes that are plain pass what each plain byte passes
plain_pass : (p : ℕ → Bool) → ((b : ℕ) → is_plain b ≡ true → p b ≡ true) → (line : List ℕ) → list_all is_plain line ≡ true → list_all p line ≡ true
plain_pass p each [] plain = refl
plain_pass p each (b ∷ line) plain =
    let parts = and_parts (is_plain b) (list_all is_plain line) plain in
    and_from (p b) (list_all p line) (each b parts.0) (plain_pass p each line parts.1)

-- so they are UTF-8, and clean
plain_is_utf8 : (line : List ℕ) → list_all is_plain line ≡ true → is_utf8 line ≡ true
plain_is_utf8 line plain = ascii_is_utf8 line (plain_pass (λ b. nat_lt b 128) (λ b e. grind (arith, nat_tests, e)) line plain)

pub IsUtf8-plain : (line : List ℕ) → list_all is_plain line ≡ true → IsUtf8 line
IsUtf8-plain line plain = IsUtf8-from_is_utf8 line (plain_is_utf8 line plain)

pub is_clean-plain : (line : List ℕ) → list_all is_plain line ≡ true → true ≡ is_clean line
is_clean-plain line plain =
    rw (plain_is_utf8 line plain) (sym (plain_pass (λ b. b == 9 || is_name_byte b) (λ b e. grind (arith, nat_tests, e)) line plain))
