-- Lines of fields are clean, not long, and not passed over.
use Rattle.std.proofs.Common.{◌≡◌, ℕ, ◌+◌, ◌*◌, ◌≤◌, true, false, List, [], ◌∷◌, ◌++◌, length, refl, sym, ap, ◌∙◌, arith, append-nil, length-append, lit≤}
use Rattle.std.specs.Prelude.{All, ◌==◌, ◌||◌}
use Rattle.std.specs.List.{flat_map, list_all}
use Rattle.std.specs.Str.{is_utf8}
use Rattle.std.proofs.lemmas.Bool.{and_parts}
use Rattle.std.proofs.lemmas.Bool.Decides.{nat_tests}
use Rattle.std.proofs.lemmas.List.Elements.{All-append, All-cons, All-head, All-nil, All-tail, All-weaker}
use Rattle.std.proofs.lemmas.List.Folds.{list_all-append}
use Rattle.std.proofs.lemmas.Str.{IsUtf8-append, IsUtf8-from_is_utf8, is_utf8-from_IsUtf8}
use Rattle.cube_base.specs.Name.{is_name_byte}
use Rattle.text_lines.specs.LineText.{is_blank, is_clean}
use Rattle.text_lines.specs.Text.{line_text, lines_of}
use Rattle.schema_text.proofs.WrittenLines.{IsField, IsPlain-fields, none-where}
use Rattle.fact_fields.proofs.PrintedFields.{IsField-printed}
use Rattle.row_feed.specs.FeedText.{feed_bytes, fields_line}
use Rattle.row_feed.specs.PlainText.{IsPlainText}
use Rattle.row_feed.proofs.CutLines.{without_cr-clean}
use Rattle.row_feed.proofs.FeedBytes.{HasNoLf, feed_bytes-append, lines_of-feed_bytes}

-- what is clean stays clean with more behind
clean-append : (a b : List ℕ) → is_clean a ≡ true → is_clean b ≡ true → is_clean (a ++ b) ≡ true
clean-append a b first second =
    let of_a = and_parts (is_utf8 a) (list_all (λ c. c == 9 || is_name_byte c) a) first in
    let of_b = and_parts (is_utf8 b) (list_all (λ c. c == 9 || is_name_byte c) b) second in
    let utf8 = is_utf8-from_IsUtf8 (a ++ b) (IsUtf8-append a b (IsUtf8-from_is_utf8 a of_a.0) (IsUtf8-from_is_utf8 b of_b.0)) in
    rw (utf8, list_all-append (λ c. c == 9 || is_name_byte c) a b, of_a.1, of_b.1) refl

clean-field : (field : List ℕ) → IsField field → is_clean field ≡ true
clean-field field is = ap is_clean (sym (append-nil field)) ∙ (IsPlain-fields field [] is (All-nil IsField) (lit≤ tt)).clean

clean-tab : is_clean (9 ∷ []) ≡ true
clean-tab = let empty = IsField-printed [] refl (lit≤ tt) in (IsPlain-fields [] ([] ∷ []) empty (All-cons IsField [] [] empty (All-nil IsField)) (lit≤ tt)).clean

clean-fields : (word : List ℕ) (fields : List (List ℕ)) → IsField word → All IsField fields → is_clean (fields_line word fields) ≡ true
clean-fields word [] is are = ap is_clean (append-nil word) ∙ clean-field word is
clean-fields word (field ∷ fields) is are =
    let rest = clean-fields field fields (All-head IsField field fields are) (All-tail IsField field fields are) in
    clean-append word (9 ∷ fields_line field fields) (clean-field word is) (clean-append (9 ∷ []) (fields_line field fields) clean-tab rest)

short-fields : (word : List ℕ) (fields : List (List ℕ)) → IsField word → All IsField fields → length (fields_line word fields) ≤ 128 + 129 * length fields
short-fields word [] is are = rw append-nil is.short
short-fields word (field ∷ fields) is are =
    let rest = short-fields field fields (All-head IsField field fields are) (All-tail IsField field fields are) in
    omega (arith, length-append word (9 ∷ fields_line field fields), rest, is.short)

-- a line does not begin with `#`, where its first field does not
starts-word : (word rest : List ℕ) → is_blank word ≡ false → is_blank (word ++ rest) ≡ false
starts-word [] rest starts = cc starts
starts-word (b ∷ word) rest starts = starts

-- so up to 30 fields behind a word are a line
pub IsPlainText-fields : (word : List ℕ) (fields : List (List ℕ)) → IsField word → is_blank word ≡ false → All IsField fields → length fields ≤ 30 → IsPlainText (fields_line word fields)
IsPlainText-fields word fields is starts are few =
    let line = fields_line word fields in
    let clean = clean-fields word fields is are in
    let bytes = (and_parts (is_utf8 line) (list_all (λ c. c == 9 || is_name_byte c) line) clean).1 in
    let size = short-fields word fields is are in
    record {
      clean = clean;
      short = grind (arith, nat_tests, size, few);
      stays = ap is_blank (without_cr-clean line bytes) ∙ starts-word word (flat_map (λ field. 9 ∷ field) fields) starts;
      lf = none-where (λ c. c == 9 || is_name_byte c) 10 line bytes refl;
    }

-- A text is made of such lines.
pub record HasLines (text : List ℕ) : Type 0 where
  pub lines : List (List ℕ)
  pub bytes : text ≡ feed_bytes lines
  pub plain : All IsPlainText lines

pub HasLines-none : HasLines []
HasLines-none = record { lines = []; bytes = refl; plain = All-nil IsPlainText }

pub HasLines-line : (word : List ℕ) (fields : List (List ℕ)) → IsField word → is_blank word ≡ false → All IsField fields → length fields ≤ 30 → HasLines (line_text word fields)
HasLines-line word fields is starts are few = record {
  lines = fields_line word fields ∷ [];
  bytes = sym (append-nil (fields_line word fields ++ 10 ∷ []));
  plain = All-cons IsPlainText (fields_line word fields) [] (IsPlainText-fields word fields is starts are few) (All-nil IsPlainText);
}

pub HasLines-append : (a b : List ℕ) → HasLines a → HasLines b → HasLines (a ++ b)
HasLines-append a b first second = record {
  lines = first.lines ++ second.lines;
  bytes = ap (λ t. t ++ b) first.bytes ∙ ap (λ t. feed_bytes first.lines ++ t) second.bytes ∙ sym (feed_bytes-append first.lines second.lines);
  plain = All-append IsPlainText first.lines second.lines first.plain second.plain;
}

pub HasLines-each : {X : Type 0} (P : X → Type 0) (text : X → List ℕ) (xs : List X) → ((x : X) → P x → HasLines (text x)) → All P xs → HasLines (flat_map text xs)
HasLines-each P text [] each all = HasLines-none
HasLines-each P text (x ∷ xs) each all = HasLines-append (text x) (flat_map text xs) (each x (All-head P x xs all)) (HasLines-each P text xs each (All-tail P x xs all))

-- it is cut into them
pub lines_of-plain : (text : List ℕ) → HasLines text → All IsPlainText (lines_of text)
lines_of-plain text has =
    let none = All-weaker IsPlainText HasNoLf (λ line is. is.lf) has.lines has.plain in
    let same : lines_of text ≡ has.lines =
    ap lines_of (has.bytes ∙ sym (append-nil (feed_bytes has.lines))) ∙ lines_of-feed_bytes has.lines [] none ∙ append-nil has.lines in
    rw same has.plain
