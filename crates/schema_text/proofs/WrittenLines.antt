-- A line that is written is read as its word and its fields.
use Rattle.std.proofs.Common.{◌≡◌, ◌≢◌, ℕ, ◌+◌, ◌*◌, ◌^◌, ◌<◌, ◌≤◌, Bool, true, false, List, [], ◌∷◌, ◌++◌, length, refl, sym, ap, ◌∙◌, arith, Some, None, eqb, append_assoc, append-nil, length-append}
use Rattle.std.specs.Prelude.{codes, nat_lt, All, ◌||◌}
use Rattle.std.specs.List.{flat_map, list_all}
use Rattle.std.specs.Str.{IsUtf8, bytes_eq, is_utf8}
use Rattle.std.proofs.lemmas.Bool.{and_parts}
use Rattle.std.proofs.lemmas.Bool.Decides.{nat_tests}
use Rattle.std.proofs.lemmas.List.Elements.{All-cons, All-head, All-nil, All-tail}
use Rattle.std.proofs.lemmas.List.Folds.{list_all-append}
use Rattle.std.proofs.lemmas.Str.{IsUtf8-append, IsUtf8-from_is_utf8, is_utf8-from_IsUtf8}
use Rattle.cube_base.specs.Name.{has_name_bytes, is_name, is_name_byte}
use Rattle.text_lines.specs.Text.{fields_of, is_digit, line_text}
use Rattle.text_lines.proofs.Numbers.{digits_model}
use Rattle.std.specs.Fmt.{decimal}
use Rattle.std.proofs.lemmas.Fmt.{digits_decimal, length-decimal-le}
use Rattle.text_lines.proofs.Ascii.{ascii_is_utf8}
use Rattle.schema_text.specs.declared.word.SchemaWord.{SchemaWord}
use Rattle.text_lines.specs.LineText.{is_blank, is_clean, is_long, without_cr}
use Rattle.schema_text.specs.SchemaText.{Draft, draft_line_fault, fields_fault, with_line, with_word, word_named}
use Rattle.text_lines.proofs.Cuts.{after_line-cut, fields_of-cut, fields_of-none, lines_of-cut}
use Rattle.schema_text.proofs.Ends.{judged}
use Rattle.schema_text.proofs.Reading.{IsCut, IsRead, IsRead-more}

-- a field that is written: up to 128 bytes of UTF-8 that may stand in a name
pub record IsField (bytes : List ℕ) : Type 0 where
  pub bytes_are : list_all is_name_byte bytes ≡ true
  pub utf8 : is_utf8 bytes ≡ true
  pub short : length bytes ≤ 128

-- a name is one
pub IsField-name : (name : List ℕ) → is_name name ≡ true → IsField name
IsField-name name named =
    let parts = and_parts (has_name_bytes name) (is_utf8 name) named in
    record { bytes_are = grind (arith, nat_tests, parts.0); utf8 = parts.1; short = grind (arith, nat_tests, parts.0) }

digits-name_bytes : (bytes : List ℕ) → list_all is_digit bytes ≡ true → list_all is_name_byte bytes ≡ true
digits-name_bytes [] all = refl
digits-name_bytes (b ∷ bytes) all =
    let parts = and_parts (is_digit b) (list_all is_digit bytes) all in
    let here : is_name_byte b ≡ true = grind (arith, nat_tests, parts.0) in
    rw (here, digits-name_bytes bytes parts.1) refl

digits-ascii : (bytes : List ℕ) → list_all is_digit bytes ≡ true → list_all (λ b. nat_lt b 128) bytes ≡ true
digits-ascii [] all = refl
digits-ascii (b ∷ bytes) all =
    let parts = and_parts (is_digit b) (list_all is_digit bytes) all in
    let here : nat_lt b 128 ≡ true = grind (arith, nat_tests, parts.0) in
    rw (here, digits-ascii bytes parts.1) refl

-- and so is a number that a schema may have
pub IsField-decimal : (n : ℕ) → n ≤ 1000000 → IsField (decimal n)
IsField-decimal n small =
    let fits : n < 2 ^ 64 = omega arith in
    let digits : list_all is_digit (decimal n) ≡ true = digits_decimal digits_model n fits in
    record {
      bytes_are = digits-name_bytes (decimal n) digits;
      utf8 = ascii_is_utf8 (decimal n) (digits-ascii (decimal n) digits);
      short = omega (arith, length-decimal-le 7 n (omega arith) (omega arith) fits);
    }

-- the bytes of a line before its LF
abbrev pub joined : List ℕ → List (List ℕ) → List ℕ
joined word fields = word ++ flat_map (λ field. 9 ∷ field) fields

-- a byte that fails a test is none of those that pass it
pub none-where : (p : ℕ → Bool) (c : ℕ) (bytes : List ℕ) → list_all p bytes ≡ true → p c ≡ false → All (λ b. b ≢ c) bytes
none-where p c [] all fails = All-nil (λ b. b ≢ c)
none-where p c (b ∷ bytes) all fails =
    let parts = and_parts (p b) (list_all p bytes) all in
    All-cons (λ b. b ≢ c) b bytes (λ same. let e : p b ≡ p c = ap p same in cc) (none-where p c bytes parts.1 fails)

-- a line of fields is cut into them
pub fields_of-joined : (word : List ℕ) (fields : List (List ℕ)) → IsField word → All IsField fields → fields_of (joined word fields) ≡ word ∷ fields
fields_of-joined word [] is are = ap fields_of (append-nil word) ∙ fields_of-none word (none-where is_name_byte 9 word is.bytes_are refl)
fields_of-joined word (field ∷ fields) is are =
    fields_of-cut (joined word (field ∷ fields)) word (joined field fields) refl (none-where is_name_byte 9 word is.bytes_are refl)
    ∙ ap (λ l. word ∷ l) (fields_of-joined field fields (All-head IsField field fields are) (All-tail IsField field fields are))

abbrev pub is_line_byte : ℕ → Bool
is_line_byte b = eqb b 9 || is_name_byte b

line_bytes : (bytes : List ℕ) → list_all is_name_byte bytes ≡ true → list_all is_line_byte bytes ≡ true
line_bytes [] all = refl
line_bytes (b ∷ bytes) all =
    let parts = and_parts (is_name_byte b) (list_all is_name_byte bytes) all in
    let here : is_line_byte b ≡ true = grind (arith, nat_tests, parts.0) in
    rw (here, line_bytes bytes parts.1) refl

joined_bytes : (word : List ℕ) (fields : List (List ℕ)) → IsField word → All IsField fields → list_all is_line_byte (joined word fields) ≡ true
joined_bytes word [] is are = ap (list_all is_line_byte) (append-nil word) ∙ line_bytes word is.bytes_are
joined_bytes word (field ∷ fields) is are =
    let rest : list_all is_line_byte (9 ∷ joined field fields) ≡ true = joined_bytes field fields (All-head IsField field fields are) (All-tail IsField field fields are) in
    list_all-append is_line_byte word (9 ∷ joined field fields) ∙ rw (line_bytes word is.bytes_are) rest

joined_utf8 : (word : List ℕ) (fields : List (List ℕ)) → IsField word → All IsField fields → IsUtf8 (joined word fields)
joined_utf8 word [] is are = rw append-nil (IsUtf8-from_is_utf8 word is.utf8)
joined_utf8 word (field ∷ fields) is are =
    let rest = joined_utf8 field fields (All-head IsField field fields are) (All-tail IsField field fields are) in
    IsUtf8-append word (9 ∷ joined field fields) (IsUtf8-from_is_utf8 word is.utf8)
    (IsUtf8-append (9 ∷ []) (joined field fields) (IsUtf8-from_is_utf8 (9 ∷ []) (ascii_is_utf8 (9 ∷ []) refl)) rest)

joined_short : (word : List ℕ) (fields : List (List ℕ)) → IsField word → All IsField fields → length (joined word fields) ≤ 128 + 129 * length fields
joined_short word [] is are = rw append-nil is.short
joined_short word (field ∷ fields) is are =
    let rest = joined_short field fields (All-head IsField field fields are) (All-tail IsField field fields are) in
    omega (arith, length-append word (9 ∷ joined field fields), rest, is.short)

-- with no CR none is dropped
without_cr-none : (line : List ℕ) → All (λ b. b ≢ 13) line → without_cr line ≡ line
without_cr-none [] none = refl
without_cr-none (b ∷ []) none =
    let other : eqb b 13 ≡ false = grind (arith, nat_tests, All-head (λ b. b ≢ 13) b [] none) in
    rw other refl
without_cr-none (b ∷ c ∷ line) none = ap (λ l. b ∷ l) (without_cr-none (c ∷ line) (All-tail (λ b. b ≢ 13) b (c ∷ line) none))

-- how a line of up to nine fields is read
pub record IsPlain (word : List ℕ) (fields : List (List ℕ)) : Type 0 where
  pub lf : All (λ b. b ≢ 10) (joined word fields)
  pub bare : without_cr (joined word fields) ≡ joined word fields
  pub long : is_long (joined word fields) ≡ false
  pub clean : is_clean (joined word fields) ≡ true
  pub cut : fields_of (joined word fields) ≡ word ∷ fields

pub IsPlain-fields : (word : List ℕ) (fields : List (List ℕ)) → IsField word → All IsField fields → length fields ≤ 9 → IsPlain word fields
IsPlain-fields word fields is are few =
    let bytes = joined_bytes word fields is are in
    let utf8 = is_utf8-from_IsUtf8 (joined word fields) (joined_utf8 word fields is are) in
    let short = joined_short word fields is are in
    record {
      lf = none-where is_line_byte 10 (joined word fields) bytes refl;
      bare = without_cr-none (joined word fields) (none-where is_line_byte 13 (joined word fields) bytes refl);
      long = grind (arith, nat_tests, short, few);
      clean = rw (utf8, bytes) refl;
      cut = fields_of-joined word fields is are;
    }

-- a line that the draft accepts is read
pub record IsNext (draft : Draft) (word : List ℕ) (fields : List (List ℕ)) (named : SchemaWord) : Type 0 where
  pub plain : IsPlain word fields
  pub word_is : word_named word ≡ Some named
  pub stays : is_blank (joined word fields) ≡ false
  pub goes_on : bytes_eq (joined word fields) (codes "end") ≡ false
  pub accepted : fields_fault draft (word ∷ fields) (Some named) ≡ None

draft_line_fault-next : (draft : Draft) (word : List ℕ) (fields : List (List ℕ)) (named : SchemaWord) → IsNext draft word fields named → draft_line_fault draft (joined word fields) ≡ None
draft_line_fault-next draft word fields named next =
    ap (λ l. judged draft l (without_cr (joined word fields))) next.plain.long ∙ ap (judged draft false) next.plain.bare
    ∙ rw (next.plain.clean, next.plain.cut, next.word_is) next.accepted

with_line-next : (draft : Draft) (word : List ℕ) (fields : List (List ℕ)) (named : SchemaWord) → IsNext draft word fields named → with_word draft (word ∷ fields) named ≡ with_line draft (joined word fields)
with_line-next draft word fields named next =
    let all : fields_of (without_cr (joined word fields)) ≡ word ∷ fields = ap fields_of next.plain.bare ∙ next.plain.cut in
    rw (all, next.word_is) refl

pub IsRead-next : (text : List ℕ) (draft : Draft) (lines : ℕ) (rest behind word : List ℕ) (fields : List (List ℕ)) (named : SchemaWord) → IsRead text draft lines rest
    → rest ≡ line_text word fields ++ behind → IsNext draft word fields named → IsRead text (with_word draft (word ∷ fields) named) (lines + 1) behind
IsRead-next text draft lines rest behind word fields named is parts next =
    let line = joined word fields in
    let cuts : rest ≡ line ++ 10 ∷ behind = parts ∙ append_assoc line (10 ∷ []) behind in
    let cut : IsCut rest line behind =
    record {
      cut = lines_of-cut rest line behind cuts next.plain.lf;
      after = sym (after_line-cut rest line behind cuts next.plain.lf);
      shorter = omega (arith, ap length cuts, length-append line (10 ∷ behind));
    } in
    IsRead-more text draft (with_word draft (word ∷ fields) named) lines rest line behind is cut (ap is_blank next.plain.bare ∙ next.stays) (draft_line_fault-next draft word fields named next)
    (ap (λ l. bytes_eq l (codes "end")) next.plain.bare ∙ next.goes_on) (with_line-next draft word fields named next)
