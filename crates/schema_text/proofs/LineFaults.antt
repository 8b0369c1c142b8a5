-- Which line is `end`.
use Rattle.std.proofs.Common.{◌≡◌, ◌≢◌, ℕ, Bool, true, false, List, [], ◌∷◌, length, sym, refl, ap, ◌∙◌, arith, Some, None, subst, true≢false}
use Rattle.std.specs.Prelude.{if◌then◌else◌, codes}
use Rattle.std.specs.Str.{bytes_eq}
use Rattle.std.specs.List.{join_with_byte}
use Rattle.std.proofs.lemmas.List.Splits.{join_with_byte-slice_split}
use Rattle.text_lines.specs.LineText.{field_at, without_cr}
use Rattle.text_lines.specs.Text.{fields_of}
use Rattle.std.proofs.lemmas.Bool.Decides.{nat_tests}
use Rattle.schema_text.specs.declared.word.Version.{Version}
use Rattle.schema_text.specs.declared.word.SchemaWord.{SchemaWord}
use Rattle.schema_text.specs.declared.word.SchemaWord.TheVariants.{Cube, Policy, Number, Parts, Dimension as DimensionWord, Node, View, End}
use Rattle.schema_text.specs.SchemaText.{has_wrong_count, is_end, word_named}

-- the one field of a line is the line
only : (parts : List (List ℕ)) (line : List ℕ) → length parts ≡ 1 → join_with_byte 9 parts ≡ line → field_at parts 0 ≡ line
only [] line one joined = absurd (omega arith)
only (part ∷ []) line one joined = joined
only (part ∷ other ∷ parts) line one joined = absurd (omega arith)

one_field : (line : List ℕ) → length (fields_of line) ≡ 1 → field_at (fields_of line) 0 ≡ line
one_field line one = only (fields_of line) line one (join_with_byte-slice_split 9 line)

spells-end : (a b c d e f g h : Bool) →
    (if a then Some Cube else (if b then Some Policy else (if c then Some Number else (if d then Some Parts else (if e then Some DimensionWord else (if f then Some Node else (if g then Some View else (if h then Some End else None)))))))) ≡ Some End → h ≡ true
spells-end true b c d e f g h is = cc
spells-end false true c d e f g h is = cc
spells-end false false true d e f g h is = cc
spells-end false false false true e f g h is = cc
spells-end false false false false true f g h is = cc
spells-end false false false false false true g h is = cc
spells-end false false false false false false true h is = cc
spells-end false false false false false false false true is = refl
spells-end false false false false false false false false is = cc

word-end : (bytes : List ℕ) → word_named bytes ≡ Some End → bytes_eq bytes (codes "end") ≡ true
word-end bytes named =
    spells-end (bytes_eq bytes (codes "cube")) (bytes_eq bytes (codes "policy")) (bytes_eq bytes (codes "number")) (bytes_eq bytes (codes "parts")) (bytes_eq bytes (codes "dimension")) (bytes_eq bytes (codes "node")) (bytes_eq bytes (codes "view")) (bytes_eq bytes (codes "end")) named

-- a line of the word `end` with no other field is the line `end`
pub end-one_field : (line : List ℕ) → is_end line ≡ false → word_named (field_at (fields_of (without_cr line)) 0) ≡ Some End → length (fields_of (without_cr line)) ≢ 1
end-one_field line other named one =
    true≢false (sym (ap (λ l. bytes_eq l (codes "end")) (sym (one_field (without_cr line) one)) ∙ word-end (field_at (fields_of (without_cr line)) 0) named) ∙ other)

-- a line that is not `end` and has as many fields as its word wants is of another word
pub other_word : (version : Version) (dims : ℕ) (fields : List (List ℕ)) (word : SchemaWord) → has_wrong_count version dims fields word ≡ false → (word ≡ End → length fields ≢ 1) → word ≢ End
other_word version dims fields word right other ends = other ends (one (subst (λ w. has_wrong_count version dims fields w ≡ false) ends right))
  where
    one : has_wrong_count version dims fields End ≡ false → length fields ≡ 1
    one e = grind (arith, nat_tests)
