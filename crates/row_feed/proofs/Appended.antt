-- The lines of a feed, appended one behind the other.
use Rattle.std.proofs.Common.{◌≡◌, ℕ, List, [], ◌∷◌, ◌++◌, map, refl, sym, ap, subst, ◌∙◌, append_assoc, append-nil}
use Rattle.std.specs.Prelude.{All, codes}
use Rattle.std.specs.Fmt.{decimal}
use Rattle.std.proofs.lemmas.List.Elements.{All-head, All-tail}
use Rattle.cube_model.specs.declared.edit.Fact.{Fact}
use Rattle.text_lines.specs.Text.{lines_of}
use Rattle.fact_records.specs.Valid.{IsFactOf}
use Rattle.schema_text.specs.Schema.{SchemaValue, shape_of}
use Rattle.schema_text.specs.SchemaText.{schema_text}
use Rattle.script_text.specs.ReplySteps.{fields_text}
use Rattle.row_feed.specs.FeedText.{base_lines, fact_line, feed_bytes, fields_line}
use Rattle.row_feed.proofs.FeedBytes.{feed_bytes-append, feed_bytes-schema}

-- a word, fields and LF are the bytes of a line
line-appended : (word : List ℕ) (fields : List (List ℕ)) (old first second new : List ℕ) → first ≡ old ++ word → second ≡ first ++ fields_text fields → new ≡ second ++ 10 ∷ []
    → new ≡ old ++ feed_bytes (fields_line word fields ∷ [])
line-appended word fields old first second new here there last = rw (last, there, here) (simp (append_assoc, append-nil))

-- a field before others
field-before : (word : List ℕ) (fields : List (List ℕ)) (old first new : List ℕ) → first ≡ old ++ 9 ∷ word → new ≡ first ++ fields_text fields → new ≡ old ++ fields_text (word ∷ fields)
field-before word fields old first new here there = rw (there, here) (append_assoc old (9 ∷ word) (fields_text fields))

-- the lines of some facts are appended, and the others are left
pub record IsPartAppended (schema : SchemaValue) (old : List ℕ) (all : List Fact) (text : List ℕ) (left : List Fact) : Type 0 where
  pub text_is : text ++ feed_bytes (map (fact_line schema) left) ≡ old ++ feed_bytes (map (fact_line schema) all)
  pub valid : All (IsFactOf (shape_of schema) schema.dims) left

pub IsPartAppended-start : (schema : SchemaValue) (text : List ℕ) (all left : List Fact) → All (IsFactOf (shape_of schema) schema.dims) all → left ≡ all → IsPartAppended schema text all text left
IsPartAppended-start schema text all left valid same = rw same (record { text_is = refl; valid = valid })

pub IsPartAppended-valid : (schema : SchemaValue) (old : List ℕ) (all : List Fact) (text : List ℕ) (left : List Fact) (fact : Fact) (others : List Fact) → IsPartAppended schema old all text left → left ≡ fact ∷ others
    → IsFactOf (shape_of schema) schema.dims fact
IsPartAppended-valid schema old all text left fact others part first =
    All-head (IsFactOf (shape_of schema) schema.dims) fact others (subst (λ l. All (IsFactOf (shape_of schema) schema.dims) l) first part.valid)

pub IsPartAppended-next : (schema : SchemaValue) (old : List ℕ) (all : List Fact) (text new : List ℕ) (left : List Fact) (fact : Fact) (others : List Fact) → IsPartAppended schema old all text left → left ≡ fact ∷ others
    → new ≡ text ++ feed_bytes (fact_line schema fact ∷ []) → IsPartAppended schema old all new others
IsPartAppended-next schema old all text new left fact others part first added = record {
  text_is =
      let rest = feed_bytes (map (fact_line schema) others) in
      let line = fact_line schema fact ++ 10 ∷ [] in
      ap (λ t. t ++ rest) (added ∙ ap (λ t. text ++ t) (append-nil line)) ∙ append_assoc text line rest
      ∙ ap (λ l. text ++ feed_bytes (map (fact_line schema) l)) (sym first) ∙ part.text_is;
  valid = All-tail (IsFactOf (shape_of schema) schema.dims) fact others (subst (λ l. All (IsFactOf (shape_of schema) schema.dims) l) first part.valid);
}

pub IsPartAppended-end : (schema : SchemaValue) (old : List ℕ) (all : List Fact) (text : List ℕ) (left : List Fact) → IsPartAppended schema old all text left → left ≡ [] → text ≡ old ++ feed_bytes (map (fact_line schema) all)
IsPartAppended-end schema old all text left part none = sym (append-nil text) ∙ ap (λ l. text ++ feed_bytes (map (fact_line schema) l)) (sym none) ∙ part.text_is

-- the version, the schema, the facts and the last line are a base
pub base-appended : (schema : SchemaValue) (facts : List Fact) (start first second third new : List ℕ) → start ≡ [] → first ≡ start ++ (fields_line (codes "feed") (codes "1" ∷ []) ++ 10 ∷ []) → second ≡ first ++ schema_text schema
    → third ≡ second ++ feed_bytes (map (fact_line schema) facts) → new ≡ third ++ (codes "based" ++ 10 ∷ []) → new ≡ feed_bytes (base_lines schema facts)
base-appended schema facts start first second third new empty version of_schema of_facts last =
    let head = fields_line (codes "feed") (codes "1" ∷ []) ++ 10 ∷ [] in
    let text = schema_text schema in
    let lines = map (fact_line schema) facts in
    let end = codes "based" ++ 10 ∷ [] in
    let tail : feed_bytes ((lines_of text ++ lines) ++ codes "based" ∷ []) ≡ (text ++ feed_bytes lines) ++ end =
    feed_bytes-append (lines_of text ++ lines) (codes "based" ∷ []) ∙ ap (λ t. t ++ end) (feed_bytes-append (lines_of text) lines ∙ ap (λ t. t ++ feed_bytes lines) (feed_bytes-schema schema)) in
    let whole : new ≡ head ++ ((text ++ feed_bytes lines) ++ end) =
    last ∙ ap (λ t. t ++ end) (of_facts ∙ ap (λ t. t ++ feed_bytes lines) (of_schema ∙ ap (λ t. t ++ text) (version ∙ ap (λ t. t ++ head) empty)) ∙ append_assoc head text (feed_bytes lines))
    ∙ append_assoc head (text ++ feed_bytes lines) end in
    whole ∙ ap (λ t. head ++ t) (sym tail)

-- the word, the number, what was said and the lines behind are a batch
pub batch-appended : (word : List ℕ) (number : ℕ) (said behind : List (List ℕ)) (start first second third fourth new : List ℕ) → start ≡ [] → first ≡ start ++ word → second ≡ first ++ 9 ∷ decimal number
    → third ≡ second ++ fields_text said → fourth ≡ third ++ 10 ∷ [] → new ≡ fourth ++ feed_bytes behind → new ≡ feed_bytes (fields_line word (decimal number ∷ said) ∷ behind)
batch-appended word number said behind start first second third fourth new empty here of_number of_said ended more =
    let head = line-appended word (decimal number ∷ said) start first third fourth here (field-before (decimal number) said first second third of_number of_said) ended in
    let line = fields_line word (decimal number ∷ said) ++ 10 ∷ [] in
    more ∙ ap (λ t. t ++ feed_bytes behind) (head ∙ ap (λ t. t ++ (line ++ [])) empty ∙ append-nil line)
