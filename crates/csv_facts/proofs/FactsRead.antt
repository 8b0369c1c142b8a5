-- What records say, one after the other.
use Rattle.std.proofs.Common.{◌≡◌, false, Err, subst, ℕ, ◌+◌, ◌<◌, Bool, true, List, [], ◌∷◌, ◌++◌, length, map, None, Ok, refl, sym, ap, ◌∙◌, arith, append_assoc, length-append}
use Rattle.std.specs.Prelude.{All, ◌==◌}
use Rattle.std.specs.List.{list_all}
use Rattle.std.specs.Str.{is_utf8}
use Rattle.std.proofs.lemmas.Bool.{and_parts}
use Rattle.std.proofs.lemmas.Bool.Decides.{nat_tests}
use Rattle.std.proofs.lemmas.List.{append-nil, length-map}
use Rattle.std.proofs.lemmas.List.Elements.{All-append, All-cons, All-nil}
use Rattle.cube_model.specs.declared.edit.Fact.{Fact}
use Rattle.csv.specs.Records.{AllText}
use Rattle.std.proofs.lemmas.Str.{IsUtf8-from_is_utf8, is_utf8-from_IsUtf8}
use Rattle.cube_base.specs.declared.code.Code.TheVariants as code
use Rattle.cube_model.specs.Tree.{Dimension}
use Rattle.fact_records.specs.Fields.{fact_given}
use Rattle.fact_records.specs.Shape.{ShapeValue}
use Rattle.fact_records.specs.Valid.{IsFactOf}
use Rattle.schema_text.specs.Schema.{SchemaValue, shape_of}
use Rattle.fact_records.specs.declared.fact_seq.FactSeq.{FactSeq}
use Rattle.csv_facts.specs.FactFile.{facts_from, facts_in, header_of, is_header, record_given, seq_behind, seq_with}

-- a record has as many fields as there are columns
length-header_of : (schema : SchemaValue) → length (header_of schema) ≡ 1 + length schema.names + length schema.measures
length-header_of schema =
    let names = length-append schema.names (map (λ m. m.name) schema.measures) in
    let measures = length-map schema.measures (λ m. m.name) in
    omega (arith, names, measures)

pub given-fact : (schema : SchemaValue) (row : List (List ℕ)) → length row ≡ 1 + length schema.names + length schema.measures → list_all is_utf8 row ≡ true → record_given schema row ≡ fact_given schema.dims (shape_of schema) row
given-fact schema row many text =
    let count = length-header_of schema in
    let test : (length row == length (header_of schema)) ≡ true = grind (arith, nat_tests, count, many) in
    rw (test, text) refl

-- a record is a text exactly where all its fields are UTF-8
AllText-from : (fields : List (List ℕ)) → list_all is_utf8 fields ≡ true → AllText fields
unfolding AllText
AllText-from [] all = tt
AllText-from (f ∷ fields) all =
    let parts = and_parts (is_utf8 f) (list_all is_utf8 fields) all in
    (IsUtf8-from_is_utf8 f parts.0, AllText-from fields parts.1)

all-from_AllText : (fields : List (List ℕ)) → AllText fields → list_all is_utf8 fields ≡ true
unfolding AllText
all-from_AllText [] text = refl
all-from_AllText (f ∷ fields) text = rw (is_utf8-from_IsUtf8 f text.0) (all-from_AllText fields text.1)

pub given-no_text : (schema : SchemaValue) (row taken : List (List ℕ)) → length row ≡ 1 + length schema.names + length schema.measures → taken ≡ row → ¬ AllText taken → Err code.Text ≡ record_given schema row
given-no_text schema row taken many same other = either (list_all is_utf8 row) refl
  where
    test : (length row == length (header_of schema)) ≡ true
    test = let count = length-header_of schema in grind (arith, nat_tests, count, many)

    either : (b : Bool) → list_all is_utf8 row ≡ b → Err code.Text ≡ record_given schema row
    either true all = absurd (other (subst AllText (sym same) (AllText-from row all)))
    either false all = rw (test, all) refl

pub given-text : (schema : SchemaValue) (row taken text left : List (List ℕ)) (dims : List Dimension) (shape : ShapeValue) → length row ≡ 1 + length schema.names + length schema.measures → taken ≡ row → text ≡ taken
    → AllText text → dims ≡ schema.dims → shape ≡ shape_of schema → left ≡ text → fact_given dims shape left ≡ record_given schema row
given-text schema row taken text left dims shape many same_row same_text all same_dims same_shape same_left =
    let same : text ≡ row = same_text ∙ same_row in
    ap (λ ds. fact_given ds shape left) same_dims ∙ ap (λ sh. fact_given schema.dims sh left) same_shape ∙ ap (fact_given schema.dims (shape_of schema)) (same_left ∙ same)
    ∙ sym (given-fact schema row many (all-from_AllText row (subst AllText same all)))

-- Some facts were read, and records are left.
pub record IsReading (schema : SchemaValue) (all : List (List (List ℕ))) (facts : List Fact) (left : List (List (List ℕ))) : Type 0 where
  pub same : facts_from schema 1 all ≡ seq_behind facts (facts_from schema (length facts + 1) left)
  pub within : All (IsFactOf (shape_of schema) schema.dims) facts

pub IsReading-start : (schema : SchemaValue) (all : List (List (List ℕ))) (facts : List Fact) → facts ≡ [] → IsReading schema all facts all
IsReading-start schema all facts none = rw none (record { same = refl; within = All-nil (IsFactOf (shape_of schema) schema.dims) })

pub IsReading-next : (schema : SchemaValue) (all : List (List (List ℕ))) (facts more : List Fact) (left : List (List (List ℕ))) (row : List (List ℕ)) (others : List (List (List ℕ))) (fact : Fact)
    → IsReading schema all facts left → left ≡ row ∷ others → Ok fact ≡ record_given schema row → IsFactOf (shape_of schema) schema.dims fact → more ≡ facts ++ fact ∷ [] → IsReading schema all more others
IsReading-next schema all facts more left row others fact reading first given within same =
    let many : length (facts ++ fact ∷ []) ≡ length facts + 1 = omega (arith, length-append facts (fact ∷ [])) in
    rw same (record {
      same =
          reading.same ∙ ap (λ l. seq_behind facts (facts_from schema (length facts + 1) l)) first
          ∙ ap (λ r. seq_behind facts (seq_with (length facts + 1) r (facts_from schema (length facts + 1 + 1) others))) (sym given)
          ∙ ap (λ n. seq_behind facts (seq_behind (fact ∷ []) (facts_from schema (n + 1) others))) (sym many)
          ∙ grouped facts (fact ∷ []) (facts_from schema (length (facts ++ fact ∷ []) + 1) others);
      within = All-append (IsFactOf (shape_of schema) schema.dims) facts (fact ∷ []) reading.within (All-cons (IsFactOf (shape_of schema) schema.dims) fact [] within (All-nil (IsFactOf (shape_of schema) schema.dims)));
    })
  where
    grouped : (a b : List Fact) (seq : FactSeq) → seq_behind a (seq_behind b seq) ≡ seq_behind (a ++ b) seq
    grouped a b seq = rw (append_assoc a b seq.facts) refl

-- no record is left
pub IsReading-end : (schema : SchemaValue) (all : List (List (List ℕ))) (facts : List Fact) (left : List (List (List ℕ))) → IsReading schema all facts left → left ≡ []
    → facts_from schema 1 all ≡ record { facts = facts; bad = None }
IsReading-end schema all facts left reading none =
    let last : seq_behind facts (facts_from schema (length facts + 1) []) ≡ record { facts = facts; bad = None } = rw (append-nil facts) refl in
    reading.same ∙ ap (λ l. seq_behind facts (facts_from schema (length facts + 1) l)) none ∙ last

-- a file whose first record is the header, another, or none
pub facts_in-header : (schema : SchemaValue) (all : List (List (List ℕ))) (first : List (List ℕ)) (left : List (List (List ℕ))) → all ≡ first ∷ left → is_header schema first ≡ true → facts_in schema all ≡ facts_from schema 1 left
facts_in-header schema all first left is header = rw (is, header) refl

-- a list without its first item is shorter
pub shorter : {A : Type 0} (before : List A) (first : A) (after : List A) → before ≡ first ∷ after → length after < length before
shorter before first after is = rw is (omega arith)
