-- The fields of a fact's record, one after the other, and the records of facts.
use Rattle.std.proofs.Common.{◌≡◌, ◌≢◌, ℕ, zero, suc, ◌+◌, ◌<◌, true, false, List, [], ◌∷◌, ◌++◌, length, map, take, Option, Some, None, refl, sym, ap, subst, ◌∙◌, arith, append_assoc}
use Rattle.std.specs.Prelude.{All, OnOk, Result, Ok, Err, slice_get}
use Rattle.std.specs.Option.{option_map, option_map_or}
use Rattle.std.specs.Result.{is_ok}
use Rattle.std.proofs.lemmas.List.{append-nil}
use Rattle.cube_model.specs.declared.edit.Fact.{Fact}
use Rattle.cube_model.specs.Tree.{Dimension, Entry, entry_of}
use Rattle.region_algebra.specs.Space.{is_region}
use Rattle.region_algebra.proofs.Meets.{is_region-cons}
use Rattle.std.specs.Global.{Vec}
use Rattle.std.proofs.lemmas.List.Elements.{All-head, All-tail}
use Rattle.fact_records.specs.Valid.{IsFactOf}
use Rattle.schema_text.specs.Schema.{SchemaValue, shape_of}
use Rattle.csv.specs.Records.{Row}
use Rattle.csv.specs.Writing.{default_writer, fields_written, has_written, row_text, writer_setup}
use Rattle.csv.specs.declared.writer.QuoteStyle.TheVariants as style
use Rattle.csv.specs.declared.writer.Writer.{Writer}
use Rattle.script_text.specs.Reply.{names_of}
use Rattle.fact_fields.specs.FactRow.{record_of}
use Rattle.csv_facts.specs.FactFile.{file_text, header_of}
use Rattle.csv_facts.specs.RecordList.{IsLonger, IsWriting, Writes, records_text, text_in}

-- the name of a node of a region
pub node-within : (dims : List Dimension) (region : List ℕ) (d : ℕ) (dim : Dimension) (node : ℕ) → is_region dims region ≡ true → slice_get dims d ≡ Some dim → slice_get region d ≡ Some node → node < length dim
node-within [] [] d dim node region at_dim at_node = cc
node-within [] (n ∷ nodes) d dim node region at_dim at_node = cc
node-within (e ∷ dims) [] d dim node region at_dim at_node = cc
node-within (e ∷ dims) (n ∷ nodes) zero dim node region at_dim at_node =
    let same_dim : e ≡ dim = cc in
    let same_node : n ≡ node = cc in
    rw (same_dim, same_node) at (is_region-cons e dims n nodes region).0
node-within (e ∷ dims) (n ∷ nodes) (suc d) dim node region at_dim at_node = node-within dims nodes d dim node (is_region-cons e dims n nodes region).1 at_dim at_node

pub names_of-next : (dims : List Dimension) (region : List ℕ) (d : ℕ) (dim : Dimension) (node : ℕ) → slice_get dims d ≡ Some dim → slice_get region d ≡ Some node
    → take (d + 1) (names_of dims region) ≡ take d (names_of dims region) ++ option_map_or (λ e. e.name) (entry_of dim node) [] ∷ []
names_of-next [] region d dim node at_dim at_node = cc
names_of-next (e ∷ dims) [] d dim node at_dim at_node = cc
names_of-next (e ∷ dims) (n ∷ nodes) zero dim node at_dim at_node =
    let same_dim : e ≡ dim = cc in
    let same_node : n ≡ node = cc in
    rw (same_dim, same_node) refl
names_of-next (e ∷ dims) (n ∷ nodes) (suc d) dim node at_dim at_node =
    let next : suc d + 1 ≡ suc (d + 1) = omega arith in
    rw next (ap (λ names. option_map_or (λ e. e.name) (entry_of e n) [] ∷ names) (names_of-next dims nodes d dim node at_dim at_node))

pub name-there : (found : Option Entry) (name : List ℕ) → option_map (λ e. e.name) found ≡ Some name → option_map_or (λ e. e.name) found [] ≡ name
name-there None name e = cc
name-there (Some entry) name e = cc

-- a row with the fields of all items
pub IsLonger-same : (before row : Row) (a b : List (List ℕ)) → a ≡ b → IsLonger before a row → IsLonger before b row
IsLonger-same before row a b same longer = subst (λ l. IsLonger before l row) same longer

-- the records of some facts are written, and the others are left
pub record IsPartWritten (schema : SchemaValue) (before : Writer (Vec ℕ)) (all : List Fact) (out : Writer (Vec ℕ)) (left : List Fact) : Type 0 where
  pub writing : IsWriting out
  pub text : text_in out ++ records_text (map (record_of schema) left) ≡ text_in before ++ records_text (map (record_of schema) all)
  pub valid : All (IsFactOf (shape_of schema) schema.dims) left

pub IsPartWritten-start : (schema : SchemaValue) (out : Writer (Vec ℕ)) (all left : List Fact) → IsWriting out → All (IsFactOf (shape_of schema) schema.dims) all → left ≡ all → IsPartWritten schema out all out left
IsPartWritten-start schema out all left writing valid same = rw same (record { writing = writing; text = refl; valid = valid })

pub IsPartWritten-valid : (schema : SchemaValue) (before out : Writer (Vec ℕ)) (all left : List Fact) (fact : Fact) (others : List Fact) → IsPartWritten schema before all out left → left ≡ fact ∷ others
    → IsFactOf (shape_of schema) schema.dims fact
IsPartWritten-valid schema before out all left fact others part first =
    All-head (IsFactOf (shape_of schema) schema.dims) fact others (subst (λ l. All (IsFactOf (shape_of schema) schema.dims) l) first part.valid)

pub IsPartWritten-next : (schema : SchemaValue) (before out new : Writer (Vec ℕ)) (all left : List Fact) (fact : Fact) (others : List Fact) (row : List (List ℕ)) → IsPartWritten schema before all out left → left ≡ fact ∷ others
    → row ≡ record_of schema fact → Writes out (row ∷ []) new → IsPartWritten schema before all new others
IsPartWritten-next schema before out new all left fact others row part first same wrote = record {
  writing = wrote.writing;
  text =
      ap (λ t. t ++ records_text (map (record_of schema) others)) (wrote.text ∙ ap (λ t. text_in out ++ t) (append-nil (row_text default_writer row)) ∙ ap (λ r. text_in out ++ row_text default_writer r) same)
      ∙ append_assoc (text_in out) (row_text default_writer (record_of schema fact)) (records_text (map (record_of schema) others))
      ∙ ap (λ l. text_in out ++ records_text (map (record_of schema) l)) (sym first) ∙ part.text;
  valid = All-tail (IsFactOf (shape_of schema) schema.dims) fact others (subst (λ l. All (IsFactOf (shape_of schema) schema.dims) l) first part.valid);
}

pub IsPartWritten-end : (schema : SchemaValue) (before out : Writer (Vec ℕ)) (all left : List Fact) → IsPartWritten schema before all out left → left ≡ [] → Writes before (map (record_of schema) all) out
IsPartWritten-end schema before out all left part none = record {
  writing = part.writing;
  text = sym (append-nil (text_in out)) ∙ ap (λ l. text_in out ++ records_text (map (record_of schema) l)) (sym none) ∙ part.text;
}

-- a record was written
pub Writes-row : (old new : Writer (Vec ℕ)) (row : List (List ℕ)) → IsWriting old → writer_setup new ≡ writer_setup old → fields_written new ≡ 0 → has_written new ≡ false
    → (fields_written old ≡ 0 → has_written old ≡ false → (writer_setup old).style ≢ style.NonNumeric → text_in new ≡ text_in old ++ row_text (writer_setup old) row) → Writes old (row ∷ []) new
Writes-row old new row writing setup fields wrote bytes =
    let plain : (writer_setup old).style ≢ style.NonNumeric = rw writing.setup (λ e. cc e) in
    record {
      writing = record { setup = setup ∙ writing.setup; fields = fields; wrote = wrote };
      text =
          bytes writing.fields writing.wrote plain ∙ ap (λ cfg. text_in old ++ row_text cfg row) writing.setup
          ∙ ap (λ t. text_in old ++ t) (sym (append-nil (row_text default_writer row)));
    }

-- behind no records, nothing else was written
pub all-written : (before after : Writer (Vec ℕ)) (records : List (List (List ℕ))) → text_in before ≡ [] → Writes before records after → text_in after ≡ records_text records
all-written before after records empty wrote = wrote.text ∙ ap (λ t. t ++ records_text records) empty

-- and one record alone, by what it is
pub one-written : (before after : Writer (Vec ℕ)) (row fields : List (List ℕ)) → text_in before ≡ [] → row ≡ fields → Writes before (row ∷ []) after → text_in after ≡ records_text (fields ∷ [])
one-written before after row fields empty is wrote = all-written before after (row ∷ []) empty wrote ∙ ap (λ r. records_text (r ∷ [])) is

-- the header and the records of the facts were written
pub file-written : (schema : SchemaValue) (facts : List Fact) (first second third : Writer (Vec ℕ)) (row : List (List ℕ)) → text_in first ≡ [] → row ≡ header_of schema → Writes first (row ∷ []) second
    → Writes second (map (record_of schema) facts) third → text_in third ≡ file_text schema facts
unfolding file_text
file-written schema facts first second third row empty is header records =
    records.text
    ∙ ap (λ t. t ++ records_text (map (record_of schema) facts)) (one-written first second row (header_of schema) empty is header ∙ append-nil (row_text default_writer (header_of schema)))

-- nothing more is written
pub Writes-none : (out : Writer (Vec ℕ)) → IsWriting out → Writes out [] out
Writes-none out writing = record { writing = writing; text = sym (append-nil (text_in out)) }

pub was-ok : {A E : Type 0} (r : Result A E) (P : Type 0) → is_ok r ≡ true → OnOk r P → P
was-ok (Ok x) P ok has = has
was-ok (Err e) P ok has = cc ok
