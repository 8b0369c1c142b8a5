-- The id of an edit that is read is one that a fact may have.
use Rattle.std.proofs.Common.{◌≡◌, ℕ, ◌≤◌, Bool, true, false, List, length, refl, ap, subst, Option, Some, None, Result, Ok, Err}
use Rattle.std.specs.Prelude.{◌==◌, drop, if◌then◌else◌, is_none, ok_or, unwrap_or, ℤ}
use Rattle.cube_base.specs.declared.code.Code.{Code}
use Rattle.cube_base.specs.declared.code.Code.TheVariants as code
use Rattle.cube_model.specs.declared.edit.Edit.{Edit}
use Rattle.cube_model.specs.declared.edit.Edit.TheVariants as edit
use Rattle.cube_model.specs.declared.edit.Fact.{Fact}
use Rattle.cube_model.specs.Facts.{IsId}
use Rattle.cube_model.specs.Limits.{MAX_ID, MIN_ID}
use Rattle.cube_model.specs.Tree.{Dimension}
use Rattle.text_lines.specs.LineText.{field_at}
use Rattle.fact_groups.specs.Edits.{edited_id}
use Rattle.fact_records.specs.Fields.{cols_given, fact_given, fact_with, id_given, id_in, region_given, result_then}
use Rattle.fact_records.specs.Shape.{ShapeValue}
use Rattle.schema_text.specs.Schema.{SchemaValue, shape_of}
use Rattle.schema_text.proofs.NumbersRead.{number_in-range}
use Rattle.script_text.specs.declared.line.Line.{Line}
use Rattle.script_text.specs.declared.line.Line.TheVariants as line
use Rattle.script_text.specs.declared.word.FactWord.{FactWord}
use Rattle.script_text.specs.declared.word.FactWord.TheVariants.{Insert, Change}
use Rattle.script_text.specs.declared.word.ScriptWord.{ScriptWord}
use Rattle.script_text.specs.ScriptLine.{command_line, line_of}
use Rattle.script_text.specs.ScriptWord.{line_of_fact}
use Rattle.script_text.proofs.LineCases.{HoldsOfEach, command_line-holds, line_of-holds}

-- an id that a field spells
id_in-right : (field : List ℕ) (id : ℕ) → id_in field ≡ Some id → IsId id
id_in-right field id is =
    let range = number_in-range MIN_ID MAX_ID field (ap is_none is) in
    record { least = subst (λ (o : Option ℕ). MIN_ID ≤ unwrap_or o 0) is range.0; most = subst (λ (o : Option ℕ). unwrap_or o 0 ≤ MAX_ID) is range.1 }

id_given-right : (spelled : Option ℕ) (id : ℕ) → ((n : ℕ) → spelled ≡ Some n → IsId n) → ok_or spelled code.Id ≡ Ok id → IsId id
id_given-right None id right e = cc
id_given-right (Some n) id right e =
    let same : n ≡ id = cc in
    subst IsId same (right n refl)

id-right : (fields : List (List ℕ)) (n : ℕ) → id_given fields ≡ Ok n → IsId n
id-right fields n is = id_given-right (id_in (field_at fields 0)) n (λ m at. id_in-right (field_at fields 0) m at) is

fact-right : (id : Result ℕ Code) (region : Result (List ℕ) Code) (cols : Result (List ℤ) Code) (fact : Fact) → ((n : ℕ) → id ≡ Ok n → IsId n)
    → result_then (λ id. result_then (λ region. result_then (λ cols. Ok (fact_with id region cols)) cols) region) id ≡ Ok fact → IsId fact.id
fact-right (Err why) region cols fact right e = cc
fact-right (Ok id) (Err why) cols fact right e = cc
fact-right (Ok id) (Ok region) (Err why) fact right e = cc
fact-right (Ok id) (Ok region) (Ok cols) fact right e =
    let same : id ≡ fact.id = cc in
    subst IsId same (right id refl)

pub fact_given-id : (dims : List Dimension) (shape : ShapeValue) (fields : List (List ℕ)) (fact : Fact) → fact_given dims shape fields ≡ Ok fact → IsId fact.id
fact_given-id dims shape fields fact is =
    fact-right (id_given fields) (region_given dims (drop 1 fields)) (cols_given shape (drop (length dims) (drop 1 fields))) fact (λ n at. id-right fields n at) is

module _ (schema : SchemaValue) where
  -- it has such an id, or is no edit
  abbrev MayHaveId : Line → Type 0
  MayHaveId said = (change : Edit) → said ≡ line.Edit change → IsId (edited_id change)

  of_fact : (word : FactWord) (fact : Fact) → IsId fact.id → MayHaveId (line_of_fact word fact)
  of_fact Insert fact right change e =
      let same : edit.Put fact ≡ change = cc in
      subst (λ e. IsId (edited_id e)) same right
  of_fact Change fact right change e =
      let same : edit.Change fact ≡ change = cc in
      subst (λ e. IsId (edited_id e)) same right

  of_withdrawal : (id : ℕ) → IsId id → MayHaveId (line.Edit (edit.Withdraw id))
  of_withdrawal id right change e =
      let same : edit.Withdraw id ≡ change = cc in
      subst (λ e. IsId (edited_id e)) same right

  each_id : HoldsOfEach schema MayHaveId
  each_id = record {
    nothing = λ change e. cc;
    fact = λ word fields fact is. of_fact word fact (fact_given-id schema.dims (shape_of schema) fields fact is);
    withdrawal = λ fields id is. of_withdrawal id (id-right fields id is);
    growth = λ fields grow is change e. cc;
    question = λ asked change e. cc;
  }

  pub line_of-id : (change : Edit) (bytes : List ℕ) → line_of schema bytes ≡ Ok (line.Edit change) → IsId (edited_id change)
  line_of-id change bytes e = line_of-holds schema MayHaveId each_id bytes (line.Edit change) e change refl

  pub command_line-id : (change : Edit) (fields : List (List ℕ)) (spelled : Option ScriptWord) → command_line schema fields spelled ≡ Ok (line.Edit change) → IsId (edited_id change)
  command_line-id change fields spelled e = command_line-holds schema MayHaveId each_id fields spelled (line.Edit change) e change refl
