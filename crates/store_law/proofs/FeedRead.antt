-- What is read of a line of a feed: a fact that its schema may have, or what a line of a script says.
use Rattle.std.proofs.Common.{◌≡◌, ℕ, ◌+◌, Bool, true, false, List, length, refl, sym, ap, ◌∙◌, subst, arith, Option, Some, None, Result, Ok, Err}
use Rattle.std.specs.Prelude.{◌==◌, IfOk, codes, drop, if◌then◌else◌, nat_le, ℤ, ⊤}
use Rattle.std.specs.Option.{option_map_or}
use Rattle.std.specs.Str.{bytes_eq}
use Rattle.std.proofs.lemmas.Bool.Decides.{nat_tests}
use Rattle.std.proofs.lemmas.List.{length-drop}
use Rattle.cube_base.specs.declared.code.Code.{Code}
use Rattle.cube_base.specs.declared.code.Code.TheVariants as code
use Rattle.cube_model.specs.declared.edit.Fact.{Fact}
use Rattle.text_lines.specs.LineText.{field_at, is_clean, is_long}
use Rattle.text_lines.specs.Text.{fields_of, number_in}
use Rattle.fact_records.specs.Accepted.{cols_refusal}
use Rattle.fact_records.specs.Fields.{cols_given, fact_given, fact_with, id_given, region_given, result_then}
use Rattle.fact_records.specs.Shape.{ShapeValue}
use Rattle.fact_records.specs.Valid.{IsFactOf}
use Rattle.fact_records.proofs.AcceptedValues.{cols_given-accepted}
use Rattle.schema_text.specs.Schema.{IsSchema, SchemaValue, shape_of}
use Rattle.script_text.specs.declared.line.Line.{Line}
use Rattle.script_text.specs.declared.word.ScriptWord.{ScriptWord}
use Rattle.script_text.specs.ScriptLine.{command_line}
use Rattle.script_text.specs.ScriptWord.{word_spelled}
use Rattle.row_feed.specs.declared.feed_line.FeedLine.{FeedLine}
use Rattle.row_feed.specs.declared.feed_line.FeedLine.TheVariants as feed
use Rattle.row_feed.specs.FeedLine.{MAX_NUMBER, based_given, batch_given, fact_line_given, feed_fields_given, feed_line_of, is_said_word, rest_given}
use Rattle.store_law.proofs.Filed.{given-placed}

-- the values of a fact that fields give are accepted
given-values : (shape : ShapeValue) (id : Result ℕ Code) (region : Result (List ℕ) Code) (cols : Result (List ℤ) Code) (fact : Fact) → ((values : List ℤ) → cols ≡ Ok values → cols_refusal shape values ≡ None)
    → result_then (λ id. result_then (λ region. result_then (λ cols. Ok (fact_with id region cols)) cols) region) id ≡ Ok fact → cols_refusal shape fact.cols ≡ None
given-values shape (Err why) region cols fact accepted e = cc
given-values shape (Ok id) (Err why) cols fact accepted e = cc
given-values shape (Ok id) (Ok region) (Err why) fact accepted e = cc
given-values shape (Ok id) (Ok region) (Ok cols) fact accepted e =
    let same : fact.cols ≡ cols = cc in
    rw same (accepted cols refl)

-- the fields of a line say this
pub record IsSaid (schema : SchemaValue) (said : Line) : Type 0 where
  pub fields : List (List ℕ)
  pub spelled : Option ScriptWord
  pub is : command_line schema fields spelled ≡ Ok said

module _ (schema : SchemaValue) (known : IsSchema schema) where
  -- what may be read
  abbrev pub MayRead : FeedLine → Type 0
  MayRead (feed.Fact fact) = IsFactOf (shape_of schema) schema.dims fact
  MayRead feed.Based = ⊤
  MayRead (feed.Batch number said) = IfOk said (IsSaid schema)
  MayRead feed.Other = ⊤

  fields-fact : (fields : List (List ℕ)) (fact : Fact) → length fields ≡ 2 + length schema.dims + length schema.measures → fact_given schema.dims (shape_of schema) (drop 1 fields) ≡ Ok fact → IsFactOf (shape_of schema) schema.dims fact
  fields-fact fields fact count e =
      let left = drop (length schema.dims) (drop 1 (drop 1 fields)) in
      let many : length left ≡ length schema.measures =
      omega (arith, count, length-drop (length schema.dims) (drop 1 (drop 1 fields)), length-drop 1 (drop 1 fields), length-drop 1 fields) in
      record {
        placed = given-placed schema.dims (shape_of schema) (drop 1 fields) fact known.trees e;
        values = given-values (shape_of schema) (id_given (drop 1 fields)) (region_given schema.dims (drop 1 (drop 1 fields))) (cols_given (shape_of schema) left) fact
            (λ values given. cols_given-accepted (shape_of schema) left values known.shape.measures.order many (sym given)) e;
      }

  fact-read : (fields : List (List ℕ)) (read : FeedLine) → fact_line_given schema fields ≡ Ok read → MayRead read
  fact-read fields read e = by_count (length fields == 2 + length schema.dims + length schema.measures) refl e
    where
      by_given : (given : Result Fact Code) → fact_given schema.dims (shape_of schema) (drop 1 fields) ≡ given → length fields ≡ 2 + length schema.dims + length schema.measures
          → result_then (λ fact. Ok (feed.Fact fact)) given ≡ Ok read → MayRead read
      by_given (Err why) given count e = cc
      by_given (Ok fact) given count e =
          let same : feed.Fact fact ≡ read = cc in
          subst MayRead same (fields-fact fields fact count given)

      by_count : (b : Bool) → (length fields == 2 + length schema.dims + length schema.measures) ≡ b
          → (if b then result_then (λ fact. Ok (feed.Fact fact)) (fact_given schema.dims (shape_of schema) (drop 1 fields)) else Err code.Fields) ≡ Ok read → MayRead read
      by_count false is e = cc
      by_count true is e = by_given (fact_given schema.dims (shape_of schema) (drop 1 fields)) refl (grind (arith, nat_tests, is)) e

  based-read : (fields : List (List ℕ)) (read : FeedLine) → based_given fields ≡ Ok read → MayRead read
  based-read fields read e = either (length fields == 1) e
    where
      either : (b : Bool) → (if b then Ok feed.Based else Err code.Fields) ≡ Ok read → MayRead read
      either false e = cc
      either true e =
          let same : feed.Based ≡ read = cc in
          subst MayRead same tt

  rest-said : (fields : List (List ℕ)) → IfOk (rest_given schema fields) (IsSaid schema)
  rest-said fields = either (is_said_word (field_at fields 0))
    where
      by_line : (given : Result Line Code) → command_line schema fields (word_spelled (field_at fields 0)) ≡ given → IfOk given (IsSaid schema)
      by_line (Err why) is = tt
      by_line (Ok said) is = record { fields = fields; spelled = word_spelled (field_at fields 0); is = is }

      either : (b : Bool) → IfOk (if b then command_line schema fields (word_spelled (field_at fields 0)) else Err code.Command) (IsSaid schema)
      either false = tt
      either true = by_line (command_line schema fields (word_spelled (field_at fields 0))) refl

  batch-read : (fields : List (List ℕ)) (read : FeedLine) → batch_given schema fields ≡ Ok read → MayRead read
  batch-read fields read e = by_count (nat_le 3 (length fields)) e
    where
      by_number : (number : Option ℕ) → option_map_or (λ number. Ok (feed.Batch number (rest_given schema (drop 2 fields)))) number (Err code.Number) ≡ Ok read → MayRead read
      by_number None e = cc
      by_number (Some number) e =
          let same : feed.Batch number (rest_given schema (drop 2 fields)) ≡ read = cc in
          subst MayRead same (rest-said (drop 2 fields))

      by_count : (b : Bool) → (if b then option_map_or (λ number. Ok (feed.Batch number (rest_given schema (drop 2 fields)))) (number_in 0 MAX_NUMBER (field_at fields 1)) (Err code.Number) else Err code.Fields) ≡ Ok read → MayRead read
      by_count false e = cc
      by_count true e = by_number (number_in 0 MAX_NUMBER (field_at fields 1)) e

  fields-read : (fields : List (List ℕ)) (read : FeedLine) → feed_fields_given schema fields ≡ Ok read → MayRead read
  fields-read fields read e = either (bytes_eq (field_at fields 0) (codes "fact")) (bytes_eq (field_at fields 0) (codes "based")) (bytes_eq (field_at fields 0) (codes "batch")) e
    where
      either : (fact based batch : Bool)
          → (if fact then fact_line_given schema fields else (if based then based_given fields else (if batch then batch_given schema fields else Ok feed.Other))) ≡ Ok read → MayRead read
      either true based batch e = fact-read fields read e
      either false true batch e = based-read fields read e
      either false false true e = batch-read fields read e
      either false false false e =
          let same : feed.Other ≡ read = cc in
          subst MayRead same tt

  pub feed_line-read : (bytes : List ℕ) (read : FeedLine) → feed_line_of schema bytes ≡ Ok read → MayRead read
  unfolding feed_line_of
  feed_line-read bytes read e = either (is_long bytes) (is_clean bytes) e
    where
      either : (long clean : Bool) → (if long then Err code.Long else (if clean then feed_fields_given schema (fields_of bytes) else Err code.Text)) ≡ Ok read → MayRead read
      either true clean e = cc
      either false true e = fields-read (fields_of bytes) read e
      either false false e = cc
