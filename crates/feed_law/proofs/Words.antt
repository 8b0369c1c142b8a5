-- What a line of a feed is that says a fact, that the base ends, or a batch: it is neither too long nor no text, and its word is the one.
use Rattle.std.proofs.Common.{◌≡◌, ℕ, Bool, true, false, List, ◌∷◌, length, refl, Option, Some, None, Result, Ok, Err}
use Rattle.std.specs.Prelude.{codes, drop, nat_le, ◌+◌, ◌==◌, ◌||◌, if◌then◌else◌}
use Rattle.std.specs.Fmt.{decimal}
use Rattle.std.specs.List.{list_all}
use Rattle.std.specs.Option.{option_map_or}
use Rattle.std.specs.Str.{bytes_eq, is_utf8}
use Rattle.std.proofs.lemmas.Bool.{and_parts}
use Rattle.cube_base.specs.Name.{is_name_byte}
use Rattle.cube_base.specs.declared.code.Code.{Code}
use Rattle.cube_base.specs.declared.code.Code.TheVariants as code
use Rattle.cube_model.specs.declared.edit.Fact.{Fact}
use Rattle.fact_records.specs.Fields.{fact_given, result_then}
use Rattle.schema_text.specs.Schema.{SchemaValue, shape_of}
use Rattle.schema_text.proofs.WrittenLines.{none-where}
use Rattle.script_text.specs.declared.line.Line.{Line}
use Rattle.text_lines.specs.LineText.{field_at, is_clean, is_long}
use Rattle.text_lines.specs.Text.{fields_of, number_in}
use Rattle.row_feed.specs.declared.feed_line.FeedLine.{FeedLine}
use Rattle.row_feed.specs.declared.feed_line.FeedLine.TheVariants as feed
use Rattle.row_feed.specs.FeedText.{fields_line}
use Rattle.row_feed.specs.PlainText.{IsPlainText}
use Rattle.row_feed.specs.FeedLine.{MAX_NUMBER, based_given, batch_given, fact_line_given, feed_line_of, rest_given}

-- a line of a word
pub record IsOfWord (word line : List ℕ) : Type 0 where
  pub long : is_long line ≡ false
  pub clean : is_clean line ≡ true
  pub named : bytes_eq (field_at (fields_of line) 0) word ≡ true

-- a line of one word says nothing of another
not-fact : (number : ℕ) (said : Result Line Code) (right : Bool) (given : Result Fact Code) → (if right then result_then (λ fact. Ok (feed.Fact fact)) given else Err code.Fields) ≡ Ok (feed.Batch number said) → ⊥
not-fact number said true (Ok fact) e = cc
not-fact number said true (Err refusal) e = cc
not-fact number said false given e = cc

not-based : (fact : Fact) (right : Bool) → (if right then Ok feed.Based else Err code.Fields) ≡ Ok (feed.Fact fact) → ⊥
not-based fact true e = cc
not-based fact false e = cc

based-not_batch : (number : ℕ) (said : Result Line Code) (right : Bool) → (if right then Ok feed.Based else Err code.Fields) ≡ Ok (feed.Batch number said) → ⊥
based-not_batch number said true e = cc
based-not_batch number said false e = cc

not-batch : (fact : Fact) (rest : Result Line Code) (many : Bool) (number : Option ℕ)
    → (if many then option_map_or (λ n. Ok (feed.Batch n rest)) number (Err code.Number) else Err code.Fields) ≡ Ok (feed.Fact fact) → ⊥
not-batch fact rest true (Some number) e = cc
not-batch fact rest true None e = cc
not-batch fact rest false number e = cc

module _ (schema : SchemaValue) (line : List ℕ) where
  -- what a line says, by the tests of it
  abbrev told : Bool → Bool → Bool → Bool → Bool → Result FeedLine Code
  told long clean fact based batch =
      if long then Err code.Long
      else (if clean then (if fact then fact_line_given schema (fields_of line)
      else (if based then based_given (fields_of line) else (if batch then batch_given schema (fields_of line) else Ok feed.Other))) else Err code.Text)

  abbrev is : List ℕ → Bool
  is word = bytes_eq (field_at (fields_of line) 0) word

  pub fact-word : (fact : Fact) → feed_line_of schema line ≡ Ok (feed.Fact fact) → IsOfWord (codes "fact") line
  unfolding feed_line_of
  fact-word fact e = judged (is_long line) (is_clean line) (is (codes "fact")) (is (codes "based")) (is (codes "batch")) refl refl refl e
    where
      judged : (long clean of_fact based batch : Bool) → is_long line ≡ long → is_clean line ≡ clean → is (codes "fact") ≡ of_fact → told long clean of_fact based batch ≡ Ok (feed.Fact fact) → IsOfWord (codes "fact") line
      judged true clean of_fact based batch long_is clean_is fact_is e = cc
      judged false false of_fact based batch long_is clean_is fact_is e = cc
      judged false true true based batch long_is clean_is fact_is e = record { long = long_is; clean = clean_is; named = fact_is }
      judged false true false true batch long_is clean_is fact_is e = absurd (not-based fact (length (fields_of line) == 1) e)
      judged false true false false true long_is clean_is fact_is e =
          absurd (not-batch fact (rest_given schema (drop 2 (fields_of line))) (nat_le 3 (length (fields_of line))) (number_in 0 MAX_NUMBER (field_at (fields_of line) 1)) e)
      judged false true false false false long_is clean_is fact_is e = cc

  pub batch-word : (number : ℕ) (said : Result Line Code) → feed_line_of schema line ≡ Ok (feed.Batch number said) → IsOfWord (codes "batch") line
  unfolding feed_line_of
  batch-word number said e = judged (is_long line) (is_clean line) (is (codes "fact")) (is (codes "based")) (is (codes "batch")) refl refl refl e
    where
      judged : (long clean fact based of_batch : Bool) → is_long line ≡ long → is_clean line ≡ clean → is (codes "batch") ≡ of_batch → told long clean fact based of_batch ≡ Ok (feed.Batch number said) → IsOfWord (codes "batch") line
      judged true clean fact based of_batch long_is clean_is batch_is e = cc
      judged false false fact based of_batch long_is clean_is batch_is e = cc
      judged false true true based of_batch long_is clean_is batch_is e =
          absurd (not-fact number said (length (fields_of line) == 2 + length schema.dims + length schema.measures) (fact_given schema.dims (shape_of schema) (drop 1 (fields_of line))) e)
      judged false true false true of_batch long_is clean_is batch_is e = absurd (based-not_batch number said (length (fields_of line) == 1) e)
      judged false true false false true long_is clean_is batch_is e = record { long = long_is; clean = clean_is; named = batch_is }
      judged false true false false false long_is clean_is batch_is e = cc

-- a line that says a batch is plain
pub plain-batch : (schema : SchemaValue) (number : ℕ) (fields : List (List ℕ)) (said : Result Line Code) → feed_line_of schema (fields_line (codes "batch") (decimal number ∷ fields)) ≡ Ok (feed.Batch number said)
    → IsPlainText (fields_line (codes "batch") (decimal number ∷ fields))
plain-batch schema number fields said read =
    let line = fields_line (codes "batch") (decimal number ∷ fields) in
    let word = batch-word schema line number said read in
    let bytes = (and_parts (is_utf8 line) (list_all (λ b. b == 9 || is_name_byte b) line) word.clean).1 in
    record { clean = word.clean; short = word.long; stays = refl; lf = none-where (λ b. b == 9 || is_name_byte b) 10 line bytes refl }
