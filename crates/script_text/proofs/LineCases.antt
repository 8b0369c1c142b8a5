-- What a line is read as, by cases.
use Rattle.std.proofs.Common.{◌≡◌, ℕ, Bool, true, false, List, length, refl, sym, ap, ◌∙◌, subst, Option, Some, None, Result, Ok, Err}
use Rattle.std.specs.Prelude.{◌==◌, drop, if◌then◌else◌}
use Rattle.cube_base.specs.declared.code.Code.{Code}
use Rattle.cube_base.specs.declared.code.Code.TheVariants as code
use Rattle.cube_model.specs.declared.edit.Edit.TheVariants as edit
use Rattle.cube_model.specs.declared.edit.Fact.{Fact}
use Rattle.cube_model.specs.declared.tree.Grow.{Grow}
use Rattle.text_lines.specs.Text.{fields_of}
use Rattle.text_lines.specs.LineText.{field_at, is_clean, is_long, is_skipped, without_cr}
use Rattle.fact_records.specs.Fields.{fact_given, id_given, result_then}
use Rattle.schema_text.specs.Schema.{SchemaValue, shape_of}
use Rattle.script_text.specs.declared.line.Line.{Line}
use Rattle.script_text.specs.declared.line.Line.TheVariants as line
use Rattle.script_text.specs.declared.line.Question.{Question}
use Rattle.script_text.specs.declared.word.FactWord.{FactWord}
use Rattle.script_text.specs.declared.word.ScriptWord.{ScriptWord}
use Rattle.script_text.specs.declared.word.ScriptWord.TheVariants as script_word
use Rattle.script_text.specs.ScriptLine.{command_line, dim_given, field_count_of, growth_given, line_given, line_of, new_name_given, parent_given, question_given}
use Rattle.script_text.specs.ScriptWord.{line_of_fact, word_spelled}

-- this holds of each line that may be read: of what says nothing, of an edit by its fact or its id, of a growth, and of any question
pub record HoldsOfEach (schema : SchemaValue) (P : Line → Type 0) : Type 0 where
  pub nothing : P line.Nothing
  pub fact : (word : FactWord) (fields : List (List ℕ)) (fact : Fact) → fact_given schema.dims (shape_of schema) fields ≡ Ok fact → P (line_of_fact word fact)
  pub withdrawal : (fields : List (List ℕ)) (id : ℕ) → id_given fields ≡ Ok id → P (line.Edit (edit.Withdraw id))
  pub growth : (fields : List (List ℕ)) (grow : Grow) → growth_given schema fields ≡ Ok (line.Grow grow) → P (line.Grow grow)
  pub question : (asked : Question) → P (line.Ask asked)

module _ (schema : SchemaValue) (P : Line → Type 0) (each : HoldsOfEach schema P) where
  of_fact : (word : FactWord) (fact : Result Fact Code) (said : Line) → ((f : Fact) → fact ≡ Ok f → P (line_of_fact word f)) → result_then (λ fact. Ok (line_of_fact word fact)) fact ≡ Ok said → P said
  of_fact word (Err why) said holds e = cc
  of_fact word (Ok fact) said holds e =
      let same : line_of_fact word fact ≡ said = cc in
      subst P same (holds fact refl)

  of_withdrawal : (id : Result ℕ Code) (said : Line) → ((n : ℕ) → id ≡ Ok n → P (line.Edit (edit.Withdraw n))) → result_then (λ id. Ok (line.Edit (edit.Withdraw id))) id ≡ Ok said → P said
  of_withdrawal (Err why) said holds e = cc
  of_withdrawal (Ok id) said holds e =
      let same : line.Edit (edit.Withdraw id) ≡ said = cc in
      subst P same (holds id refl)

  of_question : (asked : Result Question Code) (said : Line) → result_then (λ asked. Ok (line.Ask asked)) asked ≡ Ok said → P said
  of_question (Err why) said e = cc
  of_question (Ok asked) said e =
      let same : line.Ask asked ≡ said = cc in
      subst P same (each.question asked)

  -- what is read of a growth is one
  of_growth : (dim : Result ℕ Code) (parent : ℕ → Result ℕ Code) (name : ℕ → Result (List ℕ) Code) (said : Line) → ((grow : Grow) → said ≡ line.Grow grow → P said)
      → result_then (λ dim. result_then (λ parent. result_then (λ name. Ok (line.Grow (record { dim = dim; parent = parent; name = name }))) (name dim)) (parent dim)) dim ≡ Ok said → P said
  of_growth (Err why) parent name said holds e = cc
  of_growth (Ok dim) parent name said holds e = of_leaf (parent dim) (name dim) e
    where
      of_leaf : (parent : Result ℕ Code) (name : Result (List ℕ) Code)
          → result_then (λ parent. result_then (λ name. Ok (line.Grow (record { dim = dim; parent = parent; name = name }))) name) parent ≡ Ok said → P said
      of_leaf (Err why) name e = cc
      of_leaf (Ok parent) (Err why) e = cc
      of_leaf (Ok parent) (Ok name) e =
          let same : said ≡ line.Grow (record { dim = dim; parent = parent; name = name }) = cc in
          holds (record { dim = dim; parent = parent; name = name }) same

  line_given-holds : (said_word : ScriptWord) (fields : List (List ℕ)) (said : Line) → line_given schema said_word fields ≡ Ok said → P said
  line_given-holds (script_word.OfFact name) fields said e = of_fact name (fact_given schema.dims (shape_of schema) fields) said (λ fact is. each.fact name fields fact is) e
  line_given-holds script_word.Withdraw fields said e = of_withdrawal (id_given fields) said (λ id is. each.withdrawal fields id is) e
  line_given-holds script_word.Grow fields said e =
      of_growth (dim_given schema (field_at fields 0)) (λ dim. parent_given schema.dims dim (field_at fields 1)) (λ dim. new_name_given schema.dims dim (field_at fields 2)) said
      (λ grow same. subst P (sym same) (each.growth fields grow (e ∙ ap Ok same))) e
  line_given-holds (script_word.Asks name) fields said e = of_question (question_given schema name fields) said e

  -- it holds of what fields say
  pub command_line-holds : (fields : List (List ℕ)) (spelled : Option ScriptWord) (said : Line) → command_line schema fields spelled ≡ Ok said → P said
  command_line-holds fields None said e = cc
  command_line-holds fields (Some name) said e = either (length fields == field_count_of schema name) e
    where
      either : (b : Bool) → (if b then line_given schema name (drop 1 fields) else Err code.Fields) ≡ Ok said → P said
      either true e = line_given-holds name (drop 1 fields) said e
      either false e = cc

  -- it holds of what is read of any line
  pub line_of-holds : (bytes : List ℕ) (said : Line) → line_of schema bytes ≡ Ok said → P said
  unfolding line_of
  line_of-holds bytes said e = judged (is_skipped bytes) (is_long bytes) (is_clean (without_cr bytes)) e
    where
      fields : List (List ℕ)
      fields = fields_of (without_cr bytes)

      judged : (skipped long clean : Bool)
          → (if skipped then Ok line.Nothing else (if long then Err code.Long else (if clean then command_line schema fields (word_spelled (field_at fields 0)) else Err code.Text))) ≡ Ok said → P said
      judged true long clean e =
          let same : line.Nothing ≡ said = cc in
          subst P same each.nothing
      judged false true clean e = cc
      judged false false true e = command_line-holds fields (word_spelled (field_at fields 0)) said e
      judged false false false e = cc
