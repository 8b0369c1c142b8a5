-- What stands behind the number of a batch edits or grows, where it is read.
use Rattle.std.proofs.Common.{◌≡◌, ℕ, Bool, true, false, List, length, refl, sym, subst, Option, Some, None, Result, Ok, Err}
use Rattle.std.specs.Prelude.{◌==◌, ◌||◌, codes, drop, if◌then◌else◌, ⊤}
use Rattle.std.specs.Str.{bytes_eq}
use Rattle.std.proofs.lemmas.Slice.Eq.{bytes_eq-Decides}
use Rattle.cube_base.specs.declared.code.Code.{Code}
use Rattle.cube_base.specs.declared.code.Code.TheVariants as code
use Rattle.cube_model.specs.declared.edit.Edit.TheVariants as edit
use Rattle.cube_model.specs.declared.edit.Fact.{Fact}
use Rattle.text_lines.specs.LineText.{field_at}
use Rattle.fact_records.specs.Fields.{fact_given, id_given, result_then}
use Rattle.schema_text.specs.Schema.{SchemaValue, shape_of}
use Rattle.script_text.specs.declared.line.Line.{Line}
use Rattle.script_text.specs.declared.line.Line.TheVariants as line
use Rattle.script_text.specs.declared.word.FactWord.{FactWord}
use Rattle.script_text.specs.declared.word.FactWord.TheVariants.{Insert, Change}
use Rattle.script_text.specs.declared.word.ScriptWord.{ScriptWord}
use Rattle.script_text.specs.declared.word.ScriptWord.TheVariants as script_word
use Rattle.script_text.specs.ScriptLine.{command_line, dim_given, field_count_of, line_given, new_name_given, parent_given}
use Rattle.script_text.specs.ScriptWord.{line_of_fact, word_spelled}
use Rattle.row_feed.specs.FeedLine.{IsChangeLine, is_said_word, rest_given}

-- a word of an edit or a growth
abbrev IsSaidWord : Option ScriptWord → Type 0
IsSaidWord None = ⊥
IsSaidWord (Some (script_word.OfFact word)) = ⊤
IsSaidWord (Some script_word.Withdraw) = ⊤
IsSaidWord (Some script_word.Grow) = ⊤
IsSaidWord (Some (script_word.Asks word)) = ⊥

spelled : (field : List ℕ) → is_said_word field ≡ true → IsSaidWord (word_spelled field)
spelled field said = first (bytes_eq field (codes "insert")) refl said
  where
    same : (word : List ℕ) → bytes_eq field word ≡ true → IsSaidWord (word_spelled word) → IsSaidWord (word_spelled field)
    same word is there = subst (λ w. IsSaidWord (word_spelled w)) (sym ((bytes_eq-Decides field word).0 is)) there

    fourth : (b : Bool) → bytes_eq field (codes "grow") ≡ b → b || false ≡ true → IsSaidWord (word_spelled field)
    fourth true is some = same (codes "grow") is tt
    fourth false is some = cc some

    third : (b : Bool) → bytes_eq field (codes "withdraw") ≡ b → b || (bytes_eq field (codes "grow") || false) ≡ true → IsSaidWord (word_spelled field)
    third true is some = same (codes "withdraw") is tt
    third false is some = fourth (bytes_eq field (codes "grow")) refl some

    second : (b : Bool) → bytes_eq field (codes "change") ≡ b → b || (bytes_eq field (codes "withdraw") || (bytes_eq field (codes "grow") || false)) ≡ true → IsSaidWord (word_spelled field)
    second true is some = same (codes "change") is tt
    second false is some = third (bytes_eq field (codes "withdraw")) refl some

    first : (b : Bool) → bytes_eq field (codes "insert") ≡ b → b || (bytes_eq field (codes "change") || (bytes_eq field (codes "withdraw") || (bytes_eq field (codes "grow") || false))) ≡ true → IsSaidWord (word_spelled field)
    first true is some = same (codes "insert") is tt
    first false is some = second (bytes_eq field (codes "change")) refl some

-- what the fields behind such a word say
of_fact : (word : FactWord) (fact : Result Fact Code) (said : Line) → result_then (λ fact. Ok (line_of_fact word fact)) fact ≡ Ok said → IsChangeLine said
of_fact word (Err why) said e = cc e
of_fact Insert (Ok fact) said e = let same : said ≡ line.Edit (edit.Put fact) = cc in rw same tt
of_fact Change (Ok fact) said e = let same : said ≡ line.Edit (edit.Change fact) = cc in rw same tt

of_withdrawal : (id : Result ℕ Code) (said : Line) → result_then (λ id. Ok (line.Edit (edit.Withdraw id))) id ≡ Ok said → IsChangeLine said
of_withdrawal (Err why) said e = cc e
of_withdrawal (Ok id) said e = let same : said ≡ line.Edit (edit.Withdraw id) = cc in rw same tt

of_leaf : (dim : ℕ) (parent : Result ℕ Code) (name : Result (List ℕ) Code) (said : Line)
    → result_then (λ parent. result_then (λ name. Ok (line.Grow (record { dim = dim; parent = parent; name = name }))) name) parent ≡ Ok said → IsChangeLine said
of_leaf dim (Err why) name said e = cc e
of_leaf dim (Ok parent) (Err why) said e = cc e
of_leaf dim (Ok parent) (Ok name) said e = let same : said ≡ line.Grow (record { dim = dim; parent = parent; name = name }) = cc in rw same tt

of_growth : (dim : Result ℕ Code) (parent : ℕ → Result ℕ Code) (name : ℕ → Result (List ℕ) Code) (said : Line)
    → result_then (λ dim. result_then (λ parent. result_then (λ name. Ok (line.Grow (record { dim = dim; parent = parent; name = name }))) (name dim)) (parent dim)) dim ≡ Ok said → IsChangeLine said
of_growth (Err why) parent name said e = cc e
of_growth (Ok dim) parent name said e = of_leaf dim (parent dim) (name dim) said e

of_word : (schema : SchemaValue) (word : ScriptWord) (fields : List (List ℕ)) (said : Line) → IsSaidWord (Some word) → line_given schema word fields ≡ Ok said → IsChangeLine said
of_word schema (script_word.OfFact word) fields said is e = of_fact word (fact_given schema.dims (shape_of schema) fields) said e
of_word schema script_word.Withdraw fields said is e = of_withdrawal (id_given fields) said e
of_word schema script_word.Grow fields said is e =
    of_growth (dim_given schema (field_at fields 0)) (λ dim. parent_given schema.dims dim (field_at fields 1)) (λ dim. new_name_given schema.dims dim (field_at fields 2)) said e
of_word schema (script_word.Asks word) fields said is e = absurd is

of_command : (schema : SchemaValue) (fields : List (List ℕ)) (word : Option ScriptWord) (said : Line) → IsSaidWord word → command_line schema fields word ≡ Ok said → IsChangeLine said
of_command schema fields None said is e = absurd is
of_command schema fields (Some word) said is e = either (length fields == field_count_of schema word) e
  where
    either : (b : Bool) → (if b then line_given schema word (drop 1 fields) else Err code.Fields) ≡ Ok said → IsChangeLine said
    either true e = of_word schema word (drop 1 fields) said is e
    either false e = cc e

pub rest_given-change : (schema : SchemaValue) (fields : List (List ℕ)) (said : Line) → is_said_word (field_at fields 0) ≡ true → rest_given schema fields ≡ Ok said → IsChangeLine said
rest_given-change schema fields said is given =
    let command : command_line schema fields (word_spelled (field_at fields 0)) ≡ Ok said = rw is at given in
    of_command schema fields (word_spelled (field_at fields 0)) said (spelled (field_at fields 0) is) command
