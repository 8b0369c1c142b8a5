-- What the steps of reading a line say is what the line says.
use Rattle.std.proofs.Common.{◌≡◌, ◌≢◌, ℕ, ◌<◌, true, false, List, ◌∷◌, length, take, refl, sym, ap, ◌∙◌, eq-eqb, Option, Some, Result, Ok, Err, IfOk, IfErr}
use Rattle.std.proofs.lemmas.Bool.{ne_eqb}
use Rattle.cube_base.specs.declared.code.Code.TheVariants as code
use Rattle.text_lines.specs.LineText.{LINE_FRONT, field_at, is_clean, is_long, is_skipped, without_cr}
use Rattle.text_lines.specs.Text.{fields_of}
use Rattle.text_lines.proofs.LineTexts.{IsAsItsFront-long}
use Rattle.cube_model.specs.declared.edit.Fact.{Fact}
use Rattle.fact_records.specs.Fields.{fact_given, result_then}
use Rattle.schema_text.specs.Schema.{SchemaValue, shape_of}
use Rattle.script_text.specs.declared.word.FactWord.{FactWord}
use Rattle.script_text.specs.declared.word.ScriptWord.TheVariants as script_word
use Rattle.cube_base.specs.declared.code.Code.{Code}
use Rattle.script_text.specs.declared.line.Line.{Line}
use Rattle.script_text.specs.declared.line.LineFault.{LineFault}
use Rattle.script_text.specs.declared.line.LineFault.TheVariants as fault
use Rattle.script_text.specs.LineOf.{IsLineFaultOf}
use Rattle.script_text.specs.LineSteps.{IsReadOf}
use Rattle.script_text.specs.declared.line.Line.TheVariants as line
use Rattle.script_text.specs.declared.word.ScriptWord.{ScriptWord}
use Rattle.script_text.specs.ScriptLine.{command_line, field_count_of, line_given, line_of}
use Rattle.script_text.specs.ScriptWord.{line_of_fact, word_spelled}

-- what is read says what is said, or a fault tells it
pub IsReadOf-ok : (said : Result Line Code) (result : Result Line LineFault) → IsReadOf said result → IfOk result (λ read. said ≡ Ok read)
IsReadOf-ok said (Ok read) is = is
IsReadOf-ok said (Err fault) is = tt

pub IsReadOf-err : (schema : SchemaValue) (bytes : List ℕ) (result : Result Line LineFault) → IsReadOf (line_of schema bytes) result → IfErr result (IsLineFaultOf schema bytes)
IsReadOf-err schema bytes (Ok read) is = tt
IsReadOf-err schema bytes (Err (fault.Code refusal)) is = is
IsReadOf-err schema bytes (Err fault.Memory) is = is

-- where the number of fields is right, those behind the command say what the line does
pub command_line-right : (schema : SchemaValue) (word : ScriptWord) (name : List ℕ) (fields : List (List ℕ)) → length (name ∷ fields) ≡ field_count_of schema word → command_line schema (name ∷ fields) (Some word) ≡ line_given schema word fields
command_line-right schema word name fields count = rw (eq-eqb (length (name ∷ fields)) (field_count_of schema word) count) refl

-- those behind the word of a fact say its line
pub line_given-fact : (schema : SchemaValue) (word : ScriptWord) (first : FactWord) (fields : List (List ℕ)) (given : Result Fact Code) → word ≡ script_word.OfFact first → given ≡ fact_given schema.dims (shape_of schema) fields
    → line_given schema word fields ≡ result_then (λ fact. Ok (line_of_fact first fact)) given
line_given-fact schema word first fields given is same =
    ap (λ word. line_given schema word fields) is ∙ ap (result_then (λ fact. Ok (line_of_fact first fact))) (sym same)

-- and where it is wrong, they say nothing
pub command_line-wrong : (schema : SchemaValue) (word : ScriptWord) (name : List ℕ) (fields : List (List ℕ)) → length (name ∷ fields) ≢ field_count_of schema word → command_line schema (name ∷ fields) (Some word) ≡ Err code.Fields
command_line-wrong schema word name fields count = rw (ne_eqb (length (name ∷ fields)) (field_count_of schema word) count) refl

-- what a line says, by the first of its conditions that holds

pub line_of-skipped : (schema : SchemaValue) (bytes : List ℕ) → true ≡ is_skipped bytes → line_of schema bytes ≡ Ok line.Nothing
unfolding line_of
line_of-skipped schema bytes skipped = rw (← skipped) refl

pub line_of-long : (schema : SchemaValue) (bytes : List ℕ) → false ≡ is_skipped bytes → true ≡ is_long bytes → line_of schema bytes ≡ Err code.Long
unfolding line_of
line_of-long schema bytes skipped long = rw (← skipped, ← long) refl

pub line_of-not_clean : (schema : SchemaValue) (bytes : List ℕ) → false ≡ is_skipped bytes → false ≡ is_long bytes → false ≡ is_clean (without_cr bytes) → line_of schema bytes ≡ Err code.Text
unfolding line_of
line_of-not_clean schema bytes skipped long clean = rw (← skipped, ← long, ← clean) refl

pub line_of-clean : (schema : SchemaValue) (bytes text : List ℕ) → false ≡ is_skipped bytes → false ≡ is_long bytes → true ≡ is_clean (without_cr bytes) → text ≡ without_cr bytes
    → command_line schema (fields_of text) (word_spelled (field_at (fields_of text) 0)) ≡ line_of schema bytes
unfolding line_of
line_of-clean schema bytes text skipped long clean same = rw (same, ← skipped, ← long, ← clean) refl

-- and by its first field and the others, where none of these holds
pub line_of-command : (schema : SchemaValue) (bytes text name : List ℕ) (fields : List (List ℕ)) (word : Option ScriptWord) → false ≡ is_skipped bytes → false ≡ is_long bytes → true ≡ is_clean (without_cr bytes)
    → text ≡ without_cr bytes → fields_of text ≡ name ∷ fields → word ≡ word_spelled name → line_of schema bytes ≡ command_line schema (name ∷ fields) word
line_of-command schema bytes text name fields word skipped long clean same cut spelled =
    sym (line_of-clean schema bytes text skipped long clean same)
    ∙ ap (λ all. command_line schema all (word_spelled (field_at all 0))) cut ∙ ap (command_line schema (name ∷ fields)) (sym spelled)

-- a line that is too long says what its first 4,097 bytes say
pub line_of-front : (schema : SchemaValue) (bytes : List ℕ) → LINE_FRONT < length bytes → line_of schema bytes ≡ line_of schema (take LINE_FRONT bytes)
unfolding line_of
line_of-front schema bytes more =
    let as_front = IsAsItsFront-long bytes more in
    rw (as_front.long, as_front.front_long, as_front.skipped) refl
