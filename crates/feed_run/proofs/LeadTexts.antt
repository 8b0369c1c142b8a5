-- The texts of a leader: one for each line, more behind others, and those of lines by their fronts.
use Rattle.std.proofs.Common.{◌≡◌, ℕ, suc, ◌+◌, List, [], ◌∷◌, ◌++◌, length, map, Result, Ok, Err, refl, ap, ◌∙◌, arith, length-append}
use Rattle.cube_base.specs.declared.code.Code.{Code}
use Rattle.cube_model.specs.declared.edit.Fact.{Fact}
use Rattle.cube_model.specs.declared.statistic.CellStat.{CellStat}
use Rattle.text_lines.specs.Pieces.{front}
use Rattle.schema_text.specs.Schema.{SchemaValue}
use Rattle.script_text.specs.declared.line.Line.{Line}
use Rattle.script_text.specs.declared.line.Line.TheVariants as line
use Rattle.script_text.specs.ScriptLine.{line_of}
use Rattle.script_run.specs.Kept.{batches, batches_at}
use Rattle.script_run.specs.Run.{State, Step, run, schema_at, step}
use Rattle.script_run.proofs.FrontRuns.{batches_at-front, line_of-any_front, step-front}
use Rattle.feed_run.specs.Leading.{Leader, base_text, batches_by, feed_from, leader_outcome, text_at, text_from, texts_of}

-- lines behind others
pub feed_from-append : (weigh : CellStat → ℕ) (schema : SchemaValue) (state : State) (before : ℕ) (lines more : List (List ℕ))
    → feed_from weigh schema state before (lines ++ more) ≡ feed_from weigh schema state before lines ++ feed_from weigh schema (run weigh schema state lines).state (before + length (batches weigh schema state lines)) more
feed_from-append weigh schema state before [] more = ap (λ n. feed_from weigh schema state n more) (omega arith)
feed_from-append weigh schema state before (line ∷ lines) more =
    let now = (step weigh schema state line).state in
    let here = batches_at weigh schema state line in
    let later = batches weigh schema now lines in
    let count : before + length here + length later ≡ before + length (here ++ later) = omega (arith, length-append here later) in
    ap (λ l. text_at weigh schema state before line ∷ l)
    (feed_from-append weigh schema now (before + length here) lines more
    ∙ ap (λ n. feed_from weigh schema now (before + length here) lines ++ feed_from weigh schema (run weigh schema now lines).state n more) count)

-- each line has its text
length-feed_from : (weigh : CellStat → ℕ) (schema : SchemaValue) (state : State) (before : ℕ) (lines : List (List ℕ)) → length (feed_from weigh schema state before lines) ≡ length lines
length-feed_from weigh schema state before [] = refl
length-feed_from weigh schema state before (line ∷ lines) = ap suc (length-feed_from weigh schema (step weigh schema state line).state (before + length (batches_at weigh schema state line)) lines)

pub length-texts : (leader : Leader) (lines : List (List ℕ)) → length (texts_of leader lines) ≡ length lines + 1
length-texts leader lines = omega (arith, length-feed_from leader.weigh leader.schema leader.first 0 lines)

-- the texts of more lines begin with those of the first
pub texts-append : (leader : Leader) (lines more : List (List ℕ))
    → texts_of leader (lines ++ more) ≡ texts_of leader lines ++ feed_from leader.weigh leader.schema (leader_outcome leader lines).state (0 + length (batches_by leader lines)) more
texts-append leader lines more = ap (λ l. base_text leader.schema leader.first ∷ l) (feed_from-append leader.weigh leader.schema leader.first 0 lines more)

-- one line more
pub texts-push : (leader : Leader) (lines : List (List ℕ)) (line : List ℕ)
    → texts_of leader (lines ++ line ∷ []) ≡ texts_of leader lines ++ text_at leader.weigh leader.schema (leader_outcome leader lines).state (length (batches_by leader lines)) line ∷ []
texts-push leader lines line =
    let count : 0 + length (batches_by leader lines) ≡ length (batches_by leader lines) = omega arith in
    texts-append leader lines (line ∷ []) ∙ ap (λ n. texts_of leader lines ++ text_at leader.weigh leader.schema (leader_outcome leader lines).state n line ∷ []) count

-- a line is told as its front is
text_at-front : (weigh : CellStat → ℕ) (schema : SchemaValue) (state : State) (before : ℕ) (line : List ℕ) → text_at weigh schema state before (front line) ≡ text_at weigh schema state before line
unfolding text_at
text_at-front weigh schema state before line = ap (text_from weigh schema state before) (line_of-any_front (schema_at schema state) line)

feed_from-front : (weigh : CellStat → ℕ) (schema : SchemaValue) (state : State) (before : ℕ) (lines : List (List ℕ)) → feed_from weigh schema state before (map front lines) ≡ feed_from weigh schema state before lines
feed_from-front weigh schema state before [] = refl
feed_from-front weigh schema state before (line ∷ lines) =
    ap (λ text. text ∷ feed_from weigh schema (step weigh schema state (front line)).state (before + length (batches_at weigh schema state (front line))) (map front lines)) (text_at-front weigh schema state before line)
    ∙ ap (λ (now : Step). text_at weigh schema state before line ∷ feed_from weigh schema now.state (before + length (batches_at weigh schema state (front line))) (map front lines)) (step-front weigh schema state line)
    ∙ ap (λ committed. text_at weigh schema state before line ∷ feed_from weigh schema (step weigh schema state line).state (before + length committed) (map front lines)) (batches_at-front weigh schema state line)
    ∙ ap (λ l. text_at weigh schema state before line ∷ l) (feed_from-front weigh schema (step weigh schema state line).state (before + length (batches_at weigh schema state line)) lines)

pub texts-front : (leader : Leader) (lines : List (List ℕ)) → texts_of leader (map front lines) ≡ texts_of leader lines
texts-front leader lines = ap (λ l. base_text leader.schema leader.first ∷ l) (feed_from-front leader.weigh leader.schema leader.first 0 lines)

-- what is said of a line by how it is read
pub text-read : (weigh : CellStat → ℕ) (schema : SchemaValue) (state : State) (before : ℕ) (bytes : List ℕ) (read : Result Line Code) → line_of (schema_at schema state) bytes ≡ read → text_at weigh schema state before bytes ≡ text_from weigh schema state before read
unfolding text_at
text-read weigh schema state before bytes read is_read = ap (text_from weigh schema state before) is_read

-- a line is told at a schema with the dimensions of the state as at the schema
said-here : (weigh : CellStat → ℕ) (schema : SchemaValue) (state : State) (before : ℕ) (read : Result Line Code) → text_from weigh (schema_at schema state) state before read ≡ text_from weigh schema state before read
said-here weigh schema state before (Err refusal) = refl
said-here weigh schema state before (Ok line.Nothing) = refl
said-here weigh schema state before (Ok (line.Edit change)) = refl
said-here weigh schema state before (Ok (line.Grow grow)) = refl
said-here weigh schema state before (Ok (line.Ask asked)) = refl

pub text-here : (weigh : CellStat → ℕ) (schema here : SchemaValue) (facts : List Fact) (state : State) (before : ℕ) (bytes : List ℕ) → here ≡ schema_at schema state → facts ≡ state.facts
    → text_at weigh here (record { dims = here.dims; facts = facts }) before bytes ≡ text_at weigh schema state before bytes
unfolding text_at
text-here weigh schema here facts state before bytes is_here are_facts = rw (is_here, are_facts) (said-here weigh schema state before (line_of (schema_at schema state) bytes))
