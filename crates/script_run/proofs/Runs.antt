-- A run line by line: its replies, and more lines behind some.
use Rattle.std.proofs.Common.{◌≡◌, ℕ, suc, ◌+◌, List, [], ◌∷◌, ◌++◌, length, refl, ap, arith}
use Rattle.cube_model.specs.declared.statistic.CellStat.{CellStat}
use Rattle.schema_text.specs.Schema.{SchemaValue}
use Rattle.script_run.specs.Run.{RunsInParts, State, refusals_in, run, step, text_of}

-- each line has its reply, which may be empty
pub length-replies : (weigh : CellStat → ℕ) (schema : SchemaValue) (first : State) (lines : List (List ℕ)) → length (run weigh schema first lines).replies ≡ length lines
length-replies weigh schema first [] = refl
length-replies weigh schema first (line ∷ lines) = ap suc (length-replies weigh schema (step weigh schema first line).state lines)

-- lines behind others
pub replies-append : (weigh : CellStat → ℕ) (schema : SchemaValue) (first : State) (lines more : List (List ℕ))
    → (run weigh schema first (lines ++ more)).replies ≡ (run weigh schema first lines).replies ++ (run weigh schema (run weigh schema first lines).state more).replies
replies-append weigh schema first [] more = refl
replies-append weigh schema first (line ∷ lines) more =
    let now = step weigh schema first line in
    ap (λ l. text_of now.state.dims now.reply ∷ l) (replies-append weigh schema now.state lines more)

pub state-append : (weigh : CellStat → ℕ) (schema : SchemaValue) (first : State) (lines more : List (List ℕ))
    → (run weigh schema first (lines ++ more)).state ≡ (run weigh schema (run weigh schema first lines).state more).state
state-append weigh schema first [] more = refl
state-append weigh schema first (line ∷ lines) more = state-append weigh schema (step weigh schema first line).state lines more

pub refused-append : (weigh : CellStat → ℕ) (schema : SchemaValue) (first : State) (lines more : List (List ℕ))
    → (run weigh schema first (lines ++ more)).refused ≡ (run weigh schema first lines).refused + (run weigh schema (run weigh schema first lines).state more).refused
refused-append weigh schema first [] more = omega arith
refused-append weigh schema first (line ∷ lines) more = omega (arith, refused-append weigh schema (step weigh schema first line).state lines more)

pub runs_in_parts : (weigh : CellStat → ℕ) (schema : SchemaValue) (first : State) (lines more : List (List ℕ)) → RunsInParts weigh schema first lines more
runs_in_parts weigh schema first lines more = record {
  replies = replies-append weigh schema first lines more;
  state = state-append weigh schema first lines more;
  refused = refused-append weigh schema first lines more;
}

-- one line more
pub replies-push : (weigh : CellStat → ℕ) (schema : SchemaValue) (first : State) (lines : List (List ℕ)) (line : List ℕ)
    → (run weigh schema first (lines ++ line ∷ [])).replies ≡ (run weigh schema first lines).replies
    ++ text_of (step weigh schema (run weigh schema first lines).state line).state.dims (step weigh schema (run weigh schema first lines).state line).reply ∷ []
replies-push weigh schema first lines line = replies-append weigh schema first lines (line ∷ [])

pub state-push : (weigh : CellStat → ℕ) (schema : SchemaValue) (first : State) (lines : List (List ℕ)) (line : List ℕ)
    → (run weigh schema first (lines ++ line ∷ [])).state ≡ (step weigh schema (run weigh schema first lines).state line).state
state-push weigh schema first lines line = state-append weigh schema first lines (line ∷ [])

pub refused-push : (weigh : CellStat → ℕ) (schema : SchemaValue) (first : State) (lines : List (List ℕ)) (line : List ℕ)
    → (run weigh schema first (lines ++ line ∷ [])).refused ≡ (run weigh schema first lines).refused + refusals_in (step weigh schema (run weigh schema first lines).state line).reply
refused-push weigh schema first lines line = omega (arith, refused-append weigh schema first lines (line ∷ []))
