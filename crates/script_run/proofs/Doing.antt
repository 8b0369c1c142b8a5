-- What the steps of a script's run do to the lines that are done.
use Rattle.std.proofs.Common.{◌≡◌, ℕ, ◌+◌, List, [], ◌∷◌, ◌++◌, length, Option, Result, Ok, Err, refl, sym, ap, ◌∙◌, subst, append-nil, arith, length-append}
use Rattle.std.specs.Prelude.{Bool, OnOk}
use Rattle.std.specs.List.{concat}
use Rattle.std.specs.Io.KnownBytes.{Appends}
use Rattle.std.proofs.KnownBytes.{Appends-nil}
use Rattle.cube_base.specs.declared.code.Code.{Code}
use Rattle.cube_model.specs.declared.statistic.CellStat.{CellStat}
use Rattle.schema_text.specs.Schema.{SchemaValue}
use Rattle.script_text.specs.declared.line.Line.{Line}
use Rattle.script_text.specs.declared.reply.Reply.{Reply}
use Rattle.script_text.specs.ScriptLine.{line_of}
use Rattle.cube_core.specs.Cube.{CubeValue}
use Rattle.script_run.specs.declared.break_off.BreakOff.{BreakOff}
use Rattle.script_run.specs.Run.{State, Step, cube_at, refusals_in, run, schema_at, state_of, step, step_from, text_of}
use Rattle.script_run.specs.Progress.{BreaksOff, HasDone, HasGathered, Working}
use Rattle.script_run.specs.Seen.{SinkSeen}
use Rattle.script_run.proofs.Runs.{length-replies, refused-push, replies-push, state-push}
use Rattle.script_run.proofs.Steps.{step-here, step-read}
use Rattle.script_run.proofs.Writing.{breaks_off-more, gathered_none}

-- each line that is done has its reply
pub count_done : {P : Type 0} (weigh : CellStat → ℕ) (schema : SchemaValue) (first : State) (lines : List (List ℕ)) (start taken : Option (List ℕ)) (working : Working P) → HasDone weigh schema first lines start taken working
    → working.done ≡ length (run weigh schema first lines).replies
count_done weigh schema first lines start taken working done = done.done ∙ sym (length-replies weigh schema first lines)

-- what a line that was read does to a cube is what its bytes do behind the lines that are done
step_here : {P : Type 0} (weigh : CellStat → ℕ) (schema : SchemaValue) (first : State) (lines : List (List ℕ)) (line : List ℕ) (start taken : Option (List ℕ)) (working : Working P) (read : Result Line Code)
    → HasDone weigh schema first lines start taken working → line_of working.cube.schema line ≡ read
    → step_from weigh working.cube.schema (state_of working.cube) read ≡ step weigh schema (run weigh schema first lines).state line
step_here weigh schema first lines line start taken working read done is_read =
    sym (step-read weigh working.cube.schema (state_of working.cube) line read is_read)
    ∙ step-here weigh schema working.cube.schema working.cube.facts (run weigh schema first lines).state line done.schema_now done.facts

-- the replies to the lines and one more, which is done
pub replies_here : {P : Type 0} (weigh : CellStat → ℕ) (schema : SchemaValue) (first : State) (lines : List (List ℕ)) (line : List ℕ) (start taken : Option (List ℕ)) (working : Working P) (read : Result Line Code) (cube : CubeValue P) (said : Option Reply)
    → HasDone weigh schema first lines start taken working → line_of working.cube.schema line ≡ read → said ≡ (step_from weigh working.cube.schema (state_of working.cube) read).reply
    → cube ≡ cube_at working.cube (step_from weigh working.cube.schema (state_of working.cube) read).state
    → (run weigh schema first (lines ++ line ∷ [])).replies ≡ (run weigh schema first lines).replies ++ text_of cube.schema.dims said ∷ []
replies_here weigh schema first lines line start taken working read cube said done is_read is_said is_cube =
    let here = step_here weigh schema first lines line start taken working read done is_read in
    let text_here : text_of (step weigh schema (run weigh schema first lines).state line).state.dims (step weigh schema (run weigh schema first lines).state line).reply ≡ text_of cube.schema.dims said =
    rw (is_said, is_cube) (ap (λ (s : Step). text_of s.state.dims s.reply) (sym here)) in
    replies-push weigh schema first lines line ∙ ap (λ t. (run weigh schema first lines).replies ++ t ∷ []) text_here

-- one line more is done, and its reply gathered or sent
has_done-push : {P : Type 0} (weigh : CellStat → ℕ) (schema : SchemaValue) (first : State) (lines : List (List ℕ)) (line : List ℕ) (start taken taken_after : Option (List ℕ)) (old new : Working P) (read : Result Line Code) (said : Option Reply)
    → HasDone weigh schema first lines start taken old → line_of old.cube.schema line ≡ read → said ≡ (step_from weigh old.cube.schema (state_of old.cube) read).reply
    → new.cube ≡ cube_at old.cube (step_from weigh old.cube.schema (state_of old.cube) read).state → new.done ≡ old.done + 1 → new.refused ≡ old.refused + refusals_in said
    → HasGathered (run weigh schema first (lines ++ line ∷ [])).replies start taken_after new.gathered → HasDone weigh schema first (lines ++ line ∷ []) start taken_after new
has_done-push weigh schema first lines line start taken taken_after old new read said done is_read is_said cube one_more refused gathered =
    let here = step_here weigh schema first lines line start taken old read done is_read in
    let state_now = ap (λ (s : Step). s.state) here ∙ sym (state-push weigh schema first lines line) in
    record {
      schema_now = ap (λ c. c.schema) cube ∙ ap (λ s. schema_at s (step_from weigh old.cube.schema (state_of old.cube) read).state) done.schema_now ∙ ap (schema_at schema) state_now;
      facts = ap (λ c. c.facts) cube ∙ ap (λ (s : State). s.facts) state_now;
      done = one_more ∙ omega (arith, done.done, length-append lines (line ∷ []));
      refused = refused ∙ omega (arith, done.refused, ap refusals_in (is_said ∙ ap (λ (s : Step). s.reply) here), refused-push weigh schema first lines line);
      gathered = gathered;
    }

-- no line is done yet
pub none_done : {P : Type 0} (weigh : CellStat → ℕ) (start : Option (List ℕ)) (cube : CubeValue P) (keeps : Bool)
    → HasDone weigh cube.schema (state_of cube) [] start start (record { cube = cube; keeps = keeps; gathered = []; done = 0; refused = 0 })
none_done weigh start cube keeps = record {
  schema_now = refl;
  facts = refl;
  done = refl;
  refused = refl;
  gathered = gathered_none start (Appends-nil start);
}

-- a line is done on the cube, and answered behind the others
pub line_done : {P : Type 0} (weigh : CellStat → ℕ) (schema : SchemaValue) (first : State) (lines : List (List ℕ)) (line : List ℕ) (start taken taken_after : Option (List ℕ)) (old between new : Working P) (read : Result Line Code) (said : Option Reply)
    → HasDone weigh schema first lines start taken old → line_of old.cube.schema line ≡ read → said ≡ (step_from weigh old.cube.schema (state_of old.cube) read).reply
    → between ≡ record old { cube = cube_at old.cube (step_from weigh old.cube.schema (state_of old.cube) read).state }
    → HasGathered ((run weigh schema first lines).replies ++ text_of between.cube.schema.dims said ∷ []) start taken_after new.gathered
    → new ≡ record between { gathered = new.gathered; done = between.done + 1; refused = between.refused + refusals_in said }
    → HasDone weigh schema first (lines ++ line ∷ []) start taken_after new
line_done weigh schema first lines line start taken taken_after old between new read said done is_read is_said is_between gathered answered =
    let all = replies_here weigh schema first lines line start taken old read between.cube said done is_read is_said (ap (λ w. w.cube) is_between) in
    has_done-push weigh schema first lines line start taken taken_after old new read said done is_read is_said (ap (λ w. w.cube) answered ∙ ap (λ w. w.cube) is_between)
    (ap (λ w. w.done) answered ∙ ap (λ w. w.done + 1) is_between) (ap (λ w. w.refused) answered ∙ ap (λ w. w.refused + refusals_in said) is_between)
    (subst (λ replies. HasGathered replies start taken_after new.gathered) (sym all) gathered)

-- what breaks off among the replies to some lines does among those to one line more
pub breaks_off-before : (weigh : CellStat → ℕ) (schema : SchemaValue) (first : State) (lines : List (List ℕ)) (line : List ℕ) (sink : SinkSeen) (off : BreakOff)
    → BreaksOff (run weigh schema first lines).replies sink off → BreaksOff (run weigh schema first (lines ++ line ∷ [])).replies sink off
breaks_off-before weigh schema first lines line sink off here =
    rw (replies-push weigh schema first lines line) (breaks_off-more (run weigh schema first lines).replies _ sink off here)

-- the same where it breaks off with no later reply
pub breaks_off-no_later : (weigh : CellStat → ℕ) (schema : SchemaValue) (first : State) (lines : List (List ℕ)) (line : List ℕ) (sink : SinkSeen) (off : BreakOff)
    → BreaksOff ((run weigh schema first lines).replies ++ []) sink off → BreaksOff (run weigh schema first (lines ++ line ∷ [])).replies sink off
breaks_off-no_later weigh schema first lines line sink off here =
    breaks_off-before weigh schema first lines line sink off (subst (λ all. BreaksOff all sink off) (append-nil (run weigh schema first lines).replies) here)

-- the replies to the lines that are done are sent
pub has_done-sent : {P : Type 0} (weigh : CellStat → ℕ) (schema : SchemaValue) (first : State) (lines : List (List ℕ)) (start taken taken_after : Option (List ℕ)) (old new : Working P)
    → HasDone weigh schema first lines start taken old → new ≡ record old { gathered = [] } → Appends start taken_after (concat (run weigh schema first lines).replies) → HasDone weigh schema first lines start taken_after new
has_done-sent weigh schema first lines start taken taken_after old new done sent bytes =
    let replies = (run weigh schema first lines).replies in
    subst (HasDone weigh schema first lines start taken_after) (sym sent) (record {
      schema_now = done.schema_now;
      facts = done.facts;
      done = done.done;
      refused = done.refused;
      gathered = record { sent = replies; all = sym (append-nil replies); bytes = bytes };
    })

-- two facts of a call that went well
pub on_ok_both : {T E A B C : Type 0} (r : Result T E) → (A → B → C) → OnOk r A → OnOk r B → OnOk r C
on_ok_both (Ok x) both a b = both a b
on_ok_both (Err e) both a b = tt

-- a fact that holds however a call went
pub on_ok_too : {T E A : Type 0} (r : Result T E) → A → OnOk r A
on_ok_too (Ok x) a = a
on_ok_too (Err e) a = tt
