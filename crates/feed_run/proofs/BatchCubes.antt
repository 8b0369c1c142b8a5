-- What a batch does on the cube of a follower is what it does to the state of the leader.
use Rattle.std.proofs.Common.{◌≡◌, ℕ, ◌+◌, Bool, true, false, arith, List, [], ◌∷◌, Option, Some, Result, Ok, Err, refl, sym, ap, ◌∙◌, subst}
use Rattle.std.specs.Prelude.{◌==◌, codes, IfOk}
use Rattle.std.proofs.lemmas.Bool.Decides.{nat_tests}
use Rattle.cube_base.specs.declared.code.Code.{Code}
use Rattle.cube_core.specs.Cube.{CubeValue}
use Rattle.cube_model.specs.declared.statistic.CellStat.{CellStat}
use Rattle.fact_keeper.specs.declared.content.Batch.{Batch}
use Rattle.row_feed.specs.FeedLine.{IsChangeOf, IsFeedFaultOf, IsFeedLineOf, feed_line_of}
use Rattle.row_feed.specs.FeedText.{AreRowsOf}
use Rattle.row_feed.specs.declared.feed_line.FeedLine.TheVariants as feed
use Rattle.row_feed.specs.declared.feed_line.FeedLine.{FeedLine}
use Rattle.schema_text.specs.Schema.{SchemaValue, weigh_of}
use Rattle.schema_text.specs.declared.word.PolicyWord.{PolicyWord}
use Rattle.script_run.specs.Kept.{batches_of}
use Rattle.script_run.specs.Run.{State, cube_at, schema_at, state_of, step_of}
use Rattle.script_text.specs.LineOf.{IsLineOf}
use Rattle.script_text.specs.declared.line.Line.{Line}
use Rattle.script_text.specs.declared.line.LineFault.{LineFault}
use Rattle.script_text.specs.declared.line.LineFault.TheVariants as fault
use Rattle.feed_run.specs.declared.part_stop.PartStop.{PartStop}
use Rattle.feed_run.specs.declared.part_stop.PartStop.TheVariants as part_stop
use Rattle.feed_run.specs.HeadTurn.{StopsBy}
use Rattle.script_text.specs.declared.line.Line.TheVariants as line
use Rattle.script_text.specs.declared.reply.Reply.{Reply}
use Rattle.feed_run.specs.declared.feed_stop.FeedStop.TheVariants as feed_stop
use Rattle.feed_run.specs.declared.feed_stop.FeedStop.TheVariants.{Bad}
use Rattle.feed_run.specs.BatchTurn.{TakenBatch}
use Rattle.feed_run.specs.Following.{Work, batch_judged, batch_line_judged, between_batches, has_word, refusal_in, said_judged, where_it_may}
use Rattle.feed_run.specs.FollowTurn.{IsCubeAt}
use Rattle.feed_run.proofs.LeadSteps.{tellable}

-- what is said does at a schema with the dimensions of the state what it does at the schema, and commits the same
said-step : (weigh : CellStat → ℕ) (schema : SchemaValue) (state : State) (said : Line) → step_of weigh (schema_at schema state) state said ≡ step_of weigh schema state said
said-step weigh schema state line.Nothing = refl
said-step weigh schema state (line.Edit change) = refl
said-step weigh schema state (line.Grow grow) = refl
said-step weigh schema state (line.Ask asked) = refl

said-batches : (weigh : CellStat → ℕ) (schema : SchemaValue) (state : State) (said : Line) → batches_of weigh (schema_at schema state) state said ≡ batches_of weigh schema state said
said-batches weigh schema state line.Nothing = refl
said-batches weigh schema state (line.Edit change) = refl
said-batches weigh schema state (line.Grow grow) = refl
said-batches weigh schema state (line.Ask asked) = refl

module _ (work : Work) (cube : CubeValue PolicyWord) (at : IsCubeAt work cube) where
  state_is : state_of cube ≡ work.state
  state_is = rw (at.schema, at.facts) refl

  step_is : (said : Line) → step_of (weigh_of cube.policy) cube.schema (state_of cube) said ≡ step_of (weigh_of work.schema.policy) work.schema work.state said
  step_is said =
      ap (λ p. step_of (weigh_of p) cube.schema (state_of cube) said) at.policy
      ∙ ap (λ s. step_of (weigh_of work.schema.policy) s (state_of cube) said) at.schema
      ∙ ap (λ s. step_of (weigh_of work.schema.policy) (schema_at work.schema work.state) s said) state_is
      ∙ said-step (weigh_of work.schema.policy) work.schema work.state said

  batches_are : (said : Line) → batches_of (weigh_of cube.policy) cube.schema (state_of cube) said ≡ batches_of (weigh_of work.schema.policy) work.schema work.state said
  batches_are said =
      ap (λ p. batches_of (weigh_of p) cube.schema (state_of cube) said) at.policy
      ∙ ap (λ s. batches_of (weigh_of work.schema.policy) s (state_of cube) said) at.schema
      ∙ ap (λ s. batches_of (weigh_of work.schema.policy) (schema_at work.schema work.state) s said) state_is
      ∙ said-batches (weigh_of work.schema.policy) work.schema work.state said

  cube_after : (state : State) → IsCubeAt (record work { state = state }) (cube_at cube state)
  cube_after state = record { policy = at.policy; schema = ap (λ s. schema_at s state) at.schema; facts = refl }

  module _ (number : ℕ) (said : Line) (is : IsLineOf cube.schema said) where
    judged_is : (found : List Batch) → found ≡ batches_of (weigh_of cube.policy) cube.schema (state_of cube) said → batch_judged number work (Ok said) ≡ said_judged number work (step_of (weigh_of cube.policy) cube.schema (state_of cube) said) found
    judged_is found are =
        ap (λ s. said_judged number work s (batches_of (weigh_of work.schema.policy) work.schema work.state said)) (sym (step_is said))
        ∙ ap (said_judged number work (step_of (weigh_of cube.policy) cube.schema (state_of cube) said)) (sym (batches_are said) ∙ sym are)

    -- it commits a batch
    pub batch-taken : (batch : Batch) (after : CubeValue PolicyWord) → batch ∷ [] ≡ batches_of (weigh_of cube.policy) cube.schema (state_of cube) said
        → after ≡ cube_at cube (step_of (weigh_of cube.policy) cube.schema (state_of cube) said).state → TakenBatch work (batch_judged number work (Ok said)) after batch
    batch-taken batch after are cube_is =
        let now = step_of (weigh_of cube.policy) cube.schema (state_of cube) said in
        let told = tellable (weigh_of cube.policy) cube.schema cube.facts (Ok said) (Some batch) is are in
        record {
          later = record work { state = now.state };
          moves = judged_is (batch ∷ []) are;
          count = refl;
          is_cube = subst (IsCubeAt (record work { state = now.state })) (sym cube_is) (cube_after now.state);
          rows = rw cube_is told.1;
        }

    -- or none
    pub batch-refused : (reply : Option Reply) → [] ≡ batches_of (weigh_of cube.policy) cube.schema (state_of cube) said → reply ≡ (step_of (weigh_of cube.policy) cube.schema (state_of cube) said).reply
        → batch_judged number work (Ok said) ≡ Err (Bad number (refusal_in reply))
    batch-refused reply none said_is = judged_is [] none ∙ ap (λ r. Err (Bad number (refusal_in r))) (sym said_is)

-- what the line of a batch says is a change of the cube
pub batch-says : (schema : SchemaValue) (number : ℕ) (said : Result Line Code) → IsFeedLineOf schema (feed.Batch number said) → IfOk said (IsChangeOf schema)
batch-says schema number (Ok said) is = is
batch-says schema number (Err refusal) is = tt

-- it is the next, or not
pub told-next : (work : Work) (number got applied : ℕ) (said : Result Line Code) → work.applied ≡ applied → got ≡ applied + 1 → batch_line_judged number work (Ok (feed.Batch got said)) ≡ batch_judged number work said
told-next work number got applied said count is = let next : (got == work.applied + 1) ≡ true = grind (arith, nat_tests, count, is) in rw next refl

pub told-other : (work : Work) (number got applied : ℕ) (said : Result Line Code) → work.applied ≡ applied → (got ≡ applied + 1 → ⊥) → batch_line_judged number work (Ok (feed.Batch got said)) ≡ Err (feed_stop.Order (applied + 1) got)
told-other work number got applied said count other =
    let next : (got == work.applied + 1) ≡ false = by_test (got == work.applied + 1) refl in
    rw next (ap (λ n. Err (feed_stop.Order (n + 1) got)) count)
  where
    by_test : (b : Bool) → (got == work.applied + 1) ≡ b → (got == work.applied + 1) ≡ false
    by_test true is = absurd (other (grind (arith, nat_tests, count, is)))
    by_test false is = is

-- the first line of a batch may stand there, and was read so
pub line-takes : (work : Work) (cube : CubeValue PolicyWord) → IsCubeAt work cube → (number : ℕ) (line : List ℕ) (read : Result FeedLine Code)
    → where_it_may number line (has_word (codes "batch") line) (batch_line_judged number work (feed_line_of (schema_at work.schema work.state) line)) ≡ batch_line_judged number work (feed_line_of (schema_at work.schema work.state) line)
    → feed_line_of cube.schema line ≡ read → between_batches number work line ≡ batch_line_judged number work read
line-takes work cube at number line read may is =
    may ∙ ap (λ s. batch_line_judged number work (feed_line_of s line)) (sym at.schema) ∙ ap (batch_line_judged number work) is

-- its rows are those of the cube behind it
pub batch-rows : (cube : CubeValue PolicyWord) (said : Line) → IsLineOf cube.schema said → (batch : Batch) (after : CubeValue PolicyWord) → batch ∷ [] ≡ batches_of (weigh_of cube.policy) cube.schema (state_of cube) said
    → after ≡ cube_at cube (step_of (weigh_of cube.policy) cube.schema (state_of cube) said).state → AreRowsOf after.schema.dims batch.rows
batch-rows cube said is batch after are cube_is = let told = tellable (weigh_of cube.policy) cube.schema cube.facts (Ok said) (Some batch) is are in rw cube_is told.1

pub line-refused : (work : Work) (cube : CubeValue PolicyWord) → IsCubeAt work cube → (number : ℕ) (line : List ℕ) (why : LineFault) → IsFeedFaultOf cube.schema line why
    → where_it_may number line (has_word (codes "batch") line) (batch_line_judged number work (feed_line_of (schema_at work.schema work.state) line)) ≡ batch_line_judged number work (feed_line_of (schema_at work.schema work.state) line)
    → (refusal : Code) → why ≡ fault.Code refusal → (stop : PartStop) → stop ≡ part_stop.Feed (Bad number refusal) → StopsBy (λ w. between_batches number work line ≡ Err w) stop
line-refused work cube at number line (fault.Code told) refused may refusal is stop stop_is =
    let same : told ≡ refusal = cc is in
    rw stop_is (line-takes work cube at number line (Err told) may refused ∙ ap (λ c. Err (Bad number c)) same)
line-refused work cube at number line fault.Memory refused may refusal is stop stop_is = cc is
