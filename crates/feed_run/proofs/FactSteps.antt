-- What a follower does from one fact of the base to the next.
use Rattle.std.proofs.Common.{◌≡◌, ℕ, List, [], ◌∷◌, ◌++◌, Option, Some, None, Result, Ok, Err, refl, sym, ◌∙◌}
use Rattle.cube_base.specs.Outside.{SourceTold}
use Rattle.cube_base.specs.declared.code.Code.{Code}
use Rattle.cube_core.specs.Cube.{AreFactsOf}
use Rattle.cube_model.specs.declared.edit.Fact.{Fact}
use Rattle.fact_records.specs.Valid.{IsFactOf}
use Rattle.row_feed.specs.declared.feed_line.FeedLine.TheVariants as feed
use Rattle.schema_text.specs.Schema.{SchemaValue, shape_of}
use Rattle.feed_run.specs.declared.feed_stop.FeedStop.{FeedStop}
use Rattle.feed_run.specs.declared.feed_stop.FeedStop.TheVariants.{Bad}
use Rattle.feed_run.specs.declared.part_stop.PartStop.{PartStop}
use Rattle.feed_run.specs.declared.part_stop.PartStop.TheVariants.{Feed, Input}
use Rattle.feed_run.specs.BaseTurn.{GivesBase, JudgesBase}
use Rattle.feed_run.specs.Following.{Base, InBase, Moved, base_line_judged, base_refusal, in_base}
use Rattle.feed_run.specs.FollowTurn.{FeedPull, FollowedBefore, FollowedTo, StopsPart, judged}
use Rattle.feed_run.proofs.BaseFacts.{valid-push}
use Rattle.feed_run.proofs.StepsAt.{step-base}
use Rattle.feed_run.proofs.Turns.{moves-to, stops-by}

-- what is judged of a line that does the same
pub judges-same : (next other : Option Base → Result Moved FeedStop) (schema : SchemaValue) (facts : List Fact) (number : ℕ) (result : Result (Option Fact) PartStop) → ((base : Option Base) → next base ≡ other base)
    → JudgesBase other schema facts number result → JudgesBase next schema facts number result
judges-same next other schema facts number (Ok (Some fact)) same told = record { moves = λ base. same base ∙ told.moves base; valid = told.valid }
judges-same next other schema facts number (Ok None) same told = λ base. same base ∙ told base
judges-same next other schema facts number (Err (Feed why)) same told = λ base. same base ∙ told base
judges-same next other schema facts number (Err (Input stop)) same told = told

-- a fact is accepted
pub judges-fact : (schema : SchemaValue) (facts : List Fact) (number : ℕ) (fact : Fact) → AreFactsOf schema facts → IsFactOf (shape_of schema) schema.dims fact → None ≡ base_refusal schema.dims facts fact
    → JudgesBase (λ base. base_line_judged base number schema facts (Ok (feed.Fact fact))) schema facts number (Ok (Some fact))
judges-fact schema facts number fact valid is none = record {
  moves = λ base. rw (sym none) refl;
  valid = valid-push schema facts fact valid is (sym none);
}

-- or refused
pub judges-refused : (schema : SchemaValue) (facts : List Fact) (number : ℕ) (fact : Fact) (refusal : Code) → Some refusal ≡ base_refusal schema.dims facts fact
    → JudgesBase (λ base. base_line_judged base number schema facts (Ok (feed.Fact fact))) schema facts number (Err (Feed (Bad number refusal)))
judges-refused schema facts number fact refusal is = λ base. rw (sym is) refl

-- what is judged of the line that was pulled last
module _ (base : Option Base) (start now : SourceTold) (feed_now : FeedPull) (schema : SchemaValue) (facts : List Fact) (before : FollowedBefore base start now feed_now (InBase schema facts) []) where
  pub facts-more : (fact : Fact) → JudgesBase (λ base. in_base base feed_now.count schema facts feed_now.line) schema facts feed_now.count (Ok (Some fact)) → FollowedTo base start now feed_now (InBase schema (facts ++ fact ∷ [])) []
  facts-more fact told = moves-to base start now feed_now (InBase schema facts) [] (InBase schema (facts ++ fact ∷ [])) before (step-base base feed_now.count schema facts feed_now.line ∙ told.moves base)

  pub facts-all : AreFactsOf schema facts → JudgesBase (λ base. in_base base feed_now.count schema facts feed_now.line) schema facts feed_now.count (Ok None) → GivesBase base start now feed_now schema facts
  facts-all valid told = record { valid = valid; followed = before; judged = told base }

  pub facts-stop : (stop : PartStop) → JudgesBase (λ base. in_base base feed_now.count schema facts feed_now.line) schema facts feed_now.count (Err stop) → StopsPart base start now feed_now [] 0 stop
  facts-stop (Feed why) told = stops-by base start now feed_now (InBase schema facts) [] (Feed why) before (step-base base feed_now.count schema facts feed_now.line ∙ told base)
  facts-stop (Input stop) told = stops-by base start now feed_now (InBase schema facts) [] (Input stop) before told
