-- What is judged of the lines of a base.
use Rattle.std.specs.Prelude.{◌≡◌, ℕ, Bool, List, [], ◌∷◌, ◌++◌, ◌||◌, codes, Option, Some, None, Result, Ok, Err}
use Rattle.cube_base.specs.Outside.{SourceTold}
use Rattle.cube_core.specs.Cube.{AreFactsOf}
use Rattle.cube_model.specs.declared.edit.Fact.{Fact}
use Rattle.schema_text.specs.Schema.{SchemaValue}
use Rattle.feed_run.specs.declared.feed_stop.FeedStop.{FeedStop}
use Rattle.feed_run.specs.declared.part_stop.PartStop.{PartStop}
use Rattle.feed_run.specs.Following.{Base, InBase, Moved, based_judged, has_word, in_base, moved_to}
use Rattle.feed_run.specs.FollowTurn.{FeedPull, FollowedBefore}
use Rattle.feed_run.specs.HeadTurn.{StopsBy}

-- the first field of a line is a word of the base
abbrev pub is_base_word : List ℕ → Bool
is_base_word line = has_word (codes "fact") line || has_word (codes "based") line

-- a fact is told after others, of which a cube may have all
pub record AddsFact (next : Option Base → Result Moved FeedStop) (schema : SchemaValue) (facts : List Fact) (fact : Fact) : Type 0 where
  pub moves : (base : Option Base) → next base ≡ moved_to (InBase schema (facts ++ fact ∷ []))
  pub valid : AreFactsOf schema (facts ++ fact ∷ [])

-- What the judging of a line of the base says after some facts, which does this: a fact more; that these are all; or
-- why it is refused.
abbrev pub JudgesBase : (Option Base → Result Moved FeedStop) → SchemaValue → List Fact → ℕ → Result (Option Fact) PartStop → Type 0
JudgesBase next schema facts number (Ok (Some fact)) = AddsFact next schema facts fact
JudgesBase next schema facts number (Ok None) = (base : Option Base) → next base ≡ based_judged base number schema facts
JudgesBase next schema facts number (Err stop) = StopsBy (λ why. (base : Option Base) → next base ≡ Err why) stop

-- All facts of the base were pulled, and after them the line that says so.
pub record GivesBase (base : Option Base) (start now : SourceTold) (feed : FeedPull) (schema : SchemaValue) (facts : List Fact) : Type 0 where
  pub valid : AreFactsOf schema facts
  pub followed : FollowedBefore base start now feed (InBase schema facts) []
  pub judged : in_base base feed.count schema facts feed.line ≡ based_judged base feed.count schema facts
