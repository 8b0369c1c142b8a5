-- What the following of a batch does.
use Rattle.std.specs.Prelude.{◌≡◌, ◌≢◌, ℕ, ◌+◌, List, [], ◌∷◌, ◌⊎◌, Option, Result, Ok, Err}
use Rattle.cube_base.specs.Outside.{SourceTold}
use Rattle.cube_core.specs.Cube.{CubeValue}
use Rattle.fact_keeper.specs.declared.content.Batch.{Batch}
use Rattle.text_lines.specs.Input.{EndsOnce}
use Rattle.row_feed.specs.FeedText.{AreRowsOf, behind_lines}
use Rattle.schema_text.specs.declared.word.PolicyWord.{PolicyWord}
use Rattle.feed_run.specs.declared.feed_stop.FeedStop.{FeedStop}
use Rattle.feed_run.specs.declared.follow.FollowStop.{FollowStop}
use Rattle.feed_run.specs.declared.part_stop.PartStop.{PartStop}
use Rattle.feed_run.specs.FollowEnd.{EndsFollow}
use Rattle.feed_run.specs.Following.{Base, Between, Moved, Within, Work, moved_to}
use Rattle.feed_run.specs.FollowTurn.{AllTold, AppliesAll, FeedPull, FollowedBefore, FollowedTo, IsCubeAt, seen_between}
use Rattle.feed_run.specs.HeadTurn.{StopsBy}

-- A batch was done on the cube, and its lines are to come.
pub record TakenBatch (work : Work) (next : Result Moved FeedStop) (cube : CubeValue PolicyWord) (batch : Batch) : Type 0 where
  pub later : Work
  pub moves : next ≡ moved_to (Within later batch (behind_lines later.state.dims batch))
  pub count : later.applied ≡ work.applied
  pub is_cube : IsCubeAt later cube
  pub rows : AreRowsOf cube.schema.dims batch.rows

-- What the taking of a batch does, whose first line says this.
abbrev pub TakesBatch : Work → Result Moved FeedStop → CubeValue PolicyWord → Result Batch PartStop → Type 0
TakesBatch work next cube (Ok batch) = TakenBatch work next cube batch
TakesBatch work next cube (Err stop) = StopsBy (λ why. next ≡ Err why) stop

-- Of the lines of a batch these are left: they are to be pulled, or the one before them was pulled last, and is the one that is expected.
abbrev pub AreLeft : Option Base → SourceTold → SourceTold → FeedPull → Work → Batch → List Batch → List (List ℕ) → Type 0
AreLeft base start now feed work batch batches left =
    ((left ≢ []) × FollowedTo base start now feed (Within work batch left) batches) ⊎ FollowedBefore base start now feed (Within work batch (feed.line ∷ left)) batches

-- A follower at work between two batches, of which so many are applied.
pub record AtWork (base : Option Base) (start now : AllTold) (feed : FeedPull) (cube : CubeValue PolicyWord) (applied : ℕ) : Type 0 where
  pub work : Work
  pub count : work.applied ≡ applied
  pub batches : List Batch
  pub followed : FollowedTo base start.source now.source feed (Between work) batches
  pub is_cube : IsCubeAt work cube
  pub applies : AppliesAll start now batches applied

-- the same where the first line of the next was pulled
pub record AtBatch (base : Option Base) (start now : AllTold) (feed : FeedPull) (cube : CubeValue PolicyWord) (applied : ℕ) : Type 0 where
  pub work : Work
  pub count : work.applied ≡ applied
  pub batches : List Batch
  pub followed : FollowedBefore base start.source now.source feed (Between work) batches
  pub is_cube : IsCubeAt work cube
  pub applies : AppliesAll start now batches applied

-- How a follower ends that began with an input of which nothing was taken: its source is not read after the end.
pub record Ends {T : Type 0} (base : Option Base) (start now : AllTold) (result : Result T FollowStop) : Type 0 where
  pub ends : EndsFollow base (seen_between start now) result
  pub once : EndsOnce start.source.ends now.source.ends

-- What the following of a batch does.
abbrev pub FollowsBatch : {T : Type 0} → Option Base → AllTold → AllTold → FeedPull → CubeValue PolicyWord → ℕ → Result T FollowStop → Type 0
FollowsBatch base start now feed cube applied (Ok _) = AtWork base start now feed cube (applied + 1)
FollowsBatch base start now feed cube applied (Err stop) = Ends {T = Unit {0}} base start now (Err stop)
