-- What a follower does from one batch to the next.
use Rattle.std.proofs.Common.{◌≡◌, ℕ, ◌+◌, List, [], ◌∷◌, ◌++◌, Option, Ok, Err, refl, sym, ap, ◌∙◌, subst, arith}
use Rattle.cube_base.specs.Outside.{Rose}
use Rattle.cube_core.specs.Cube.{CubeValue}
use Rattle.fact_keeper.specs.declared.content.Batch.{Batch}
use Rattle.text_lines.specs.declared.input.InputStop.{InputStop}
use Rattle.row_feed.specs.FeedText.{behind_lines}
use Rattle.schema_text.specs.declared.word.PolicyWord.{PolicyWord}
use Rattle.script_run.specs.declared.break_off.BreakOff.{BreakOff}
use Rattle.script_run.specs.declared.break_off.BreakOff.TheVariants as break_off
use Rattle.script_run.specs.declared.streaming.StreamStop.TheVariants.{Broke}
use Rattle.feed_run.specs.declared.follow.FollowStop.TheVariants as follow_stop
use Rattle.feed_run.specs.declared.part_stop.PartStop.{PartStop}
use Rattle.feed_run.specs.declared.part_stop.PartStop.TheVariants.{Feed, Input}
use Rattle.feed_run.specs.BatchTurn.{AtBatch, AtWork, Ends, TakenBatch}
use Rattle.feed_run.specs.Following.{Base, Between, Within, Work, between_batches, step_at}
use Rattle.feed_run.specs.FollowTurn.{AllTold, AppliesAll, FeedPull, FollowedAs, FollowedBefore, FollowedTo, IsPulledAll, StopsPart, StopsPulling, keeper_between, sink_between}
use Rattle.feed_run.specs.HeadTurn.{StopsBy}
use Rattle.feed_run.specs.Keeping.{AppliesBatch}
use Rattle.feed_run.specs.PartEnds.{at_part}
use Rattle.fact_fields.proofs.NodesAgain.{bytes_eq-same}
use Rattle.feed_run.proofs.Applying.{applied-still, applies-more, part-kept, part-wrote}
use Rattle.feed_run.proofs.FollowEnds.{keep-ends, memory-before, part-ends, sink-ends, whole-ends, write-ends}
use Rattle.feed_run.proofs.StepsAt.{step-between, step-within}
use Rattle.feed_run.proofs.Turns.{moves-on, moves-to, stops-at}

-- what is applied does not depend on the source
applies-read : (start was now : AllTold) (batches : List Batch) (applied : ℕ) → now.sink ≡ was.sink → now.keeper ≡ was.keeper → AppliesAll start was batches applied → AppliesAll start now batches applied
applies-read start was now batches applied sink keeper applies = record {
  told = rw (sink, keeper) applies.told;
  write = rw sink applies.write;
  keep = rw keeper applies.keep;
}

-- a follower between two batches ends with the input, or where no line more comes
pub work-whole : (base : Option Base) (start was now : AllTold) (feed after : FeedPull) (cube : CubeValue PolicyWord) (applied : ℕ) (at : AtWork base start was feed cube applied) → now.sink ≡ was.sink → now.keeper ≡ was.keeper
    → FollowedAs (IsPulledAll start.source now.source after) base (Between at.work) at.batches → Ends {T = Unit {0}} base start now (Ok tt)
work-whole base start was now feed after cube applied at sink keeper whole = whole-ends base start now after at.work at.batches applied at.count whole (applies-read start was now at.batches applied sink keeper at.applies)

pub work-unpulled : (base : Option Base) (start was now : AllTold) (feed after : FeedPull) (cube : CubeValue PolicyWord) (applied : ℕ) (at : AtWork base start was feed cube applied) → now.sink ≡ was.sink → now.keeper ≡ was.keeper
    → (stop : InputStop) → StopsPulling base start.source now.source (Between at.work) at.batches stop → Ends {T = Unit {0}} base start now (Err (at_part applied (Input stop)))
work-unpulled base start was now feed after cube applied at sink keeper stop there =
    part-ends base start now after at.batches applied (Input stop) (record { place = Between at.work; count = at.count; there = there }) (applies-read start was now at.batches applied sink keeper at.applies)

-- a line more is pulled
pub work-pulled : (base : Option Base) (start was now : AllTold) (feed after : FeedPull) (cube : CubeValue PolicyWord) (applied : ℕ) (at : AtWork base start was feed cube applied) → now.sink ≡ was.sink → now.keeper ≡ was.keeper
    → FollowedBefore base start.source now.source after (Between at.work) at.batches → AtBatch base start now after cube applied
work-pulled base start was now feed after cube applied at sink keeper before = record {
  work = at.work;
  count = at.count;
  batches = at.batches;
  followed = before;
  is_cube = at.is_cube;
  applies = applies-read start was now at.batches applied sink keeper at.applies;
}

module _ (base : Option Base) (start was : AllTold) (feed : FeedPull) (cube : CubeValue PolicyWord) (applied : ℕ) (at : AtBatch base start was feed cube applied) where
  -- its first line is refused
  pub take-stops : (stop : PartStop) → StopsBy (λ why. between_batches feed.count at.work feed.line ≡ Err why) stop → Ends {T = Unit {0}} base start was (Err (at_part applied stop))
  take-stops (Feed why) refused =
      part-ends base start was feed at.batches applied (Feed why)
      (subst (λ n. StopsPart base start.source was.source feed at.batches n (Feed why)) at.count (stops-at base start.source was.source feed (Between at.work) at.batches why at.followed (step-between base feed.count at.work feed.line ∙ refused)))
      at.applies
  take-stops (Input stop) is = rw is (memory-before base start was feed (Between at.work) at.batches applied at.count at.applies at.followed)

  -- or its lines are to come
  module _ (batch : Batch) (after : CubeValue PolicyWord) (taken : TakenBatch at.work (between_batches feed.count at.work feed.line) after batch) where
    pub lines-begin : FollowedTo base start.source was.source feed (Within taken.later batch (behind_lines after.schema.dims batch)) at.batches
    lines-begin =
        let dims : taken.later.state.dims ≡ after.schema.dims = sym (ap (λ s. s.dims) taken.is_cube.schema) in
        subst (λ ds. FollowedTo base start.source was.source feed (Within taken.later batch (behind_lines ds batch)) at.batches) dims
        (moves-to base start.source was.source feed (Between at.work) at.batches (Within taken.later batch (behind_lines taken.later.state.dims batch)) at.followed (step-between base feed.count at.work feed.line ∙ taken.moves))

    later-count : taken.later.applied ≡ applied
    later-count = taken.count ∙ at.count

    -- they are not those of the batch
    pub lines-stop : (read : AllTold) (later : FeedPull) (stop : PartStop) → read.sink ≡ was.sink → read.keeper ≡ was.keeper → StopsPart base start.source read.source later at.batches taken.later.applied stop
        → Ends {T = Unit {0}} base start read (Err (at_part applied stop))
    lines-stop read later stop sink keeper part =
        part-ends base start read later at.batches applied stop (subst (λ n. StopsPart base start.source read.source later at.batches n stop) later-count part) (applies-read start was read at.batches applied sink keeper at.applies)

    -- or the last of them was pulled
    module _ (read : AllTold) (later : FeedPull) (sink : read.sink ≡ was.sink) (keeper : read.keeper ≡ was.keeper) (last : FollowedBefore base start.source read.source later (Within taken.later batch (later.line ∷ [])) at.batches) where
      applies_then : AppliesAll start read at.batches applied
      applies_then = applies-read start was read at.batches applied sink keeper at.applies

      done_work : Work
      done_work = record taken.later { applied = taken.later.applied + 1 }

      last-moves : step_at base later.count (Within taken.later batch (later.line ∷ [])) later.line ≡ Ok (record { place = Between (record taken.later { applied = taken.later.applied + 1 }); batches = batch ∷ [] })
      last-moves = step-within base later.count taken.later batch (later.line ∷ []) later.line ∙ rw (bytes_eq-same later.line) refl

      last-followed : FollowedTo base start.source read.source later (Between (record taken.later { applied = taken.later.applied + 1 })) (at.batches ++ batch ∷ [])
      last-followed = moves-on base start.source read.source later (Within taken.later batch (later.line ∷ [])) at.batches (record { place = Between (record taken.later { applied = taken.later.applied + 1 }); batches = batch ∷ [] }) last last-moves

      -- the batch is applied
      pub applied-all : (now : AllTold) → now.source ≡ read.source → AppliesBatch {T = Unit {0}} batch applied (sink_between read.sink now.sink) (keeper_between read.keeper now.keeper) (Ok tt) → AtWork base start now later after (applied + 1)
      applied-all now source told = record {
        work = record taken.later { applied = taken.later.applied + 1 };
        count = ap (λ n. n + 1) later-count;
        batches = at.batches ++ batch ∷ [];
        followed = rw source last-followed;
        is_cube = record { policy = taken.is_cube.policy; schema = taken.is_cube.schema; facts = taken.is_cube.facts };
        applies = applies-more start read now at.batches applied applies_then batch told;
      }

      parts-then : (number : ℕ) → number ≡ applied + 1 → taken.later.applied + 1 + 1 ≡ number + 1
      parts-then number is = omega (arith, later-count, is)

      -- or it broke off
      pub applied-ends : (now : AllTold) (off : BreakOff) → now.source ≡ read.source → AppliesBatch {T = Unit {0}} batch applied (sink_between read.sink now.sink) (keeper_between read.keeper now.keeper) (Err off)
          → Ends {T = Unit {0}} base start now (Err (follow_stop.Stream (Broke off)))
      applied-ends now (break_off.Write number) source told =
          write-ends base start now later (Between (record taken.later { applied = taken.later.applied + 1 })) (at.batches ++ batch ∷ []) number (rw source last-followed) (parts-then number told.0.next)
          (part-wrote start read now at.batches applied applies_then batch number told.0) (part-kept start read now at.batches applied applies_then batch number told.0) (told.0.kept.keep ∙ applies_then.keep)
          (subst (λ n. Rose n now.sink.faults) applies_then.write told.1)
      applied-ends now (break_off.SinkMemory number) source told =
          sink-ends base start now later (Between (record taken.later { applied = taken.later.applied + 1 })) (at.batches ++ batch ∷ []) number (rw source last-followed) (parts-then number told.0.next)
          (part-wrote start read now at.batches applied applies_then batch number told.0) (part-kept start read now at.batches applied applies_then batch number told.0) (told.0.kept.keep ∙ applies_then.keep)
          (told.1 ∙ applies_then.write)
      applied-ends now (break_off.Memory done) source told =
          rw told.0
          (memory-before base start now later (Within taken.later batch (later.line ∷ [])) at.batches applied later-count
          (record { told = applied-still start read now at.batches applied applies_then.told told.1 told.2.told; write = told.1.write ∙ applies_then.write; keep = told.2.keep ∙ applies_then.keep }) (rw source last))
      applied-ends now (break_off.Keep done) source told =
          rw told.0
          (keep-ends base start now later (Within taken.later batch (later.line ∷ [])) (Between (record taken.later { applied = taken.later.applied + 1 })) at.batches batch applied later-count (rw source last) last-moves refl
          (applied-still start read now at.batches applied applies_then.told told.1 told.2.told) (told.1.write ∙ applies_then.write) (subst (λ n. Rose n now.keeper.faults) applies_then.keep told.2.failed))
