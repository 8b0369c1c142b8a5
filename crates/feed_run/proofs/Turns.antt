-- Where the lines that were pulled lead, once the last of them is judged.
use Rattle.std.proofs.Common.{◌≡◌, ℕ, ◌+◌, List, [], ◌∷◌, ◌++◌, length, Option, Some, Result, Ok, Err, refl, sym, ap, ◌∙◌, subst, append-nil, inl, inr, arith, length-append}
use Rattle.cube_base.specs.Outside.{SourceTold}
use Rattle.fact_keeper.specs.declared.content.Batch.{Batch}
use Rattle.text_lines.specs.Text.{lines_of}
use Rattle.std.specs.Prelude.{MatchResult}
use Rattle.text_lines.specs.declared.input.InputStop.{InputStop}
use Rattle.text_lines.specs.declared.input.InputStop.TheVariants as input_stop
use Rattle.feed_run.specs.declared.feed_stop.FeedStop.{FeedStop}
use Rattle.feed_run.specs.declared.part_stop.PartStop.{PartStop}
use Rattle.feed_run.specs.declared.part_stop.PartStop.TheVariants.{Feed, Input}
use Rattle.feed_run.specs.FollowTurn.{FeedPull, FollowedAs, FollowedBefore, FollowedTo, IsPulledAll, StopsPart, StopsPulling, judged, standing}
use Rattle.feed_run.specs.Following.{Base, Moved, Place, applied_at, cut_at, followed, moved_to, step_at}
use Rattle.feed_run.specs.HeadTurn.{StopsBy}
use Rattle.feed_run.specs.Pulling.{AreFirst, Pulled, PulledSome}
use Rattle.feed_run.proofs.Followed.{followed-on, followed-stop}
use Rattle.feed_run.proofs.Pulls.{ends_once, pulled_first}

-- those before the last came first too
pub came-before : (taken : List ℕ) (left : Option (List ℕ)) (lines : List (List ℕ)) (line : List ℕ) → AreFirst taken left (lines ++ line ∷ []) → AreFirst taken left lines
came-before taken left lines line came = record {
  lines = came.lines;
  lines_are = came.lines_are;
  more = line ∷ came.more;
  all = sym (append_cons lines) ∙ came.all;
}
  where
    append_cons : (xs : List (List ℕ)) → (xs ++ line ∷ []) ++ came.more ≡ xs ++ line ∷ came.more
    append_cons [] = refl
    append_cons (x ∷ xs) = ap (λ ys. x ∷ ys) (append_cons xs)

module _ (base : Option Base) (start now : SourceTold) (feed : FeedPull) (place : Place) (batches : List Batch) where
  -- so many lines were pulled before the last
  count-before : (before : FollowedBefore base start now feed place batches) → feed.count ≡ length before.lines + 1
  count-before before = before.came.count ∙ length-append before.lines (feed.line ∷ [])

  -- the last is accepted
  pub next-is : (moved : Moved) (before : FollowedBefore base start now feed place batches) → step_at base feed.count place feed.line ≡ Ok moved
      → followed base (before.lines ++ feed.line ∷ []) ≡ standing moved.place (batches ++ moved.batches) (length (before.lines ++ feed.line ∷ []))
  next-is moved before moves = followed-on base before.lines feed.line place batches before.is moved (ap (λ n. step_at base n place feed.line) (sym (count-before before)) ∙ moves)

  pub moves-on : (moved : Moved) → FollowedBefore base start now feed place batches → step_at base feed.count place feed.line ≡ Ok moved → FollowedTo base start now feed moved.place (batches ++ moved.batches)
  moves-on moved before moves = record {
    lines = before.lines ++ feed.line ∷ [];
    came = before.came;
    is = next-is moved before moves;
  }

  -- and commits nothing
  pub moves-to : (next : Place) → FollowedBefore base start now feed place batches → step_at base feed.count place feed.line ≡ moved_to next → FollowedTo base start now feed next batches
  moves-to next before moves = subst (FollowedTo base start now feed next) (append-nil batches) (moves-on (record { place = next; batches = [] }) before moves)

  -- or refused
  pub stops-at : (stop : FeedStop) → FollowedBefore base start now feed place batches → step_at base feed.count place feed.line ≡ Err stop → StopsPart base start now feed batches (applied_at place) (Feed stop)
  stops-at stop before stops = record {
    place = place;
    count = refl;
    there = inl (record {
      lines = before.lines ++ feed.line ∷ [];
      pulled = before.came.pulled;
      is = followed-stop base before.lines feed.line place batches before.is stop (ap (λ n. step_at base n place feed.line) (sym (count-before before)) ∙ stops);
    });
  }

  -- no line more was pulled
  pub unpulled-at : (stop : InputStop) → StopsPulling base start now place batches stop → StopsPart base start now feed batches (applied_at place) (Input stop)
  unpulled-at stop there = record { place = place; count = refl; there = there }

  -- the input ends where it may not
  pub cuts-at : (stop : FeedStop) → FollowedAs (IsPulledAll start now feed) base place batches → cut_at feed.count place ≡ Some stop → StopsPart base start now feed batches (applied_at place) (Feed stop)
  cuts-at stop whole cut = record {
    place = place;
    count = refl;
    there = inr (record { lines = whole.lines; pulled = whole.came.pulled; is = whole.is; cut = ap (λ n. cut_at n place) (sym whole.came.count) ∙ cut });
  }

  -- it ran out of memory behind all lines that were pulled, or before the last
  some-pulled : (lines : List (List ℕ)) → Pulled start now feed.input lines → PulledSome start now lines
  some-pulled lines pulled = record {
    taken = pulled.taken;
    bytes = pulled.bytes;
    few = omega (arith, pulled.room_left);
    first = pulled_first start now feed.input lines (length lines) pulled;
    faults = pulled.faults;
    ends = ends_once feed.input.pieces.is_ended start.ends now.ends pulled.ends;
  }

  pub lacks-behind : FollowedTo base start now feed place batches → StopsPart base start now feed batches (applied_at place) (Input input_stop.Memory)
  lacks-behind followed = record { place = place; count = refl; there = record { lines = followed.lines; came = some-pulled followed.lines followed.came.pulled; is = followed.is } }

  pub lacks-before : FollowedBefore base start now feed place batches → StopsPart base start now feed batches (applied_at place) (Input input_stop.Memory)
  lacks-before before =
      let all = some-pulled (before.lines ++ feed.line ∷ []) before.came.pulled in
      record {
        place = place;
        count = refl;
        there = record {
          lines = before.lines;
          came = record {
            taken = all.taken;
            bytes = all.bytes;
            few = all.few;
            first = came-before all.taken now.left before.lines feed.line all.first;
            faults = all.faults;
            ends = all.ends;
          };
          is = before.is;
        };
      }

  -- what is judged of the last line: it moves to a place, or stops
  pub judged-before : {T : Type 0} (next : T → Place) (result : Result T FeedStop) → FollowedBefore base start now feed place batches → step_at base feed.count place feed.line ≡ judged (λ v. moved_to (next v)) result
      → MatchResult result (λ v. FollowedTo base start now feed (next v) batches) (λ stop. StopsPart base start now feed batches (applied_at place) (Feed stop))
  judged-before next (Ok v) before is = moves-to (next v) before is
  judged-before next (Err stop) before is = stops-at stop before is

  pub stops-by : (stop : PartStop) → FollowedBefore base start now feed place batches → StopsBy (λ why. step_at base feed.count place feed.line ≡ Err why) stop → StopsPart base start now feed batches (applied_at place) stop
  stops-by (Feed why) before refused = stops-at why before refused
  stops-by (Input stop) before is = rw is (lacks-before before)

  -- or behind the whole input
  pub lacks-whole : FollowedAs (IsPulledAll start now feed) base place batches → StopsPart base start now feed batches (applied_at place) (Input input_stop.Memory)
  lacks-whole whole =
      let all = whole.came.pulled in
      record {
        place = place;
        count = refl;
        there = record {
          lines = whole.lines;
          came = record {
            taken = all.taken;
            bytes = all.bytes;
            few = all.few;
            first = record { lines = lines_of all.taken; lines_are = inr (all.end, refl); more = []; all = append-nil whole.lines ∙ all.all };
            faults = all.faults;
            ends = all.ends;
          };
          is = whole.is;
        };
      }
