-- How the run of a follower ends, by where it stops.
use Rattle.std.proofs.Common.{◌≡◌, ℕ, ◌+◌, ◌≤◌, true, false, List, [], ◌∷◌, ◌++◌, length, map, Option, Ok, Err, refl, sym, ap, ◌∙◌, subst, append-nil, inl, inr, arith, length-append}
use Rattle.cube_base.specs.Outside.{Rose, SourceTold}
use Rattle.fact_keeper.specs.declared.content.Batch.{Batch}
use Rattle.text_lines.specs.Text.{lines_of}
use Rattle.text_lines.specs.declared.input.InputStop.{InputStop}
use Rattle.text_lines.specs.declared.input.InputStop.TheVariants as input_stop
use Rattle.text_lines.specs.declared.piece_reader.LineInput.{LineInput}
use Rattle.text_lines.specs.Input.{EndsOnce}
use Rattle.text_lines.specs.Pieces.{ended_lines, front}
use Rattle.script_run.specs.declared.break_off.BreakOff.{BreakOff}
use Rattle.script_run.specs.declared.break_off.BreakOff.TheVariants as break_off
use Rattle.script_run.specs.declared.streaming.StreamStop.TheVariants.{Broke}
use Rattle.script_run.specs.Kept.{Commits}
use Rattle.script_run.specs.Seen.{Wrote}
use Rattle.script_run.specs.Written.{Broken}
use Rattle.feed_run.specs.declared.feed_stop.FeedStop.{FeedStop}
use Rattle.feed_run.specs.declared.follow.FollowStop.TheVariants as follow_stop
use Rattle.feed_run.specs.declared.part_stop.PartStop.{PartStop}
use Rattle.feed_run.specs.declared.part_stop.PartStop.TheVariants as part_stop
use Rattle.feed_run.specs.BatchTurn.{Ends}
use Rattle.feed_run.specs.FollowEnd.{Applied, AppliedBy, BreaksBehind, CutAtBatch, FollowBroke, FollowedTaken, StoppedBehind}
use Rattle.feed_run.specs.FollowTurn.{AllTold, AppliesAll, FeedPull, FollowedAs, FollowedBefore, FollowedTo, IsPulledAll, StopsPart, StopsThere, keeper_between, seen_between, sink_between, standing, stopped}
use Rattle.feed_run.specs.Following.{Base, Between, Followed, Place, Work, applied_at, applied_texts, cut_at, followed, or_else, parts_at, step_at}
use Rattle.feed_run.proofs.Turns.{came-before, next-is}
use Rattle.feed_run.specs.PartEnds.{at_part}
use Rattle.feed_run.specs.Pulling.{AreFirst, IsNearLine, Pulled, PulledAll}
use Rattle.feed_run.proofs.Pulls.{ends_once, pulled_first}

-- the keeper made it stop, or did not
no_keep : {A : Type 0} → false ≡ true → A
no_keep told = absurd (contrary told)
  where
    contrary : false ≡ true → ⊥
    contrary is = cc

no_fault : {A : Type 0} → true ≡ false → A
no_fault told = absurd (contrary told)
  where
    contrary : true ≡ false → ⊥
    contrary is = cc

-- the lines that were pulled came first
came-pulled : (start now : SourceTold) (input : LineInput) (lines : List (List ℕ)) (pulled : Pulled start now input lines) → AreFirst pulled.taken now.left lines
came-pulled start now input lines pulled = pulled_first start now input lines (length lines) pulled

-- and so did all
came-all : (start now : SourceTold) (lines : List (List ℕ)) (pulled : PulledAll start now lines) → AreFirst pulled.taken now.left lines
came-all start now lines pulled = record {
  lines = lines_of pulled.taken;
  lines_are = inr (pulled.end, refl);
  more = [];
  all = append-nil lines ∙ pulled.all;
}

once-pulled : (start now : SourceTold) (input : LineInput) (lines : List (List ℕ)) → Pulled start now input lines → EndsOnce start.ends now.ends
once-pulled start now input lines pulled = ends_once input.pieces.is_ended start.ends now.ends pulled.ends

few-pulled : (start now : SourceTold) (input : LineInput) (lines : List (List ℕ)) (pulled : Pulled start now input lines) → length pulled.taken ≤ 1073741824
few-pulled start now input lines pulled = omega (arith, pulled.room_left)

abbrev AppliedOver : AllTold → AllTold → List Batch → ℕ → Type 0
AppliedOver start now batches applied = Applied batches applied (sink_between start.sink now.sink) (keeper_between start.keeper now.keeper)

-- what is applied is what lines apply that do this
applied-by : (base : Option Base) (lines : List (List ℕ)) (start now : AllTold) (batches : List Batch) (applied : ℕ) (done : Followed) → followed base lines ≡ done → done.batches ≡ batches → applied_at done.place ≡ applied
    → AppliedOver start now batches applied → AppliedBy base lines (sink_between start.sink now.sink) (keeper_between start.keeper now.keeper)
applied-by base lines start now batches applied done is batches_are count told =
    let kept_batches : (followed base lines).batches ≡ batches = ap (λ (f : Followed). f.batches) is ∙ batches_are in
    let kept_count : applied_at (followed base lines).place ≡ applied = ap (λ (f : Followed). applied_at f.place) is ∙ count in
    rw (kept_batches, kept_count) told

-- so many batches are applied behind these lines
behind-stopped : (base : Option Base) (start now : AllTold) (place : Place) (batches : List Batch) (applied : ℕ) (lines : List (List ℕ)) → applied_at place ≡ applied → AppliedOver start now batches applied → now.sink.faults ≡ start.sink.faults
    → followed base lines ≡ standing place batches (length lines) → StoppedBehind base lines (seen_between start now) applied
behind-stopped base start now place batches applied lines count told write is = record {
  count = sym (ap (λ (f : Followed). applied_at f.place) is ∙ count);
  applied = applied-by base lines start now batches applied (standing place batches (length lines)) is refl count told;
  write = write;
}

module _ (base : Option Base) (start now : AllTold) (feed : FeedPull) (place : Place) (batches : List Batch) (applied : ℕ) (count : applied_at place ≡ applied) (applies : AppliesAll start now batches applied) where
  -- the feed is not what it must be
  refused-ends : (stop : FeedStop) → StopsThere base start.source now.source feed place batches (part_stop.Feed stop) → Ends {T = Unit {0}} base start now (Err (follow_stop.Feed stop))
  refused-ends stop there = elim there [
    | inl line ↦ record {
      ends = record {
        follows = (
          line.pulled.faults,
          record {
            taken = line.pulled.taken;
            bytes = line.pulled.bytes;
            few = few-pulled start.source now.source feed.input line.lines line.pulled;
            lines = line.lines;
            came = came-pulled start.source now.source feed.input line.lines line.pulled;
            why = inl (record { stops = ap (λ (f : Followed). f.stop) line.is; count = ap (λ (f : Followed). f.lines) line.is; near = line.pulled.near });
            applied = applied-by base line.lines start now batches applied (stopped place batches stop (length line.lines)) line.is refl count applies.told;
            write = applies.write;
          },
        );
        keep_failed = no_keep;
        keep = λ no. applies.keep;
      };
      once = once-pulled start.source now.source feed.input line.lines line.pulled;
    }
    | inr cut ↦ record {
      ends = record {
        follows = (
          cut.pulled.faults,
          record {
            taken = cut.pulled.taken;
            bytes = cut.pulled.bytes;
            few = cut.pulled.few;
            lines = cut.lines;
            came = came-all start.source now.source cut.lines cut.pulled;
            why = inr (record {
              end = cut.pulled.end;
              all = cut.pulled.all;
              goes_on = ap (λ (f : Followed). f.stop) cut.is;
              refused = ap (λ (f : Followed). or_else f.stop (cut_at (length cut.lines) f.place)) cut.is ∙ cut.cut;
            });
            applied = applied-by base cut.lines start now batches applied (standing place batches (length cut.lines)) cut.is refl count applies.told;
            write = applies.write;
          },
        );
        keep_failed = no_keep;
        keep = λ no. applies.keep;
      };
      once = cut.pulled.ends;
    }
  ]

  -- the lines that end in what was taken are followed
  taken-followed : (taken : List ℕ) (lines : List (List ℕ)) → lines ≡ map front (ended_lines taken) → followed base lines ≡ standing place batches (length lines) → FollowedTaken base taken (seen_between start now) applied
  taken-followed taken lines ended is =
      let here : followed base (map front (ended_lines taken)) ≡ standing place batches (length lines) = ap (followed base) (sym ended) ∙ is in
      record {
        goes_on = ap (λ (f : Followed). f.stop) here;
        count = sym (ap (λ (f : Followed). applied_at f.place) here ∙ count);
        applied = applied-by base (map front (ended_lines taken)) start now batches applied (standing place batches (length lines)) here refl count applies.told;
        write = applies.write;
      }

  -- no line more was pulled
  unpulled-ends : (stop : InputStop) → StopsThere base start.source now.source feed place batches (part_stop.Input stop) → Ends {T = Unit {0}} base start now (Err (at_part applied (part_stop.Input stop)))
  unpulled-ends input_stop.Fault there = record {
    ends = record {
      follows = (
        there.came.failed,
        record { taken = there.came.taken; bytes = there.came.bytes; few = there.came.few; followed = taken-followed there.came.taken there.lines there.came.ended there.is },
      );
      keep_failed = no_keep;
      keep = λ no. applies.keep;
    };
    once = there.came.ends;
  }
  unpulled-ends input_stop.TooLong there = record {
    ends = record {
      follows = (
        there.came.faults,
        record { taken = there.came.taken; byte = there.came.byte; bytes = there.came.bytes; all = there.came.all; followed = taken-followed there.came.taken there.lines there.came.ended there.is },
      );
      keep_failed = no_keep;
      keep = λ no. applies.keep;
    };
    once = there.came.ends;
  }
  unpulled-ends input_stop.Memory there = record {
    ends = record {
      follows = (
        there.came.faults,
        record {
          taken = there.came.taken;
          bytes = there.came.bytes;
          few = there.came.few;
          lines = there.lines;
          came = there.came.first;
          goes_on = ap (λ (f : Followed). f.stop) there.is;
          broke = behind-stopped base start now place batches applied there.lines count applies.told applies.write there.is;
        },
      );
      keep_failed = no_keep;
      keep = λ no. applies.keep;
    };
    once = there.came.ends;
  }

  -- it ran out of memory at the line that was pulled last
  pub memory-before : FollowedBefore base start.source now.source feed place batches → Ends {T = Unit {0}} base start now (Err (follow_stop.Stream (Broke (break_off.Memory applied))))
  memory-before before = record {
    ends = record {
      follows = (
        before.came.pulled.faults,
        record {
          taken = before.came.pulled.taken;
          bytes = before.came.pulled.bytes;
          few = few-pulled start.source now.source feed.input (before.lines ++ feed.line ∷ []) before.came.pulled;
          lines = before.lines;
          came = came-before before.came.pulled.taken now.source.left before.lines feed.line (came-pulled start.source now.source feed.input (before.lines ++ feed.line ∷ []) before.came.pulled);
          goes_on = ap (λ (f : Followed). f.stop) before.is;
          broke = behind-stopped base start now place batches applied before.lines count applies.told applies.write before.is;
        },
      );
      keep_failed = no_keep;
      keep = λ no. applies.keep;
    };
    once = once-pulled start.source now.source feed.input (before.lines ++ feed.line ∷ []) before.came.pulled;
  }

-- Where a part of a feed is not followed, and so many batches are applied, the run ends so.
pub part-ends : (base : Option Base) (start now : AllTold) (feed : FeedPull) (batches : List Batch) (applied : ℕ) (stop : PartStop) → StopsPart base start.source now.source feed batches applied stop → AppliesAll start now batches applied
    → Ends {T = Unit {0}} base start now (Err (at_part applied stop))
part-ends base start now feed batches applied (part_stop.Feed stop) part applies = refused-ends base start now feed part.place batches applied part.count applies stop part.there
part-ends base start now feed batches applied (part_stop.Input stop) part applies = unpulled-ends base start now feed part.place batches applied part.count applies stop part.there

-- The whole input is followed.
pub whole-ends : (base : Option Base) (start now : AllTold) (feed : FeedPull) (work : Work) (batches : List Batch) (applied : ℕ) → work.applied ≡ applied → FollowedAs (IsPulledAll start.source now.source feed) base (Between work) batches
    → AppliesAll start now batches applied → Ends {T = Unit {0}} base start now (Ok tt)
whole-ends base start now feed work batches applied count whole applies =
    let pulled = whole.came.pulled in
    let here : followed base (map front (lines_of pulled.taken)) ≡ standing (Between work) batches (length whole.lines) = ap (followed base) (sym pulled.all) ∙ whole.is in
    record {
      ends = record {
        follows = (
          pulled.faults,
          record {
            taken = pulled.taken;
            bytes = pulled.bytes;
            few = pulled.few;
            end = pulled.end;
            accepted = ap (λ (f : Followed). or_else f.stop (cut_at (length (map front (lines_of pulled.taken))) f.place)) here;
            applied = applied-by base (map front (lines_of pulled.taken)) start now batches applied (standing (Between work) batches (length whole.lines)) here refl count applies.told;
            write = applies.write;
          },
        );
        keep_failed = no_keep;
        keep = λ no. applies.keep;
      };
      once = pulled.ends;
    }

-- The keeper failed at the line that was pulled last, which does one part more and commits its batch.
pub keep-ends : (base : Option Base) (start now : AllTold) (feed : FeedPull) (place next : Place) (batches : List Batch) (batch : Batch) (applied : ℕ) → applied_at place ≡ applied
    → FollowedBefore base start.source now.source feed place batches → step_at base feed.count place feed.line ≡ Ok (record { place = next; batches = batch ∷ [] }) → parts_at next ≡ parts_at place + 1
    → Applied batches applied (sink_between start.sink now.sink) (keeper_between start.keeper now.keeper) → now.sink.faults ≡ start.sink.faults → Rose start.keeper.faults now.keeper.faults
    → Ends {T = Unit {0}} base start now (Err (follow_stop.Stream (Broke (break_off.Keep applied))))
keep-ends base start now feed place next batches batch applied count before moves parts told write rose =
    let pulled = before.came.pulled in
    let came = came-pulled start.source now.source feed.input (before.lines ++ feed.line ∷ []) pulled in
    let later = next-is base start.source now.source feed place batches (record { place = next; batches = batch ∷ [] }) before moves in
    record {
      ends = record {
        follows = (
          pulled.faults,
          record {
            taken = pulled.taken;
            bytes = pulled.bytes;
            few = few-pulled start.source now.source feed.input (before.lines ++ feed.line ∷ []) pulled;
            lines = before.lines;
            came = came-before pulled.taken now.source.left before.lines feed.line came;
            goes_on = ap (λ (f : Followed). f.stop) before.is;
            broke = (
              behind-stopped base start now place batches applied before.lines count told write before.is,
              record {
                line = feed.line;
                came = came;
                near = subst (IsNearLine pulled.taken) (length-append before.lines (feed.line ∷ [])) pulled.near;
                goes_on = ap (λ (f : Followed). f.stop) later;
                part = ap (λ (f : Followed). parts_at f.place) later ∙ parts ∙ sym (ap (λ (f : Followed). parts_at f.place + 1) before.is);
                batch = ap (λ (f : Followed). length f.batches) later ∙ length-append batches (batch ∷ []) ∙ sym (ap (λ (f : Followed). length f.batches + 1) before.is);
              },
            );
          },
        );
        keep_failed = λ is. rose;
        keep = no_fault;
      };
      once = once-pulled start.source now.source feed.input (before.lines ++ feed.line ∷ []) pulled;
    }

-- The line of the batch of a number is not whole, behind the lines that were pulled.
module _ (base : Option Base) (start now : AllTold) (feed : FeedPull) (place : Place) (batches : List Batch) (number : ℕ) (followed_to : FollowedTo base start.source now.source feed place batches) (parts : parts_at place ≡ number + 1)
    (wrote_part : Wrote start.sink.taken now.sink.taken (Broken (applied_texts number) (number + 1))) (kept : Commits batches (keeper_between start.keeper now.keeper).told (keeper_between start.keeper now.keeper).told_after) (keep : now.keeper.faults ≡ start.keeper.faults) where
  cut-at : CutAtBatch base followed_to.came.pulled.taken followed_to.lines (seen_between start now) number
  cut-at = record {
    parts = ap (λ (f : Followed). parts_at f.place) followed_to.is ∙ parts;
    wrote = wrote_part;
    kept = subst (λ bs. Commits bs (keeper_between start.keeper now.keeper).told (keeper_between start.keeper now.keeper).told_after) (sym (ap (λ (f : Followed). f.batches) followed_to.is)) kept;
    near = followed_to.came.pulled.near;
  }

  cut-broke : (off : BreakOff) → BreaksBehind base followed_to.came.pulled.taken followed_to.lines (seen_between start now) off → FollowBroke base (seen_between start now) off
  cut-broke off broke =
      let pulled = followed_to.came.pulled in
      record {
        taken = pulled.taken;
        bytes = pulled.bytes;
        few = few-pulled start.source now.source feed.input followed_to.lines pulled;
        lines = followed_to.lines;
        came = came-pulled start.source now.source feed.input followed_to.lines pulled;
        goes_on = ap (λ (f : Followed). f.stop) followed_to.is;
        broke = broke;
      }

  -- since a write failed
  pub write-ends : Rose start.sink.faults now.sink.faults → Ends {T = Unit {0}} base start now (Err (follow_stop.Stream (Broke (break_off.Write number))))
  write-ends rose = record {
    ends = record {
      follows = (followed_to.came.pulled.faults, cut-broke (break_off.Write number) (rose, cut-at));
      keep_failed = no_keep;
      keep = λ no. keep;
    };
    once = once-pulled start.source now.source feed.input followed_to.lines followed_to.came.pulled;
  }

  -- or since the sink wanted memory
  pub sink-ends : now.sink.faults ≡ start.sink.faults → Ends {T = Unit {0}} base start now (Err (follow_stop.Stream (Broke (break_off.SinkMemory number))))
  sink-ends none = record {
    ends = record {
      follows = (followed_to.came.pulled.faults, cut-broke (break_off.SinkMemory number) (none, cut-at));
      keep_failed = no_keep;
      keep = λ no. keep;
    };
    once = once-pulled start.source now.source feed.input followed_to.lines followed_to.came.pulled;
  }
