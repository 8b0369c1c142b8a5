-- What the ends of `follow` say, where a feed is followed as it comes.
use Rattle.std.proofs.Common.{◌≡◌, ℕ, ◌+◌, ◌-◌, ◌≤◌, true, false, List, [], ◌∷◌, ◌++◌, length, map, take, refl, sym, ap, ◌∙◌, subst, append-nil, append_assoc, inl, inr, arith, length-append, Option, Some, None, Result, Ok, Err}
use Rattle.std.specs.Prelude.{◌⊎◌, IfSome, drop, nat_le}
use Rattle.std.specs.List.{concat}
use Rattle.std.specs.Option.{option_map, option_map_or}
use Rattle.std.specs.Result.{result_ok}
use Rattle.std.specs.Io.KnownBytes.{Appends, Consumes, IsAtEnd}
use Rattle.std.proofs.lemmas.Bool.Decides.{nat_tests}
use Rattle.std.proofs.lemmas.List.{length-map, map-append, take_at}
use Rattle.fact_keeper.specs.declared.content.Batch.{Batch}
use Rattle.fact_keeper.specs.declared.content.Stored.{Stored}
use Rattle.fact_keeper.specs.Batch.{empty_content}
use Rattle.schema_text.specs.Schema.{SchemaValue}
use Rattle.schema_text.specs.SchemaText.{schema_of, schema_text}
use Rattle.store_audit.specs.Sound.{facts_told}
use Rattle.text_lines.specs.Text.{lines_of}
use Rattle.text_lines.specs.Input.{GoesOn, INPUT_LIMIT, TakesAtMost}
use Rattle.text_lines.specs.Pieces.{ended_lines, front, lf_count, line_end}
use Rattle.text_lines.specs.Reading.{PIECE_LIMIT}
use Rattle.text_lines.proofs.Ended.{ended_lines-length, line_end-behind, lines_of-ended}
use Rattle.script_run.specs.declared.break_off.BreakOff.{BreakOff}
use Rattle.script_run.specs.declared.break_off.BreakOff.TheVariants as break_off
use Rattle.script_run.specs.declared.streaming.StreamStop.{StreamStop}
use Rattle.script_run.specs.declared.streaming.StreamStop.TheVariants as stream_stop
use Rattle.script_run.specs.Kept.{Commits, is_keep}
use Rattle.script_run.specs.Seen.{KeepFailed, NoKeepFault, NoReadFault, SeenAll, Wrote}
use Rattle.script_run.specs.Written.{Answered, Broken, Gathered, Stopped}
use Rattle.script_run.proofs.Texts.{broken-more, stopped_gathered}
use Rattle.script_run.proofs.Writing.{answered-more, wrote, wrote-weaker}
use Rattle.feed_run.specs.declared.feed_stop.FeedStop.{FeedStop}
use Rattle.feed_run.specs.declared.feed_stop.FeedStop.TheVariants as feed_stop
use Rattle.feed_run.specs.declared.follow.FollowStop.{FollowStop}
use Rattle.feed_run.specs.declared.follow.FollowStop.TheVariants as follow_stop
use Rattle.feed_run.specs.Following.{AtStart, Base, Followed, Place, applied_at, applied_texts, cut_at, followed, kept_parts, or_else, parts_at, refusal_of}
use Rattle.feed_run.specs.FollowEnd.{AppliedBy, CutAtBatch, EndsFollow, FailedToKeep, FollowBroke, FollowFailed, FollowRefused, FollowedAll, FollowedTaken, FollowedTooMuch, FollowsTo, StoppedBehind, StopsAtEnd, StopsAtLast}
use Rattle.feed_run.specs.Pulling.{AreFirst as HaveCome}
use Rattle.cube_cli.specs.declared.command.Command.TheVariants.{Store}
use Rattle.cube_cli.specs.declared.command.StoreCommand.TheVariants.{Follow}
use Rattle.cube_cli.specs.declared.end.End.{End}
use Rattle.cube_cli.specs.declared.end.End.TheVariants.{BadFeed, Differs, Finished, KeepFault, Memory, Order, ReadFault, TooLong, WriteFault}
use Rattle.cube_cli.specs.declared.end.End.TheVariants as ends
use Rattle.cube_cli.specs.Doing.{LineWork, base_in, ends_of, feed_lines, feed_work, follow_work, lines_telling}
use Rattle.cube_cli.specs.End.{BrokeOff, DidLines, Faults, FitsAt, Leaves, MeansByLines, RefusedWithin, SaysOf, StoppedAtEdit, StoppedReading, Takes, WantedMemory}
use Rattle.cube_cli.specs.Kinds.{IsAmong}
use Rattle.cube_cli.specs.RunEnd.{end_of_break_off, end_of_feed, end_of_follow}
use Rattle.cube_cli.specs.SchemaAlone.{schema_alone}
use Rattle.cube_cli.specs.Seen.{Holds, NoFault, Took}
use Rattle.cube_cli.specs.Store.{IsEmptyOrSound}
use Rattle.cube_cli.proofs.Coming.{AreFirst, first-ended, first_lines, first_part, near_line, of_front}
use Rattle.cube_cli.proofs.FeedParts.{AreFrontOf, applied-parts, front-kept, front-lines, front-parts, going-lines, parts-among, stopped-more, texts-front, texts-joined}
use Rattle.cube_cli.proofs.Known.{of_given, of_input, told-weaker}

-- what a follower begins with, over a content whose schema is read, and over one in which there is nothing
pub base_in-schema : (content : Stored) (schema : SchemaValue) → schema_alone content.schema ≡ Ok schema → base_in content ≡ Some (record { text = schema_text schema; facts = facts_told content })
base_in-schema content schema is = ap (λ read. option_map (λ (schema : SchemaValue). record { text = schema_text schema; facts = facts_told content }) (result_ok read)) is

pub base_in-empty : base_in empty_content ≡ None
unfolding schema_of
base_in-empty = refl

-- the lines that ended in what was taken are the first of all
ended-first : (taken after : List ℕ) → AreFirst (map front (ended_lines taken)) (feed_lines (taken ++ after))
ended-first taken after =
    let first = first-ended taken after in
    record { later = map front first.later; all_are = ap (map front) first.all_are ∙ map-append front (ended_lines taken) first.later }

-- and so are those that came
came-first : (taken after : List ℕ) (left_after : Option (List ℕ)) (lines : List (List ℕ)) → (IsAtEnd left_after → after ≡ []) → HaveCome taken left_after lines → AreFirst lines (feed_lines (taken ++ after))
came-first taken after left_after lines at_end came = by came.lines_are
  where
    by : (came.lines ≡ ended_lines taken) ⊎ (IsAtEnd left_after × (came.lines ≡ lines_of taken)) → AreFirst lines (feed_lines (taken ++ after))
    by (inl ended) =
        let first = ended-first taken after in
        record { later = came.more ++ first.later; all_are = first.all_are ∙ ap (λ ls. ls ++ first.later) (ap (map front) (sym ended) ∙ sym came.all) ∙ append_assoc lines came.more first.later }
    by (inr whole) = record {
      later = came.more;
      all_are = ap (λ rest. feed_lines (taken ++ rest)) (at_end whole.0) ∙ ap feed_lines (append-nil taken) ∙ ap (map front) (sym whole.1) ∙ sym came.all;
    }

-- the first of them, by their number
take-first : (lines all : List (List ℕ)) (n : ℕ) → AreFirst lines all → n ≡ length lines → take n all ≡ lines
take-first lines all n first count = ap (take n) first.all_are ∙ take_at lines first.later n (sym count)

at_end-none : (left_after : Option (List ℕ)) (after : List ℕ) → left_after ≡ Some after → IsAtEnd left_after → after ≡ []
at_end-none left_after after is end = rw is at end

-- more lines of the input do not stop earlier than these
stop-in : (base : Option Base) (lines all : List (List ℕ)) (stop : FeedStop) → AreFirst lines all → (followed base lines).stop ≡ Some stop → followed base all ≡ followed base lines
stop-in base lines all stop first stops = ap (followed base) first.all_are ∙ stopped-more base 1 AtStart lines first.later stop stops

module _ (base : Option Base) (seen : SeenAll) where
  abbrev place_of : List (List ℕ) → Place
  place_of lines = (followed base lines).place

  abbrev Applies : List (List ℕ) → Type 0
  Applies lines = AppliedBy base lines seen.sink seen.keeper

  -- These lines are the first of an input's, and do not stop.
  module _ (input : List ℕ) (lines : List (List ℕ)) (first : AreFirst lines (feed_lines input)) (goes : (followed base lines).stop ≡ None) where
    kept : kept_parts base (feed_lines input) (parts_at (place_of lines)) ≡ (followed base lines).batches
    kept = ap (λ ls. kept_parts base ls (parts_at (place_of lines))) first.all_are ∙ front-kept base lines first.later goes

    few : parts_at (place_of lines) ≤ parts_at (place_of (feed_lines input))
    few = subst (λ ls. parts_at (place_of lines) ≤ parts_at (place_of ls)) (sym first.all_are) (front-parts base lines first.later goes)

    texts : AreFrontOf (applied_texts (applied_at (place_of lines))) (feed_work base input).texts
    texts = texts-front (applied_at (place_of lines)) (applied_at (place_of (feed_lines input))) (omega (arith, few, applied-parts (place_of lines), applied-parts (place_of (feed_lines input))))

    parts-done : (n : ℕ) → n ≡ length lines → parts_at (place_of lines) ≡ (feed_work base input).parts_at n
    parts-done n count = ap (λ ls. parts_at (place_of ls)) (sym (take-first lines (feed_lines input) n first count))

    answered : Appends seen.sink.taken seen.sink.taken_after (concat (applied_texts (applied_at (place_of lines)))) → Answered (feed_work base input).texts (parts_at (place_of lines)) seen.sink
    answered written =
        subst (λ all. Answered all (parts_at (place_of lines)) seen.sink) (sym texts.are)
        (answered-more (applied_texts (applied_at (place_of lines))) texts.more (parts_at (place_of lines)) seen.sink (record {
          among = parts-among (place_of lines);
          bytes = subst (Appends seen.sink.taken seen.sink.taken_after) (sym (texts-joined (place_of lines))) written;
        }))

    commits : Commits (followed base lines).batches seen.keeper.told seen.keeper.told_after → Commits ((feed_work base input).kept (parts_at (place_of lines))) seen.keeper.told seen.keeper.told_after
    commits committed = subst (λ bs. Commits bs seen.keeper.told seen.keeper.told_after) (sym kept) committed

    -- no line is refused before these
    not_refused : nat_le (lines_telling (followed base (feed_lines input))) (length lines) ≡ true → refusal_of base (feed_lines input) ≡ None
    not_refused is = by (followed base (feed_lines input)).stop refl
      where
        least : lines_telling (followed base (feed_lines input)) ≤ length lines
        least = grind (arith, nat_tests, is)

        by : (stop : Option FeedStop) → (followed base (feed_lines input)).stop ≡ stop → refusal_of base (feed_lines input) ≡ None
        by (Some stop) stops =
            let later = front-lines base lines first.later goes stop (ap (λ ls. (followed base ls).stop) (sym first.all_are) ∙ stops) in
            let telling : lines_telling (followed base (feed_lines input)) ≡ (followed base (lines ++ first.later)).lines =
            ap (λ found. option_map_or {U = ℕ} (λ stop. (followed base (feed_lines input)).lines) found ((followed base (feed_lines input)).lines + 1)) stops ∙ ap (λ ls. (followed base ls).lines) first.all_are in
            absurd (omega (arith, later, telling, least))
        by None stops =
            let telling : lines_telling (followed base (feed_lines input)) ≡ (followed base (feed_lines input)).lines + 1 =
            ap (λ found. option_map_or {U = ℕ} (λ stop. (followed base (feed_lines input)).lines) found ((followed base (feed_lines input)).lines + 1)) stops in
            absurd (omega (arith, telling, going-lines base 1 AtStart (feed_lines input) stops, ap length first.all_are, length-append lines first.later, least))

  -- reading stopped behind what was taken
  behind : (taken after : List ℕ) (done : ℕ) → FollowedTaken base taken seen done → StoppedReading (feed_work base (taken ++ after)) taken done seen
  behind taken after done followed_are =
      let lines = map front (ended_lines taken) in
      let first = ended-first taken after in
      let count : lf_count taken ≡ length lines = sym (length-map (ended_lines taken) front ∙ ended_lines-length taken) in
      record {
        parts = parts_at (place_of lines);
        parts_are = parts-done (taken ++ after) lines first followed_are.goes_on (lf_count taken) count;
        count = followed_are.count ∙ applied-parts (place_of lines);
        awaits = λ has. ap (option_map end_of_feed) (not_refused (taken ++ after) lines first followed_are.goes_on (ap (nat_le (lines_telling (followed base (feed_lines (taken ++ after))))) (sym count) ∙ has));
        answered = answered (taken ++ after) lines first followed_are.goes_on followed_are.applied.written;
        kept = commits (taken ++ after) lines first followed_are.goes_on followed_are.applied.kept;
      }

  to_line : (taken after : List ℕ) (n : ℕ) → Consumes seen.source.left seen.source.left_after taken → length taken ≤ line_end (taken ++ after) n + PIECE_LIMIT
      → TakesAtMost (line_end (taken ++ after) n + PIECE_LIMIT) seen.source.left seen.source.left_after
  to_line taken after n bytes near = record { input = taken; bytes = bytes; few = near }

  -- of an input that begins with what was taken
  of_taken : (taken : List ℕ) (P : List ℕ → Type 0) → Consumes seen.source.left seen.source.left_after taken → ((after : List ℕ) → (IsAtEnd seen.source.left_after → after ≡ []) → P (taken ++ after)) → IfSome seen.source.left P
  of_taken taken P bytes each = of_front seen.source.left seen.source.left_after taken P bytes (λ after is. each after (at_end-none seen.source.left_after after is))

  told_all : (all : FollowedAll base seen) → IfSome seen.source.left (λ input. DidLines (feed_work base input) true input 0 seen)
  told_all all =
      of_input true seen.source all.taken (λ input. DidLines (feed_work base input) true input 0 seen) (record { bytes = all.bytes; end = all.end; within = all.few })
      (record {
        accepted = ap (option_map end_of_feed) all.accepted;
        read = λ is. record { within = all.few; end = all.end };
        count = refl;
        wrote = all.applied.written;
        kept = all.applied.kept;
      })

  told_refused : (stop : FeedStop) → FollowRefused base seen stop → IfSome seen.source.left (λ input. RefusedWithin (feed_work base input) (end_of_feed stop) seen)
  told_refused stop refused = of_taken refused.taken (λ input. RefusedWithin (feed_work base input) (end_of_feed stop) seen) refused.bytes (λ after at_end. by after at_end refused.why)
    where
      lines : List (List ℕ)
      lines = refused.lines

      by : (after : List ℕ) → (IsAtEnd seen.source.left_after → after ≡ []) → StopsAtLast base refused.taken refused.lines stop ⊎ StopsAtEnd base refused.taken seen.source.left_after refused.lines stop
          → RefusedWithin (feed_work base (refused.taken ++ after)) (end_of_feed stop) seen
      by after at_end (inl last) =
          let input = refused.taken ++ after in
          let first = came-first refused.taken after seen.source.left_after lines at_end refused.came in
          let same : followed base (feed_lines input) ≡ followed base lines = stop-in base lines (feed_lines input) stop first last.stops in
          let stops : (followed base (feed_lines input)).stop ≡ Some stop = ap (λ (whole : Followed). whole.stop) same ∙ last.stops in
          let telling : lines_telling (followed base (feed_lines input)) ≡ length lines =
          ap (λ found. option_map_or {U = ℕ} (λ stop. (followed base (feed_lines input)).lines) found ((followed base (feed_lines input)).lines + 1)) stops ∙ ap (λ (whole : Followed). whole.lines) same ∙ last.count in
          record {
            head = record {
              cause = ap (λ found. option_map end_of_feed (or_else found (cut_at (length (feed_lines input)) (followed base (feed_lines input)).place))) stops;
              near = subst (λ n. TakesAtMost (line_end input n + PIECE_LIMIT) seen.source.left seen.source.left_after) (sym telling)
                  (to_line refused.taken after (length lines) refused.bytes (near_line refused.taken after (length lines) last.near));
            };
            wrote = subst (λ (whole : Followed). Appends seen.sink.taken seen.sink.taken_after (concat (applied_texts (applied_at whole.place)))) (sym same) refused.applied.written;
            kept = subst (λ (whole : Followed). Commits whole.batches seen.keeper.told seen.keeper.told_after) (sym same) refused.applied.kept;
          }
      by after at_end (inr end) =
          let input = refused.taken ++ after in
          let whole : input ≡ refused.taken = ap (λ rest. refused.taken ++ rest) (at_end end.end) ∙ append-nil refused.taken in
          let all : feed_lines input ≡ lines = ap feed_lines whole ∙ sym end.all in
          let telling : lines_telling (followed base (feed_lines input)) ≡ length (lines_of refused.taken) + 1 =
          ap (λ ls. lines_telling (followed base ls)) all
          ∙ ap (λ found. option_map_or {U = ℕ} (λ stop. (followed base lines).lines) found ((followed base lines).lines + 1)) end.goes_on
          ∙ ap (λ n. n + 1) (going-lines base 1 AtStart lines end.goes_on ∙ ap length end.all ∙ length-map (lines_of refused.taken) front) in
          let ended : length (ended_lines refused.taken) ≡ lf_count refused.taken = ended_lines-length refused.taken in
          let split : length (lines_of refused.taken) ≡ length (ended_lines refused.taken ++ drop (lf_count refused.taken) (lines_of (refused.taken ++ []))) =
          ap (λ text. length (lines_of text)) (sym (append-nil refused.taken)) ∙ ap length (lines_of-ended refused.taken []) in
          let fewer : lf_count refused.taken ≤ length (lines_of refused.taken) = omega (arith, ended, split, length-append (ended_lines refused.taken) (drop (lf_count refused.taken) (lines_of (refused.taken ++ [])))) in
          let near : length refused.taken ≤ line_end (refused.taken ++ after) (length (lines_of refused.taken) + 1) = line_end-behind refused.taken after (length (lines_of refused.taken) + 1) (omega (arith, fewer)) in
          record {
            head = record {
              cause = ap (λ ls. option_map end_of_feed (refusal_of base ls)) all ∙ ap (option_map end_of_feed) end.refused;
              near = subst (λ n. TakesAtMost (line_end input n + PIECE_LIMIT) seen.source.left seen.source.left_after) (sym telling)
                  (to_line refused.taken after (length (lines_of refused.taken) + 1) refused.bytes (omega (arith, near)));
            };
            wrote = subst (λ ls. Appends seen.sink.taken seen.sink.taken_after (concat (applied_texts (applied_at (place_of ls))))) (sym all) refused.applied.written;
            kept = subst (λ ls. Commits (followed base ls).batches seen.keeper.told seen.keeper.told_after) (sym all) refused.applied.kept;
          }

  told_failed : (done : ℕ) → FollowFailed base seen done → IfSome seen.source.left (λ input. Took seen.source (λ taken. StoppedReading (feed_work base input) taken done seen))
  told_failed done failed =
      of_taken failed.taken (λ input. Took seen.source (λ taken. StoppedReading (feed_work base input) taken done seen)) failed.bytes
      (λ after at_end. record { taken = failed.taken; bytes = failed.bytes; says = behind failed.taken after done failed.followed })

  told_long : (done : ℕ) → FollowedTooMuch base seen done → IfSome seen.source.left (λ input. StoppedReading (feed_work base input) (take INPUT_LIMIT input) done seen)
  told_long done much =
      of_taken (much.taken ++ much.byte ∷ []) (λ input. StoppedReading (feed_work base input) (take INPUT_LIMIT input) done seen) much.bytes
      (λ after at_end.
      let first : take INPUT_LIMIT (much.taken ++ (much.byte ∷ after)) ≡ much.taken = first_part INPUT_LIMIT much.taken (much.byte ∷ after) (much.taken ++ (much.byte ∷ after)) much.all refl in
      subst (λ input. StoppedReading (feed_work base input) (take INPUT_LIMIT input) done seen) (sym (append_assoc much.taken (much.byte ∷ []) after))
      (subst (λ bytes. StoppedReading (feed_work base (much.taken ++ (much.byte ∷ after))) bytes done seen) (sym first) (behind much.taken (much.byte ∷ after) done much.followed)))

  goes_on : (done : ℕ) → FollowedTooMuch base seen done → GoesOn INPUT_LIMIT seen.source.left seen.source.left_after
  goes_on done much = record { input = much.taken ++ much.byte ∷ []; bytes = much.bytes; above = length-append much.taken (much.byte ∷ []) ∙ ap (λ n. n + 1) much.all }

  module _ (off : BreakOff) (broke : FollowBroke base seen off) where
    -- the lines that came are the first of the input's
    of_broke : (P : List ℕ → Type 0) → ((after : List ℕ) → AreFirst broke.lines (feed_lines (broke.taken ++ after)) → (IsAtEnd seen.source.left_after → after ≡ []) → P (broke.taken ++ after)) → IfSome seen.source.left P
    of_broke P each = of_taken broke.taken P broke.bytes (λ after at_end. each after (came-first broke.taken after seen.source.left_after broke.lines at_end broke.came) at_end)

    took_few : TakesAtMost INPUT_LIMIT seen.source.left seen.source.left_after
    took_few = record { input = broke.taken; bytes = broke.bytes; few = broke.few }

    -- within the text of a batch
    cut-wrote : (input : List ℕ) → AreFirst broke.lines (feed_lines input) → (number : ℕ) → CutAtBatch base broke.taken broke.lines seen number
        → Wrote seen.sink.taken seen.sink.taken_after (Broken (feed_work base input).texts (number + 1))
    cut-wrote input first number cut =
        let here = texts input broke.lines first broke.goes_on in
        let applied : applied_at (place_of broke.lines) ≡ number = omega (arith, applied-parts (place_of broke.lines), cut.parts) in
        let all : (feed_work base input).texts ≡ applied_texts number ++ here.more = here.are ∙ ap (λ n. applied_texts n ++ here.more) applied in
        subst (λ ts. Wrote seen.sink.taken seen.sink.taken_after (Broken ts (number + 1))) (sym all)
        (wrote-weaker seen.sink.taken seen.sink.taken_after (Broken (applied_texts number) (number + 1)) (Broken (applied_texts number ++ here.more) (number + 1)) (λ bytes b. broken-more (applied_texts number) here.more (number + 1) bytes b) cut.wrote)

    cut-kept : (input : List ℕ) → AreFirst broke.lines (feed_lines input) → (number : ℕ) → CutAtBatch base broke.taken broke.lines seen number → Commits ((feed_work base input).kept (number + 1)) seen.keeper.told seen.keeper.told_after
    cut-kept input first number cut =
        subst (λ parts. Commits ((feed_work base input).kept parts) seen.keeper.told seen.keeper.told_after) cut.parts (commits input broke.lines first broke.goes_on cut.kept)

    told_write : (number : ℕ) → CutAtBatch base broke.taken broke.lines seen number → IfSome seen.source.left (λ input. BrokeOff (feed_work base input) number seen)
    told_write number cut =
        of_broke (λ input. BrokeOff (feed_work base input) number seen)
        (λ after first at_end. record {
          parts = number + 1;
          line = length broke.lines;
          parts_are = sym cut.parts ∙ parts-done (broke.taken ++ after) broke.lines first broke.goes_on (length broke.lines) refl;
          count = omega arith;
          wrote = cut-wrote (broke.taken ++ after) first number cut;
          kept = cut-kept (broke.taken ++ after) first number cut;
          near = to_line broke.taken after (length broke.lines) broke.bytes (near_line broke.taken after (length broke.lines) cut.near);
        })

    told_sink : (number : ℕ) → CutAtBatch base broke.taken broke.lines seen number → IfSome seen.source.left (λ input. WantedMemory (feed_work base input) number seen)
    told_sink number cut =
        of_broke (λ input. WantedMemory (feed_work base input) number seen)
        (λ after first at_end. record {
          parts = number + 1;
          count = omega arith;
          wrote = wrote-weaker seen.sink.taken seen.sink.taken_after (Broken (feed_work base (broke.taken ++ after)).texts (number + 1)) (Stopped (feed_work base (broke.taken ++ after)).texts (number + 1)) (λ bytes b. b.stopped)
              (cut-wrote (broke.taken ++ after) first number cut);
          kept = cut-kept (broke.taken ++ after) first number cut;
        })

    told_memory : (done : ℕ) → StoppedBehind base broke.lines seen done → IfSome seen.source.left (λ input. WantedMemory (feed_work base input) done seen)
    told_memory done stopped =
        of_broke (λ input. WantedMemory (feed_work base input) done seen)
        (λ after first at_end.
        let input = broke.taken ++ after in
        let parts = parts_at (place_of broke.lines) in
        let done_parts = answered input broke.lines first broke.goes_on stopped.applied.written in
        record {
          parts = parts;
          count = stopped.count ∙ applied-parts (place_of broke.lines);
          wrote = wrote-weaker seen.sink.taken seen.sink.taken_after (Gathered (feed_work base input).texts parts) (Stopped (feed_work base input).texts parts) (stopped_gathered (feed_work base input).texts parts)
              (wrote seen.sink.taken seen.sink.taken_after (concat (take parts (feed_work base input).texts)) (Gathered (feed_work base input).texts parts) done_parts.bytes (record { among = done_parts.among; whole = inl refl }));
          kept = commits input broke.lines first broke.goes_on stopped.applied.kept;
        })

    told_keep : (done : ℕ) → StoppedBehind base broke.lines seen done → FailedToKeep base broke.taken seen.source.left_after broke.lines → IfSome seen.source.left (λ input. StoppedAtEdit (feed_work base input) done seen)
    told_keep done stopped failed =
        of_broke (λ input. StoppedAtEdit (feed_work base input) done seen)
        (λ after first at_end.
        let input = broke.taken ++ after in
        let parts = parts_at (place_of broke.lines) in
        let lines = broke.lines ++ failed.line ∷ [] in
        let next = came-first broke.taken after seen.source.left_after lines at_end failed.came in
        let count : length broke.lines + 1 ≡ length lines = sym (length-append broke.lines (failed.line ∷ [])) in
        let kept_next : (feed_work base input).kept (parts + 1) ≡ (followed base lines).batches = ap (feed_work base input).kept (sym failed.part) ∙ kept input lines next failed.goes_on in
        let kept_here : (feed_work base input).kept parts ≡ (followed base broke.lines).batches = kept input broke.lines first broke.goes_on in
        record {
          parts = parts;
          line = length broke.lines + 1;
          parts_are = sym failed.part ∙ parts-done input lines next failed.goes_on (length broke.lines + 1) count;
          count = stopped.count ∙ applied-parts (place_of broke.lines);
          answered = answered input broke.lines first broke.goes_on stopped.applied.written;
          kept = commits input broke.lines first broke.goes_on stopped.applied.kept;
          next = ap length kept_next ∙ failed.batch ∙ ap (λ bs. length bs + 1) (sym kept_here);
          near = to_line broke.taken after (length broke.lines + 1) broke.bytes (near_line broke.taken after (length broke.lines + 1) failed.near);
        })

  -- The keeper tells this content, over which the feed is followed.
  module _ (content : Stored) (over : base_in content ≡ base) (given : Holds seen.keeper (λ kept. content ≡ kept)) (fitting : IsEmptyOrSound content) where
    fits : (end : End) → FitsAt IsEmptyOrSound seen end content → Holds seen.keeper (FitsAt IsEmptyOrSound seen end)
    fits end here = of_given seen.keeper.told.content content (FitsAt IsEmptyOrSound seen end) given here

    means : (end : End) → IfSome seen.source.left (λ input. MeansByLines (feed_work base input) true input seen end)
        → Holds seen.keeper (λ content. IfSome seen.source.left (λ input. MeansByLines (follow_work input content) true input seen end))
    means end here =
        of_given seen.keeper.told.content content (λ content. IfSome seen.source.left (λ input. MeansByLines (follow_work input content) true input seen end)) given
        (subst (λ (held : Option Base). IfSome seen.source.left (λ input. MeansByLines (feed_work held input) true input seen end)) (sym over) here)

    says_end : (end : End) → IsAmong (ends_of (Some (Store Follow))) end → Faults seen end → Takes seen.source end → Leaves seen end → FitsAt IsEmptyOrSound seen end content
        → IfSome seen.source.left (λ input. MeansByLines (feed_work base input) true input seen end) → SaysOf (Some (Store Follow)) seen end
    says_end end may faults takes leaves here told = record {
      may = may;
      faults = faults;
      takes = takes;
      leaves = leaves;
      unread = λ is. absurd (cc is);
      unkept = λ is. absurd (cc is);
      counts = tt;
      fits = fits end here;
      means = means end told;
    }

    says_broke : (off : BreakOff) → NoReadFault seen.source → FollowBroke base seen off → (is_keep off ≡ true → KeepFailed seen.keeper)
        → (is_keep off ≡ false → NoKeepFault seen.keeper) → SaysOf (Some (Store Follow)) seen (end_of_break_off off)
    says_broke (break_off.Write number) read broke failed none =
        says_end (WriteFault number) refl (record { cause = broke.broke.0; read = read; keep = none refl }) (took_few (break_off.Write number) broke) tt fitting (told_write (break_off.Write number) broke number broke.broke.1)
    says_broke (break_off.SinkMemory number) read broke failed none =
        says_end (Memory number) refl (record { read = read; write = broke.broke.0; keep = none refl }) (took_few (break_off.SinkMemory number) broke) tt (inr fitting)
        (told-weaker seen.source.left _ _ (λ input here. inr here) (told_sink (break_off.SinkMemory number) broke number broke.broke.1))
    says_broke (break_off.Memory done) read broke failed none =
        says_end (Memory done) refl (record { read = read; write = broke.broke.write; keep = none refl }) (took_few (break_off.Memory done) broke) tt (inr fitting)
        (told-weaker seen.source.left _ _ (λ input here. inr here) (told_memory (break_off.Memory done) broke done broke.broke))
    says_broke (break_off.Keep done) read broke failed none =
        says_end (KeepFault done) refl (record { cause = failed refl; read = read; write = broke.broke.0.write }) (took_few (break_off.Keep done) broke) tt (inr fitting)
        (told-weaker seen.source.left _ _ (λ input here. inr here) (told_keep (break_off.Keep done) broke done broke.broke.0 broke.broke.1))

    -- the feed is not what it must be
    says_refused : (stop : FeedStop) → NoReadFault seen.source → FollowRefused base seen stop → NoKeepFault seen.keeper → SaysOf (Some (Store Follow)) seen (end_of_feed stop)
    says_refused stop read refused keep = by stop (record { read = read; write = refused.write; keep = keep }) (record { input = refused.taken; bytes = refused.bytes; few = refused.few }) (told_refused stop refused)
      where
        by : (stop : FeedStop) → NoFault seen → TakesAtMost INPUT_LIMIT seen.source.left seen.source.left_after → IfSome seen.source.left (λ input. RefusedWithin (feed_work base input) (end_of_feed stop) seen)
            → SaysOf (Some (Store Follow)) seen (end_of_feed stop)
        by (feed_stop.Bad line why) none few told = says_end (BadFeed line why) refl none few tt fitting told
        by (feed_stop.Order want got) none few told = says_end (Order want got) refl none few tt fitting told
        by (feed_stop.Base place) none few told = says_end (ends.Base place) refl none few tt fitting told
        by (feed_stop.Differs number line) none few told = says_end (Differs number line) refl none few tt fitting told

    pub says_followed : {T : Type 0} (result : Result T FollowStop) → EndsFollow base seen result → SaysOf (Some (Store Follow)) seen (end_of_follow result)
    says_followed (Ok ok) ends =
        let all = ends.follows.1 in
        says_end (Finished 0) refl (record { read = ends.follows.0; write = all.write; keep = ends.keep refl }) (record { input = all.taken; bytes = all.bytes; few = all.few }) tt fitting (told_all all)
    says_followed (Err (follow_stop.Feed stop)) ends = says_refused stop ends.follows.0 ends.follows.1 (ends.keep refl)
    says_followed (Err (follow_stop.Stream (stream_stop.Broke off))) ends = says_broke off ends.follows.0 ends.follows.1 ends.keep_failed ends.keep
    says_followed (Err (follow_stop.Stream (stream_stop.Read done))) ends =
        let failed = ends.follows.1 in
        says_end (ReadFault done) refl (record { cause = ends.follows.0; write = failed.followed.write; keep = ends.keep refl }) (record { input = failed.taken; bytes = failed.bytes; few = failed.few }) tt fitting
        (told_failed done failed)
    says_followed (Err (follow_stop.Stream (stream_stop.TooLong done))) ends =
        let much = ends.follows.1 in
        says_end (TooLong done) refl (record { read = ends.follows.0; write = much.followed.write; keep = ends.keep refl }) (goes_on done much) tt fitting (told_long done much)
