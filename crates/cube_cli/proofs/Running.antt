-- What the ends say where a script is done as it comes over the content of a store.
use Rattle.std.proofs.Common.{◌≡◌, ℕ, ◌+◌, List, [], ◌∷◌, ◌++◌, length, take, true, refl, sym, ap, ◌∙◌, subst, append_assoc, inr, length-append, Some, Result, Ok, Err}
use Rattle.std.specs.Prelude.{◌⊎◌, IfSome}
use Rattle.std.specs.List.{concat}
use Rattle.std.specs.Option.{option_map, option_map_or}
use Rattle.std.specs.Result.{result_ok}
use Rattle.std.specs.Io.KnownBytes.{Appends, Consumes}
use Rattle.fact_keeper.specs.declared.content.Stored.{Stored}
use Rattle.schema_text.specs.Schema.{SchemaValue, weigh_of}
use Rattle.schema_text.specs.declared.word.PolicyWord.{PolicyWord}
use Rattle.text_lines.specs.Text.{lines_of}
use Rattle.text_lines.specs.Input.{GoesOn, INPUT_LIMIT, TakesAtMost}
use Rattle.text_lines.specs.Pieces.{line_end}
use Rattle.text_lines.specs.Reading.{PIECE_LIMIT}
use Rattle.cube_core.specs.Cube.{CubeValue}
use Rattle.script_run.specs.declared.break_off.BreakOff.{BreakOff}
use Rattle.script_run.specs.declared.break_off.BreakOff.TheVariants as break_off
use Rattle.script_run.specs.declared.streaming.StreamStop.{StreamStop}
use Rattle.script_run.specs.declared.streaming.StreamStop.TheVariants as stream_stop
use Rattle.script_run.specs.Kept.{Commits, KeptAt, batches}
use Rattle.script_run.specs.Progress.{BreaksOff, Done}
use Rattle.script_run.specs.Run.{Outcome, run, state_of}
use Rattle.script_run.specs.Seen.{NoReadFault, SeenAll, Wrote}
use Rattle.script_run.specs.Stream.{AnsweredTaken, CountsStream, EndsInLast, EndsStream, Ground, StreamBroke, StreamedTooMuch, batches_on, outcome_on}
use Rattle.script_run.specs.Written.{Answered, Broken, Gathered, Stopped}
use Rattle.script_run.proofs.Texts.{stopped_gathered}
use Rattle.script_run.proofs.Writing.{wrote-weaker}
use Rattle.cube_cli.specs.declared.command.Command.TheVariants.{Store}
use Rattle.cube_cli.specs.declared.command.StoreCommand.TheVariants.{Input}
use Rattle.cube_cli.specs.declared.end.End.{End}
use Rattle.cube_cli.specs.declared.end.End.TheVariants.{Finished, KeepFault, Memory, ReadFault, TooLong, WriteFault}
use Rattle.cube_cli.specs.declared.store.InputTask.TheVariants.{Run}
use Rattle.cube_cli.specs.Doing.{ends_of, run_work}
use Rattle.cube_cli.specs.End.{BrokeOff, DidLines, Faults, FitsAt, Leaves, MeansByLines, SaysOf, StoppedAtEdit, StoppedReading, Takes, WantedMemory}
use Rattle.cube_cli.specs.Kinds.{IsAmong}
use Rattle.cube_cli.specs.RunEnd.{end_of_break_off, end_of_run}
use Rattle.cube_cli.specs.SchemaAlone.{schema_alone}
use Rattle.cube_cli.specs.Seen.{Holds, ReadWhole, Took}
use Rattle.cube_cli.specs.Steps.{IsCubeOf}
use Rattle.cube_cli.specs.Store.{IsSoundContent, IsSoundOver, batches_over, count_refused_over, outcome_over, replies_over, state_over}
use Rattle.cube_cli.proofs.Auditing.{sound_content}
use Rattle.cube_cli.proofs.Coming.{answered-all, breaks_off-first, first-came, first_lines, first_part, kept_at-first, near_line, of_front}
use Rattle.cube_cli.proofs.Known.{of_given, of_input, told-weaker}

-- What a script does over a content is told by its schema and its facts.
pub record IsOver (content : Stored) (ground : Ground) : Type 0 where
  pub schema_is : schema_alone content.schema ≡ Ok ground.schema
  pub weighs : ground.weigh ≡ weigh_of ground.schema.policy
  pub first_is : ground.first ≡ state_over ground.schema content
  pub keeps : ground.keeps ≡ true

module _ (content : Stored) (ground : Ground) (over : IsOver content ground) where
  outcome-over : (lines : List (List ℕ)) → outcome_over content lines ≡ Some (outcome_on ground lines)
  outcome-over lines =
      ap (λ r. option_map (λ (schema : SchemaValue). run (weigh_of schema.policy) schema (state_over schema content) lines) (result_ok r)) over.schema_is
      ∙ ap (λ w. Some (run w ground.schema (state_over ground.schema content) lines)) (sym over.weighs)
      ∙ ap (λ s. Some (run ground.weigh ground.schema s lines)) (sym over.first_is)

  pub replies-over : (lines : List (List ℕ)) → replies_over content lines ≡ (outcome_on ground lines).replies
  replies-over lines = ap (λ o. option_map_or (λ outcome. outcome.replies) o []) (outcome-over lines)

  pub batches-over : (lines : List (List ℕ)) → batches_over content lines ≡ batches_on ground lines
  batches-over lines =
      ap (λ r. option_map_or (λ (schema : SchemaValue). batches (weigh_of schema.policy) schema (state_over schema content) lines) (result_ok r) []) over.schema_is
      ∙ ap (λ w. batches w ground.schema (state_over ground.schema content) lines) (sym over.weighs)
      ∙ ap (λ s. batches ground.weigh ground.schema s lines) (sym over.first_is)

  pub count-over : (lines : List (List ℕ)) → count_refused_over content lines ≡ (outcome_on ground lines).refused
  count-over lines = ap (λ o. option_map_or (λ (outcome : Outcome). outcome.refused) o 0) (outcome-over lines)

  module _ (seen : SeenAll) where
    -- what the first lines commit is kept
    kept-first : (input : List ℕ) (done : ℕ) → Commits (batches_on ground (take done (lines_of input))) seen.keeper.told seen.keeper.told_after → Commits ((run_work input content).kept done) seen.keeper.told seen.keeper.told_after
    kept-first input done commits = subst (λ bs. Commits bs seen.keeper.told seen.keeper.told_after) (sym (batches-over (take done (lines_of input)))) commits

    ran : (input : List ℕ) (refused : ℕ) → ReadWhole seen.source input → Done (outcome_on ground (lines_of input)) seen.sink refused → Commits (batches_on ground (lines_of input)) seen.keeper.told seen.keeper.told_after
        → DidLines (run_work input content) true input refused seen
    ran input refused read done commits = record {
      accepted = refl;
      read = λ is. read;
      count = done.count ∙ sym (count-over (lines_of input));
      wrote = subst (λ replies. Appends seen.sink.taken seen.sink.taken_after (concat replies)) (sym (replies-over (lines_of input))) done.bytes;
      kept = subst (λ bs. Commits bs seen.keeper.told seen.keeper.told_after) (sym (batches-over (lines_of input))) commits;
    }

    -- behind the lines that end in what was taken
    behind : (taken after : List ℕ) (done : ℕ) → AnsweredTaken ground [] taken seen done → StoppedReading (run_work (taken ++ after) content) taken done seen
    behind taken after done answered = record {
      parts = done;
      parts_are = answered.count;
      count = refl;
      awaits = λ has. refl;
      answered = subst (λ replies. Answered replies done seen.sink) (sym (replies-over (lines_of (taken ++ after)))) (answered-all ground taken after done seen.sink answered.count answered.answered);
      kept = kept-first (taken ++ after) done
          (subst (λ lines. Commits (batches_on ground lines) seen.keeper.told seen.keeper.told_after) (sym (first_lines taken after done answered.count)) (answered.kept.commits over.keeps));
    }

    to_line : (taken after : List ℕ) (n : ℕ) → Consumes seen.source.left seen.source.left_after taken → (taken ≡ []) ⊎ EndsInLast [] taken n
        → TakesAtMost (line_end (taken ++ after) n + PIECE_LIMIT) seen.source.left seen.source.left_after
    to_line taken after n bytes near = record { input = taken; bytes = bytes; few = near_line taken after n near }

    module _ (off : BreakOff) (broke : StreamBroke ground [] INPUT_LIMIT seen off) where
      -- among the lines that came, and so among those of the whole input
      in_whole : (P : List ℕ → Type 0)
          → ((after : List ℕ) → BreaksOff (outcome_on ground (lines_of (broke.taken ++ after))).replies seen.sink off → KeptAt ground.weigh ground.schema ground.first (lines_of (broke.taken ++ after)) seen.keeper.told seen.keeper.told_after off → P (broke.taken ++ after))
          → IfSome seen.source.left P
      in_whole P each = of_front seen.source.left seen.source.left_after broke.taken P broke.bytes
          (λ after is.
          let first = first-came broke.taken after seen.source.left_after broke.lines (λ end. rw is at end) broke.lines_are in
          let all = lines_of (broke.taken ++ after) in
          each after (breaks_off-first ground broke.lines all first seen.sink off broke.broke) (kept_at-first ground broke.lines all first seen.keeper.told seen.keeper.told_after off (broke.kept over.keeps)))

    took_few : (off : BreakOff) → StreamBroke ground [] INPUT_LIMIT seen off → TakesAtMost INPUT_LIMIT seen.source.left seen.source.left_after
    took_few off broke = record { input = broke.taken; bytes = broke.bytes; few = broke.few }

    told_write : (line : ℕ) → StreamBroke ground [] INPUT_LIMIT seen (break_off.Write line) → IfSome seen.source.left (λ input. BrokeOff (run_work input content) line seen)
    told_write line broke =
        in_whole (break_off.Write line) broke (λ input. BrokeOff (run_work input content) line seen)
        (λ after off kept. record {
          parts = line;
          line = line;
          parts_are = refl;
          count = refl;
          wrote = subst (λ replies. Wrote seen.sink.taken seen.sink.taken_after (Broken replies line)) (sym (replies-over (lines_of (broke.taken ++ after)))) off.1;
          kept = kept-first (broke.taken ++ after) line kept.commits;
          near = to_line broke.taken after line broke.bytes broke.near;
        })

    told_keep : (done : ℕ) → StreamBroke ground [] INPUT_LIMIT seen (break_off.Keep done) → IfSome seen.source.left (λ input. StoppedAtEdit (run_work input content) done seen)
    told_keep done broke =
        in_whole (break_off.Keep done) broke (λ input. StoppedAtEdit (run_work input content) done seen)
        (λ after off kept.
        let lines = lines_of (broke.taken ++ after) in
        record {
          parts = done;
          line = done + 1;
          parts_are = refl;
          count = refl;
          answered = subst (λ replies. Answered replies done seen.sink) (sym (replies-over lines)) off.1;
          kept = kept-first (broke.taken ++ after) done kept.commits;
          next = ap length (batches-over (take (done + 1) lines)) ∙ kept.next ∙ ap (λ n. n + 1) (sym (ap length (batches-over (take done lines))));
          near = to_line broke.taken after (done + 1) broke.bytes broke.near;
        })

    wanted : (input : List ℕ) (done : ℕ) (P : List ℕ → Type 0) → Wrote seen.sink.taken seen.sink.taken_after P → ((bytes : List ℕ) → P bytes → Stopped (outcome_on ground (lines_of input)).replies done bytes)
        → Commits (batches_on ground (take done (lines_of input))) seen.keeper.told seen.keeper.told_after → WantedMemory (run_work input content) done seen
    wanted input done P written weaker commits = record {
      parts = done;
      count = refl;
      wrote = subst (λ replies. Wrote seen.sink.taken seen.sink.taken_after (Stopped replies done)) (sym (replies-over (lines_of input))) (wrote-weaker seen.sink.taken seen.sink.taken_after P (Stopped (outcome_on ground (lines_of input)).replies done) weaker written);
      kept = kept-first input done commits;
    }

    told_sink : (line : ℕ) → StreamBroke ground [] INPUT_LIMIT seen (break_off.SinkMemory line) → IfSome seen.source.left (λ input. WantedMemory (run_work input content) line seen)
    told_sink line broke =
        in_whole (break_off.SinkMemory line) broke (λ input. WantedMemory (run_work input content) line seen)
        (λ after off kept. wanted (broke.taken ++ after) line (Broken (outcome_on ground (lines_of (broke.taken ++ after))).replies line) off.1 (λ bytes b. b.stopped) kept.commits)

    told_memory : (done : ℕ) → StreamBroke ground [] INPUT_LIMIT seen (break_off.Memory done) → IfSome seen.source.left (λ input. WantedMemory (run_work input content) done seen)
    told_memory done broke =
        in_whole (break_off.Memory done) broke (λ input. WantedMemory (run_work input content) done seen)
        (λ after off kept.
        let replies = (outcome_on ground (lines_of (broke.taken ++ after))).replies in
        wanted (broke.taken ++ after) done (Gathered replies done) off.1 (stopped_gathered replies done) kept.commits)

    goes_on : (done : ℕ) → StreamedTooMuch ground [] INPUT_LIMIT seen done → GoesOn INPUT_LIMIT seen.source.left seen.source.left_after
    goes_on done much = record { input = much.taken ++ much.byte ∷ []; bytes = much.bytes; above = length-append much.taken (much.byte ∷ []) ∙ ap (λ n. n + 1) much.all }

    told_long : (done : ℕ) → StreamedTooMuch ground [] INPUT_LIMIT seen done → IfSome seen.source.left (λ input. StoppedReading (run_work input content) (take INPUT_LIMIT input) done seen)
    told_long done much =
        let split : (after : List ℕ) → (much.taken ++ much.byte ∷ []) ++ after ≡ much.taken ++ (much.byte ∷ after) = λ after. append_assoc much.taken (much.byte ∷ []) after in
        of_front seen.source.left seen.source.left_after (much.taken ++ much.byte ∷ []) (λ input. StoppedReading (run_work input content) (take INPUT_LIMIT input) done seen) much.bytes
        (λ after is.
        let first : take INPUT_LIMIT (much.taken ++ (much.byte ∷ after)) ≡ much.taken = first_part INPUT_LIMIT much.taken (much.byte ∷ after) (much.taken ++ (much.byte ∷ after)) much.all refl in
        subst (λ input. StoppedReading (run_work input content) (take INPUT_LIMIT input) done seen) (sym (split after))
        (subst (λ front. StoppedReading (run_work (much.taken ++ (much.byte ∷ after)) content) front done seen) (sym first) (behind much.taken (much.byte ∷ after) done much.answered)))

    told_failed : (taken : List ℕ) (done : ℕ) → Consumes seen.source.left seen.source.left_after taken → AnsweredTaken ground [] taken seen done
        → IfSome seen.source.left (λ input. Took seen.source (λ taken. StoppedReading (run_work input content) taken done seen))
    told_failed taken done bytes answered =
        of_front seen.source.left seen.source.left_after taken (λ input. Took seen.source (λ taken. StoppedReading (run_work input content) taken done seen)) bytes
        (λ after is. record { taken = taken; bytes = bytes; says = behind taken after done answered })

    -- the keeper tells this content, which is sound
    module _ (given : Holds seen.keeper (λ kept. content ≡ kept)) (sound : IsSoundOver ground.schema content) where
      is_sound : IsSoundContent content
      is_sound = sound_content content ground.schema over.schema_is sound

      fits : (end : End) → FitsAt IsSoundContent seen end content → Holds seen.keeper (FitsAt IsSoundContent seen end)
      fits end here = of_given seen.keeper.told.content content (FitsAt IsSoundContent seen end) given here

      means : (end : End) → IfSome seen.source.left (λ input. MeansByLines (run_work input content) true input seen end) → Holds seen.keeper (λ content. IfSome seen.source.left (λ input. MeansByLines (run_work input content) true input seen end))
      means end here = of_given seen.keeper.told.content content (λ content. IfSome seen.source.left (λ input. MeansByLines (run_work input content) true input seen end)) given here

      says_end : (end : End) → IsAmong (ends_of (Some (Store (Input Run)))) end → Faults seen end → Takes seen.source end → Leaves seen end → FitsAt IsSoundContent seen end content
          → IfSome seen.source.left (λ input. MeansByLines (run_work input content) true input seen end) → SaysOf (Some (Store (Input Run))) seen end
      says_end end may faults takes leaves here told = record {
        may = may;
        faults = faults;
        takes = takes;
        leaves = leaves;
        unread = λ is. absurd (cc is);
        unkept = λ is. absurd (cc is);
        counts = tt;
        fits = fits end here;
        means = means end told;
      }

      says_broke : (off : BreakOff) → NoReadFault seen.source → StreamBroke ground [] INPUT_LIMIT seen off → CountsStream seen.keeper (Err (stream_stop.Broke off)) → SaysOf (Some (Store (Input Run))) seen (end_of_break_off off)
      says_broke (break_off.Write line) read broke count =
          says_end (WriteFault line) refl (record { cause = broke.broke.0; read = read; keep = count.1 refl }) (took_few (break_off.Write line) broke) tt is_sound (told_write line broke)
      says_broke (break_off.SinkMemory line) read broke count =
          says_end (Memory line) refl (record { read = read; write = broke.broke.0; keep = count.1 refl }) (took_few (break_off.SinkMemory line) broke) tt (inr is_sound)
          (told-weaker seen.source.left _ _ (λ input here. inr here) (told_sink line broke))
      says_broke (break_off.Memory done) read broke count =
          says_end (Memory done) refl (record { read = read; write = broke.broke.0; keep = count.1 refl }) (took_few (break_off.Memory done) broke) tt (inr is_sound)
          (told-weaker seen.source.left _ _ (λ input here. inr here) (told_memory done broke))
      says_broke (break_off.Keep done) read broke count =
          says_end (KeepFault done) refl (record { cause = count.0 refl; read = read; write = broke.broke.0 }) (took_few (break_off.Keep done) broke) tt (inr is_sound)
          (told-weaker seen.source.left _ _ (λ input here. inr here) (told_keep done broke))

      pub says_stream : (result : Result ℕ StreamStop) → EndsStream ground [] INPUT_LIMIT seen result → CountsStream seen.keeper result → SaysOf (Some (Store (Input Run))) seen (end_of_run result)
      says_stream (Ok refused) ends count =
          let all = ends.1 in
          says_end (Finished refused) refl (record { read = ends.0; write = all.done.no_fault; keep = count }) (record { input = all.taken; bytes = all.bytes; few = all.few }) tt is_sound
          (of_input true seen.source all.taken (λ input. DidLines (run_work input content) true input refused seen) (record { bytes = all.bytes; end = all.end; within = all.few })
          (ran all.taken refused (record { within = all.few; end = all.end }) all.done (all.kept.commits over.keeps)))
      says_stream (Err (stream_stop.Broke off)) ends count = says_broke off ends.0 ends.1 count
      says_stream (Err (stream_stop.Read done)) ends count =
          let failed = ends.1 in
          says_end (ReadFault done) refl (record { cause = ends.0; write = failed.answered.write; keep = count.1 refl }) (record { input = failed.taken; bytes = failed.bytes; few = failed.few }) tt is_sound
          (told_failed failed.taken done failed.bytes failed.answered)
      says_stream (Err (stream_stop.TooLong done)) ends count =
          let much = ends.1 in
          says_end (TooLong done) refl (record { read = ends.0; write = much.answered.write; keep = count.1 refl }) (goes_on done much) tt is_sound (told_long done much)

-- a cube that is one of a content
pub over_cube : (cube : CubeValue PolicyWord) (content : Stored) → IsCubeOf cube content → IsOver content (record { weigh = weigh_of cube.policy; schema = cube.schema; first = state_of cube; keeps = true })
over_cube cube content is = record {
  schema_is = is.holds.schema_is;
  weighs = ap weigh_of is.policy_is;
  first_is = ap (λ facts. record { dims = cube.schema.dims; facts = facts }) is.facts_are;
  keeps = refl;
}
