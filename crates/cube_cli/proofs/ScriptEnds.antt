-- What the ends of `try` say of the whole input, where a schema was taken and the script behind it was done.
use Rattle.std.proofs.Common.{◌≡◌, ℕ, ◌+◌, ◌-◌, ◌^◌, ◌<◌, ◌≤◌, false, true, List, [], ◌∷◌, ◌++◌, length, take, drop, refl, ap, sym, subst, ◌∙◌, arith, append-nil, append_assoc, length-append, inl, inr, ◌⊎◌, Option, Some, None, Result, Ok, Err}
use Rattle.std.specs.Prelude.{IfErr, IfSome}
use Rattle.std.specs.List.{concat, slice_split}
use Rattle.std.specs.Option.{option_map_or}
use Rattle.std.specs.Io.KnownBytes.{Appends, Consumes, IsAtEnd}
use Rattle.std.proofs.KnownBytes.{Consumes-trans}
use Rattle.std.proofs.lemmas.List.{length-drop, length-map}
use Rattle.std.proofs.lemmas.List.Splits.{length-slice_split}
use Rattle.std.proofs.lemmas.List.Sums.{count_by-le-length}
use Rattle.fact_keeper.specs.Batch.{empty_content}
use Rattle.text_lines.specs.Text.{lines_of}
use Rattle.text_lines.specs.Input.{GoesOn, INPUT_LIMIT, TakesAtMost}
use Rattle.text_lines.specs.Pieces.{ended_lines, front, is_lf, lf_count, line_end, pieces_of}
use Rattle.text_lines.specs.Reading.{PIECE_LIMIT}
use Rattle.text_lines.proofs.Ended.{line_end-behind}
use Rattle.schema_text.specs.Schema.{SchemaValue, weigh_of}
use Rattle.schema_text.specs.SchemaText.{schema_of}
use Rattle.script_run.specs.declared.break_off.BreakOff.{BreakOff}
use Rattle.script_run.specs.declared.break_off.BreakOff.TheVariants as break_off
use Rattle.script_run.specs.declared.streaming.StreamStop.{StreamStop}
use Rattle.script_run.specs.declared.streaming.StreamStop.TheVariants as stop
use Rattle.script_run.specs.Kept.{Commits, is_keep}
use Rattle.script_run.specs.Progress.{BreaksOff, Done}
use Rattle.script_run.specs.Run.{Outcome, run_of}
use Rattle.script_run.specs.Seen.{SeenAll, SinkSeen, SourceSeen}
use Rattle.script_run.specs.Stream.{EndsInLast, EndsStream, Ground, IsNear, StreamBroke, is_keep_stop}
use Rattle.script_run.specs.Written.{Answered, Broken, Gathered, Stopped}
use Rattle.script_run.proofs.Texts.{stopped_gathered}
use Rattle.script_run.proofs.Writing.{wrote-weaker}
use Rattle.cube_cli.specs.declared.command.Command.TheVariants.{Try}
use Rattle.cube_cli.specs.Doing.{Fits, ends_of, refused_schema, try_work}
use Rattle.cube_cli.specs.End.{BrokeOff, DidLines, Faults, FitsAt, Leaves, MeansByLines, SaysOf, StoppedReading, Takes, WantedMemory}
use Rattle.cube_cli.specs.Kinds.{IsAmong}
use Rattle.fact_keeper.specs.declared.content.Stored.{Stored}
use Rattle.cube_cli.specs.declared.end.End.{End}
use Rattle.cube_cli.specs.declared.end.End.TheVariants.{Finished, Memory, ReadFault, TooLong, WriteFault}
use Rattle.cube_cli.specs.Seen.{NoFault, Took, WasNotCalled}
use Rattle.cube_cli.specs.Trying.{EndsUnkept, outcome_of, replies_of, script_line_end}
use Rattle.cube_cli.specs.RunEnd.{end_of_break_off, end_of_run}
use Rattle.cube_cli.specs.SchemaLines.{TookSchema}
use Rattle.cube_cli.proofs.Coming.{answered-all, breaks_off-first, first-came, first_part}
use Rattle.cube_cli.proofs.ScriptBehind.{IsInParts, end-read, in_parts, lines-read, outcome-read, replies-read}
use Rattle.cube_cli.proofs.Keepers.{unkept}
use Rattle.cube_cli.proofs.Known.{of_any, told-weaker}
use Rattle.cube_cli.proofs.Unkept.{new_ground}

-- what was taken for the script, behind what was taken for the schema
module _ (source : SourceSeen) (room : ℕ) (held : List (List ℕ)) (schema : SchemaValue) (took : TookSchema source room held schema) (second : List ℕ) where
  abbrev both : List ℕ
  both = took.taken ++ second

  abbrev text : List ℕ
  text = drop took.size took.taken ++ second

  -- the schema is accepted
  accepted : (rest input : List ℕ) → IsInParts schema took.size took.taken second rest input → refused_schema (schema_of input) ≡ None
  accepted rest input is = ap refused_schema is.schema_is

  -- all was done
  outcome_whole : (rest input : List ℕ) → IsInParts schema took.size took.taken second rest input → rest ≡ [] → outcome_of input ≡ Some (run_of schema (lines_of text))
  outcome_whole rest input is none =
      outcome-read schema took.size took.taken second rest input is
      ∙ ap (λ l. Some (run_of schema (lines_of (text ++ l)))) none
      ∙ ap (λ l. Some (run_of schema (lines_of l))) (append-nil text)

  size_in : (rest input : List ℕ) → IsInParts schema took.size took.taken second rest input → rest ≡ [] → length second ≤ room → length input ≤ INPUT_LIMIT
  size_in rest input is none few = omega (arith, few, took.room, ap length is.parts, length-append both rest, length-append took.taken second, ap length none)

  lines_done : (whole : SeenAll) (kept : Commits [] whole.keeper.told whole.keeper.told_after) (refused : ℕ) (rest input : List ℕ) → IsInParts schema took.size took.taken second rest input → rest ≡ [] → length second ≤ room → IsAtEnd whole.source.left_after
      → Done (run_of schema (lines_of text)) whole.sink refused → DidLines (try_work input empty_content) true input refused whole
  lines_done whole kept refused rest input is none few end done =
      let outcome : outcome_of input ≡ Some (run_of schema (lines_of text)) = outcome_whole rest input is none in
      record {
        accepted = accepted rest input is;
        read = λ reads. record { within = size_in rest input is none few; end = end };
        count = done.count ∙ sym (ap (λ o. option_map_or (λ (outcome : Outcome). outcome.refused) o 0) outcome);
        wrote = subst (λ l. Appends whole.sink.taken whole.sink.taken_after (concat l)) (sym (ap (λ o. option_map_or (λ (outcome : Outcome). outcome.replies) o []) outcome)) done.bytes;
        kept = kept;
      }

  -- reading stopped behind the lines that ended, which are answered
  stopped_in : (whole : SeenAll) (kept : Commits [] whole.keeper.told whole.keeper.told_after) (done : ℕ) (rest input : List ℕ) → IsInParts schema took.size took.taken second rest input → done ≡ lf_count text
      → Answered (run_of schema (lines_of text)).replies done whole.sink → StoppedReading (try_work input empty_content) both done whole
  stopped_in whole kept done rest input is count answered = record {
    parts = done;
    parts_are = count ∙ sym (lines-read schema took.size took.taken second rest input is);
    count = refl;
    awaits = λ some. accepted rest input is;
    answered = subst (λ l. Answered l done whole.sink) (sym (replies-read schema took.size took.taken second rest input is)) (answered-all (new_ground (weigh_of schema.policy) schema) text rest done whole.sink count answered);
    kept = kept;
  }

  -- it broke off
  broke_in : (after : Option (List ℕ)) (lines : List (List ℕ)) (sink : SinkSeen) (off : BreakOff) (rest input : List ℕ) → IsInParts schema took.size took.taken second rest input → (IsAtEnd after → rest ≡ [])
      → (lines ≡ ended_lines text) ⊎ (IsAtEnd after × (lines ≡ lines_of text)) → BreaksOff (run_of schema lines).replies sink off → BreaksOff (replies_of input) sink off
  broke_in after lines sink off rest input is none are broke =
      subst (λ l. BreaksOff l sink off) (sym (replies-read schema took.size took.taken second rest input is))
      (breaks_off-first (new_ground (weigh_of schema.policy) schema) lines (lines_of (text ++ rest)) (first-came text rest after lines none are) sink off broke)

  -- no piece was taken behind that in which its line ends
  near_in : (n : ℕ) (rest input : List ℕ) → IsInParts schema took.size took.taken second rest input → (second ≡ []) ⊎ EndsInLast (drop took.size took.taken) second n → length both ≤ script_line_end input n + PIECE_LIMIT
  near_in n rest input is (inl none) =
      let last = took.last in
      omega (arith, length-append took.taken second, ap length none, ap length last.split, length-append last.before last.last, last.piece, last.behind, end-read schema took.size took.taken second rest input is n)
  near_in n rest input is (inr near) =
      let held = drop took.size took.taken in
      let parts : text ++ rest ≡ (held ++ near.before) ++ (near.last ++ rest) =
      append_assoc held second rest ∙ ap (λ l. held ++ (l ++ rest)) near.split ∙ ap (λ l. held ++ l) (append_assoc near.before near.last rest) ∙ sym (append_assoc held near.before (near.last ++ rest)) in
      let reach : length (held ++ near.before) ≤ line_end ((held ++ near.before) ++ (near.last ++ rest)) n = line_end-behind (held ++ near.before) (near.last ++ rest) n near.behind in
      let size : length held ≡ length took.taken - took.size = length-drop took.size took.taken in
      let within = took.within in
      omega (
        arith,
        reach,
        size,
        within,
        near.piece,
        ap (λ l. line_end l n) parts,
        length-append held near.before,
        length-append took.taken second,
        ap length near.split,
        length-append near.before near.last,
        end-read schema took.size took.taken second rest input is n,
      )

  -- by the source as it is seen from the first byte on
  module _ (whole : SeenAll) (kept : Commits [] whole.keeper.told whole.keeper.told_after) (same_left : whole.source.left ≡ source.left) (two : Consumes source.left_after whole.source.left_after second) where
    abbrev after : Option (List ℕ)
    after = whole.source.left_after

    bytes_both : Consumes whole.source.left after both
    bytes_both = subst (λ left. Consumes left after both) (sym same_left) (Consumes-trans source.left source.left_after after took.taken second took.bytes two)

    few_both : length second ≤ room → TakesAtMost INPUT_LIMIT whole.source.left after
    few_both few = record { input = both; bytes = bytes_both; few = omega (arith, few, took.room, length-append took.taken second) }

    of_parts : (P : List ℕ → Type 0) → ((rest input : List ℕ) → (IsAtEnd after → rest ≡ []) → IsInParts schema took.size took.taken second rest input → P input) → IfSome whole.source.left P
    of_parts P says =
        subst (λ left. IfSome left P) (sym same_left)
        (in_parts source after schema took.size took.taken second P took.is took.within took.bytes two (λ rest input is_rest is. says rest input (λ end. rw is_rest at end) is))

    told_done : (refused : ℕ) → IsAtEnd after → length second ≤ room → Done (run_of schema (lines_of text)) whole.sink refused → IfSome whole.source.left (λ input. DidLines (try_work input empty_content) true input refused whole)
    told_done refused end few done =
        of_parts (λ input. DidLines (try_work input empty_content) true input refused whole) (λ rest input none is. lines_done whole kept refused rest input is (none end) few end done)

    told_failed : (done : ℕ) → done ≡ lf_count text → Answered (run_of schema (lines_of text)).replies done whole.sink → IfSome whole.source.left (λ input. Took whole.source (λ taken. StoppedReading (try_work input empty_content) taken done whole))
    told_failed done count answered =
        of_parts (λ input. Took whole.source (λ taken. StoppedReading (try_work input empty_content) taken done whole))
        (λ rest input none is. record { taken = both; bytes = bytes_both; says = stopped_in whole kept done rest input is count answered })

    module _ (lines : List (List ℕ)) (are : (lines ≡ ended_lines text) ⊎ (IsAtEnd after × (lines ≡ lines_of text))) where
      told_write : (line : ℕ) → BreaksOff (run_of schema lines).replies whole.sink (break_off.Write line) → IsNear (drop took.size took.taken) second (break_off.Write line)
          → IfSome whole.source.left (λ input. BrokeOff (try_work input empty_content) line whole)
      told_write line broke near =
          of_parts (λ input. BrokeOff (try_work input empty_content) line whole)
          (λ rest input none is. record {
            parts = line;
            line = line;
            parts_are = refl;
            count = refl;
            wrote = (broke_in after lines whole.sink (break_off.Write line) rest input is none are broke).1;
            kept = kept;
            near = record { input = both; bytes = bytes_both; few = near_in line rest input is near };
          })

      told_sink : (line : ℕ) → BreaksOff (run_of schema lines).replies whole.sink (break_off.SinkMemory line) → IfSome whole.source.left (λ input. WantedMemory (try_work input empty_content) line whole)
      told_sink line broke =
          of_parts (λ input. WantedMemory (try_work input empty_content) line whole)
          (λ rest input none is. record {
            parts = line;
            count = refl;
            wrote = wrote-weaker whole.sink.taken whole.sink.taken_after (Broken (replies_of input) line) (Stopped (replies_of input) line) (λ bytes b. b.stopped)
                (broke_in after lines whole.sink (break_off.SinkMemory line) rest input is none are broke).1;
            kept = kept;
          })

      told_memory : (done : ℕ) → BreaksOff (run_of schema lines).replies whole.sink (break_off.Memory done) → IfSome whole.source.left (λ input. WantedMemory (try_work input empty_content) done whole)
      told_memory done broke =
          of_parts (λ input. WantedMemory (try_work input empty_content) done whole)
          (λ rest input none is. record {
            parts = done;
            count = refl;
            wrote = wrote-weaker whole.sink.taken whole.sink.taken_after (Gathered (replies_of input) done) (Stopped (replies_of input) done) (stopped_gathered (replies_of input) done)
                (broke_in after lines whole.sink (break_off.Memory done) rest input is none are broke).1;
            kept = kept;
          })

  -- or the byte came that is one too many
  module _ (whole : SeenAll) (kept : Commits [] whole.keeper.told whole.keeper.told_after) (same_left : whole.source.left ≡ source.left) (byte : ℕ) (two : Consumes source.left_after whole.source.left_after (second ++ byte ∷ [])) (all : length second ≡ room) where
    goes_on : GoesOn INPUT_LIMIT whole.source.left whole.source.left_after
    goes_on = record {
      input = took.taken ++ (second ++ byte ∷ []);
      bytes = subst (λ left. Consumes left whole.source.left_after (took.taken ++ (second ++ byte ∷ []))) (sym same_left)
          (Consumes-trans source.left source.left_after whole.source.left_after took.taken (second ++ byte ∷ []) took.bytes two);
      above = omega (arith, all, took.room, length-append took.taken (second ++ byte ∷ []), length-append second (byte ∷ []));
    }

    before_byte : (rest input : List ℕ) → IsInParts schema took.size took.taken (second ++ byte ∷ []) rest input → IsInParts schema took.size took.taken second (byte ∷ rest) input
    before_byte rest input is = record {
      parts = is.parts ∙ ap (λ l. l ++ rest) (sym (append_assoc took.taken second (byte ∷ []))) ∙ append_assoc both (byte ∷ []) rest;
      schema_is = is.schema_is;
      within = is.within;
    }

    long_in : (limit : ℕ) (done : ℕ) (rest input : List ℕ) → length both ≡ limit → IsInParts schema took.size took.taken (second ++ byte ∷ []) rest input → done ≡ lf_count text
        → Answered (run_of schema (lines_of text)).replies done whole.sink → StoppedReading (try_work input empty_content) (take limit input) done whole
    long_in limit done rest input size is count answered =
        let here = before_byte rest input is in
        subst (λ bytes. StoppedReading (try_work input empty_content) bytes done whole) (sym (first_part limit both (byte ∷ rest) input size here.parts)) (stopped_in whole kept done (byte ∷ rest) input here count answered)

    told_long : (limit : ℕ) (done : ℕ) → limit ≡ INPUT_LIMIT → done ≡ lf_count text → Answered (run_of schema (lines_of text)).replies done whole.sink
        → IfSome whole.source.left (λ input. StoppedReading (try_work input empty_content) (take limit input) done whole)
    told_long limit done is_limit count answered =
        let size : length both ≡ limit = omega (arith, all, took.room, length-append took.taken second, is_limit) in
        subst (λ left. IfSome left (λ input. StoppedReading (try_work input empty_content) (take limit input) done whole)) (sym same_left)
        (in_parts source whole.source.left_after schema took.size took.taken (second ++ byte ∷ []) _ took.is took.within took.bytes two (λ rest input is_rest is. long_in limit done rest input size is count answered))

-- the ends of a run that keeps nothing
module _ (source : SourceSeen) (room : ℕ) (held : List (List ℕ)) (schema : SchemaValue) (took : TookSchema source room held schema) (same : source.faults_after ≡ source.faults) (whole : SeenAll) (uncalled : WasNotCalled whole.keeper)
    (left_is : whole.source.left ≡ source.left) (faults_are : whole.source.faults ≡ source.faults) where
  abbrev second_part : SourceSeen
  second_part = record { left = source.left_after; left_after = whole.source.left_after; faults = source.faults_after; faults_after = whole.source.faults_after }

  abbrev ground : Ground
  ground = new_ground (weigh_of schema.policy) schema

  kept : Commits [] whole.keeper.told whole.keeper.told_after
  kept = unkept whole.keeper uncalled.kept

  read : whole.source.faults_after ≡ source.faults_after → whole.source.faults_after ≡ whole.source.faults
  read none = none ∙ same ∙ sym faults_are

  no_fault : whole.source.faults_after ≡ source.faults_after → whole.sink.faults_after ≡ whole.sink.faults → NoFault whole
  no_fault none write = record { read = read none; write = write; keep = uncalled.count }

  abbrev Ends : Result ℕ StreamStop → Type 0
  Ends result = EndsStream ground (drop took.size took.taken) room (record { source = second_part; sink = whole.sink; keeper = whole.keeper }) result

  says_end : (end : End) → IsAmong (ends_of (Some Try)) end → Faults whole end → Takes whole.source end → Leaves whole end → ((content : Stored) → FitsAt (Fits (Some Try)) whole end content)
      → IfSome whole.source.left (λ input. MeansByLines (try_work input empty_content) true input whole end) → SaysOf (Some Try) whole end
  says_end end may faults takes leaves here told = record {
    may = may;
    faults = faults;
    takes = takes;
    leaves = leaves;
    unread = λ is. absurd (cc is);
    unkept = λ is. uncalled.kept;
    counts = tt;
    fits = of_any whole.keeper.told.content _ here;
    means = told;
  }

  by_off : (off : BreakOff) → whole.source.faults_after ≡ source.faults_after → StreamBroke ground (drop took.size took.taken) room (record { source = second_part; sink = whole.sink; keeper = whole.keeper }) off → is_keep off ≡ false
      → SaysOf (Some Try) whole (end_of_break_off off)
  by_off (break_off.Write line) none broke no_keep =
      says_end (WriteFault line) refl (record { cause = broke.broke.0; read = read none; keep = uncalled.count }) (few_both source room held schema took broke.taken whole kept left_is broke.bytes broke.few) tt (λ content. tt)
      (told_write source room held schema took broke.taken whole kept left_is broke.bytes broke.lines broke.lines_are line broke.broke broke.near)
  by_off (break_off.SinkMemory line) none broke no_keep =
      says_end (Memory line) refl (no_fault none broke.broke.0) (few_both source room held schema took broke.taken whole kept left_is broke.bytes broke.few) tt (λ content. inr tt)
      (told-weaker whole.source.left _ _ (λ input wanted. inr wanted) (told_sink source room held schema took broke.taken whole kept left_is broke.bytes broke.lines broke.lines_are line broke.broke))
  by_off (break_off.Memory done) none broke no_keep =
      says_end (Memory done) refl (no_fault none broke.broke.0) (few_both source room held schema took broke.taken whole kept left_is broke.bytes broke.few) tt (λ content. inr tt)
      (told-weaker whole.source.left _ _ (λ input wanted. inr wanted) (told_memory source room held schema took broke.taken whole kept left_is broke.bytes broke.lines broke.lines_are done broke.broke))
  by_off (break_off.Keep done) none broke no_keep = absurd (cc no_keep)

  by_end : (result : Result ℕ StreamStop) → Ends result → IfErr result (λ stop. is_keep_stop stop ≡ false) → SaysOf (Some Try) whole (end_of_run result)
  by_end (Ok refused) ends no_keep =
      let all = ends.1 in
      says_end (Finished refused) refl (no_fault ends.0 all.done.no_fault) (few_both source room held schema took all.taken whole kept left_is all.bytes all.few) tt (λ content. tt)
      (told_done source room held schema took all.taken whole kept left_is all.bytes refused all.end all.few all.done)
  by_end (Err (stop.Broke off)) ends no_keep = by_off off ends.0 ends.1 no_keep
  by_end (Err (stop.Read done)) ends no_keep =
      let failed = ends.1 in
      says_end (ReadFault done) refl (record { cause = rw (faults_are, sym same) ends.0; write = failed.answered.write; keep = uncalled.count })
      (few_both source room held schema took failed.taken whole kept left_is failed.bytes failed.few) tt (λ content. tt)
      (told_failed source room held schema took failed.taken whole kept left_is failed.bytes done failed.answered.count failed.answered.answered)
  by_end (Err (stop.TooLong done)) ends no_keep =
      let long = ends.1 in
      says_end (TooLong done) refl (no_fault ends.0 long.answered.write) (goes_on source room held schema took long.taken whole kept left_is long.byte long.bytes long.all) tt (λ content. tt)
      (told_long source room held schema took long.taken whole kept left_is long.byte long.bytes long.all INPUT_LIMIT done refl long.answered.count long.answered.answered)

  pub says_script : (result : Result ℕ StreamStop) → EndsUnkept (weigh_of schema.policy) schema (drop took.size took.taken) room second_part whole.sink result → IfErr result (λ stop. is_keep_stop stop ≡ false)
      → SaysOf (Some Try) whole (end_of_run result)
  says_script result ends no_keep = by_end result (ends whole.keeper) no_keep

-- what is held and what may still be taken are few
pub room_behind : (source : SourceSeen) (room : ℕ) (held : List (List ℕ)) (schema : SchemaValue) → TookSchema source room held schema → length held + room < 2 ^ 61
room_behind source room held schema took =
    let text = drop took.size took.taken in
    let size : length held ≡ length (pieces_of text) = ap length took.held in
    let pieces : length (pieces_of text) ≡ lf_count text + 1 = length-map (slice_split is_lf text) front ∙ length-slice_split is_lf text in
    omega (arith, size, pieces, count_by-le-length is_lf text, length-drop took.size took.taken, took.room)
