-- What the ends of `lead` say, where a script is done as it comes over the content of a store and told as a feed.
use Rattle.std.proofs.Common.{◌≡◌, ℕ, zero, suc, ◌+◌, ◌-◌, ◌≤◌, List, [], ◌∷◌, ◌++◌, length, take, drop, true, refl, sym, ap, ◌∙◌, subst, append_assoc, inr, arith, length-append, Some, Result, Ok, Err}
use Rattle.std.specs.Prelude.{◌⊎◌, IfSome}
use Rattle.std.specs.List.{concat}
use Rattle.std.specs.Option.{option_map_or}
use Rattle.std.specs.Result.{result_ok}
use Rattle.std.specs.Io.KnownBytes.{Appends, Consumes}
use Rattle.std.proofs.lemmas.List.{take-append-drop, take-append-le}
use Rattle.cube_model.specs.declared.statistic.CellStat.{CellStat}
use Rattle.fact_keeper.specs.declared.content.Stored.{Stored}
use Rattle.schema_text.specs.Schema.{SchemaValue, weigh_of}
use Rattle.text_lines.specs.Text.{lines_of}
use Rattle.text_lines.specs.Input.{GoesOn, INPUT_LIMIT, TakesAtMost}
use Rattle.text_lines.specs.Pieces.{ended_lines, lf_count, line_end}
use Rattle.text_lines.specs.Reading.{PIECE_LIMIT}
use Rattle.text_lines.proofs.Ended.{ended_lines-length}
use Rattle.script_run.specs.declared.break_off.BreakOff.{BreakOff}
use Rattle.script_run.specs.declared.break_off.BreakOff.TheVariants as break_off
use Rattle.script_run.specs.declared.streaming.StreamStop.{StreamStop}
use Rattle.script_run.specs.declared.streaming.StreamStop.TheVariants as stream_stop
use Rattle.script_run.specs.Kept.{Commits, KeptAt, batches_at}
use Rattle.script_run.specs.Progress.{BreaksOff}
use Rattle.script_run.specs.Run.{State, step}
use Rattle.script_run.specs.Seen.{NoReadFault, SeenAll, SinkSeen, Wrote}
use Rattle.script_run.specs.Stream.{CountsStream, EndsInLast, Ground}
use Rattle.script_run.specs.Written.{Answered, Broken, Gathered, Stopped}
use Rattle.script_run.proofs.Texts.{stopped_gathered}
use Rattle.script_run.proofs.Writing.{answered-more, breaks_off-more, wrote-weaker}
use Rattle.feed_run.specs.Leading.{EndsLead, LeadBroke, Leader, LedTaken, LedTooMuch, base_text, batches_by, feed_from, in_parts, leading_texts, text_at, texts_of}
use Rattle.cube_cli.specs.declared.command.Command.TheVariants.{Store}
use Rattle.cube_cli.specs.declared.command.StoreCommand.TheVariants.{Input}
use Rattle.cube_cli.specs.declared.end.End.{End}
use Rattle.cube_cli.specs.declared.end.End.TheVariants.{Finished, KeepFault, Memory, ReadFault, TooLong, WriteFault}
use Rattle.cube_cli.specs.declared.store.InputTask.TheVariants.{Lead}
use Rattle.cube_cli.specs.Doing.{ends_of, lead_work, leading_over}
use Rattle.cube_cli.specs.End.{BrokeOff, DidLines, Faults, FitsAt, Leaves, MeansByLines, SaysOf, StoppedAtEdit, StoppedReading, Takes, WantedMemory}
use Rattle.cube_cli.specs.Kinds.{IsAmong}
use Rattle.cube_cli.specs.RunEnd.{end_of_break_off, end_of_run}
use Rattle.cube_cli.specs.SchemaAlone.{schema_alone}
use Rattle.cube_cli.specs.Seen.{Holds, Took}
use Rattle.cube_cli.specs.Store.{IsSoundContent, IsSoundOver, batches_over, state_over}
use Rattle.cube_cli.proofs.Auditing.{sound_content}
use Rattle.cube_cli.proofs.Coming.{AreFirst, first-came, first-ended, first_lines, first_part, kept_at-first, near_line, of_front}
use Rattle.cube_cli.proofs.Known.{of_given, of_input, told-weaker}
use Rattle.cube_cli.proofs.Running.{IsOver, batches-over, count-over}

-- the texts of lines, and of others behind them
feed_from-append : (weigh : CellStat → ℕ) (schema : SchemaValue) (state : State) (before : ℕ) (lines more : List (List ℕ))
    → AreFirst (feed_from weigh schema state before lines) (feed_from weigh schema state before (lines ++ more))
feed_from-append weigh schema state before [] more = record { later = feed_from weigh schema state before more; all_are = refl }
feed_from-append weigh schema state before (line ∷ lines) more =
    let rest = feed_from-append weigh schema (step weigh schema state line).state (before + length (batches_at weigh schema state line)) lines more in
    record { later = rest.later; all_are = ap (λ texts. text_at weigh schema state before line ∷ texts) rest.all_are }

length-feed : (weigh : CellStat → ℕ) (schema : SchemaValue) (state : State) (before : ℕ) (lines : List (List ℕ)) → length (feed_from weigh schema state before lines) ≡ length lines
length-feed weigh schema state before [] = refl
length-feed weigh schema state before (line ∷ lines) =
    omega (arith, length-feed weigh schema (step weigh schema state line).state (before + length (batches_at weigh schema state line)) lines)

-- What a leader does over a content is told by its schema and its facts.
abbrev pub ground_of : Leader → Ground
ground_of leader = record { weigh = leader.weigh; schema = leader.schema; first = leader.first; keeps = true }

module _ (leader : Leader) where
  texts-first : (lines all : List (List ℕ)) → AreFirst lines all → AreFirst (texts_of leader lines) (texts_of leader all)
  texts-first lines all first =
      let rest = feed_from-append leader.weigh leader.schema leader.first 0 lines first.later in
      record { later = rest.later; all_are = ap (texts_of leader) first.all_are ∙ ap (λ texts. base_text leader.schema leader.first ∷ texts) rest.all_are }

  length-texts : (lines : List (List ℕ)) → length (texts_of leader lines) ≡ length lines + 1
  length-texts lines = omega (arith, length-feed leader.weigh leader.schema leader.first 0 lines)

  -- where a run breaks off among the texts of the first lines, it does among those of all
  breaks_off-among : (lines all : List (List ℕ)) → AreFirst lines all → (sink : SinkSeen) (off : BreakOff) → BreaksOff (texts_of leader lines) sink off → BreaksOff (texts_of leader all) sink off
  breaks_off-among lines all first sink off here =
      let texts = texts-first lines all first in
      subst (λ ts. BreaksOff ts sink off) (sym texts.all_are) (breaks_off-more (texts_of leader lines) texts.later sink off here)

  -- the base and the texts of the lines that ended are the first of all
  answered-ended : (taken after : List ℕ) (done : ℕ) (sink : SinkSeen) → done ≡ lf_count taken → Answered (texts_of leader (lines_of taken)) (done + 1) sink → Answered (texts_of leader (lines_of (taken ++ after))) (done + 1) sink
  answered-ended taken after done sink count answered =
      let ended = ended_lines taken in
      let whole = texts-first ended (lines_of taken) (record { later = drop (lf_count taken) (lines_of taken); all_are = sym (take-append-drop (lf_count taken) (lines_of taken)) }) in
      let among : done + 1 ≤ length (texts_of leader ended) = omega (arith, count, length-texts ended, ended_lines-length taken) in
      let fewer : take (done + 1) (texts_of leader (lines_of taken)) ≡ take (done + 1) (texts_of leader ended) =
      ap (take (done + 1)) whole.all_are ∙ take-append-le (done + 1) (texts_of leader ended) whole.later among in
      let all = texts-first ended (lines_of (taken ++ after)) (first-ended taken after) in
      subst (λ ts. Answered ts (done + 1) sink) (sym all.all_are)
      (answered-more (texts_of leader ended) all.later (done + 1) sink (record { among = among; bytes = subst (λ ts. Appends sink.taken sink.taken_after (concat ts)) fewer answered.bytes }))

module _ (content : Stored) (leader : Leader) (over : IsOver content (ground_of leader)) where
  texts-over : (lines : List (List ℕ)) → leading_over content lines ≡ texts_of leader lines
  texts-over lines =
      ap (λ r. option_map_or (λ (schema : SchemaValue). leading_texts (weigh_of schema.policy) schema (state_over schema content) lines) (result_ok r) []) over.schema_is
      ∙ ap (λ w. leading_texts w leader.schema (state_over leader.schema content) lines) (sym over.weighs)
      ∙ ap (λ s. leading_texts leader.weigh leader.schema s lines) (sym over.first_is)

  kept-over : (lines : List (List ℕ)) → batches_over content lines ≡ batches_by leader lines
  kept-over lines = batches-over content (ground_of leader) over lines

  module _ (seen : SeenAll) where
    -- what the first lines commit is kept
    kept-first : (input : List ℕ) (done : ℕ) → Commits (batches_by leader (take done (lines_of input))) seen.keeper.told seen.keeper.told_after → Commits ((lead_work input content).kept (done + 1)) seen.keeper.told seen.keeper.told_after
    kept-first input done commits =
        let lines : take (done + 1 - 1) (lines_of input) ≡ take done (lines_of input) = ap (λ n. take n (lines_of input)) (omega arith) in
        subst (λ bs. Commits bs seen.keeper.told seen.keeper.told_after) (sym (ap (batches_over content) lines ∙ kept-over (take done (lines_of input)))) commits

    -- behind the lines that end in what was taken
    behind : (taken after : List ℕ) (done : ℕ) → LedTaken leader taken seen done → StoppedReading (lead_work (taken ++ after) content) taken done seen
    behind taken after done led = record {
      parts = done + 1;
      parts_are = ap (λ n. n + 1) led.count;
      count = omega arith;
      awaits = λ has. refl;
      answered = subst (λ texts. Answered texts (done + 1) seen.sink) (sym (texts-over (lines_of (taken ++ after)))) (answered-ended leader taken after done seen.sink led.count led.answered);
      kept = kept-first (taken ++ after) done (subst (λ lines. Commits (batches_by leader lines) seen.keeper.told seen.keeper.told_after) (sym (first_lines taken after done led.count)) led.kept);
    }

    to_line : (taken after : List ℕ) (n : ℕ) → Consumes seen.source.left seen.source.left_after taken → (taken ≡ []) ⊎ EndsInLast [] taken n
        → TakesAtMost (line_end (taken ++ after) n + PIECE_LIMIT) seen.source.left seen.source.left_after
    to_line taken after n bytes near = record { input = taken; bytes = bytes; few = near_line taken after n near }

    module _ (off : BreakOff) (broke : LeadBroke leader seen off) where
      -- among the lines that came, and so among those of the whole input
      in_whole : (P : List ℕ → Type 0)
          → ((after : List ℕ) → BreaksOff (leading_over content (lines_of (broke.taken ++ after))) seen.sink (in_parts off)
          → KeptAt leader.weigh leader.schema leader.first (lines_of (broke.taken ++ after)) seen.keeper.told seen.keeper.told_after off → P (broke.taken ++ after))
          → IfSome seen.source.left P
      in_whole P each = of_front seen.source.left seen.source.left_after broke.taken P broke.bytes
          (λ after is.
          let first = first-came broke.taken after seen.source.left_after broke.lines (λ end. rw is at end) broke.lines_are in
          let all = lines_of (broke.taken ++ after) in
          each after (subst (λ texts. BreaksOff texts seen.sink (in_parts off)) (sym (texts-over all)) (breaks_off-among leader broke.lines all first seen.sink (in_parts off) broke.broke))
          (kept_at-first (ground_of leader) broke.lines all first seen.keeper.told seen.keeper.told_after off broke.kept))

      took_few : TakesAtMost INPUT_LIMIT seen.source.left seen.source.left_after
      took_few = record { input = broke.taken; bytes = broke.bytes; few = broke.few }

    told_write : (line : ℕ) → LeadBroke leader seen (break_off.Write line) → IfSome seen.source.left (λ input. BrokeOff (lead_work input content) line seen)
    told_write line broke =
        in_whole (break_off.Write line) broke (λ input. BrokeOff (lead_work input content) line seen)
        (λ after off kept. record {
          parts = line + 1;
          line = line;
          parts_are = refl;
          count = omega arith;
          wrote = off.1;
          kept = kept-first (broke.taken ++ after) line kept.commits;
          near = to_line broke.taken after line broke.bytes broke.near;
        })

    told_keep : (done : ℕ) → LeadBroke leader seen (break_off.Keep done) → IfSome seen.source.left (λ input. StoppedAtEdit (lead_work input content) done seen)
    told_keep done broke =
        in_whole (break_off.Keep done) broke (λ input. StoppedAtEdit (lead_work input content) done seen)
        (λ after off kept.
        let lines = lines_of (broke.taken ++ after) in
        let later : (lead_work (broke.taken ++ after) content).kept (done + 1 + 1) ≡ batches_by leader (take (done + 1) lines) = ap (λ n. batches_over content (take n lines)) (omega arith) ∙ kept-over (take (done + 1) lines) in
        let before : (lead_work (broke.taken ++ after) content).kept (done + 1) ≡ batches_by leader (take done lines) = ap (λ n. batches_over content (take n lines)) (omega arith) ∙ kept-over (take done lines) in
        record {
          parts = done + 1;
          line = done + 1;
          parts_are = refl;
          count = omega arith;
          answered = off.1;
          kept = kept-first (broke.taken ++ after) done kept.commits;
          next = ap length later ∙ kept.next ∙ ap (λ bs. length bs + 1) (sym before);
          near = to_line broke.taken after (done + 1) broke.bytes broke.near;
        })

    wanted : (input : List ℕ) (done : ℕ) (P : List ℕ → Type 0) → Wrote seen.sink.taken seen.sink.taken_after P → ((bytes : List ℕ) → P bytes → Stopped (leading_over content (lines_of input)) (done + 1) bytes)
        → Commits (batches_by leader (take done (lines_of input))) seen.keeper.told seen.keeper.told_after → WantedMemory (lead_work input content) done seen
    wanted input done P written weaker commits = record {
      parts = done + 1;
      count = omega arith;
      wrote = wrote-weaker seen.sink.taken seen.sink.taken_after P (Stopped (leading_over content (lines_of input)) (done + 1)) weaker written;
      kept = kept-first input done commits;
    }

    told_sink : (line : ℕ) → LeadBroke leader seen (break_off.SinkMemory line) → IfSome seen.source.left (λ input. WantedMemory (lead_work input content) line seen)
    told_sink line broke =
        in_whole (break_off.SinkMemory line) broke (λ input. WantedMemory (lead_work input content) line seen)
        (λ after off kept. wanted (broke.taken ++ after) line (Broken (leading_over content (lines_of (broke.taken ++ after))) (line + 1)) off.1 (λ bytes b. b.stopped) kept.commits)

    told_memory : (done : ℕ) → LeadBroke leader seen (break_off.Memory done) → IfSome seen.source.left (λ input. WantedMemory (lead_work input content) done seen)
    told_memory done broke =
        in_whole (break_off.Memory done) broke (λ input. WantedMemory (lead_work input content) done seen)
        (λ after off kept.
        let texts = leading_over content (lines_of (broke.taken ++ after)) in
        wanted (broke.taken ++ after) done (Gathered texts (done + 1)) off.1 (stopped_gathered texts (done + 1)) kept.commits)

    goes_on : (done : ℕ) → LedTooMuch leader seen done → GoesOn INPUT_LIMIT seen.source.left seen.source.left_after
    goes_on done much = record { input = much.taken ++ much.byte ∷ []; bytes = much.bytes; above = length-append much.taken (much.byte ∷ []) ∙ ap (λ n. n + 1) much.all }

    told_long : (done : ℕ) → LedTooMuch leader seen done → IfSome seen.source.left (λ input. StoppedReading (lead_work input content) (take INPUT_LIMIT input) done seen)
    told_long done much =
        of_front seen.source.left seen.source.left_after (much.taken ++ much.byte ∷ []) (λ input. StoppedReading (lead_work input content) (take INPUT_LIMIT input) done seen) much.bytes
        (λ after is.
        let first : take INPUT_LIMIT (much.taken ++ (much.byte ∷ after)) ≡ much.taken = first_part INPUT_LIMIT much.taken (much.byte ∷ after) (much.taken ++ (much.byte ∷ after)) much.all refl in
        subst (λ input. StoppedReading (lead_work input content) (take INPUT_LIMIT input) done seen) (sym (append_assoc much.taken (much.byte ∷ []) after))
        (subst (λ front. StoppedReading (lead_work (much.taken ++ (much.byte ∷ after)) content) front done seen) (sym first) (behind much.taken (much.byte ∷ after) done much.led)))

    told_failed : (taken : List ℕ) (done : ℕ) → Consumes seen.source.left seen.source.left_after taken → LedTaken leader taken seen done
        → IfSome seen.source.left (λ input. Took seen.source (λ taken. StoppedReading (lead_work input content) taken done seen))
    told_failed taken done bytes led =
        of_front seen.source.left seen.source.left_after taken (λ input. Took seen.source (λ taken. StoppedReading (lead_work input content) taken done seen)) bytes
        (λ after is. record { taken = taken; bytes = bytes; says = behind taken after done led })

    -- the keeper tells this content, which is sound
    module _ (given : Holds seen.keeper (λ kept. content ≡ kept)) (sound : IsSoundOver leader.schema content) where
      is_sound : IsSoundContent content
      is_sound = sound_content content leader.schema over.schema_is sound

      says_end : (end : End) → IsAmong (ends_of (Some (Store (Input Lead)))) end → Faults seen end → Takes seen.source end → Leaves seen end → FitsAt IsSoundContent seen end content
          → IfSome seen.source.left (λ input. MeansByLines (lead_work input content) true input seen end) → SaysOf (Some (Store (Input Lead))) seen end
      says_end end may faults takes leaves here told = record {
        may = may;
        faults = faults;
        takes = takes;
        leaves = leaves;
        unread = λ is. absurd (cc is);
        unkept = λ is. absurd (cc is);
        counts = tt;
        fits = of_given seen.keeper.told.content content (FitsAt IsSoundContent seen end) given here;
        means = of_given seen.keeper.told.content content (λ content. IfSome seen.source.left (λ input. MeansByLines (lead_work input content) true input seen end)) given told;
      }

      says_broke : (off : BreakOff) → NoReadFault seen.source → LeadBroke leader seen off → CountsStream seen.keeper (Err (stream_stop.Broke off)) → SaysOf (Some (Store (Input Lead))) seen (end_of_break_off off)
      says_broke (break_off.Write line) read broke count =
          says_end (WriteFault line) refl (record { cause = broke.broke.0; read = read; keep = count.1 refl }) (took_few (break_off.Write line) broke) tt is_sound (told_write line broke)
      says_broke (break_off.SinkMemory line) read broke count =
          says_end (Memory line) refl (record { read = read; write = broke.broke.0; keep = count.1 refl }) (took_few (break_off.SinkMemory line) broke) tt (inr is_sound)
          (told-weaker seen.source.left _ _ (λ input here. inr here) (told_sink line broke))
      says_broke (break_off.Memory done) read broke count =
          says_end (Memory done) refl (record { read = read; write = broke.broke.0; keep = count.1 refl }) (took_few (break_off.Memory done) broke) tt (inr is_sound)
          (told-weaker seen.source.left _ _ (λ input here. inr here) (told_memory done broke))
      says_broke (break_off.Keep done) read broke count =
          says_end (KeepFault done) refl (record { cause = count.0 refl; read = read; write = broke.broke.0 }) (took_few (break_off.Keep done) broke) tt (inr is_sound)
          (told-weaker seen.source.left _ _ (λ input here. inr here) (told_keep done broke))

      pub says_led : (result : Result ℕ StreamStop) → EndsLead leader seen result → SaysOf (Some (Store (Input Lead))) seen (end_of_run result)
      says_led (Ok refused) ends =
          let all = ends.leads.1 in
          says_end (Finished refused) refl (record { read = ends.leads.0; write = all.write; keep = ends.keep }) (record { input = all.taken; bytes = all.bytes; few = all.few }) tt is_sound
          (of_input true seen.source all.taken (λ input. DidLines (lead_work input content) true input refused seen) (record { bytes = all.bytes; end = all.end; within = all.few })
          (record {
            accepted = refl;
            read = λ is. record { within = all.few; end = all.end };
            count = all.count ∙ sym (count-over content (ground_of leader) over (lines_of all.taken));
            wrote = subst (λ texts. Appends seen.sink.taken seen.sink.taken_after (concat texts)) (sym (texts-over (lines_of all.taken))) all.wrote;
            kept = subst (λ bs. Commits bs seen.keeper.told seen.keeper.told_after) (sym (kept-over (lines_of all.taken))) all.kept;
          }))
      says_led (Err (stream_stop.Broke off)) ends = says_broke off ends.leads.0 ends.leads.1 ends.keep
      says_led (Err (stream_stop.Read done)) ends =
          let failed = ends.leads.1 in
          says_end (ReadFault done) refl (record { cause = ends.leads.0; write = failed.led.write; keep = ends.keep.1 refl }) (record { input = failed.taken; bytes = failed.bytes; few = failed.few }) tt is_sound
          (told_failed failed.taken done failed.bytes failed.led)
      says_led (Err (stream_stop.TooLong done)) ends =
          let much = ends.leads.1 in
          says_end (TooLong done) refl (record { read = ends.leads.0; write = much.led.write; keep = ends.keep.1 refl }) (goes_on done much) tt is_sound (told_long done much)
