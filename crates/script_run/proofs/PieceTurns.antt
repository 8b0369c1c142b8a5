-- Where a run goes on with the next piece, and where it stops.
use Rattle.std.proofs.Common.{◌≡◌, ℕ, ◌+◌, ◌<◌, ◌≤◌, Bool, true, false, if◌then◌else◌, Ok, Err, List, [], ◌∷◌, ◌++◌, length, map, drop, refl, sym, ap, ◌∙◌, subst, append-nil, append_assoc, inl, inr, arith, length-append}
use Rattle.std.specs.Prelude.{◌⊎◌}
use Rattle.std.specs.List.{concat}
use Rattle.std.specs.Io.KnownBytes.{Appends, Consumes, IsAtEnd}
use Rattle.std.proofs.KnownBytes.{Consumes-kept, Consumes-nil, Consumes-trans}
use Rattle.std.proofs.lemmas.List.{length-map, take_all}
use Rattle.cube_base.specs.Outside.{Rose}
use Rattle.cube_model.specs.declared.statistic.CellStat.{CellStat}
use Rattle.text_lines.specs.Text.{lines_of}
use Rattle.text_lines.specs.declared.input.InputStop.{InputStop}
use Rattle.text_lines.specs.declared.input.InputStop.TheVariants as input_stop
use Rattle.text_lines.specs.Pieces.{ended_lines, front, last_line, lf_count, pieces_of, rest_of, whole_lines}
use Rattle.text_lines.specs.Reading.{Feeds, Reading, StopsFeeding}
use Rattle.text_lines.proofs.Ended.{lines_of-ended, lines_of-last, rest_of-more, whole_lines-ended, whole_lines-length, whole_lines-more}
use Rattle.script_run.specs.declared.break_off.BreakOff.{BreakOff}
use Rattle.script_run.specs.declared.break_off.BreakOff.TheVariants.{Write, SinkMemory, Memory, Keep}
use Rattle.script_run.specs.declared.streaming.StreamStop.TheVariants.{Broke}
use Rattle.script_run.specs.Kept.{Commits, HasKept, IsBehind, KeptAt, batches}
use Rattle.script_run.specs.Progress.{BreaksOff, Done, HasDone, HasGathered, Working}
use Rattle.script_run.specs.Run.{run}
use Rattle.script_run.specs.Seen.{SinkSeen, Told}
use Rattle.script_run.specs.Stream.{AnsweredTaken, DoesLines, EndsInLast, EndsStream, Ground, IsNear, StreamBroke, batches_on, is_keep_stop, outcome_on, stop_of}
use Rattle.script_run.specs.StreamTurn.{DoesPiece, EndsLines, Outside, Streaming, seen_from, turns_left}
use Rattle.script_run.specs.Written.{Answered}
use Rattle.script_run.proofs.Doing.{count_done}
use Rattle.script_run.proofs.FrontRuns.{batches-front, kept_at-front, run-front}
use Rattle.script_run.proofs.HeldLines.{length-whole_lines}
use Rattle.script_run.proofs.Keeping.{kept_at-gave_up, kept_at-more, none_kept, told_or_not}
use Rattle.script_run.proofs.Runs.{length-replies, replies-append}
use Rattle.script_run.proofs.Writing.{all_sent, answered-more, breaks_off-more, breaks_off_whole}

-- the n-th line ends in the last piece or behind it, and so does each later one
ends-later : (text taken : List ℕ) (n m : ℕ) → n ≤ m → EndsInLast text taken n → EndsInLast text taken m
ends-later text taken n m le ends = record { before = ends.before; last = ends.last; split = ends.split; piece = ends.piece; behind = omega (arith, ends.behind) }

near-later : (text taken : List ℕ) (n m : ℕ) → n ≤ m → (taken ≡ []) ⊎ EndsInLast text taken n → (taken ≡ []) ⊎ EndsInLast text taken m
near-later text taken n m le near = elim near [ inl none ↦ inl none | inr ends ↦ inr (ends-later text taken n m le ends) ]

-- where no reply was gathered before, a stop is near
near_stop : (text taken : List ℕ) (done gathered : ℕ) (off : BreakOff) → (taken ≡ []) ⊎ EndsInLast text taken (done + 1) → gathered ≡ 0 → IsBehind done gathered off → IsNear text taken off
near_stop text taken done gathered (Write line) near none behind = near-later text taken (done + 1) line (omega arith) near
near_stop text taken done gathered (SinkMemory line) near none behind = tt
near_stop text taken done gathered (Memory some) near none behind = tt
near_stop text taken done gathered (Keep some) near none behind = near-later text taken (done + 1) (some + 1) (omega arith) near

-- lines of which the fronts are done and to be done
module _ (ground : Ground) (lines all : List (List ℕ)) (fronts : lines ≡ map front all) where
  pub outcome-fronts : run ground.weigh ground.schema ground.first lines ≡ outcome_on ground all
  outcome-fronts = ap (run ground.weigh ground.schema ground.first) fronts ∙ run-front ground.weigh ground.schema ground.first all

  pub batches-fronts : batches ground.weigh ground.schema ground.first lines ≡ batches_on ground all
  batches-fronts = ap (batches ground.weigh ground.schema ground.first) fronts ∙ batches-front ground.weigh ground.schema ground.first all

  pub breaks_off-fronts : (sink : SinkSeen) (off : BreakOff) → BreaksOff (run ground.weigh ground.schema ground.first lines).replies sink off → BreaksOff (outcome_on ground all).replies sink off
  breaks_off-fronts sink off here = subst (λ outcome. BreaksOff outcome.replies sink off) outcome-fronts here

  pub kept_at-fronts : (start now : Told) (off : BreakOff) → KeptAt ground.weigh ground.schema ground.first lines start now off → KeptAt ground.weigh ground.schema ground.first all start now off
  kept_at-fronts start now off kept = kept_at-front ground.weigh ground.schema ground.first all start now off (subst (λ l. KeptAt ground.weigh ground.schema ground.first l start now off) fronts kept)

-- before the first piece is done
pub stream_start : {P : Type 0} (weigh : P → CellStat → ℕ) (ground : Ground) (text : List ℕ) (start : Outside) (reading : Reading) (held : List (List ℕ)) (working : Working P) → ground.weigh ≡ weigh working.cube.policy → ground.keeps ≡ working.keeps
    → (reading.is_ended ≡ true → IsAtEnd start.left) → held ≡ pieces_of text → HasDone ground.weigh ground.schema ground.first [] start.taken start.taken working → working.gathered ≡ []
    → Streaming weigh ground text reading.room start start reading held working
stream_start weigh ground text start reading held working weighs keeps end are done sent = record {
  weighs = weighs;
  keeps = keeps;
  taken = [];
  bytes = Consumes-nil start.left;
  room_left = omega arith;
  end = end;
  lines = [];
  whole = ap whole_lines are ∙ ap (λ l. whole_lines (pieces_of l)) (sym (append-nil text));
  rest = ap rest_of are ∙ ap (λ l. rest_of (pieces_of l)) (sym (append-nil text));
  near = inl refl;
  done = done;
  kept = λ keeps. subst (HasKept ground.weigh ground.schema ground.first [] start.told start.told) (sym sent) (none_kept ground.weigh ground.schema ground.first start.told);
  sent = sent;
  no_read_fault = refl;
  no_write_fault = refl;
}

module _ {P : Type 0} (weigh : P → CellStat → ℕ) (ground : Ground) (text : List ℕ) (room : ℕ) (start now : Outside) (reading : Reading) (held : List (List ℕ)) (old : Working P)
    (stands : Streaming weigh ground text room start now reading held old) where
  -- what is known of the run at work, as its contracts say it
  has_done : HasDone (weigh old.cube.policy) ground.schema ground.first stands.lines start.taken now.taken old
  has_done = subst (λ w. HasDone w ground.schema ground.first stands.lines start.taken now.taken old) stands.weighs stands.done

  has_kept : ground.keeps ≡ true → HasKept (weigh old.cube.policy) ground.schema ground.first stands.lines start.told now.told old.gathered
  has_kept keeps = subst (λ w. HasKept w ground.schema ground.first stands.lines start.told now.told old.gathered) stands.weighs (stands.kept keeps)

  keeps_too : ground.keeps ≡ true → old.keeps ≡ true
  keeps_too keeps = sym stands.keeps ∙ keeps

  -- the run broke off among those lines and some more, of which the bytes were taken
  module _ (after : Outside) (more all : List (List ℕ)) (fronts : stands.lines ++ more ≡ map front all) (off : BreakOff) (taken : List ℕ) (bytes : Consumes start.left after.left taken) (few : length taken ≤ room)
      (lines_are : (all ≡ ended_lines (text ++ taken)) ⊎ (IsAtEnd after.left × (all ≡ lines_of (text ++ taken)))) (near : IsNear text taken off) where
    stream_broke : BreaksOff (run ground.weigh ground.schema ground.first (stands.lines ++ more)).replies (record { taken = start.taken; taken_after = after.taken; faults = now.write_faults; faults_after = after.write_faults }) off
        → (ground.keeps ≡ true → KeptAt ground.weigh ground.schema ground.first (stands.lines ++ more) start.told after.told off) → StreamBroke ground text room (seen_from start after) off
    stream_broke broke kept = record {
      taken = taken;
      bytes = bytes;
      few = few;
      lines = all;
      lines_are = lines_are;
      broke = breaks_off-fronts ground (stands.lines ++ more) all fronts (seen_from start after).sink off
          (subst (λ n. BreaksOff (run ground.weigh ground.schema ground.first (stands.lines ++ more)).replies (record { taken = start.taken; taken_after = after.taken; faults = n; faults_after = after.write_faults }) off) stands.no_write_fault broke);
      near = near;
      kept = λ keeps. kept_at-fronts ground (stands.lines ++ more) all fronts start.told after.told off (kept keeps);
    }

  -- it broke off among the lines that were held, which a call did: all that are whole, or all at the end
  few_taken : length stands.taken ≤ room
  few_taken = omega (arith, stands.room_left)

  pub whole_fronts : stands.lines ++ whole_lines held ≡ map front (ended_lines (text ++ stands.taken))
  whole_fronts = stands.whole ∙ whole_lines-ended (text ++ stands.taken)

  pub all_fronts : stands.lines ++ (whole_lines held ++ last_line (rest_of held)) ≡ map front (lines_of (text ++ stands.taken))
  all_fronts =
      sym (append_assoc stands.lines (whole_lines held) (last_line (rest_of held)))
      ∙ ap (λ l. l ++ last_line (rest_of held)) stands.whole
      ∙ ap (λ rest. whole_lines (pieces_of (text ++ stands.taken)) ++ last_line rest) stands.rest
      ∙ sym (lines_of-last (text ++ stands.taken))

  -- the lines that were held whole are done, and all replies are written
  pub whole_done : {T : Type 0} (after : Outside) (new : Working P) (said : T) → after.left ≡ now.left → after.read_faults ≡ now.read_faults
      → DoesLines weigh (whole_lines held) old new (seen_from now after).sink (seen_from now after).keeper (Ok said) → new.gathered ≡ []
      → Streaming weigh ground text room start after reading (rest_of held ∷ []) new
  whole_done after new said same_left same_faults does sent = record {
    weighs = stands.weighs ∙ ap weigh (sym does.policy);
    keeps = stands.keeps ∙ sym does.keeps;
    taken = stands.taken;
    bytes = subst (λ left. Consumes start.left left stands.taken) (sym same_left) stands.bytes;
    room_left = stands.room_left;
    end = λ ended. subst IsAtEnd (sym same_left) (stands.end ended);
    lines = stands.lines ++ whole_lines held;
    whole = append-nil (stands.lines ++ whole_lines held) ∙ stands.whole;
    rest = stands.rest;
    near = near-later text stands.taken (old.done + 1) (new.done + 1) (omega (arith, does.count)) stands.near;
    done = subst (λ w. HasDone w ground.schema ground.first (stands.lines ++ whole_lines held) start.taken after.taken new) (sym stands.weighs) (does.done ground.schema ground.first stands.lines start.taken has_done);
    kept = λ keeps. subst (λ w. HasKept w ground.schema ground.first (stands.lines ++ whole_lines held) start.told after.told new.gathered) (sym stands.weighs) (does.kept ground.schema ground.first stands.lines start.taken start.told (keeps_too keeps) has_done (has_kept keeps));
    sent = sent;
    no_read_fault = same_faults ∙ stands.no_read_fault;
    no_write_fault = does.write ∙ stands.no_write_fault;
  }

  -- or the run broke off among them
  broke_here : (after : Outside) (more all : List (List ℕ)) (off : BreakOff) → stands.lines ++ more ≡ map front all → after.left ≡ now.left → after.read_faults ≡ now.read_faults
      → (all ≡ ended_lines (text ++ stands.taken)) ⊎ (IsAtEnd now.left × (all ≡ lines_of (text ++ stands.taken)))
      → BreaksOff (run (weigh old.cube.policy) ground.schema ground.first (stands.lines ++ more)).replies (record { taken = start.taken; taken_after = after.taken; faults = now.write_faults; faults_after = after.write_faults }) off
      → (ground.keeps ≡ true → KeptAt (weigh old.cube.policy) ground.schema ground.first (stands.lines ++ more) start.told after.told off)
      → IsBehind old.done (length old.gathered) off → EndsStream ground text room (seen_from start after) (Err (Broke off))
  broke_here after more all off fronts same_left same_faults lines_are broke kept behind = (
    same_faults ∙ stands.no_read_fault,
    stream_broke after more all fronts off stands.taken (subst (λ left. Consumes start.left left stands.taken) (sym same_left) stands.bytes) few_taken
        (subst (λ left. (all ≡ ended_lines (text ++ stands.taken)) ⊎ (IsAtEnd left × (all ≡ lines_of (text ++ stands.taken)))) (sym same_left) lines_are)
        (near_stop text stands.taken old.done (length old.gathered) off stands.near (ap length stands.sent) behind)
        (subst (λ w. BreaksOff (run w ground.schema ground.first (stands.lines ++ more)).replies (record { taken = start.taken; taken_after = after.taken; faults = now.write_faults; faults_after = after.write_faults }) off) (sym stands.weighs) broke)
        (λ keeps. subst (λ w. KeptAt w ground.schema ground.first (stands.lines ++ more) start.told after.told off) (sym stands.weighs) (kept keeps)),
  )

  pub whole_broke : {T : Type 0} (after : Outside) (new : Working P) (off : BreakOff) → after.left ≡ now.left → after.read_faults ≡ now.read_faults
      → DoesLines {T = T} weigh (whole_lines held) old new (seen_from now after).sink (seen_from now after).keeper (Err off) → EndsStream ground text room (seen_from start after) (Err (Broke off))
  whole_broke after new off same_left same_faults does =
      broke_here after (whole_lines held) (ended_lines (text ++ stands.taken)) off whole_fronts same_left same_faults (inl refl)
      (does.broken ground.schema ground.first stands.lines start.taken has_done)
      (λ keeps. does.stopped ground.schema ground.first stands.lines start.taken start.told (keeps_too keeps) has_done (has_kept keeps))
      does.behind

  -- at the end of the input all lines are done
  pub all_ended : (after : Outside) (refused : ℕ) → reading.is_ended ≡ true → after.left ≡ now.left → after.read_faults ≡ now.read_faults
      → EndsLines weigh (whole_lines held ++ last_line (rest_of held)) old (seen_from now after).sink (seen_from now after).keeper (Ok refused) → EndsStream ground text room (seen_from start after) (Ok refused)
  all_ended after refused ended same_left same_faults ends =
      let more = whole_lines held ++ last_line (rest_of held) in
      let all = lines_of (text ++ stands.taken) in
      let done = ends.done ground.schema ground.first stands.lines start.taken has_done in
      let outcome = ap (λ w. run w ground.schema ground.first (stands.lines ++ more)) (sym stands.weighs) ∙ outcome-fronts ground (stands.lines ++ more) all all_fronts in
      let committed = ap (λ w. batches w ground.schema ground.first (stands.lines ++ more)) (sym stands.weighs) ∙ batches-fronts ground (stands.lines ++ more) all all_fronts in (
        same_faults ∙ stands.no_read_fault,
        record {
          taken = stands.taken;
          bytes = subst (λ left. Consumes start.left left stands.taken) (sym same_left) stands.bytes;
          few = few_taken;
          end = subst IsAtEnd (sym same_left) (stands.end ended);
          done = subst (λ made. Done made (seen_from start after).sink refused) outcome (record { bytes = done.bytes; count = done.count; no_fault = done.no_fault ∙ stands.no_write_fault });
          kept = record {
            commits = λ keeps. subst (λ l. Commits l start.told after.told) committed
                (ends.kept ground.schema ground.first stands.lines start.taken start.told (keeps_too keeps) has_done (has_kept keeps));
          };
        },
      )

  pub all_broke : (after : Outside) (off : BreakOff) → reading.is_ended ≡ true → after.left ≡ now.left → after.read_faults ≡ now.read_faults
      → EndsLines weigh (whole_lines held ++ last_line (rest_of held)) old (seen_from now after).sink (seen_from now after).keeper (Err off) → EndsStream ground text room (seen_from start after) (Err (Broke off))
  all_broke after off ended same_left same_faults ends =
      broke_here after (whole_lines held ++ last_line (rest_of held)) (lines_of (text ++ stands.taken)) off all_fronts same_left same_faults (inr (stands.end ended, refl))
      (ends.broken ground.schema ground.first stands.lines start.taken has_done)
      (λ keeps. ends.stopped ground.schema ground.first stands.lines start.taken start.told (keeps_too keeps) has_done (has_kept keeps))
      ends.behind

-- one byte, where there is one
one_byte : (input : List ℕ) → length input ≡ 0 + 1 → (byte : ℕ) × (input ≡ byte ∷ [])
one_byte [] one = absurd (omega (arith, one))
one_byte (byte ∷ []) one = (byte, refl)
one_byte (byte ∷ next ∷ input) one = absurd (omega (arith, one))

-- where only the rest is held, all lines that end in what was taken are done
module _ {P : Type 0} (weigh : P → CellStat → ℕ) (ground : Ground) (text : List ℕ) (room : ℕ) (start now : Outside) (reading : Reading) (rest : List ℕ) (old : Working P)
    (stands : Streaming weigh ground text room start now reading (rest ∷ []) old) where
  lines_whole : stands.lines ≡ whole_lines (pieces_of (text ++ stands.taken))
  lines_whole = sym (append-nil stands.lines) ∙ stands.whole

  ended_fronts : stands.lines ≡ map front (ended_lines (text ++ stands.taken))
  ended_fronts = lines_whole ∙ whole_lines-ended (text ++ stands.taken)

  done_count : old.done ≡ lf_count (text ++ stands.taken)
  done_count = stands.done.done ∙ ap length lines_whole ∙ whole_lines-length (text ++ stands.taken)

  -- and their replies are written
  replies_written : Appends start.taken now.taken (concat (run ground.weigh ground.schema ground.first stands.lines).replies)
  replies_written =
      let replies = (run ground.weigh ground.schema ground.first stands.lines).replies in
      all_sent replies start.taken now.taken (subst (HasGathered replies start.taken now.taken) stands.sent stands.done.gathered)

  answered_ended : (sink : SinkSeen) → sink.taken ≡ start.taken → sink.taken_after ≡ now.taken → Answered (outcome_on ground (ended_lines (text ++ stands.taken))).replies old.done sink
  answered_ended sink same_start same_now =
      let ended = ended_lines (text ++ stands.taken) in
      let replies = (outcome_on ground ended).replies in
      let written : Appends start.taken now.taken (concat replies) = subst (λ outcome. Appends start.taken now.taken (concat outcome.replies)) (outcome-fronts ground stands.lines ended ended_fronts) replies_written in
      let count : length replies ≡ old.done = length-replies ground.weigh ground.schema ground.first ended ∙ sym (length-map ended front) ∙ ap length (sym ended_fronts) ∙ sym stands.done.done in
      record {
        among = omega (arith, count);
        bytes = rw (same_start, same_now, take_all old.done replies (omega (arith, count))) written;
      }

  answered_taken : (after : Outside) → after.taken ≡ now.taken → after.write_faults ≡ now.write_faults → after.told ≡ now.told → AnsweredTaken ground text stands.taken (seen_from start after) old.done
  answered_taken after same_taken same_faults same_told =
      let here = text ++ stands.taken in
      let ended = ended_lines here in
      let behind = drop (lf_count here) (lines_of here) in
      let all : lines_of here ≡ ended ++ behind = subst (λ l. lines_of l ≡ ended ++ drop (lf_count here) (lines_of l)) (append-nil here) (lines_of-ended here []) in
      let replies = (outcome_on ground ended).replies in
      let more : Answered (outcome_on ground (ended ++ behind)).replies old.done (seen_from start after).sink =
      rw (replies-append ground.weigh ground.schema ground.first ended behind) (answered-more replies _ old.done (seen_from start after).sink (answered_ended (seen_from start after).sink refl same_taken)) in
      record {
        count = done_count;
        write = same_faults ∙ stands.no_write_fault;
        answered = subst (λ l. Answered (outcome_on ground l).replies old.done (seen_from start after).sink) (sym all) more;
        kept = record {
          commits = λ keeps. subst (λ told. Commits (batches_on ground ended) start.told told) (sym same_told)
              (subst (λ l. Commits l start.told now.told) (batches-fronts ground stands.lines ended ended_fronts) (stands.kept keeps).commits);
        };
      }

  -- the lines that end in a piece behind what was taken
  next_lines : (piece : List ℕ) → stands.lines ++ whole_lines (pieces_of (rest ++ piece)) ≡ whole_lines (pieces_of (text ++ (stands.taken ++ piece)))
  next_lines piece =
      ap (λ l. l ++ whole_lines (pieces_of (rest ++ piece))) lines_whole
      ∙ ap (λ r. whole_lines (pieces_of (text ++ stands.taken)) ++ whole_lines (pieces_of (r ++ piece))) stands.rest
      ∙ sym (whole_lines-more (text ++ stands.taken) piece)
      ∙ ap (λ l. whole_lines (pieces_of l)) (append_assoc text stands.taken piece)

  next_rest : (piece : List ℕ) → rest_of (pieces_of (rest ++ piece)) ≡ rest_of (pieces_of (text ++ (stands.taken ++ piece)))
  next_rest piece =
      ap (λ r. rest_of (pieces_of (r ++ piece))) stands.rest
      ∙ sym (rest_of-more (text ++ stands.taken) piece)
      ∙ ap (λ l. rest_of (pieces_of l)) (append_assoc text stands.taken piece)

  -- the next piece is taken
  pub piece_fed : (after : Outside) (reading_after : Reading) (held_after : List (List ℕ)) → after.taken ≡ now.taken → after.write_faults ≡ now.write_faults → after.told ≡ now.told → after.read_faults ≡ now.read_faults
      → Feeds now.left after.left reading reading_after (rest ∷ []) held_after → Streaming weigh ground text room start after reading_after held_after old
  piece_fed after reading_after held_after same_taken same_write same_told same_read feeds = record {
    weighs = stands.weighs;
    keeps = stands.keeps;
    taken = stands.taken ++ feeds.piece;
    bytes = Consumes-trans start.left now.left after.left stands.taken feeds.piece stands.bytes feeds.bytes;
    room_left = omega (arith, length-append stands.taken feeds.piece, stands.room_left, feeds.room);
    end = λ ended. (feeds.end ended).1;
    lines = stands.lines;
    whole = ap (λ held. stands.lines ++ whole_lines held) feeds.rest ∙ next_lines feeds.piece;
    rest = ap rest_of feeds.rest ∙ next_rest feeds.piece;
    near = inr (record { before = stands.taken; last = feeds.piece; split = refl; piece = feeds.few; behind = omega (arith, done_count) });
    done = subst (λ t. HasDone ground.weigh ground.schema ground.first stands.lines start.taken t old) (sym same_taken) stands.done;
    kept = λ keeps. subst (λ told. HasKept ground.weigh ground.schema ground.first stands.lines start.told told old.gathered) (sym same_told) (stands.kept keeps);
    sent = stands.sent;
    no_read_fault = same_read ∙ stands.no_read_fault;
    no_write_fault = same_write ∙ stands.no_write_fault;
  }

  -- there is no memory for it
  broke_memory : (after : Outside) (input : List ℕ) → after.taken ≡ now.taken → after.write_faults ≡ now.write_faults → after.told ≡ now.told
      → Consumes start.left after.left (stands.taken ++ input) → length (stands.taken ++ input) ≤ room → StreamBroke ground text room (seen_from start after) (Memory old.done)
  broke_memory after input same_taken same_write same_told bytes few =
      let more = whole_lines (pieces_of (rest ++ input)) in
      let all = ended_lines (text ++ (stands.taken ++ input)) in
      let replies = (run ground.weigh ground.schema ground.first stands.lines).replies in
      let sink : SinkSeen = record { taken = start.taken; taken_after = now.taken; faults = now.write_faults; faults_after = now.write_faults } in
      let fronts : stands.lines ++ more ≡ map front all = next_lines input ∙ whole_lines-ended (text ++ (stands.taken ++ input)) in
      let here : BreaksOff (replies ++ []) sink (Memory old.done) =
      breaks_off_whole replies [] start.taken sink old.done replies_written (omega arith) (omega (arith, count_done ground.weigh ground.schema ground.first stands.lines start.taken now.taken old stands.done)) refl in
      let among : BreaksOff replies sink (Memory old.done) = subst (λ l. BreaksOff l sink (Memory old.done)) (append-nil replies) here in
      let broke : BreaksOff (run ground.weigh ground.schema ground.first (stands.lines ++ more)).replies sink (Memory old.done) =
      rw (replies-append ground.weigh ground.schema ground.first stands.lines more) (breaks_off-more replies _ sink (Memory old.done) among) in
      let kept = λ (keeps : ground.keeps ≡ true).
      kept_at-more ground.weigh ground.schema ground.first stands.lines more start.told now.told (Memory old.done)
      (kept_at-gave_up ground.weigh ground.schema ground.first stands.lines start.told now.told old.gathered old.done (Memory old.done) (stands.kept keeps) stands.done.done (inl refl)) in
      stream_broke weigh ground text room start now reading (rest ∷ []) old stands after more all fronts (Memory old.done) (stands.taken ++ input) bytes few (inl refl) tt
      (rw (same_taken, same_write) broke) (λ keeps. subst (λ told. KeptAt ground.weigh ground.schema ground.first (stands.lines ++ more) start.told told (Memory old.done)) (sym same_told) (kept keeps))

  -- no piece comes
  pub no_piece : (after : Outside) (stop : InputStop) → after.taken ≡ now.taken → after.write_faults ≡ now.write_faults → after.told ≡ now.told
      → StopsFeeding reading.room now.left after.left now.read_faults after.read_faults stop → EndsStream ground text room (seen_from start after) (Err (stop_of stop old.done))
  no_piece after input_stop.Fault same_taken same_write same_told (keeps, rose) = (
    subst (λ n. Rose n after.read_faults) stands.no_read_fault rose,
    record {
      taken = stands.taken;
      bytes = Consumes-kept start.left now.left after.left stands.taken stands.bytes keeps;
      few = omega (arith, stands.room_left);
      answered = answered_taken after same_taken same_write same_told;
    },
  )
  no_piece after input_stop.TooLong same_taken same_write same_told (none, goes_on, same) =
      let byte = one_byte goes_on.input goes_on.above in (
        same ∙ stands.no_read_fault,
        record {
          taken = stands.taken;
          byte = byte.0;
          bytes = Consumes-trans start.left now.left after.left stands.taken (byte.0 ∷ []) stands.bytes (subst (Consumes now.left after.left) byte.1 goes_on.bytes);
          all = omega (arith, none, stands.room_left);
          answered = answered_taken after same_taken same_write same_told;
        },
      )
  no_piece after input_stop.Memory same_taken same_write same_told (takes, same) = (
    same ∙ stands.no_read_fault,
    broke_memory after takes.input same_taken same_write same_told (Consumes-trans start.left now.left after.left stands.taken takes.input stands.bytes takes.bytes)
        (omega (arith, length-append stands.taken takes.input, takes.few, stands.room_left)),
  )

-- What the doing of a piece does, by where it stops.

-- among the lines
pub does_piece-broke : {P T U : Type 0} (weigh : P → CellStat → ℕ) (before after : Outside) (reading : Reading) (held held_after : List (List ℕ)) (old new : Working P) (off : BreakOff) → after.left ≡ before.left → after.read_faults ≡ before.read_faults
    → DoesLines {T = T} weigh (whole_lines held) old new (seen_from before after).sink (seen_from before after).keeper (Err off) → DoesPiece {T = U} weigh before after reading reading held held_after old new (Err (Broke off))
does_piece-broke weigh before after reading held held_after old new off same_left same_faults does = record {
  goes_on = λ ground text room start stands. tt;
  stops = λ ground text room start stands. whole_broke weigh ground text room start before reading held old stands after new off same_left same_faults does;
  few = tt;
  shorter = tt;
  keeps = does.keeps;
  keep = tt;
  cause = does.cause;
  other_cause = does.other_cause;
}

no_keep_stop : (stop : InputStop) (done : ℕ) → is_keep_stop (stop_of stop done) ≡ false
no_keep_stop input_stop.Fault done = refl
no_keep_stop input_stop.TooLong done = refl
no_keep_stop input_stop.Memory done = refl

-- so many lines may be held where so many are whole
pub few_held : (parts : List (List ℕ)) → length parts ≤ length (whole_lines parts) + 1
few_held parts = omega (arith, length-whole_lines parts)

-- each piece takes of what may still be taken, or is the end of the input
fewer_turns : (reading reading_after : Reading) (piece : ℕ) → reading_after.room + piece ≡ reading.room → (reading_after.is_ended ≡ false → 0 < piece) → turns_left reading_after ≤ reading.room
fewer_turns reading reading_after piece room more = by_end reading_after.is_ended more
  where
    by_end : (ended : Bool) → (ended ≡ false → 0 < piece) → reading_after.room + (if ended then 0 else 1) ≤ reading.room
    by_end true some = omega (arith, room)
    by_end false some = let here : 0 < piece = some refl in omega (arith, room, here)

-- what is told between the doing of the lines and the reading of the next piece
abbrev between_both : Outside → Outside → Outside
between_both before after = record after { left = before.left; read_faults = before.read_faults }

-- the lines that were held are done, and their replies are written
module _ {P T : Type 0} (weigh : P → CellStat → ℕ) (before after : Outside) (reading reading_after : Reading) (held between held_after : List (List ℕ)) (old new : Working P) (said : T) (rest : between ≡ rest_of held ∷ []) (sent : new.gathered ≡ [])
    (does : DoesLines weigh (whole_lines held) old new (seen_from before after).sink (seen_from before after).keeper (Ok said)) where
  stands_mid : (ground : Ground) (text : List ℕ) (room : ℕ) (start : Outside) → Streaming weigh ground text room start before reading held old → Streaming weigh ground text room start (between_both before after) reading (rest_of held ∷ []) new
  stands_mid ground text room start stands = whole_done weigh ground text room start before reading held old stands (between_both before after) new said refl refl does sent

  -- at the next piece
  pub does_piece-no_piece : {U : Type 0} (stop : InputStop) → StopsFeeding reading.room before.left after.left before.read_faults after.read_faults stop
      → DoesPiece {T = U} weigh before after reading reading_after held held_after old new (Err (stop_of stop new.done))
  does_piece-no_piece stop stops = record {
    goes_on = λ ground text room start stands. tt;
    stops = λ ground text room start stands. no_piece weigh ground text room start (between_both before after) reading (rest_of held) new (stands_mid ground text room start stands) after stop refl refl refl stops;
    few = tt;
    shorter = tt;
    keeps = does.keeps;
    keep = tt;
    cause = told_or_not _ (no_keep_stop stop new.done);
    other_cause = λ keeps not_told. does.keep;
  }

  -- or the next piece is taken
  pub does_piece-fed : {U : Type 0} (ok : U) → after.read_faults ≡ before.read_faults → Feeds before.left after.left reading reading_after between held_after → DoesPiece weigh before after reading reading_after held held_after old new (Ok ok)
  does_piece-fed ok same_faults feeds = record {
    goes_on = λ ground text room start stands.
        piece_fed weigh ground text room start (between_both before after) reading (rest_of held) new (stands_mid ground text room start stands) after reading_after held_after refl refl refl same_faults
        (subst (λ l. Feeds before.left after.left reading reading_after l held_after) rest feeds);
    stops = λ ground text room start stands. tt;
    few = omega (arith, does.count, feeds.few_lines, feeds.room, length-whole_lines held_after);
    shorter = fewer_turns reading reading_after (length feeds.piece) feeds.room feeds.more;
    keeps = does.keeps;
    keep = does.keep;
    cause = tt;
    other_cause = λ keeps. tt;
  }

-- the keeper's count of faults since the start, where none came before
pub counts_since : (is_keep : Bool) (start before after : ℕ) → before ≡ start → (is_keep ≡ true → Rose before after) → (is_keep ≡ false → after ≡ before) → (is_keep ≡ true → Rose start after) × (is_keep ≡ false → after ≡ start)
counts_since is_keep start before after none cause other = (λ told. subst (λ n. Rose n after) none (cause told), λ not_told. other not_told ∙ none)
