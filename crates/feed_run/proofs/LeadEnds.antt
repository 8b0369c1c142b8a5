-- Where a leader ended: among which lines, and with what of its input taken.
use Rattle.std.proofs.Common.{◌≡◌, ℕ, ◌+◌, ◌≤◌, false, Ok, Err, List, [], ◌∷◌, ◌++◌, length, map, drop, refl, sym, ap, ◌∙◌, subst, append-nil, inl, arith}
use Rattle.std.specs.Prelude.{⊤}
use Rattle.std.specs.List.{concat}
use Rattle.std.specs.Io.KnownBytes.{Appends, Consumes}
use Rattle.std.proofs.KnownBytes.{Appends-nil, Consumes-nil}
use Rattle.std.proofs.lemmas.List.{length-map, take_all}
use Rattle.cube_base.specs.Outside.{SourceTold}
use Rattle.cube_base.specs.declared.fault.SinkError.TheVariants as sink_error
use Rattle.text_lines.specs.Text.{lines_of}
use Rattle.text_lines.specs.declared.input.InputStop.{InputStop}
use Rattle.text_lines.specs.declared.input.InputStop.TheVariants as input_stop
use Rattle.text_lines.specs.declared.piece_reader.LineInput.{LineInput}
use Rattle.text_lines.specs.Input.{INPUT_LIMIT}
use Rattle.text_lines.specs.Pieces.{ended_lines, front, lf_count}
use Rattle.text_lines.proofs.Ended.{ended_lines-length, lines_of-ended}
use Rattle.script_run.specs.declared.break_off.BreakOff.{BreakOff}
use Rattle.script_run.specs.declared.break_off.BreakOff.TheVariants.{Write, SinkMemory, Memory, Keep}
use Rattle.script_run.specs.declared.streaming.StreamStop.TheVariants.{Broke}
use Rattle.script_run.specs.Kept.{Commits, CommitsNext, KeptAt, done_at, is_keep, reached_at}
use Rattle.script_run.specs.Progress.{BreaksOff}
use Rattle.script_run.specs.Run.{Outcome}
use Rattle.script_run.specs.Seen.{SeenAll}
use Rattle.script_run.specs.Stream.{IsNear, stop_of}
use Rattle.script_run.specs.Written.{Answered}
use Rattle.script_run.proofs.Batches.{commits_none}
use Rattle.script_run.proofs.FrontRuns.{batches-front, kept_at-front, run-front}
use Rattle.script_run.proofs.Keeping.{kept_at-gave_up, kept_at-more}
use Rattle.script_run.proofs.Writing.{answered-more, breaks_off-more, breaks_off_whole}
use Rattle.feed_run.specs.declared.lead.LeadRun.{LeadRun}
use Rattle.feed_run.specs.Leading.{EndsLead, LeadBroke, Leader, LedTaken, base_text, batches_by, in_parts, leader_outcome, texts_of}
use Rattle.feed_run.specs.LeadTurn.{IsFew, SendsText, state_in}
use Rattle.feed_run.specs.Pulling.{AreFirst, IsNearLine, Pulled, PulledAll, Pulls}
use Rattle.feed_run.proofs.Leads.{HasLed, IsAtLast, LedBroke, Outlets, keeper_from, leader_of, sink_from}
use Rattle.feed_run.proofs.LeadStops.{part_broke}
use Rattle.feed_run.proofs.LeadTexts.{length-texts, texts-append, texts-front}
use Rattle.feed_run.proofs.Pulls.{pulled_few, pulled_first}

-- what is seen of the source, the sink and the keeper
abbrev pub seen_from : SourceTold → SourceTold → Outlets → Outlets → SeenAll
seen_from source later start now = record {
  source = record { left = source.left; left_after = later.left; faults = source.faults; faults_after = later.faults };
  sink = sink_from start now;
  keeper = keeper_from start now;
}

-- These lines were pulled and are done.
pub record Leading (leader : Leader) (source later : SourceTold) (start now : Outlets) (input : LineInput) (run : LeadRun) : Type 0 where
  pub lines : List (List ℕ)
  pub pulled : Pulled source later input lines
  pub led : HasLed leader lines start now run

-- they are few
pub leading-few : (leader : Leader) (source later : SourceTold) (start now : Outlets) (input : LineInput) (run : LeadRun) → Leading leader source later start now input run → IsFew run
leading-few leader source later start now input run leads = record {
  done = omega (arith, leads.led.done, pulled_few source later input leads.lines (length leads.lines) leads.pulled);
  told = leads.led.fewer_told;
  refused = leads.led.fewer_refused;
}

-- lines by their fronts
module _ (leader : Leader) (lines all : List (List ℕ)) (fronts : lines ≡ map front all) where
  outcome-fronts : leader_outcome leader lines ≡ leader_outcome leader all
  outcome-fronts = ap (leader_outcome leader) fronts ∙ run-front leader.weigh leader.schema leader.first all

  batches-fronts : batches_by leader lines ≡ batches_by leader all
  batches-fronts = ap (batches_by leader) fronts ∙ batches-front leader.weigh leader.schema leader.first all

  texts-fronts : texts_of leader lines ≡ texts_of leader all
  texts-fronts = ap (texts_of leader) fronts ∙ texts-front leader all

-- Where a leader broke off among lines that are the first of those that have come, it broke off among these.
module _ (leader : Leader) (source later : SourceTold) (start now : Outlets) (taken : List ℕ) (lines : List (List ℕ)) (bytes : Consumes source.left later.left taken) (few : length taken ≤ INPUT_LIMIT) (first : AreFirst taken later.left lines) where
  broke_among : (off : BreakOff) → BreaksOff (texts_of leader lines) (sink_from start now) (in_parts off) → IsNear [] taken off → KeptAt leader.weigh leader.schema leader.first lines start.told now.told off → LeadBroke leader (seen_from source later start now) off
  broke_among off broke near kept = record {
    taken = taken;
    bytes = bytes;
    few = few;
    lines = first.lines;
    lines_are = first.lines_are;
    broke = subst (λ texts. BreaksOff texts (sink_from start now) (in_parts off)) (texts-fronts leader (lines ++ first.more) first.lines first.all)
        (rw (texts-append leader lines first.more) (breaks_off-more (texts_of leader lines) _ (sink_from start now) (in_parts off) broke));
    near = near;
    kept = kept_at-front leader.weigh leader.schema leader.first first.lines start.told now.told off
        (subst (λ l. KeptAt leader.weigh leader.schema leader.first l start.told now.told off) first.all (kept_at-more leader.weigh leader.schema leader.first lines first.more start.told now.told off kept));
  }

-- the line at which it broke off is the last that was pulled, which ends in the last piece
near_last : (taken : List ℕ) (lines : List (List ℕ)) (off : BreakOff) → IsNearLine taken (length lines) → IsAtLast lines off → IsNear [] taken off
near_last taken lines (Write line) near last = subst (IsNearLine taken) (sym last) near
near_last taken lines (SinkMemory line) near last = tt
near_last taken lines (Memory done) near last = tt
near_last taken lines (Keep done) near last = subst (IsNearLine taken) (sym last) near

-- it broke off at a line that was pulled
pub ends-broke : (leader : Leader) (source later : SourceTold) (start now : Outlets) (input : LineInput) (lines : List (List ℕ)) (off : BreakOff) → Pulled source later input lines → LedBroke leader lines start now off
    → EndsLead leader (seen_from source later start now) (Err (Broke off))
ends-broke leader source later start now input lines off pulled broke = record {
  leads = (
    pulled.faults,
    broke_among leader source later start now pulled.taken lines pulled.bytes (omega (arith, pulled.room_left)) (pulled_first source later input lines (length lines) pulled)
        off broke.broke (near_last pulled.taken lines off pulled.near broke.last) broke.kept,
  );
  keep = (broke.cause, broke.other_cause);
}

-- the base was not written whole
begun_broke : (leader : Leader) (source : SourceTold) (start now : Outlets) (off : BreakOff) → now.told ≡ start.told → now.keep_faults ≡ start.keep_faults → reached_at off ≡ 0 → done_at off ≡ 0 → is_keep off ≡ false → CommitsNext leader.weigh leader.schema leader.first [] off
    → BreaksOff (texts_of leader []) (sink_from start now) (in_parts off) → IsNear [] [] off → EndsLead leader (seen_from source source start now) (Err (Broke off))
begun_broke leader source start now off told keep reached done no_keep next broke near = record {
  leads = (
    refl,
    broke_among leader source source start now [] [] (Consumes-nil source.left) (omega arith) (record { lines = []; lines_are = inl refl; more = []; all = refl }) off broke near
        (record { among = omega (arith, reached); commits = rw done (commits_none start.told now.told told); next = next }),
  );
  keep = (λ is. absurd (cc (is, no_keep)), λ _. keep);
}

pub ends-unbegun : (run : LeadRun) (source : SourceTold) (start now : Outlets) (off : BreakOff) → now.told ≡ start.told → now.keep_faults ≡ start.keep_faults → SendsText {T = ⊤} (base_text run.cube.schema (state_in run)) 0 (sink_from start now) (Err off)
    → EndsLead (leader_of run) (seen_from source source start now) (Err (Broke off))
ends-unbegun run source start now (Write line) told keep (sent, rose) =
    begun_broke (leader_of run) source start now (Write line) told keep sent.here sent.here refl tt
    (part_broke [] (base_text run.cube.schema (state_in run)) start.taken (sink_from start now) sink_error.Failed line 0 (Appends-nil start.taken) sent rose refl) (inl refl)
ends-unbegun run source start now (SinkMemory line) told keep (sent, same) =
    begun_broke (leader_of run) source start now (SinkMemory line) told keep sent.here sent.here refl tt
    (part_broke [] (base_text run.cube.schema (state_in run)) start.taken (sink_from start now) sink_error.Memory line 0 (Appends-nil start.taken) sent same refl) tt
ends-unbegun run source start now (Memory done) told keep (is, nothing) =
    begun_broke (leader_of run) source start now (Memory done) told keep is is refl tt
    (breaks_off_whole [] (base_text run.cube.schema (state_in run) ∷ []) start.taken (sink_from start now) (done + 1) (subst (λ t. Appends start.taken t []) (sym nothing.taken) (Appends-nil start.taken)) (omega arith) (omega (arith, is)) nothing.write) tt
ends-unbegun run source start now (Keep done) told keep never = absurd never

module _ (leader : Leader) (source later : SourceTold) (start now : Outlets) (lines : List (List ℕ)) (run : LeadRun) (has : HasLed leader lines start now run) where
  -- all lines are done
  pub ends-all : PulledAll source later lines → EndsLead leader (seen_from source later start now) (Ok run.refused)
  ends-all pulled = record {
    leads = (
      pulled.faults,
      record {
        taken = pulled.taken;
        bytes = pulled.bytes;
        few = pulled.few;
        end = pulled.end;
        count = has.refused ∙ ap (λ (o : Outcome). o.refused) (outcome-fronts leader lines (lines_of pulled.taken) pulled.all);
        wrote = subst (λ texts. Appends start.taken now.taken (concat texts)) (texts-fronts leader lines (lines_of pulled.taken) pulled.all) has.wrote;
        write = has.write;
        kept = subst (λ l. Commits l start.told now.told) (batches-fronts leader lines (lines_of pulled.taken) pulled.all) has.kept;
      },
    );
    keep = has.keep;
  }

  -- those that end in what was taken are done
  led_taken : (taken : List ℕ) → lines ≡ map front (ended_lines taken) → LedTaken leader taken (seen_from source later start now) run.done
  led_taken taken fronts =
      let came = ended_lines taken in
      let behind = drop (lf_count taken) (lines_of taken) in
      let all : lines_of taken ≡ came ++ behind = subst (λ l. lines_of l ≡ came ++ drop (lf_count taken) (lines_of l)) (append-nil taken) (lines_of-ended taken []) in
      let texts = texts_of leader came in
      let count : run.done ≡ length came = has.done ∙ ap length fronts ∙ length-map came front in
      let many : length texts ≡ run.done + 1 = omega (arith, length-texts leader came, count) in
      let wrote = subst (λ texts. Appends start.taken now.taken (concat texts)) (texts-fronts leader lines came fronts) has.wrote in
      let answered : Answered texts (run.done + 1) (sink_from start now) = record { among = omega (arith, many); bytes = rw (take_all (run.done + 1) texts (omega (arith, many))) wrote } in
      let more : Answered (texts_of leader (came ++ behind)) (run.done + 1) (sink_from start now) = rw (texts-append leader came behind) (answered-more texts _ (run.done + 1) (sink_from start now) answered) in
      record {
        count = count ∙ ended_lines-length taken;
        write = has.write;
        answered = subst (λ l. Answered (texts_of leader l) (run.done + 1) (sink_from start now)) (sym all) more;
        kept = subst (λ l. Commits l start.told now.told) (batches-fronts leader lines came fronts) has.kept;
      }

  -- no more lines come
  pub ends-stopped : (input : LineInput) (line : List ℕ) (stop : InputStop) → Pulls source later input lines line (Err stop) → EndsLead leader (seen_from source later start now) (Err (stop_of stop run.done))
  ends-stopped input line input_stop.Fault pulled = record {
    leads = (pulled.failed, record { taken = pulled.taken; bytes = pulled.bytes; few = pulled.few; led = led_taken pulled.taken pulled.ended });
    keep = (λ told. absurd (cc told), λ _. has.keep);
  }
  ends-stopped input line input_stop.TooLong pulled = record {
    leads = (pulled.faults, record { taken = pulled.taken; byte = pulled.byte; bytes = pulled.bytes; all = pulled.all; led = led_taken pulled.taken pulled.ended });
    keep = (λ told. absurd (cc told), λ _. has.keep);
  }
  ends-stopped input line input_stop.Memory pulled = record {
    leads = (
      pulled.faults,
      broke_among leader source later start now pulled.taken lines pulled.bytes pulled.few pulled.first (Memory run.done) gave_up tt
          (kept_at-gave_up leader.weigh leader.schema leader.first lines start.told now.told [] run.done (Memory run.done) (record { commits = has.kept; even = λ n behind among. absurd (omega (arith, behind, among)) }) has.done (inl refl)),
    );
    keep = (λ told. absurd (cc told), λ _. has.keep);
  }
    where
      texts : List (List ℕ)
      texts = texts_of leader lines

      gave_up : BreaksOff texts (sink_from start now) (Memory (run.done + 1))
      gave_up = subst (λ l. BreaksOff l (sink_from start now) (Memory (run.done + 1))) (append-nil texts)
          (breaks_off_whole texts [] start.taken (sink_from start now) (run.done + 1) has.wrote (omega arith) (omega (arith, has.done, length-texts leader lines)) has.write)
