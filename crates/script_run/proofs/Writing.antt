-- What writing does to the replies that are gathered and to what the sink took.
use Rattle.std.proofs.Common.{◌≡◌, ℕ, ◌+◌, ◌-◌, ◌<◌, ◌≤◌, List, [], ◌∷◌, ◌++◌, length, take, drop, Option, Some, None, refl, sym, ap, ◌∙◌, subst, append-nil, append_assoc, inl, arith, length-append}
use Rattle.std.specs.List.{concat}
use Rattle.std.specs.Io.KnownBytes.{Appends}
use Rattle.std.proofs.KnownBytes.{Appends-nil, Appends-trans, starts_with_rest}
use Rattle.std.proofs.lemmas.List.{take_all, take-append-le}
use Rattle.std.proofs.Math.Seq.{take-append_seam, drop-append_seam}
use Rattle.cube_base.specs.declared.fault.SinkError.{SinkError}
use Rattle.cube_base.specs.declared.fault.SinkError.TheVariants as sink_error
use Rattle.script_run.specs.declared.break_off.BreakOff.{BreakOff}
use Rattle.script_run.specs.declared.break_off.BreakOff.TheVariants.{Write, SinkMemory, Memory, Keep}
use Rattle.script_run.specs.Written.{Answered, Broken, Gathered}
use Rattle.script_run.specs.Progress.{BreaksOff, CountsCut, HasGathered, break_off_at}
use Rattle.script_run.specs.ReplyEnds.{reply_ends_from, whole_within}
use Rattle.script_run.specs.Seen.{NoWriteFault, SinkSeen, Wrote, seen_since}
use Rattle.script_run.proofs.Texts.{broken-more, broken_at, broken_behind, concat-append, gathered-more, gathered_before}

-- what was appended was written
pub wrote : (before after : Option (List ℕ)) (bytes : List ℕ) (P : List ℕ → Type 0) → Appends before after bytes → P bytes → Wrote before after P
wrote None after bytes P appends here = tt
wrote (Some xs) None bytes P appends here = absurd appends
wrote (Some xs) (Some ys) bytes P appends here = (rw appends (take-append_seam xs bytes), subst P (sym (ap (drop (length xs)) appends ∙ drop-append_seam xs bytes)) here)

-- of what was written something weaker holds
pub wrote-weaker : (before after : Option (List ℕ)) (P Q : List ℕ → Type 0) → ((bytes : List ℕ) → P bytes → Q bytes) → Wrote before after P → Wrote before after Q
wrote-weaker None after P Q weaker written = tt
wrote-weaker (Some xs) None P Q weaker written = written
wrote-weaker (Some xs) (Some ys) P Q weaker written = (written.0, weaker _ written.1)

-- what was written behind other bytes
wrote_behind : (start a b : Option (List ℕ)) (front : List ℕ) (P Q : List ℕ → Type 0) → Appends start a front → Wrote a b P → ((bytes : List ℕ) → P bytes → Q (front ++ bytes)) → Wrote start b Q
wrote_behind None a b front P Q appends written behind = tt
wrote_behind (Some xs) None b front P Q appends written behind = absurd appends
wrote_behind (Some xs) (Some ys) None front P Q appends written behind = absurd written
wrote_behind (Some xs) (Some ys) (Some zs) front P Q appends written behind =
    let bytes = drop (length ys) zs in
    let all : zs ≡ xs ++ (front ++ bytes) = starts_with_rest zs ys written.0 ∙ ap (λ l. l ++ bytes) appends ∙ append_assoc xs front bytes in
    wrote (Some xs) (Some zs) (front ++ bytes) Q all (behind bytes written.1)

-- where a sink took p bytes of some replies, one is broken
pub wrote_part : (texts : List (List ℕ)) (before after : Option (List ℕ)) (p whole : ℕ) → p < length (concat texts) → Appends before after (take p (concat texts)) → whole ≡ whole_within p (reply_ends_from 0 texts)
    → Wrote before after (Broken texts (whole + 1))
wrote_part texts before after p whole part bytes is_whole = wrote before after (take p (concat texts)) (Broken texts (whole + 1)) bytes (rw is_whole (broken_at texts p part))

-- no reply is gathered yet
pub gathered_none : (start : Option (List ℕ)) → Appends start start [] → HasGathered [] start start []
gathered_none start none = record { sent = []; all = refl; bytes = none }

-- one reply more is gathered
pub gathered-push : (replies gathered : List (List ℕ)) (text : List ℕ) (start taken : Option (List ℕ)) → HasGathered replies start taken gathered → HasGathered (replies ++ text ∷ []) start taken (gathered ++ text ∷ [])
gathered-push replies gathered text start taken has = record {
  sent = has.sent;
  all = ap (λ l. l ++ text ∷ []) has.all ∙ append_assoc has.sent gathered (text ∷ []);
  bytes = has.bytes;
}

-- the sink took the gathered replies
pub took_all : (replies gathered : List (List ℕ)) (start a b : Option (List ℕ)) → HasGathered replies start a gathered → Appends a b (concat gathered) → Appends start b (concat replies)
took_all replies gathered start a b has bytes =
    let whole : concat has.sent ++ concat gathered ≡ concat replies = sym (ap concat has.all ∙ concat-append has.sent gathered) in
    subst (Appends start b) whole (Appends-trans start a b (concat has.sent) (concat gathered) has.bytes bytes)

-- the sink took all replies, and none is gathered
pub all_taken : (replies gathered : List (List ℕ)) (start taken : Option (List ℕ)) → gathered ≡ [] → Appends start taken (concat replies) → HasGathered replies start taken gathered
all_taken replies gathered start taken none bytes = subst (HasGathered replies start taken) (sym none) (record { sent = replies; all = sym (append-nil replies); bytes = bytes })

-- where nothing is gathered the sink took all replies
pub all_sent : (replies : List (List ℕ)) (start taken : Option (List ℕ)) → HasGathered replies start taken [] → Appends start taken (concat replies)
all_sent replies start taken has = subst (λ l. Appends start taken (concat l)) (sym (has.all ∙ append-nil has.sent)) has.bytes

-- a part of the gathered replies was taken
pub breaks_off_part : (replies gathered : List (List ℕ)) (start : Option (List ℕ)) (sink : SinkSeen) (error : SinkError) (whole done line : ℕ) → HasGathered replies start sink.taken gathered
    → Wrote sink.taken sink.taken_after (Broken gathered (whole + 1)) → CountsCut sink error → done ≡ length replies → line ≡ done - length gathered + whole + 1
    → BreaksOff replies (seen_since sink start) (break_off_at error line)
breaks_off_part replies gathered start sink error whole done line has cut counts is_done is_line =
    let is_count : line ≡ length has.sent + (whole + 1) = omega (arith, ap length has.all, length-append has.sent gathered) in
    let broken : (bytes : List ℕ) → Broken gathered (whole + 1) bytes → Broken replies line (concat has.sent ++ bytes) =
    λ bytes b. rw (has.all, is_count) (broken_behind has.sent gathered (whole + 1) bytes (omega arith) b) in
    by_error error counts (wrote_behind start sink.taken sink.taken_after (concat has.sent) (Broken gathered (whole + 1)) (Broken replies line) has.bytes cut broken)
  where
    by_error : (e : SinkError) → CountsCut sink e → Wrote start sink.taken_after (Broken replies line) → BreaksOff replies (seen_since sink start) (break_off_at e line)
    by_error sink_error.Failed rose written = (rose, written)
    by_error sink_error.Memory same written = (same, written)

-- all replies were taken, and it is out of memory: for one more reply, or for another thing
pub breaks_off_whole : (replies later : List (List ℕ)) (start : Option (List ℕ)) (sink : SinkSeen) (done : ℕ) → Appends start sink.taken_after (concat replies) → length later ≤ 1 → done ≡ length replies + length later
    → NoWriteFault sink → BreaksOff (replies ++ later) (seen_since sink start) (Memory done)
breaks_off_whole replies later start sink done bytes few count same =
    (same, wrote start sink.taken_after (concat replies) (Gathered (replies ++ later) done) bytes (gathered_before replies later done few count))

-- all replies were taken, and the keeper failed behind them
pub breaks_off_keep : (replies : List (List ℕ)) (start : Option (List ℕ)) (sink : SinkSeen) (done : ℕ) → Appends start sink.taken_after (concat replies) → done ≡ length replies → NoWriteFault sink
    → BreaksOff replies (seen_since sink start) (Keep done)
breaks_off_keep replies start sink done bytes count same =
    let whole = take_all done replies (omega arith) in
    (same, record { among = omega arith; bytes = rw whole bytes })

-- what is answered of some replies is answered of more
pub answered-more : (replies more : List (List ℕ)) (done : ℕ) (sink : SinkSeen) → Answered replies done sink → Answered (replies ++ more) done sink
answered-more replies more done sink answered =
    let first = take-append-le done replies more answered.among in
    record {
      among = omega (arith, length-append replies more, answered.among);
      bytes = rw first answered.bytes;
    }

-- a run that breaks off among some replies does among more
pub breaks_off-more : (replies more : List (List ℕ)) (sink : SinkSeen) (off : BreakOff) → BreaksOff replies sink off → BreaksOff (replies ++ more) sink off
breaks_off-more replies more sink (Write line) off =
    (off.0, wrote-weaker sink.taken sink.taken_after (Broken replies line) (Broken (replies ++ more) line) (broken-more replies more line) off.1)
breaks_off-more replies more sink (SinkMemory line) off =
    (off.0, wrote-weaker sink.taken sink.taken_after (Broken replies line) (Broken (replies ++ more) line) (broken-more replies more line) off.1)
breaks_off-more replies more sink (Memory done) off =
    (off.0, wrote-weaker sink.taken sink.taken_after (Gathered replies done) (Gathered (replies ++ more) done) (gathered-more replies more done) off.1)
breaks_off-more replies more sink (Keep done) off = (off.0, answered-more replies more done sink off.1)

-- nothing was written of any replies
pub wrote_nothing : (replies : List (List ℕ)) (taken : Option (List ℕ)) → Wrote taken taken (Gathered replies 0)
wrote_nothing replies taken = wrote taken taken [] (Gathered replies 0) (Appends-nil taken) (record { among = omega arith; whole = inl refl })
