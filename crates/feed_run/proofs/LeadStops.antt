-- Where a leader breaks off: what of its texts was written, and what was kept.
use Rattle.std.proofs.Common.{◌≡◌, ℕ, ◌+◌, ◌<◌, List, [], ◌∷◌, ◌++◌, length, take, drop, Option, refl, sym, ◌∙◌, subst, append-nil, arith, length-append}
use Rattle.std.specs.List.{concat}
use Rattle.std.specs.Io.{StartsWith}
use Rattle.std.specs.Io.KnownBytes.{Appends}
use Rattle.std.proofs.lemmas.List.{length-take-le, take-append-drop}
use Rattle.cube_base.specs.declared.fault.SinkError.{SinkError}
use Rattle.script_run.specs.Progress.{BreaksOff, CountsCut, break_off_at}
use Rattle.script_run.specs.Seen.{SinkSeen, seen_since}
use Rattle.script_run.specs.Written.{Broken}
use Rattle.script_run.proofs.ReplyEnds.{starts_with_front}
use Rattle.script_run.proofs.Writing.{breaks_off_part, wrote}
use Rattle.feed_run.specs.LeadTurn.{SentPart}

-- a part of one text breaks it
broken_part : (text : List ℕ) (count : ℕ) → count < length text → Broken (text ∷ []) (0 + 1) (take count text)
broken_part text count part =
    let short : length (take count text) ≡ count = length-take-le count text (omega (arith, part)) in
    record {
      stopped = record {
        among = omega arith;
        prefix = subst (λ t. StartsWith t (take count text)) (take-append-drop count text ∙ sym (append-nil text)) (starts_with_front (take count text) (drop count text));
        holds = refl;
      };
      part = omega (arith, part, short, length-append text []);
    }

-- behind texts that were written, a part of one more was
pub part_broke : (texts : List (List ℕ)) (text : List ℕ) (start : Option (List ℕ)) (sink : SinkSeen) (error : SinkError) (line at : ℕ) → Appends start sink.taken (concat texts) → SentPart text sink line at → CountsCut sink error → length texts ≡ at
    → BreaksOff (texts ++ text ∷ []) (seen_since sink start) (break_off_at error (line + 1))
part_broke texts text start sink error line at bytes sent counts many =
    breaks_off_part (texts ++ text ∷ []) (text ∷ []) start sink error 0 (at + 1) (line + 1) (record { sent = texts; all = refl; bytes = bytes })
    (wrote sink.taken sink.taken_after (take sent.part.count text) (Broken (text ∷ []) (0 + 1)) sent.part.bytes (broken_part text sent.part.count sent.part.part))
    counts (omega (arith, many, length-append texts (text ∷ []))) (omega (arith, sent.here))
