-- The lines of an input that came are the first of all its lines, and what is told of these holds among all.
use Rattle.std.proofs.Common.{◌≡◌, ℕ, ◌+◌, ◌≤◌, List, [], ◌++◌, length, take, drop, refl, sym, ap, ◌∙◌, subst, append-nil, append_assoc, inl, inr, arith, length-append, Option, Some, None}
use Rattle.std.specs.Prelude.{◌⊎◌, IfSome}
use Rattle.std.specs.Io.KnownBytes.{Consumes, IsAtEnd}
use Rattle.std.proofs.lemmas.List.{take_at, take-append-drop, take-append-le}
use Rattle.text_lines.specs.Text.{lines_of}
use Rattle.text_lines.specs.Pieces.{ended_lines, lf_count, line_end}
use Rattle.text_lines.specs.Reading.{PIECE_LIMIT}
use Rattle.text_lines.proofs.Ended.{ended_lines-length, line_end-behind, lines_of-ended}
use Rattle.script_run.specs.declared.break_off.BreakOff.{BreakOff}
use Rattle.script_run.specs.Kept.{KeptAt}
use Rattle.script_run.specs.Progress.{BreaksOff}
use Rattle.script_run.specs.Seen.{SinkSeen, Told}
use Rattle.script_run.specs.Stream.{EndsInLast, Ground, outcome_on}
use Rattle.script_run.specs.Written.{Answered}
use Rattle.script_run.proofs.Keeping.{kept_at-more}
use Rattle.script_run.proofs.Runs.{length-replies, replies-append}
use Rattle.script_run.proofs.Writing.{answered-more, breaks_off-more}

-- what was taken of an input is its front
pub of_front : (left left_after : Option (List ℕ)) (taken : List ℕ) (P : List ℕ → Type 0) → Consumes left left_after taken → ((after : List ℕ) → left_after ≡ Some after → P (taken ++ after)) → IfSome left P
of_front None left_after taken P bytes each = tt
of_front (Some input) None taken P bytes each = absurd bytes
of_front (Some input) (Some after) taken P bytes each = subst P (sym bytes) (each after refl)

-- these lines are the first of those
pub record AreFirst (lines all : List (List ℕ)) : Type 0 where
  pub later : List (List ℕ)
  pub all_are : all ≡ lines ++ later

pub first-ended : (taken after : List ℕ) → AreFirst (ended_lines taken) (lines_of (taken ++ after))
first-ended taken after = record { later = drop (lf_count taken) (lines_of (taken ++ after)); all_are = lines_of-ended taken after }

-- the lines that came whole, or all where the input ended
pub first-came : (taken after : List ℕ) (left_after : Option (List ℕ)) (lines : List (List ℕ)) → (IsAtEnd left_after → after ≡ []) → (lines ≡ ended_lines taken) ⊎ (IsAtEnd left_after × (lines ≡ lines_of taken)) → AreFirst lines (lines_of (taken ++ after))
first-came taken after left_after lines at_end (inl ended) = subst (λ ls. AreFirst ls (lines_of (taken ++ after))) (sym ended) (first-ended taken after)
first-came taken after left_after lines at_end (inr whole) = record {
  later = [];
  all_are = ap (λ l. lines_of (taken ++ l)) (at_end whole.0) ∙ ap lines_of (append-nil taken) ∙ sym whole.1 ∙ sym (append-nil lines);
}

module _ (ground : Ground) (lines all : List (List ℕ)) (first : AreFirst lines all) where
  of_replies : (P : List (List ℕ) → Type 0) → ((more : List (List ℕ)) → P ((outcome_on ground lines).replies ++ more)) → P (outcome_on ground all).replies
  of_replies P each =
      subst (λ ls. P (outcome_on ground ls).replies) (sym first.all_are)
      (subst P (sym (replies-append ground.weigh ground.schema ground.first lines first.later)) (each _))

  pub breaks_off-first : (sink : SinkSeen) (off : BreakOff) → BreaksOff (outcome_on ground lines).replies sink off → BreaksOff (outcome_on ground all).replies sink off
  breaks_off-first sink off here = of_replies (λ replies. BreaksOff replies sink off) (λ more. breaks_off-more (outcome_on ground lines).replies more sink off here)

  pub answered-first : (done : ℕ) (sink : SinkSeen) → Answered (outcome_on ground lines).replies done sink → Answered (outcome_on ground all).replies done sink
  answered-first done sink here = of_replies (λ replies. Answered replies done sink) (λ more. answered-more (outcome_on ground lines).replies more done sink here)

  pub kept_at-first : (start now : Told) (off : BreakOff) → KeptAt ground.weigh ground.schema ground.first lines start now off → KeptAt ground.weigh ground.schema ground.first all start now off
  kept_at-first start now off here =
      subst (λ ls. KeptAt ground.weigh ground.schema ground.first ls start now off) (sym first.all_are)
      (kept_at-more ground.weigh ground.schema ground.first lines first.later start now off here)

-- what is answered of the first replies is answered of these alone
answered-fewer : (replies more : List (List ℕ)) (done : ℕ) (sink : SinkSeen) → done ≤ length replies → Answered (replies ++ more) done sink → Answered replies done sink
answered-fewer replies more done sink among answered =
    let fewer = take-append-le done replies more among in
    record { among = among; bytes = rw fewer at answered.bytes }

answered-ended : (ground : Ground) (taken : List ℕ) (done : ℕ) (sink : SinkSeen) → done ≡ lf_count taken → Answered (outcome_on ground (lines_of taken)).replies done sink → Answered (outcome_on ground (ended_lines taken)).replies done sink
answered-ended ground taken done sink count answered =
    let ended = ended_lines taken in
    let later = drop (lf_count taken) (lines_of taken) in
    let replies = (outcome_on ground ended).replies in
    let among : done ≤ length replies = omega (arith, count, length-replies ground.weigh ground.schema ground.first ended, ended_lines-length taken) in
    answered-fewer replies _ done sink among
    (subst (λ rs. Answered rs done sink) (replies-append ground.weigh ground.schema ground.first ended later)
    (subst (λ ls. Answered (outcome_on ground ls).replies done sink) (sym (take-append-drop (lf_count taken) (lines_of taken))) answered))

-- where the lines that ended in what was taken are answered, these are the first of all
pub answered-all : (ground : Ground) (taken after : List ℕ) (done : ℕ) (sink : SinkSeen) → done ≡ lf_count taken → Answered (outcome_on ground (lines_of taken)).replies done sink → Answered (outcome_on ground (lines_of (taken ++ after))).replies done sink
answered-all ground taken after done sink count answered =
    answered-first ground (ended_lines taken) (lines_of (taken ++ after)) (first-ended taken after) done sink (answered-ended ground taken done sink count answered)

pub first_lines : (taken after : List ℕ) (done : ℕ) → done ≡ lf_count taken → take done (lines_of (taken ++ after)) ≡ ended_lines taken
first_lines taken after done count =
    ap (take done) (lines_of-ended taken after) ∙ take_at (ended_lines taken) (drop (lf_count taken) (lines_of (taken ++ after))) done (ended_lines-length taken ∙ sym count)

-- where a line ends in the last piece, no more was taken than to its LF and one piece
pub near_line : (taken after : List ℕ) (n : ℕ) → (taken ≡ []) ⊎ EndsInLast [] taken n → length taken ≤ line_end (taken ++ after) n + PIECE_LIMIT
near_line taken after n (inl none) = omega (arith, ap length none)
near_line taken after n (inr ends) =
    let whole : ends.before ++ (ends.last ++ after) ≡ taken ++ after = sym (append_assoc ends.before ends.last after) ∙ ap (λ l. l ++ after) (sym ends.split) in
    let far : length ends.before ≤ line_end (taken ++ after) n = subst (λ text. length ends.before ≤ line_end text n) whole (line_end-behind ends.before (ends.last ++ after) n ends.behind) in
    omega (arith, far, ap length ends.split, length-append ends.before ends.last, ends.piece)

-- the bytes before the one that is too many
pub first_part : (limit : ℕ) (bytes more input : List ℕ) → length bytes ≡ limit → input ≡ bytes ++ more → take limit input ≡ bytes
first_part limit bytes more input size split = ap (take limit) split ∙ take_at bytes more limit size
