-- The pieces of an input, while the lines are taken that hold its schema.
use Rattle.std.proofs.Common.{◌≡◌, ◌≢◌, ℕ, suc, ◌+◌, ◌<◌, ◌≤◌, true, false, List, [], ◌∷◌, ◌++◌, length, take, drop, refl, ap, sym, subst, ◌∙◌, arith, append-nil, append_assoc, length-append, inl, inr, Option}
use Rattle.std.specs.List.{list_any}
use Rattle.std.specs.Io.KnownBytes.{Consumes, IsAtEnd}
use Rattle.std.proofs.KnownBytes.{Consumes-kept, Consumes-nil, Consumes-trans}
use Rattle.std.proofs.lemmas.List.{drop_all, length-map}
use Rattle.std.proofs.lemmas.List.Folds.{list_any-append}
use Rattle.text_lines.specs.Input.{INPUT_LIMIT, TakesAtMost}
use Rattle.text_lines.specs.Pieces.{ended_lines, front, last_line, lf_count, line_end, pieces_of, rest_of, whole_lines}
use Rattle.text_lines.specs.Reading.{Feeds, Reading, StopsFeeding}
use Rattle.text_lines.specs.declared.input.InputStop.{InputStop}
use Rattle.text_lines.specs.declared.input.InputStop.TheVariants as input_stop
use Rattle.text_lines.proofs.Ended.{ended_lines-length, line_end-behind, rest_of-more, whole_lines-ended, whole_lines-more}
use Rattle.schema_text.specs.SchemaText.{is_end}
use Rattle.script_run.specs.Seen.{SourceSeen}
use Rattle.cube_cli.specs.SchemaLines.{HasSchemaLines, StopsBeforeEnd, TookHeld, TookLines, has_end, text_of_lines}
use Rattle.cube_cli.proofs.SchemaTexts.{to_end, to_end-behind}
use Rattle.cube_cli.proofs.SchemaTaking.{has_end-whole, held-behind, holds_all, holds_some, position-to_end, to_end-front, to_end-le, to_end-none}
use Rattle.cube_cli.proofs.TakenLines.{text_of_lines-append}

-- so far none of the lines that ended in what was taken is the line `end`, and all are appended
pub record IsTaking (left left_now : Option (List ℕ)) (room : ℕ) (held : List (List ℕ)) (text : List ℕ) : Type 0 where
  pub taken : List ℕ
  pub bytes : Consumes left left_now taken
  pub room_is : room + length taken ≡ INPUT_LIMIT
  pub held_is : held ≡ rest_of (pieces_of taken) ∷ []
  pub text_is : text ≡ text_of_lines (whole_lines (pieces_of taken))
  pub no_end : has_end taken ≡ false

pub taking-first : (left : Option (List ℕ)) (room : ℕ) (held : List (List ℕ)) (text : List ℕ) → room ≡ INPUT_LIMIT → held ≡ [] ∷ [] → text ≡ [] → IsTaking left left room held text
taking-first left room held text room_is held_is text_is = record {
  taken = [];
  bytes = Consumes-nil left;
  room_is = omega (arith, room_is);
  held_is = held_is;
  text_is = text_is;
  no_end = refl;
}

pub taking-few : (left left_now : Option (List ℕ)) (room : ℕ) (held : List (List ℕ)) (text : List ℕ) → IsTaking left left_now room held text → TakesAtMost INPUT_LIMIT left left_now
taking-few left left_now room held text now = record { input = now.taken; bytes = now.bytes; few = omega (arith, now.room_is) }

pub taking-one : (left left_now : Option (List ℕ)) (room : ℕ) (held : List (List ℕ)) (text : List ℕ) → IsTaking left left_now room held text → length held ≡ 1
taking-one left left_now room held text now = ap length now.held_is

-- what is held of a piece more
whole-more : (taken piece : List ℕ) (held held_after : List (List ℕ)) → held ≡ rest_of (pieces_of taken) ∷ [] → held_after ≡ pieces_of (rest_of held ++ piece)
    → whole_lines (pieces_of (taken ++ piece)) ≡ whole_lines (pieces_of taken) ++ whole_lines held_after
whole-more taken piece held held_after held_is after_is =
    whole_lines-more taken piece ∙ ap (λ l. whole_lines (pieces_of taken) ++ whole_lines l) (sym (after_is ∙ ap (λ l. pieces_of (rest_of l ++ piece)) held_is))

rest-more : (taken piece : List ℕ) (held held_after : List (List ℕ)) → held ≡ rest_of (pieces_of taken) ∷ [] → held_after ≡ pieces_of (rest_of held ++ piece)
    → rest_of (pieces_of (taken ++ piece)) ≡ rest_of held_after
rest-more taken piece held held_after held_is after_is =
    rest_of-more taken piece ∙ ap rest_of (sym (after_is ∙ ap (λ l. pieces_of (rest_of l ++ piece)) held_is))

-- none of its lines is the line `end`
module _ (left left_now left_after : Option (List ℕ)) (before after : Reading) (held held_after held_left : List (List ℕ)) (text text_after : List ℕ)
    (now : IsTaking left left_now before.room held text) (feeds : Feeds left_now left_after before after held held_after) where
  pub taking-more : TookHeld (whole_lines held_after) (rest_of held_after) text text_after held_left false → IsTaking left left_after after.room held_left text_after
  taking-more took =
      let whole = whole-more now.taken feeds.piece held held_after now.held_is feeds.rest in
      let rest = rest-more now.taken feeds.piece held held_after now.held_is feeds.rest in
      record {
        taken = now.taken ++ feeds.piece;
        bytes = Consumes-trans left left_now left_after now.taken feeds.piece now.bytes feeds.bytes;
        room_is = omega (arith, now.room_is, feeds.room, length-append now.taken feeds.piece);
        held_is = took.2 ∙ ap (λ l. l ∷ []) (sym rest);
        text_is = took.1 ∙ ap (λ l. l ++ text_of_lines (whole_lines held_after)) now.text_is
            ∙ sym (text_of_lines-append (whole_lines (pieces_of now.taken)) (whole_lines held_after)) ∙ ap text_of_lines (sym whole);
        no_end = has_end-whole (now.taken ++ feeds.piece) ∙ ap (list_any is_end) whole ∙ list_any-append is_end (whole_lines (pieces_of now.taken)) (whole_lines held_after)
            ∙ rw (sym (has_end-whole now.taken) ∙ now.no_end) took.0;
      }

-- or one is
take-beyond : (n : ℕ) (lines more : List (List ℕ)) → lines ++ take n more ≡ take (length lines + n) (lines ++ more)
take-beyond n [] more = let none : n ≡ 0 + n = omega arith in ap (λ k. take k more) none
take-beyond n (line ∷ lines) more =
    let next : suc (length lines + n) ≡ suc (length lines) + n = omega arith in
    ap (λ l. line ∷ l) (take-beyond n lines more) ∙ ap (λ k. take k (line ∷ (lines ++ more))) next

drop-beyond : (n : ℕ) (lines more : List (List ℕ)) → drop n more ≡ drop (length lines + n) (lines ++ more)
drop-beyond n [] more = let none : n ≡ 0 + n = omega arith in ap (λ k. drop k more) none
drop-beyond n (line ∷ lines) more =
    let next : suc (length lines + n) ≡ suc (length lines) + n = omega arith in
    drop-beyond n lines more ∙ ap (λ k. drop k (line ∷ (lines ++ more))) next

-- the first line `end` of a text that goes on behind lines that are none
record EndsWithin (taken piece : List ℕ) (lines : List (List ℕ)) : Type 0 where
  some : has_end (taken ++ piece) ≡ true
  count_is : to_end (ended_lines (taken ++ piece)) ≡ length (whole_lines (pieces_of taken)) + to_end lines
  behind : lf_count taken < to_end (ended_lines (taken ++ piece))
  among : to_end (ended_lines (taken ++ piece)) ≤ lf_count (taken ++ piece)

ends_within : (taken piece : List ℕ) (lines : List (List ℕ)) → has_end taken ≡ false → list_any is_end lines ≡ true → whole_lines (pieces_of (taken ++ piece)) ≡ whole_lines (pieces_of taken) ++ lines → EndsWithin taken piece lines
ends_within taken piece lines none some whole =
    let first = whole_lines (pieces_of taken) in
    let no_end : list_any is_end first ≡ false = sym (has_end-whole taken) ∙ none in
    let any : list_any is_end (first ++ lines) ≡ true = list_any-append is_end first lines ∙ rw no_end some in
    let same : to_end (ended_lines (taken ++ piece)) ≡ to_end (first ++ lines) =
    sym (to_end-front (ended_lines (taken ++ piece))) ∙ ap to_end (sym (whole_lines-ended (taken ++ piece)) ∙ whole) in
    let size : length first ≡ lf_count taken = ap length (whole_lines-ended taken) ∙ length-map (ended_lines taken) front ∙ ended_lines-length taken in
    record {
      some = has_end-whole (taken ++ piece) ∙ ap (list_any is_end) whole ∙ any;
      count_is = same ∙ to_end-none first lines no_end;
      behind = omega (arith, same, size, to_end-behind first lines no_end any);
      among = omega (arith, to_end-le (ended_lines (taken ++ piece)), ended_lines-length (taken ++ piece));
    }

module _ (source : SourceSeen) (left_now : Option (List ℕ)) (before after : Reading) (held held_after held_left : List (List ℕ)) (text text_after : List ℕ)
    (now : IsTaking source.left left_now before.room held text) (feeds : Feeds left_now source.left_after before after held held_after) where
  pub takes_end : TookHeld (whole_lines held_after) (rest_of held_after) text text_after held_left true → TookLines source after.room held_left text_after
  takes_end took =
      let whole = whole-more now.taken feeds.piece held held_after now.held_is feeds.rest in
      let rest = rest-more now.taken feeds.piece held held_after now.held_is feeds.rest in
      let lines = whole_lines held_after in
      let first = whole_lines (pieces_of now.taken) in
      let all = now.taken ++ feeds.piece in
      let count = to_end (ended_lines all) in
      let at = position-to_end lines (λ k. (text_after ≡ text ++ text_of_lines (take k lines)) × (held_left ≡ drop k lines ++ rest_of held_after ∷ [])) took in
      let is = ends_within now.taken feeds.piece lines now.no_end at.0 whole in
      let text_is : text_after ≡ text_of_lines (take count (whole_lines (pieces_of all))) =
      at.1.0 ∙ ap (λ l. l ++ text_of_lines (take (to_end lines) lines)) now.text_is
      ∙ sym (text_of_lines-append first (take (to_end lines) lines))
      ∙ ap text_of_lines (take-beyond (to_end lines) first lines ∙ ap (λ n. take n (first ++ lines)) (sym is.count_is) ∙ ap (take count) (sym whole)) in
      record {
        taken = all;
        bytes = Consumes-trans source.left left_now source.left_after now.taken feeds.piece now.bytes feeds.bytes;
        room = omega (arith, now.room_is, feeds.room, length-append now.taken feeds.piece);
        size = line_end all count;
        within = omega arith;
        held = at.1.1
            ∙ ap (λ l. l ++ rest_of held_after ∷ []) (drop-beyond (to_end lines) first lines ∙ ap (λ n. drop n (first ++ lines)) (sym is.count_is) ∙ ap (drop count) (sym whole))
            ∙ ap (λ l. drop count (whole_lines (pieces_of all)) ++ l ∷ []) (sym rest)
            ∙ held-behind all count is.among;
        holds = record { holds = inl (λ more. subst (HasSchemaLines (all ++ more) (line_end all count)) (sym text_is) (holds_some all is.some more)) };
        last = record { before = now.taken; last = feeds.piece; split = refl; piece = feeds.few; behind = line_end-behind now.taken feeds.piece count is.behind };
      }

-- or the input ended
module _ (source : SourceSeen) (room : ℕ) (held held_left : List (List ℕ)) (text text_after : List ℕ)
    (now : IsTaking source.left source.left_after room held text) (end : IsAtEnd source.left_after) (held_none : held_left ≡ [] ∷ []) where
  takes_rest : text_after ≡ text ++ text_of_lines (last_line (rest_of (pieces_of now.taken))) → TookLines source room held_left text_after
  takes_rest is =
      let taken = now.taken in
      let text_is : text_after ≡ text_of_lines (whole_lines (pieces_of taken) ++ last_line (rest_of (pieces_of taken))) =
      is ∙ ap (λ l. l ++ text_of_lines (last_line (rest_of (pieces_of taken)))) now.text_is ∙ sym (text_of_lines-append (whole_lines (pieces_of taken)) (last_line (rest_of (pieces_of taken)))) in
      record {
        taken = taken;
        bytes = now.bytes;
        room = now.room_is;
        size = length taken;
        within = omega arith;
        held = held_none ∙ ap pieces_of (sym (drop_all (length taken) taken (omega arith)));
        holds = record { holds = inr (end, subst (HasSchemaLines taken (length taken)) (sym text_is) (holds_all taken now.no_end)) };
        last = record { before = taken; last = []; split = sym (append-nil taken); piece = omega arith; behind = omega arith };
      }

  pub takes_all : held ≡ [] ∷ [] → text_after ≡ text → TookLines source room held_left text_after
  takes_all none same =
      let empty : rest_of (pieces_of now.taken) ≡ [] = ap rest_of (sym now.held_is ∙ none) in
      takes_rest (same ∙ sym (append-nil text) ∙ ap (λ l. text ++ text_of_lines (last_line l)) (sym empty))

  last_line-some : (rest : List ℕ) → rest ≢ [] → last_line rest ≡ rest ∷ []
  last_line-some [] some = absurd (some refl)
  last_line-some (b ∷ rest) some = refl

  pub takes_last : (line : List ℕ) → held ≡ line ∷ [] → held ≢ [] ∷ [] → text_after ≡ text ++ line ++ 10 ∷ [] → TookLines source room held_left text_after
  takes_last line is some pushed =
      let rest : rest_of (pieces_of now.taken) ≡ line = ap rest_of (sym now.held_is ∙ is) in
      let lines : last_line line ≡ line ∷ [] = last_line-some line (λ e. some (is ∙ ap (λ l. l ∷ []) e)) in
      takes_rest (pushed ∙ append_assoc text line (10 ∷ []) ∙ sym (ap (λ l. text ++ text_of_lines (last_line l)) rest ∙ ap (λ l. text ++ text_of_lines l) lines ∙ ap (λ l. text ++ l) (append-nil (line ++ 10 ∷ []))))

-- or no piece came
one_byte : (bytes : List ℕ) → length bytes ≡ 0 + 1 → (byte : ℕ) × (bytes ≡ byte ∷ [])
one_byte [] one = absurd (omega (arith, one))
one_byte (byte ∷ []) one = (byte, refl)
one_byte (byte ∷ next ∷ bytes) one = absurd (omega (arith, one))

pub stops_taking : (source : SourceSeen) (left_now : Option (List ℕ)) (faults_now room : ℕ) (held : List (List ℕ)) (text : List ℕ) (stop : InputStop) → IsTaking source.left left_now room held text → faults_now ≡ source.faults
    → StopsFeeding room left_now source.left_after faults_now source.faults_after stop → StopsBeforeEnd source stop
stops_taking source left_now faults_now room held text input_stop.Fault now same stops =
    (rw (sym same) stops.1, record { taken = now.taken; bytes = Consumes-kept source.left left_now source.left_after now.taken now.bytes stops.0; says = record { few = omega (arith, now.room_is); no_end = now.no_end } })
stops_taking source left_now faults_now room held text input_stop.TooLong now same stops =
    let one = one_byte stops.1.input stops.1.above in (
      stops.2 ∙ same,
      record {
        taken = now.taken;
        byte = one.0;
        bytes = Consumes-trans source.left left_now source.left_after now.taken (one.0 ∷ []) now.bytes (subst (Consumes left_now source.left_after) one.1 stops.1.bytes);
        all = omega (arith, now.room_is, stops.0);
        no_end = now.no_end;
      },
    )
stops_taking source left_now faults_now room held text input_stop.Memory now same stops = (
  stops.1 ∙ same,
  record {
    input = now.taken ++ stops.0.input;
    bytes = Consumes-trans source.left left_now source.left_after now.taken stops.0.input now.bytes stops.0.bytes;
    few = omega (arith, now.room_is, stops.0.few, length-append now.taken stops.0.input);
  },
)

-- or there was no memory for the lines of one
pub wants_memory : (left left_now left_after : Option (List ℕ)) (before after : Reading) (held held_after : List (List ℕ)) (text : List ℕ) → IsTaking left left_now before.room held text → Feeds left_now left_after before after held held_after
    → TakesAtMost INPUT_LIMIT left left_after
wants_memory left left_now left_after before after held held_after text now feeds = record {
  input = now.taken ++ feeds.piece;
  bytes = Consumes-trans left left_now left_after now.taken feeds.piece now.bytes feeds.bytes;
  few = omega (arith, now.room_is, feeds.room, length-append now.taken feeds.piece);
}
