-- What the steps of a pull do to the lines that were pulled.
use Rattle.std.proofs.Common.{◌≡◌, ℕ, ◌+◌, ◌≤◌, Bool, true, false, List, [], ◌∷◌, ◌++◌, length, map, Result, Ok, Err, Option, refl, sym, ap, ◌∙◌, subst, append-nil, append_assoc, inl, inr, arith, length-append}
use Rattle.std.specs.Io.KnownBytes.{Consumes, IsAtEnd}
use Rattle.std.proofs.KnownBytes.{Consumes-kept, Consumes-nil, Consumes-trans}
use Rattle.std.proofs.lemmas.List.Sums.{count_by-le-length}
use Rattle.cube_base.specs.Outside.{SourceTold}
use Rattle.text_lines.specs.Text.{lines_of}
use Rattle.text_lines.specs.declared.input.InputStop.{InputStop}
use Rattle.text_lines.specs.declared.input.InputStop.TheVariants.{Fault, TooLong, Memory}
use Rattle.text_lines.specs.declared.piece_reader.LineInput.{LineInput}
use Rattle.text_lines.specs.Input.{EndsOnce, INPUT_LIMIT, ends_if}
use Rattle.text_lines.specs.Pieces.{Held, ended_lines, front, is_lf, last_line, lf_count, pieces_of, rest_of, whole_lines}
use Rattle.text_lines.specs.Reading.{Feeds, Reading, StopsFeeding}
use Rattle.text_lines.proofs.Ended.{lines_of-last, rest_of-more, whole_lines-ended, whole_lines-length, whole_lines-more}
use Rattle.feed_run.specs.Pulling.{AreFirst, CopiesHeld, CopiesWhole, HoldsLines, HoldsRest, IsFresh, IsNearLine, Pulled, PulledAll, PulledSome, Pulling, Pulls, held_lines}

-- what ends in the last piece, or behind it, does so later too
near-later : (taken : List ℕ) (n m : ℕ) → n ≤ m → IsNearLine taken n → IsNearLine taken m
near-later taken n m le near =
    elim near [
      | inl none ↦ inl none
      | inr ends ↦ inr (record { before = ends.before; last = ends.last; split = ends.split; piece = ends.piece; behind = omega (arith, ends.behind) })
    ]

pub pulling-later : (start now : SourceTold) (input : LineInput) (pulled : List (List ℕ)) (n m : ℕ) → n ≤ m → Pulling start now input pulled n → Pulling start now input pulled m
pulling-later start now input pulled n m le stands = record {
  taken = stands.taken;
  bytes = stands.bytes;
  room_left = stands.room_left;
  end = stands.end;
  lines = stands.lines;
  near = near-later stands.taken n m le stands.near;
  faults = stands.faults;
  ends = stands.ends;
}

-- the source gave no byte once at most
pub ends_once : (is_ended : Bool) (before after : ℕ) → after ≡ ends_if is_ended before → EndsOnce before after
ends_once false before after ends = inl ends
ends_once true before after ends = inr ends

-- where one is held, it is the rest
whole_one : (held : List (List ℕ)) → length held ≡ 1 → whole_lines held ≡ []
whole_one [] one = absurd (omega (arith, one))
whole_one (rest ∷ []) one = refl
whole_one (line ∷ next ∷ held) one = absurd (omega (arith, one))

all_whole : (taken : List ℕ) (held pulled : List (List ℕ)) → length held ≡ 1 → HoldsRest taken held pulled → pulled ≡ whole_lines (pieces_of taken)
all_whole taken held pulled one holds = sym (append-nil pulled) ∙ ap (λ l. pulled ++ l) (sym (whole_one held one)) ∙ holds.whole

all_ended : (taken : List ℕ) (held pulled : List (List ℕ)) → length held ≡ 1 → HoldsRest taken held pulled → pulled ≡ map front (ended_lines taken)
all_ended taken held pulled one holds = all_whole taken held pulled one holds ∙ whole_lines-ended taken

-- behind the rest comes a piece
rest_fed : (taken piece : List ℕ) (held pulled : List (List ℕ)) → length held ≡ 1 → HoldsRest taken held pulled → HoldsRest (taken ++ piece) (pieces_of (rest_of held ++ piece)) pulled
rest_fed taken piece held pulled one holds = record {
  whole =
      ap (λ l. l ++ whole_lines (pieces_of (rest_of held ++ piece))) (all_whole taken held pulled one holds)
      ∙ ap (λ r. whole_lines (pieces_of taken) ++ whole_lines (pieces_of (r ++ piece))) holds.rest
      ∙ sym (whole_lines-more taken piece);
  rest = ap (λ r. rest_of (pieces_of (r ++ piece))) holds.rest ∙ sym (rest_of-more taken piece);
}

-- at the end of the input the rest is a line too
rest_ended : (taken : List ℕ) (held pulled : List (List ℕ)) → HoldsRest taken held pulled → pulled ++ held_lines held ≡ map front (lines_of taken)
rest_ended taken held pulled holds =
    sym (append_assoc pulled (whole_lines held) (last_line (rest_of held)))
    ∙ ap (λ l. l ++ last_line (rest_of held)) holds.whole
    ∙ ap (λ r. whole_lines (pieces_of taken) ++ last_line r) holds.rest
    ∙ sym (lines_of-last taken)

holds_lines : (is_ended : Bool) (taken : List ℕ) (held pulled : List (List ℕ)) → HoldsRest taken held pulled → HoldsLines is_ended taken held pulled
holds_lines false taken held pulled holds = holds
holds_lines true taken held pulled holds = rest_ended taken held pulled holds

-- lines that were pulled are the first of those that have come
first_whole : (taken : List ℕ) (left : Option (List ℕ)) (held pulled : List (List ℕ)) → HoldsRest taken held pulled → AreFirst taken left pulled
first_whole taken left held pulled holds = record {
  lines = ended_lines taken;
  lines_are = inl refl;
  more = whole_lines held;
  all = holds.whole ∙ whole_lines-ended taken;
}

first_of : (taken : List ℕ) (left : Option (List ℕ)) (is_ended : Bool) (held pulled : List (List ℕ)) → (is_ended ≡ true → IsAtEnd left) → HoldsLines is_ended taken held pulled → AreFirst taken left pulled
first_of taken left false held pulled end holds = first_whole taken left held pulled holds
first_of taken left true held pulled end holds = record {
  lines = lines_of taken;
  lines_are = inr (end refl, refl);
  more = held_lines held;
  all = holds;
}

pub pulled_first : (start now : SourceTold) (input : LineInput) (pulled : List (List ℕ)) (n : ℕ) (stands : Pulling start now input pulled n) → AreFirst stands.taken now.left pulled
pulled_first start now input pulled n stands = first_of stands.taken now.left input.pieces.is_ended input.lines.lines pulled stands.end stands.lines

-- they are no more than the bytes of an input, and one
few_lines : (taken : List ℕ) (is_ended : Bool) (held pulled : List (List ℕ)) → HoldsLines is_ended taken held pulled → length pulled ≤ length taken + 1
few_lines taken false held pulled holds =
    omega (arith, ap length holds.whole, length-append pulled (whole_lines held), whole_lines-length taken, count_by-le-length is_lf taken)
few_lines taken true held pulled holds =
    omega (arith, ap length holds, length-append pulled (held_lines held), ap length (lines_of-last taken), length-append (whole_lines (pieces_of taken)) (last_line (rest_of (pieces_of taken))), one_last (rest_of (pieces_of taken)), whole_lines-length taken, count_by-le-length is_lf taken)
  where
    one_last : (rest : List ℕ) → length (last_line rest) ≤ 1
    one_last [] = omega arith
    one_last (b ∷ rest) = omega arith

pub pulled_few : (start now : SourceTold) (input : LineInput) (pulled : List (List ℕ)) (n : ℕ) → Pulling start now input pulled n → length pulled ≤ INPUT_LIMIT + 1
pulled_few start now input pulled n stands = omega (arith, stands.room_left, few_lines stands.taken input.pieces.is_ended input.lines.lines pulled stands.lines)

-- a line is pulled of those that are held whole
rest_pulled : (taken line : List ℕ) (held held_after pulled : List (List ℕ)) → CopiesWhole held held_after line (Ok true) → HoldsRest taken held pulled → HoldsRest taken held_after (pulled ++ line ∷ [])
rest_pulled taken line held held_after pulled copies holds = record {
  whole = append_assoc pulled (line ∷ []) (whole_lines held_after) ∙ ap (λ l. pulled ++ l) (sym copies.0) ∙ holds.whole;
  rest = copies.1 ∙ holds.rest;
}

-- nothing was taken yet
pub pulled_fresh : (start : SourceTold) (input : LineInput) → IsFresh input → Pulled start start input []
pulled_fresh start input fresh = record {
  taken = [];
  bytes = Consumes-nil start.left;
  room_left = omega (arith, ap (λ (r : Reading). r.room) fresh.0);
  end = λ ended. absurd (cc (ended, ap (λ (r : Reading). r.is_ended) fresh.0));
  lines = rw (ap (λ (r : Reading). r.is_ended) fresh.0) (record { whole = ap whole_lines fresh.1; rest = ap rest_of fresh.1 });
  near = inl refl;
  faults = refl;
  ends = rw (ap (λ (r : Reading). r.is_ended) fresh.0) refl;
}

module _ (start now : SourceTold) (input : LineInput) (pulled : List (List ℕ)) (stands : Pulling start now input pulled (length pulled + 1)) where
  few_taken : length stands.taken ≤ INPUT_LIMIT
  few_taken = omega (arith, stands.room_left)

  -- the input did not end yet
  module _ (more : input.pieces.is_ended ≡ false) where
    holds : HoldsRest stands.taken input.lines.lines pulled
    holds = subst (λ b. HoldsLines b stands.taken input.lines.lines pulled) more stands.lines

    ends_here : now.ends ≡ start.ends
    ends_here = subst (λ b. now.ends ≡ ends_if b start.ends) more stands.ends

    -- a line is pulled
    pub whole_pulled : (after : LineInput) (line : List ℕ) → after.pieces ≡ input.pieces → CopiesWhole input.lines.lines after.lines.lines line (Ok true) → Pulled start now after (pulled ++ line ∷ [])
    whole_pulled after line same copies =
        let one_more : length (pulled ++ line ∷ []) ≡ length pulled + 1 = length-append pulled (line ∷ []) in
        let not_ended : after.pieces.is_ended ≡ false = ap (λ (r : Reading). r.is_ended) same ∙ more in
        record {
          taken = stands.taken;
          bytes = stands.bytes;
          room_left = rw same stands.room_left;
          end = λ ended. absurd (cc (ended, not_ended));
          lines = rw not_ended (rest_pulled stands.taken line input.lines.lines after.lines.lines pulled copies holds);
          near = near-later stands.taken (length pulled + 1) (length (pulled ++ line ∷ [])) (omega (arith, one_more)) stands.near;
          faults = stands.faults;
          ends = rw not_ended ends_here;
        }

    -- there is no memory for it
    pub whole_memory : PulledSome start now pulled
    whole_memory = record {
      taken = stands.taken;
      bytes = stands.bytes;
      few = few_taken;
      first = first_whole stands.taken now.left input.lines.lines pulled holds;
      faults = stands.faults;
      ends = inl ends_here;
    }

    -- no whole line is held
    module _ (one : length input.lines.lines ≡ 1) where
      -- a piece is taken
      pub piece_pulled : (later : SourceTold) (after : LineInput) → Feeds now.left later.left input.pieces after.pieces input.lines.lines after.lines.lines → later.faults ≡ now.faults → later.ends ≡ ends_if after.pieces.is_ended now.ends
          → Pulling start later after pulled (length pulled + 1)
      piece_pulled later after feeds same ends =
          let count : length pulled ≡ lf_count stands.taken = ap length (all_whole stands.taken input.lines.lines pulled one holds) ∙ whole_lines-length stands.taken in
          let fed = subst (λ l. HoldsRest (stands.taken ++ feeds.piece) l pulled) (sym feeds.rest) (rest_fed stands.taken feeds.piece input.lines.lines pulled one holds) in
          record {
            taken = stands.taken ++ feeds.piece;
            bytes = Consumes-trans start.left now.left later.left stands.taken feeds.piece stands.bytes feeds.bytes;
            room_left = omega (arith, length-append stands.taken feeds.piece, stands.room_left, feeds.room);
            end = λ ended. (feeds.end ended).1;
            lines = holds_lines after.pieces.is_ended (stands.taken ++ feeds.piece) after.lines.lines pulled fed;
            near = inr (record { before = stands.taken; last = feeds.piece; split = refl; piece = feeds.few; behind = omega (arith, count) });
            faults = same ∙ stands.faults;
            ends = ends ∙ ap (ends_if after.pieces.is_ended) ends_here;
          }

      -- or none
      pub none_pulled : (later : SourceTold) (after : LineInput) (line : List ℕ) (stop : InputStop) → StopsFeeding input.pieces.room now.left later.left now.faults later.faults stop → EndsOnce now.ends later.ends
          → Pulls start later after pulled line (Err stop)
      none_pulled later after line Fault (keeps, rose) once = record {
        taken = stands.taken;
        bytes = Consumes-kept start.left now.left later.left stands.taken stands.bytes keeps;
        few = few_taken;
        ended = all_ended stands.taken input.lines.lines pulled one holds;
        failed = rw (sym stands.faults) rose;
        ends = rw (sym ends_here) once;
      }
      none_pulled later after line TooLong (none, goes_on, same) once =
          let byte = one_byte goes_on.input goes_on.above in
          record {
            taken = stands.taken;
            byte = byte.0;
            bytes = Consumes-trans start.left now.left later.left stands.taken (byte.0 ∷ []) stands.bytes (subst (Consumes now.left later.left) byte.1 goes_on.bytes);
            all = omega (arith, none, stands.room_left);
            ended = all_ended stands.taken input.lines.lines pulled one holds;
            faults = same ∙ stands.faults;
            ends = rw (sym ends_here) once;
          }
        where
          one_byte : (bytes : List ℕ) → length bytes ≡ 0 + 1 → (byte : ℕ) × (bytes ≡ byte ∷ [])
          one_byte [] is_one = absurd (omega (arith, is_one))
          one_byte (byte ∷ []) is_one = (byte, refl)
          one_byte (byte ∷ next ∷ bytes) is_one = absurd (omega (arith, is_one))
      none_pulled later after line Memory (takes, same) once =
          let fed = rest_fed stands.taken takes.input input.lines.lines pulled one holds in
          record {
            taken = stands.taken ++ takes.input;
            bytes = Consumes-trans start.left now.left later.left stands.taken takes.input stands.bytes takes.bytes;
            few = omega (arith, length-append stands.taken takes.input, takes.few, stands.room_left);
            first = first_whole (stands.taken ++ takes.input) later.left (pieces_of (rest_of input.lines.lines ++ takes.input)) pulled fed;
            faults = same ∙ stands.faults;
            ends = rw (sym ends_here) once;
          }

  -- the input ended
  module _ (ended : input.pieces.is_ended ≡ true) where
    holds_all : pulled ++ held_lines input.lines.lines ≡ map front (lines_of stands.taken)
    holds_all = subst (λ b. HoldsLines b stands.taken input.lines.lines pulled) ended stands.lines

    last_pulled : (after : LineInput) (line : List ℕ) → after.pieces ≡ input.pieces → CopiesHeld input.lines.lines after.lines.lines line (Ok true) → Pulled start now after (pulled ++ line ∷ [])
    last_pulled after line same copies =
        let one_more : length (pulled ++ line ∷ []) ≡ length pulled + 1 = length-append pulled (line ∷ []) in
        let is_ended : after.pieces.is_ended ≡ true = ap (λ (r : Reading). r.is_ended) same ∙ ended in
        record {
          taken = stands.taken;
          bytes = stands.bytes;
          room_left = rw same stands.room_left;
          end = λ _. stands.end ended;
          lines = rw is_ended (append_assoc pulled (line ∷ []) (held_lines after.lines.lines) ∙ ap (λ l. pulled ++ l) (sym copies) ∙ holds_all);
          near = near-later stands.taken (length pulled + 1) (length (pulled ++ line ∷ [])) (omega (arith, one_more)) stands.near;
          faults = stands.faults;
          ends = rw is_ended (subst (λ b. now.ends ≡ ends_if b start.ends) ended stands.ends);
        }

    all_pulled : held_lines input.lines.lines ≡ [] → PulledAll start now pulled
    all_pulled none = record {
      taken = stands.taken;
      bytes = stands.bytes;
      few = few_taken;
      end = stands.end ended;
      all = sym (append-nil pulled) ∙ ap (λ l. pulled ++ l) (sym none) ∙ holds_all;
      faults = stands.faults;
      ends = ends_once input.pieces.is_ended start.ends now.ends stands.ends;
    }

    last_memory : PulledSome start now pulled
    last_memory = record {
      taken = stands.taken;
      bytes = stands.bytes;
      few = few_taken;
      first = first_of stands.taken now.left true input.lines.lines pulled (λ _. stands.end ended) holds_all;
      faults = stands.faults;
      ends = ends_once input.pieces.is_ended start.ends now.ends stands.ends;
    }

    -- what the pull of a line gives then
    pub ends_pulled : (held_after : Held) (line : List ℕ) (result : Result Bool InputStop) → CopiesHeld input.lines.lines held_after.lines line result → Pulls start now (record { pieces = input.pieces; lines = held_after }) pulled line result
    ends_pulled held_after line (Ok true) copies = last_pulled (record { pieces = input.pieces; lines = held_after }) line refl copies
    ends_pulled held_after line (Ok false) copies = all_pulled copies
    ends_pulled held_after line (Err stop) copies = subst (λ s. Pulls start now (record { pieces = input.pieces; lines = held_after }) pulled line (Err s)) (sym copies) last_memory

-- where no line is pulled, the source gave no byte once at most
pub stopped_once : (start now : SourceTold) (input : LineInput) (pulled : List (List ℕ)) (line : List ℕ) (stop : InputStop) → Pulls start now input pulled line (Err stop) → EndsOnce start.ends now.ends
stopped_once start now input pulled line Fault stops = stops.ends
stopped_once start now input pulled line TooLong stops = stops.ends
stopped_once start now input pulled line Memory stops = stops.ends
