-- An input whose lines are pulled one after the other, each by its front.
use Rattle.std.specs.Prelude.{◌≡◌, ℕ, ◌+◌, ◌≤◌, Bool, true, false, List, ◌++◌, ◌⊎◌, [], ◌∷◌, length, map, Option, Result, Ok, Err, if◌then◌else◌}
use Rattle.std.specs.Io.KnownBytes.{Consumes, IsAtEnd}
use Rattle.cube_base.specs.Outside.{Rose, SourceTold}
use Rattle.text_lines.specs.Text.{lines_of}
use Rattle.text_lines.specs.declared.input.InputStop.{InputStop}
use Rattle.text_lines.specs.declared.input.InputStop.TheVariants.{Fault, TooLong, Memory}
use Rattle.text_lines.specs.declared.piece_reader.LineInput.{LineInput}
use Rattle.text_lines.specs.Input.{EndsOnce, INPUT_LIMIT, ends_if}
use Rattle.text_lines.specs.Pieces.{ended_lines, front, last_line, pieces_of, rest_of, whole_lines}
use Rattle.script_run.specs.Stream.{EndsInLast}

-- nothing of the input was taken
abbrev pub IsFresh : LineInput → Type 0
IsFresh input = (input.pieces ≡ record { room = INPUT_LIMIT; is_ended = false }) × (input.lines.lines ≡ [] ∷ [])

-- the lines that are held where no byte is to come: those that are whole, and the rest, unless it is empty
abbrev pub held_lines : List (List ℕ) → List (List ℕ)
held_lines held = whole_lines held ++ last_line (rest_of held)

-- of what was taken the lines that were pulled come first, those that are held whole stand after them, and then the
-- rest
pub record HoldsRest (taken : List ℕ) (held pulled : List (List ℕ)) : Type 0 where
  pub whole : pulled ++ whole_lines held ≡ whole_lines (pieces_of taken)
  pub rest : rest_of held ≡ rest_of (pieces_of taken)

-- the same, by whether the input ended: then the rest is a line too
abbrev pub HoldsLines : Bool → List ℕ → List (List ℕ) → List (List ℕ) → Type 0
HoldsLines false taken held pulled = HoldsRest taken held pulled
HoldsLines true taken held pulled = pulled ++ held_lines held ≡ map front (lines_of taken)

-- nothing was taken, or the n-th line ends in the last piece that was, or after it
abbrev pub IsNearLine : List ℕ → ℕ → Type 0
IsNearLine taken n = (taken ≡ []) ⊎ EndsInLast [] taken n

-- Some bytes were taken of an input of which nothing was at the start, and these lines pulled. The source had no fault, and was not
-- read after its end.
pub record Pulling (start now : SourceTold) (input : LineInput) (pulled : List (List ℕ)) (n : ℕ) : Type 0 where
  pub taken : List ℕ
  pub bytes : Consumes start.left now.left taken
  pub room_left : input.pieces.room + length taken ≡ INPUT_LIMIT
  pub end : input.pieces.is_ended ≡ true → IsAtEnd now.left
  pub lines : HoldsLines input.pieces.is_ended taken input.lines.lines pulled
  pub near : IsNearLine taken n
  pub faults : now.faults ≡ start.faults
  pub ends : now.ends ≡ ends_if input.pieces.is_ended start.ends

-- between two pulls: the line that was pulled last ends in the last piece that was taken
abbrev pub Pulled : SourceTold → SourceTold → LineInput → List (List ℕ) → Type 0
Pulled start now input pulled = Pulling start now input pulled (length pulled)

-- All lines of the whole input were pulled.
pub record PulledAll (start now : SourceTold) (pulled : List (List ℕ)) : Type 0 where
  pub taken : List ℕ
  pub bytes : Consumes start.left now.left taken
  pub few : length taken ≤ INPUT_LIMIT
  pub end : IsAtEnd now.left
  pub all : pulled ≡ map front (lines_of taken)
  pub faults : now.faults ≡ start.faults
  pub ends : EndsOnce start.ends now.ends

-- These lines are the first of those that have come, by their fronts: of those that end in what was taken, or of all, where that is
-- the whole input.
pub record AreFirst (taken : List ℕ) (left : Option (List ℕ)) (pulled : List (List ℕ)) : Type 0 where
  pub lines : List (List ℕ)
  pub lines_are : (lines ≡ ended_lines taken) ⊎ (IsAtEnd left × (lines ≡ lines_of taken))
  pub more : List (List ℕ)
  pub all : pulled ++ more ≡ map front lines

-- Lines that have come were pulled, and no more were.
pub record PulledSome (start now : SourceTold) (pulled : List (List ℕ)) : Type 0 where
  pub taken : List ℕ
  pub bytes : Consumes start.left now.left taken
  pub few : length taken ≤ INPUT_LIMIT
  pub first : AreFirst taken now.left pulled
  pub faults : now.faults ≡ start.faults
  pub ends : EndsOnce start.ends now.ends

-- A read failed. The lines that end in what was taken were pulled.
pub record PulledEnded (start now : SourceTold) (pulled : List (List ℕ)) : Type 0 where
  pub taken : List ℕ
  pub bytes : Consumes start.left now.left taken
  pub few : length taken ≤ INPUT_LIMIT
  pub ended : pulled ≡ map front (ended_lines taken)
  pub failed : Rose start.faults now.faults
  pub ends : EndsOnce start.ends now.ends

-- The byte came that is one too many. The lines that end before it were pulled.
pub record PulledTooMuch (start now : SourceTold) (pulled : List (List ℕ)) : Type 0 where
  pub taken : List ℕ
  pub byte : ℕ
  pub bytes : Consumes start.left now.left (taken ++ byte ∷ [])
  pub all : length taken ≡ INPUT_LIMIT
  pub ended : pulled ≡ map front (ended_lines taken)
  pub faults : now.faults ≡ start.faults
  pub ends : EndsOnce start.ends now.ends

-- What the pull of a line gives after these: one more, or why there is none.
abbrev pub Pulls : SourceTold → SourceTold → LineInput → List (List ℕ) → List ℕ → Result Bool InputStop → Type 0
Pulls start now input pulled line (Ok true) = Pulled start now input (pulled ++ line ∷ [])
Pulls start now input pulled line (Ok false) = PulledAll start now pulled
Pulls start now input pulled line (Err Fault) = PulledEnded start now pulled
Pulls start now input pulled line (Err TooLong) = PulledTooMuch start now pulled
Pulls start now input pulled line (Err Memory) = PulledSome start now pulled

-- What the copy of the next line gives that is held whole. Where there is none, what is held stays.
abbrev pub CopiesWhole : List (List ℕ) → List (List ℕ) → List ℕ → Result Bool InputStop → Type 0
CopiesWhole held held_after line (Ok true) = (whole_lines held ≡ line ∷ whole_lines held_after) × (rest_of held_after ≡ rest_of held)
CopiesWhole held held_after line (Ok false) = (length held ≡ 1) × (held_after ≡ held)
CopiesWhole held held_after line (Err stop) = stop ≡ Memory

-- the same where no byte is to come
abbrev pub CopiesHeld : List (List ℕ) → List (List ℕ) → List ℕ → Result Bool InputStop → Type 0
CopiesHeld held held_after line (Ok true) = held_lines held ≡ line ∷ held_lines held_after
CopiesHeld held held_after line (Ok false) = held_lines held ≡ []
CopiesHeld held held_after line (Err stop) = stop ≡ Memory

-- how many lines may still be pulled: no more than bytes may be taken and lines are held, the rest among them
abbrev pub pulls_left : LineInput → ℕ
pulls_left input = input.pieces.room + (if input.pieces.is_ended then length (held_lines input.lines.lines) else length input.lines.lines)
