-- An input that is read piece by piece.
use Rattle.std.specs.Prelude.{◌≡◌, ℕ, ◌+◌, ◌<◌, ◌≤◌, Bool, true, false, List, [], ◌++◌, length, Option}
use Rattle.std.specs.Io.KnownBytes.{Consumes, IsAtEnd, Keeps}
use Rattle.cube_base.specs.Outside.{Rose}
use Rattle.text_lines.specs.Input.{GoesOn, TakesAtMost}
use Rattle.text_lines.specs.Pieces.{pieces_of, rest_of}
use Rattle.text_lines.specs.declared.input.InputStop.{InputStop}
use Rattle.text_lines.specs.declared.input.InputStop.TheVariants.{Fault, TooLong, Memory}

-- the most bytes of a piece: 2^16
abbrev pub PIECE_LIMIT : ℕ
PIECE_LIMIT = 65536

-- how many bytes of an input may still be taken, and whether it ended
pub record Reading : Type 0 where
  pub room : ℕ
  pub is_ended : Bool

-- A piece was taken, and is held after what was held: bytes, unless the input ended there.
pub record Feeds (left left_after : Option (List ℕ)) (before after : Reading) (held held_after : List (List ℕ)) : Type 0 where
  pub piece : List ℕ
  pub bytes : Consumes left left_after piece
  pub rest : held_after ≡ pieces_of (rest_of held ++ piece)
  pub text : (text : List ℕ) → held ≡ pieces_of text → held_after ≡ pieces_of (text ++ piece)
  pub few : length piece ≤ PIECE_LIMIT
  pub few_lines : length held_after ≤ length piece + 1
  pub room : after.room + length piece ≡ before.room
  pub more : after.is_ended ≡ false → 0 < length piece
  pub end : after.is_ended ≡ true → (piece ≡ []) × IsAtEnd left_after

-- Why no piece was taken of an input of which so many bytes might still be: a read failed, and took none; the byte came that is
-- one too many; or there was no memory for the piece.
abbrev pub StopsFeeding : ℕ → Option (List ℕ) → Option (List ℕ) → ℕ → ℕ → InputStop → Type 0
StopsFeeding room left left_after faults faults_after Fault = Keeps left left_after × Rose faults faults_after
StopsFeeding room left left_after faults faults_after TooLong = (room ≡ 0) × GoesOn 0 left left_after × (faults_after ≡ faults)
StopsFeeding room left left_after faults faults_after Memory = TakesAtMost room left left_after × (faults_after ≡ faults)
