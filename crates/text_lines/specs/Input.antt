-- Taking the whole input.
use Rattle.std.specs.Prelude.{◌≡◌, ℕ, ◌+◌, ◌<◌, ◌≤◌, ◌⊎◌, Bool, true, false, List, length, take, drop, if◌then◌else◌, Option}
use Rattle.std.specs.Io.KnownBytes.{Consumes, IsAtEnd}
use Rattle.cube_base.specs.Outside.{Rose, next_count}
use Rattle.text_lines.specs.declared.input.Input.{Input}
use Rattle.text_lines.specs.declared.input.InputStop.{InputStop}
use Rattle.text_lines.specs.declared.input.InputStop.TheVariants.{Fault, TooLong, Memory}

-- the most bytes of an input: 2^30
abbrev pub INPUT_LIMIT : ℕ
INPUT_LIMIT = 1073741824

-- the count of reads that gave no byte, where an input has ended meanwhile or not
abbrev pub ends_if : Bool → ℕ → ℕ
ends_if is_ended ends = if is_ended then next_count ends else ends

-- at most one read gave no byte: a source is not read again after its end
abbrev pub EndsOnce : ℕ → ℕ → Type 0
EndsOnce before after = (after ≡ before) ⊎ (after ≡ next_count before)

-- the input was taken to its end, and is no longer than the limit
pub record Taken (limit : ℕ) (left left_after : Option (List ℕ)) (input : List ℕ) : Type 0 where
  pub bytes : Consumes left left_after input
  pub end : IsAtEnd left_after
  pub within : length input ≤ limit

-- no more bytes than these were taken
pub record TakesAtMost (most : ℕ) (left left_after : Option (List ℕ)) : Type 0 where
  pub input : List ℕ
  pub bytes : Consumes left left_after input
  pub few : length input ≤ most

-- the input goes on after the limit, and one byte after it was taken
pub record GoesOn (limit : ℕ) (left left_after : Option (List ℕ)) : Type 0 where
  pub input : List ℕ
  pub bytes : Consumes left left_after input
  pub above : length input ≡ limit + 1

-- a piece was taken: more bytes, unless the input ended there
pub record Reads (limit : ℕ) (left left_after : Option (List ℕ)) (before after : Input) : Type 0 where
  pub bytes : Consumes left left_after (drop (length before.bytes.items) after.bytes.items)
  pub front : take (length before.bytes.items) after.bytes.items ≡ before.bytes.items
  pub within : length after.bytes.items ≤ limit
  pub more : after.is_ended ≡ false → length before.bytes.items < length after.bytes.items
  pub end : after.is_ended ≡ true → IsAtEnd left_after

-- Why an input was not taken whole, of which some bytes came before: a read failed within the limit, the byte after the
-- limit came, or it ran out of memory within it.
abbrev pub StopsReading : ℕ → Option (List ℕ) → Option (List ℕ) → ℕ → ℕ → InputStop → Type 0
StopsReading limit left left_after faults faults_after Fault = TakesAtMost limit left left_after × Rose faults faults_after
StopsReading limit left left_after faults faults_after TooLong = GoesOn limit left left_after × (faults_after ≡ faults)
StopsReading limit left left_after faults faults_after Memory = TakesAtMost limit left left_after × (faults_after ≡ faults)
