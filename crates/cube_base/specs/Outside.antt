-- What the objects of the outside tell: when a call of theirs may fail.
use Rattle.std.specs.Prelude.{◌≡◌, ℕ, ◌+◌, ◌-◌, ◌^◌, ◌<◌, ◌≤◌, ◌==◌, min, List, length, take, drop, if◌then◌else◌, Option, Result, MatchResult, Ok, Err}
use Rattle.std.specs.Io.KnownBytes.{Appends}
use Rattle.cube_base.specs.declared.fault.SinkError.{SinkError}
use Rattle.cube_base.specs.declared.fault.SinkError.TheVariants.{Failed, Memory}

-- What a source tells of itself: the bytes left, where it tells them, how many faults there were, and how many reads gave no byte.
pub record SourceTold : Type 0 where
  pub left : Option (List ℕ)
  pub faults : ℕ
  pub ends : ℕ

-- What a sink tells of itself: the bytes taken, where it tells them, and how many faults there were.
pub record SinkTold : Type 0 where
  pub taken : Option (List ℕ)
  pub faults : ℕ

-- the value at which a count stands
abbrev pub LAST_COUNT : ℕ
LAST_COUNT = 2 ^ 64 - 1

-- a count after one more, which stands at its last value
abbrev pub next_count : ℕ → ℕ
next_count n = min (n + 1) LAST_COUNT

-- A count of faults rose in a call: it is greater after it than before, or stands at its last value.
pub record Rose (before after : ℕ) : Type 0 where
  pub no_less : before ≤ after
  pub risen : next_count before ≤ after

-- a call whose one error is a fault of the outside: at an error the count rose, else it stays
abbrev pub CountsFault : {T E : Type 0} → ℕ → ℕ → Result T E → Type 0
CountsFault before after result = MatchResult result (λ _. after ≡ before) (λ _. Rose before after)

-- a call that may also run out of memory: the count rose at a fault, and stays at every other answer
abbrev pub CountsSinkFault : {T : Type 0} → ℕ → ℕ → Result T SinkError → Type 0
CountsSinkFault before after (Ok _) = after ≡ before
CountsSinkFault before after (Err Failed) = Rose before after
CountsSinkFault before after (Err Memory) = after ≡ before

-- the count of reads that gave no byte, after one more that gave so many
abbrev pub ends_with : ℕ → ℕ → ℕ
ends_with ends given = if given == 0 then next_count ends else ends

-- a read: one that gives no byte is counted, and every other answer leaves the count
abbrev pub CountsEnd : {E : Type 0} → ℕ → ℕ → Result ℕ E → Type 0
CountsEnd before after result = MatchResult result (λ given. after ≡ ends_with before given) (λ _. after ≡ before)

-- a prefix of the text was taken, and not the whole
pub record TakesPart (old new : Option (List ℕ)) (text : List ℕ) : Type 0 where
  pub count : ℕ
  pub part : count < length text
  pub bytes : Appends old new (take count text)

-- the bytes of the text from place i up to place j
abbrev pub between : List ℕ → ℕ → ℕ → List ℕ
between text i j = drop i (take j text)
