-- What was written of the replies to lines.
use Rattle.std.specs.Prelude.{◌≡◌, ℕ, ◌-◌, ◌<◌, ◌≤◌, List, ◌⊎◌, length, take}
use Rattle.std.specs.List.{concat}
use Rattle.std.specs.Io.{StartsWith}
use Rattle.std.specs.Io.KnownBytes.{Appends}
use Rattle.script_run.specs.Seen.{SinkSeen}

-- What was written of these replies when the run stopped: a part of the first so many, with all but the last of
-- them whole.
pub record Stopped (replies : List (List ℕ)) (done : ℕ) (written : List ℕ) : Type 0 where
  pub among : done ≤ length replies
  pub prefix : StartsWith (concat (take done replies)) written
  pub holds : StartsWith written (concat (take (done - 1) replies))

-- the last of them is not whole
pub record Broken (replies : List (List ℕ)) (done : ℕ) (written : List ℕ) : Type 0 where
  pub stopped : Stopped replies done written
  pub part : length written < length (concat (take done replies))

-- Of the first so many replies all were written, or all but the last.
pub record Gathered (replies : List (List ℕ)) (done : ℕ) (written : List ℕ) : Type 0 where
  pub among : done ≤ length replies
  pub whole : (written ≡ concat (take done replies)) ⊎ (written ≡ concat (take (done - 1) replies))

-- the first so many replies were written, all of them, and nothing after them
pub record Answered (replies : List (List ℕ)) (done : ℕ) (sink : SinkSeen) : Type 0 where
  pub among : done ≤ length replies
  pub bytes : Appends sink.taken sink.taken_after (concat (take done replies))
