-- What the applying of a batch does: it is kept, and a line says so.
use Rattle.std.specs.Prelude.{◌≡◌, ℕ, ◌+◌, [], ◌∷◌, Result, Ok, Err}
use Rattle.std.specs.Io.KnownBytes.{Appends}
use Rattle.cube_base.specs.Outside.{TakesPart}
use Rattle.fact_keeper.specs.declared.content.Batch.{Batch}
use Rattle.script_run.specs.declared.break_off.BreakOff.{BreakOff}
use Rattle.script_run.specs.declared.break_off.BreakOff.TheVariants.{Write, SinkMemory, Memory, Keep}
use Rattle.script_run.specs.Seen.{KeeperSeen, NoWriteFault, SinkSeen, WriteFailed}
use Rattle.feed_run.specs.Following.{applied_text}
use Rattle.feed_run.specs.LeadTurn.{KeptAll, KeptFailed, KeptNothing, SentNothing}

-- a batch of a number was kept, and the line that says so written; or a part of it
pub record ToldBatch (batch : Batch) (number : ℕ) (sink : SinkSeen) (keeper : KeeperSeen) : Type 0 where
  pub kept : KeptAll (batch ∷ []) keeper
  pub wrote : Appends sink.taken sink.taken_after (applied_text number)
  pub write : NoWriteFault sink

pub record ToldPart (batch : Batch) (before number : ℕ) (sink : SinkSeen) (keeper : KeeperSeen) : Type 0 where
  pub next : number ≡ before + 1
  pub kept : KeptAll (batch ∷ []) keeper
  pub part : TakesPart sink.taken sink.taken_after (applied_text number)

-- What the applying of a batch does after so many.
abbrev pub AppliesBatch : {T : Type 0} → Batch → ℕ → SinkSeen → KeeperSeen → Result T BreakOff → Type 0
AppliesBatch batch before sink keeper (Ok _) = ToldBatch batch (before + 1) sink keeper
AppliesBatch batch before sink keeper (Err (Write number)) = ToldPart batch before number sink keeper × WriteFailed sink
AppliesBatch batch before sink keeper (Err (SinkMemory number)) = ToldPart batch before number sink keeper × NoWriteFault sink
AppliesBatch batch before sink keeper (Err (Memory done)) = (done ≡ before) × SentNothing sink × KeptNothing keeper
AppliesBatch batch before sink keeper (Err (Keep done)) = (done ≡ before) × SentNothing sink × KeptFailed keeper
