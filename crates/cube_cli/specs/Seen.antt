-- What is seen of the objects of the outside: what they tell before a call and after it.
use Rattle.std.specs.Prelude.{ℕ, ◌≡◌, ◌≤◌, Bool, true, false, List, [], length, Option, IfSome}
use Rattle.std.specs.Io.KnownBytes.{Consumes, IsAtEnd, Keeps}
use Rattle.fact_keeper.specs.Batch.{empty_content}
use Rattle.fact_keeper.specs.declared.content.Stored.{Stored}
use Rattle.script_run.specs.Seen.{KeepFailed, KeeperSeen, NoKeepFault, NoReadFault, NoWriteFault, ReadFailed, SeenAll, SourceSeen, WriteFailed, WroteNothing}
use Rattle.text_lines.specs.Input.{INPUT_LIMIT}

-- no fault of the outside was met
pub record NoFault (seen : SeenAll) : Type 0 where
  pub read : NoReadFault seen.source
  pub write : NoWriteFault seen.sink
  pub keep : NoKeepFault seen.keeper

-- a read failed, and nothing else
pub record OnlyReadFailed (seen : SeenAll) : Type 0 where
  pub cause : ReadFailed seen.source
  pub write : NoWriteFault seen.sink
  pub keep : NoKeepFault seen.keeper

-- a write failed, and nothing else
pub record OnlyWriteFailed (seen : SeenAll) : Type 0 where
  pub cause : WriteFailed seen.sink
  pub read : NoReadFault seen.source
  pub keep : NoKeepFault seen.keeper

-- the keeper failed, and nothing else
pub record OnlyKeepFailed (seen : SeenAll) : Type 0 where
  pub cause : KeepFailed seen.keeper
  pub read : NoReadFault seen.source
  pub write : NoWriteFault seen.sink

-- nothing was read
abbrev pub ReadNothing : SourceSeen → Type 0
ReadNothing source = Keeps source.left source.left_after

-- content and journal are as they were
abbrev pub IsUntouched : KeeperSeen → Type 0
IsUntouched keeper = keeper.told_after ≡ keeper.told

-- nothing was written, and nothing kept
pub record DidNothing (seen : SeenAll) : Type 0 where
  pub wrote : WroteNothing seen.sink
  pub kept : IsUntouched seen.keeper

-- and nothing was read
pub record LeftAll (seen : SeenAll) : Type 0 where
  pub nothing : DidNothing seen
  pub read : ReadNothing seen.source

-- this is the whole input, which was read to its end
pub record ReadWhole (source : SourceSeen) (input : List ℕ) : Type 0 where
  pub within : length input ≤ INPUT_LIMIT
  pub end : IsAtEnd source.left_after

-- some bytes of the source were taken, of which this holds
pub record Took (source : SourceSeen) (P : List ℕ → Type 0) : Type 0 where
  pub taken : List ℕ
  pub bytes : Consumes source.left source.left_after taken
  pub says : P taken

-- it holds of the input, where one is taken and the source tells it
abbrev pub OfInput : Bool → SourceSeen → (List ℕ → Type 0) → Type 0
OfInput true source P = IfSome source.left P
OfInput false source P = P []

-- it holds of the content, where the keeper tells it
abbrev pub Holds : KeeperSeen → (Stored → Type 0) → Type 0
Holds keeper P = IfSome keeper.told.content P

-- the same, where it depends on the content
abbrev pub OfContent : Bool → KeeperSeen → (Stored → Type 0) → Type 0
OfContent true keeper P = Holds keeper P
OfContent false keeper P = P empty_content

-- a source was not called: what it has left and its count of faults are as they were
pub record WasNotRead (source : SourceSeen) : Type 0 where
  pub read : ReadNothing source
  pub count : NoReadFault source

-- and so was a keeper not
pub record WasNotCalled (keeper : KeeperSeen) : Type 0 where
  pub kept : IsUntouched keeper
  pub count : NoKeepFault keeper
