-- A text that is written in parts, as they are made.
use Rattle.std.specs.Prelude.{◌≡◌, ◌++◌, List, ℕ, Some, Result, Ok, Err}
use Rattle.std.specs.Io.KnownBytes.{Appends}
use Rattle.cube_base.specs.Outside.{SinkTold}
use Rattle.cube_base.specs.declared.fault.SinkError.{SinkError}
use Rattle.cube_model.specs.declared.edit.Fact.{Fact}
use Rattle.cube_model.specs.Allocation.{ExtendedFact, allocation_of}
use Rattle.script_run.specs.Seen.{NoWriteFault, SinkSeen}
use Rattle.cube_cli.specs.Steps.{WritesText}

-- what a sink tells since a start
abbrev pub since : SinkTold → SinkTold → SinkSeen
since start now = record { taken = start.taken; taken_after = now.taken; faults = start.faults; faults_after = now.faults }

-- what was made of a text since a start: first what is written, then what waits
pub record OnItsWay (made waiting : List ℕ) (sink : SinkSeen) : Type 0 where
  pub sent : List ℕ
  pub made_is : made ≡ sent ++ waiting
  pub count : NoWriteFault sink
  pub wrote : Appends sink.taken sink.taken_after sent

-- more was made of it, or it was not to be made or written
abbrev pub Gathers : {T : Type 0} → List ℕ → List ℕ → SinkSeen → Result T SinkError → Type 0
Gathers made waiting sink (Ok _) = OnItsWay made waiting sink
Gathers {T = T} made waiting sink (Err error) = WritesText {T = T} made sink (Err error)

-- what was made may go on, or it was not written, where more was to come
abbrev pub MakesRoomForMore : {T : Type 0} → List ℕ → List ℕ → List ℕ → SinkSeen → Result T SinkError → Type 0
MakesRoomForMore made next waiting sink (Ok _) = OnItsWay made waiting sink
MakesRoomForMore {T = T} made next waiting sink (Err error) = WritesText {T = T} (made ++ next) sink (Err error)

-- a fact with its rows, which are those of its id among all
pub record IsRowsOf (all : List ExtendedFact) (fact : Fact) (whole : ExtendedFact) : Type 0 where
  pub id_is : whole.id ≡ fact.id
  pub values_are : whole.values ≡ fact.cols
  pub found : allocation_of fact.id all ≡ Some whole.allocation
