-- What the beginning with a base does.
use Rattle.std.specs.Prelude.{◌≡◌, ℕ, ◌++◌, true, false, List, [], ◌∷◌, All, ⊤, option_map, Option, Some, None, Result, Ok, Err}
use Rattle.cube_base.specs.declared.code.Code.TheVariants as code
use Rattle.cube_base.specs.Outside.{Rose}
use Rattle.cube_core.specs.Cube.{CubeValue}
use Rattle.cube_core.specs.declared.fault.ImportFault.{ImportFault}
use Rattle.cube_core.specs.declared.fault.ImportFault.TheVariants as import_fault
use Rattle.cube_model.specs.declared.edit.Fact.{Fact}
use Rattle.cube_model.specs.Accepted.{has_many_rows}
use Rattle.cube_model.specs.Allocation.{extended}
use Rattle.cube_model.specs.Tree.{Dimension}
use Rattle.fact_keeper.specs.declared.content.Batch.{Batch}
use Rattle.fact_keeper.specs.Keeper.{KeeperTold}
use Rattle.text_lines.specs.declared.input.InputStop.TheVariants as input_stop
use Rattle.region_algebra.specs.Space.{IsRegion}
use Rattle.schema_text.specs.Schema.{SchemaValue, policy_of}
use Rattle.schema_text.specs.declared.word.PolicyWord.{PolicyWord}
use Rattle.script_run.specs.declared.break_off.BreakOff.TheVariants as break_off
use Rattle.script_run.specs.declared.streaming.StreamStop.TheVariants.{Broke, Read, TooLong}
use Rattle.script_run.specs.Kept.{Commits}
use Rattle.script_run.specs.Seen.{KeeperSeen, NoKeepFault}
use Rattle.feed_run.specs.declared.feed_stop.FeedStop.TheVariants.{Bad}
use Rattle.feed_run.specs.declared.follow.FollowStop.{FollowStop}
use Rattle.feed_run.specs.declared.follow.FollowStop.TheVariants.{Feed, Stream}
use Rattle.feed_run.specs.declared.part_stop.PartStop.{PartStop}
use Rattle.feed_run.specs.declared.part_stop.PartStop.TheVariants as part_stop
use Rattle.feed_run.specs.Following.{Base, Between, base_batch, based_judged, based_over, moved_to, work_of}
use Rattle.feed_run.specs.FollowTurn.{IsCubeAt}
use Rattle.feed_run.specs.HeadTurn.{StopsBy}
use Rattle.feed_run.specs.LeadTurn.{KeptFailed, KeptNothing}

-- the regions of facts are there
abbrev pub HaveRegions : List Dimension → List Fact → Type 0
HaveRegions dims facts = All (λ f. IsRegion dims f.region) facts

-- What the comparing of a base with what a store holds says.
abbrev pub ComparesBase : {T : Type 0} → Base → SchemaValue → List Fact → Result T PartStop → Type 0
ComparesBase base schema facts (Ok _) = based_over (Some base) schema facts ≡ moved_to (Between (work_of schema facts))
ComparesBase base schema facts (Err stop) = StopsBy (λ why. based_over (Some base) schema facts ≡ Err why) stop

-- the facts of a base have not too many rows, and these are their cube
pub record IsBaseCube (schema : SchemaValue) (facts : List Fact) (cube : CubeValue PolicyWord) : Type 0 where
  pub few : has_many_rows (extended (policy_of schema) schema.dims facts) ≡ false
  pub is_cube : IsCubeAt (work_of schema facts) cube

-- The cube is made, and what a store is begun by was committed but for the text of the schema.
pub record MadeCube (schema : SchemaValue) (facts : List Fact) (before after : KeeperTold) (cube : CubeValue PolicyWord) : Type 0 where
  pub is : IsBaseCube schema facts cube
  pub journal : after.journal ≡ option_map (λ batches. batches ++ record (base_batch schema facts) { schema = None } ∷ []) before.journal

-- why it is not: the facts have too many rows; the keeper failed; or it is out of memory
abbrev pub LacksCube : SchemaValue → List Fact → ℕ → ℕ → ImportFault → Type 0
LacksCube schema facts before after (import_fault.Rows would) = has_many_rows (extended (policy_of schema) schema.dims facts) ≡ true
LacksCube schema facts before after import_fault.KeepFault = Rose before after
LacksCube schema facts before after import_fault.Memory = ⊤
LacksCube schema facts before after (import_fault.BadRecord bad) = ⊥

abbrev pub MakesCube : SchemaValue → List Fact → KeeperTold → KeeperTold → Result (CubeValue PolicyWord) ImportFault → Type 0
MakesCube schema facts before after (Ok cube) = MadeCube schema facts before after cube
MakesCube schema facts before after (Err fault) = LacksCube schema facts before.faults after.faults fault

-- over a keeper that never fails the first and the last of these are left, and what they are for a feed
abbrev pub IsRefusal : ImportFault → Type 0
IsRefusal (import_fault.Rows would) = ⊤
IsRefusal import_fault.KeepFault = ⊥
IsRefusal import_fault.Memory = ⊤
IsRefusal (import_fault.BadRecord bad) = ⊥

abbrev pub import_stop : ℕ → ImportFault → PartStop
import_stop number (import_fault.Rows would) = part_stop.Feed (Bad number code.Rows)
import_stop number fault = part_stop.Input input_stop.Memory

-- What is made of a base: its cube, and the batch by which a store is begun.
pub record MadeBase (schema : SchemaValue) (facts : List Fact) (cube : CubeValue PolicyWord) (batch : Batch) : Type 0 where
  pub is : IsBaseCube schema facts cube
  pub batch_is : batch ≡ base_batch schema facts

abbrev pub MakesBase : ℕ → SchemaValue → List Fact → Result (CubeValue PolicyWord × Batch) PartStop → Type 0
MakesBase number schema facts (Ok made) = MadeBase schema facts made.0 made.1
MakesBase number schema facts (Err stop) = StopsBy (λ why. (base : Option Base) → based_judged base number schema facts ≡ Err why) stop

-- What the beginning over what a store holds does.
pub record BegunOver (base : Base) (number : ℕ) (schema : SchemaValue) (facts : List Fact) (cube : CubeValue PolicyWord) : Type 0 where
  pub moves : based_judged (Some base) number schema facts ≡ moved_to (Between (work_of schema facts))
  pub is_cube : IsCubeAt (work_of schema facts) cube

abbrev pub BeginsOver : Base → ℕ → SchemaValue → List Fact → Result (CubeValue PolicyWord) PartStop → Type 0
BeginsOver base number schema facts (Ok cube) = BegunOver base number schema facts cube
BeginsOver base number schema facts (Err stop) = StopsBy (λ why. based_judged (Some base) number schema facts ≡ Err why) stop

-- It began: the base is that of the store, or was committed.
pub record Begun (base : Option Base) (number : ℕ) (schema : SchemaValue) (facts : List Fact) (keeper : KeeperSeen) (cube : CubeValue PolicyWord) : Type 0 where
  pub batches : List Batch
  pub moves : based_judged base number schema facts ≡ Ok (record { place = Between (work_of schema facts); batches = batches })
  pub is_cube : IsCubeAt (work_of schema facts) cube
  pub kept : Commits batches keeper.told keeper.told_after
  pub keep : NoKeepFault keeper

-- it did not, since the keeper failed at the batch of the base
pub record FailedToBegin (base : Option Base) (number : ℕ) (schema : SchemaValue) (facts : List Fact) (keeper : KeeperSeen) : Type 0 where
  pub batch : Batch
  pub moves : based_judged base number schema facts ≡ Ok (record { place = Between (work_of schema facts); batches = batch ∷ [] })
  pub kept : KeptFailed keeper

-- What the beginning of a follower does.
abbrev pub Begins : Option Base → ℕ → SchemaValue → List Fact → KeeperSeen → Result (CubeValue PolicyWord) FollowStop → Type 0
Begins base number schema facts keeper (Ok cube) = Begun base number schema facts keeper cube
Begins base number schema facts keeper (Err (Feed stop)) = (based_judged base number schema facts ≡ Err stop) × KeptNothing keeper
Begins base number schema facts keeper (Err (Stream (Broke (break_off.Memory done)))) = (done ≡ 0) × KeptNothing keeper
Begins base number schema facts keeper (Err (Stream (Broke (break_off.Keep done)))) = (done ≡ 0) × FailedToBegin base number schema facts keeper
Begins base number schema facts keeper (Err (Stream (Broke (break_off.Write line)))) = ⊥
Begins base number schema facts keeper (Err (Stream (Broke (break_off.SinkMemory line)))) = ⊥
Begins base number schema facts keeper (Err (Stream (Read done))) = ⊥
Begins base number schema facts keeper (Err (Stream (TooLong done))) = ⊥
