-- What the steps of the commands say of how they end.
use Rattle.std.specs.Prelude.{◌≡◌, ◌≢◌, ℕ, false, length, List, ◌⊎◌, Result, Ok, Err}
use Rattle.std.specs.Io.KnownBytes.{Appends}
use Rattle.cube_base.specs.Outside.{TakesPart}
use Rattle.cube_base.specs.declared.fault.SinkError.{SinkError}
use Rattle.cube_base.specs.declared.fault.SinkError.TheVariants.{Failed, Memory}
use Rattle.cube_core.specs.Cube.{CubeValue}
use Rattle.fact_keeper.specs.declared.content.Stored.{Stored}
use Rattle.fact_keeper.specs.Batch.{empty_content}
use Rattle.schema_text.specs.Schema.{SchemaValue, policy_of}
use Rattle.schema_text.specs.declared.word.PolicyWord.{PolicyWord}
use Rattle.store_audit.specs.declared.finding.LoadFault.TheVariants as load_fault
use Rattle.store_audit.specs.declared.mending.Mending.{Mending}
use Rattle.store_audit.specs.Mending.{mended_batch}
use Rattle.store_audit.specs.Sound.{facts_told, rows_counted}
use Rattle.script_run.specs.Seen.{KeepFailed, KeeperSeen, NoKeepFault, NoWriteFault, SinkSeen, WriteFailed, WroteNothing}
use Rattle.cube_cli.specs.SchemaAlone.{schema_alone}
use Rattle.cube_cli.specs.Kinds.{is_of_rows}
use Rattle.cube_cli.specs.Seen.{Holds, IsUntouched}
use Rattle.cube_cli.specs.Store.{Finds, IsMendableOver, IsSoundOver}
use Rattle.cube_cli.specs.declared.store.OpenStop.{OpenStop}
use Rattle.cube_cli.specs.declared.store.OpenStop.TheVariants as open_stop

-- A text was to be written, for which there was memory or not: all of it was, or not the whole.
abbrev pub WritesText : {T : Type 0} → List ℕ → SinkSeen → Result T SinkError → Type 0
WritesText text sink (Ok _) = NoWriteFault sink × Appends sink.taken sink.taken_after text
WritesText text sink (Err Failed) = WriteFailed sink × TakesPart sink.taken sink.taken_after text
WritesText text sink (Err Memory) = NoWriteFault sink × (WroteNothing sink ⊎ TakesPart sink.taken sink.taken_after text)

-- A store was loaded: this is its content, in which there is something, and the schema that its text holds alone.
pub record OpenedWith (schema : SchemaValue) (content : Stored) (keeper : KeeperSeen) : Type 0 where
  pub told : Holds keeper (λ kept. content ≡ kept)
  pub schema_is : schema_alone content.schema ≡ Ok schema
  pub some : content ≢ empty_content
  pub kept : IsUntouched keeper
  pub count : NoKeepFault keeper

-- why it was not loaded: there is nothing in it, the keeper failed, this is found in it first, and not in its rows, or it ran out of memory
abbrev pub NotOpened : KeeperSeen → OpenStop → Type 0
NotOpened keeper open_stop.NoCube = IsUntouched keeper × NoKeepFault keeper × Holds keeper (λ kept. kept ≡ empty_content)
NotOpened keeper open_stop.Fault = IsUntouched keeper × KeepFailed keeper
NotOpened keeper (open_stop.Load (load_fault.Bad found)) = IsUntouched keeper × NoKeepFault keeper × Holds keeper (λ kept. (kept ≢ empty_content) × Finds kept found) × (is_of_rows found ≡ false)
NotOpened keeper (open_stop.Load load_fault.Memory) = IsUntouched keeper × NoKeepFault keeper

-- A content in which there is something was loaded, and its text holds a schema alone.
pub record HoldsSchema (schema : SchemaValue) (content : Stored) : Type 0 where
  pub schema_is : schema_alone content.schema ≡ Ok schema
  pub some : content ≢ empty_content

-- A cube is that of a content: it has its schema and its facts, its policy is that of its schema, and the content is sound.
pub record IsCubeOf (cube : CubeValue PolicyWord) (content : Stored) : Type 0 where
  pub holds : HoldsSchema cube.schema content
  pub policy_is : cube.policy ≡ cube.schema.policy
  pub facts_are : cube.facts ≡ facts_told content
  pub sound : IsSoundOver cube.schema content

-- This puts the rows of a content right whose schema and facts are sound.
pub record IsMendingOf (mending : Mending) (schema : SchemaValue) (content : Stored) : Type 0 where
  pub holds : HoldsSchema schema content
  pub mendable : IsMendableOver schema content
  pub batch_is : mending.batch ≡ mended_batch (policy_of schema) schema.dims content
  pub facts_are : mending.facts ≡ length content.facts
  pub rows_are : mending.rows ≡ rows_counted (policy_of schema) schema.dims content
