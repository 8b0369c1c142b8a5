-- What an import does: the facts of a file put one after another, all or none.
use Rattle.std.specs.Prelude.{◌≡◌, ℕ, ◌<◌, ◌≤◌, List, ⊤, Option, Some, None, Result, Err}
use Rattle.cube_base.specs.Outside.{Rose}
use Rattle.cube_model.specs.declared.edit.Fact.{Fact}
use Rattle.cube_model.specs.declared.statistic.CellStat.{CellStat}
use Rattle.cube_model.specs.Allocation.{row_count}
use Rattle.cube_model.specs.Difference.{refreshed}
use Rattle.cube_model.specs.Limits.{MAX_ROWS}
use Rattle.edit_plan.specs.declared.fault.PlanAllFault.{PlanAllFault}
use Rattle.edit_plan.specs.declared.fault.PlanAllFault.TheVariants as plan_all_fault
use Rattle.edit_plan.specs.Whole.{difference_with}
use Rattle.fact_keeper.specs.declared.content.Batch.{Batch}
use Rattle.fact_keeper.specs.declared.keeper.KeepError.{KeepError}
use Rattle.fact_keeper.specs.declared.keeper.KeepError.TheVariants as keep_error
use Rattle.fact_records.specs.New.{put_all}
use Rattle.fact_records.specs.declared.fact_seq.BadRecord.{BadRecord}
use Rattle.fact_records.specs.declared.fact_seq.FactSeq.{FactSeq}
use Rattle.fact_records.specs.RefusedRecord.{refused_in}
use Rattle.schema_text.specs.Schema.{schema_policy, shape_of}
use Rattle.cube_core.specs.Cube.{CubeValue, cube_rows}
use Rattle.cube_core.specs.declared.fault.ImportFault.{ImportFault}
use Rattle.cube_core.specs.declared.fault.ImportFault.TheVariants as import_fault

-- the cube with new facts
abbrev pub imported : {P : Type 0} → List Fact → CubeValue P → CubeValue P
imported new cube = record cube { facts = put_all new cube.facts }

-- the first record of a file that a cube refuses
abbrev pub refused_in_cube : {P : Type 0} → CubeValue P → FactSeq → Option BadRecord
refused_in_cube cube seq = refused_in (shape_of cube.schema) cube.schema.dims cube.facts seq

-- the ids that new facts refresh
abbrev pub import_refreshed_in : {P : Type 0} → (P → CellStat → ℕ) → CubeValue P → List Fact → List ℕ
import_refreshed_in weigh cube new = refreshed (schema_policy (weigh cube.policy) cube.schema) cube.schema.dims cube.facts (put_all new cube.facts)

-- what they change of what is kept
abbrev pub import_difference_in : {P : Type 0} → (P → CellStat → ℕ) → CubeValue P → List Fact → Batch
import_difference_in weigh cube new = difference_with (schema_policy (weigh cube.policy) cube.schema) cube.schema.dims new cube.facts

-- Why a file is not put. Out of memory is the free answer, of which nothing is said.
abbrev pub IsImportFaultOf : {P : Type 0} → (P → CellStat → ℕ) → CubeValue P → FactSeq → ImportFault → Type 0
IsImportFaultOf weigh cube seq (import_fault.BadRecord bad) = refused_in_cube cube seq ≡ Some bad
IsImportFaultOf weigh cube seq (import_fault.Rows would) =
    (refused_in_cube cube seq ≡ None) × ((would ≡ row_count (cube_rows weigh (imported seq.facts cube))) × (MAX_ROWS < would))
IsImportFaultOf weigh cube seq import_fault.KeepFault =
    (refused_in_cube cube seq ≡ None) × (row_count (cube_rows weigh (imported seq.facts cube)) ≤ MAX_ROWS)
IsImportFaultOf weigh cube seq import_fault.Memory = ⊤

-- what refuses an import where it is planned, and where it is kept
abbrev pub import_fault_of_plan : PlanAllFault → ImportFault
import_fault_of_plan (plan_all_fault.Rows would) = import_fault.Rows would
import_fault_of_plan plan_all_fault.Memory = import_fault.Memory

abbrev pub import_fault_of_keeper : KeepError → ImportFault
import_fault_of_keeper keep_error.Failed = import_fault.KeepFault
import_fault_of_keeper keep_error.Memory = import_fault.Memory

-- A keeper's count of faults rises where the import answers a fault of it, or stands at its last value; with every other answer it stays.
abbrev pub CountsImportFault : {R : Type 0} → ℕ → ℕ → Result R ImportFault → Type 0
CountsImportFault old new (Err import_fault.KeepFault) = Rose old new
CountsImportFault old new _ = new ≡ old
