-- What the worlds of a cube's facts are made of, and what they add up to in a region.
use Rattle.std.specs.Prelude.{◌≡◌, ℕ, ◌+◌, List, map, Some, ⊤}
use Rattle.std.specs.List.{range_with_len}
use Rattle.cube_model.specs.declared.statistic.CellStat.{CellStat}
use Rattle.fact_records.specs.Shape.{width_of_all}
use Rattle.world_law.specs.declared.placed.Placed.{Placed}
use Rattle.world_law.specs.declared.sum.WorldFault.{WorldFault}
use Rattle.world_law.specs.declared.sum.WorldFault.TheVariants as world_fault
use Rattle.world_law.specs.declared.sum.WorldSum.{WorldSum}
use Rattle.world_law.specs.Placed.{fault_of, placed_of}
use Rattle.world_law.specs.Worlds.{mass, total, world_count}
use Rattle.cube_core.specs.Cube.{CubeValue, cube_rows}

-- a cube's facts with their allocations
abbrev pub placed_in : {P : Type 0} → (P → CellStat → ℕ) → CubeValue P → List Placed
placed_in weigh cube = map placed_of (cube_rows weigh cube)

-- what their worlds add up to: the number, the mass, and the total of each column, the count first
abbrev pub world_sum_in : {P : Type 0} → (P → CellStat → ℕ) → CubeValue P → List ℕ → WorldSum
world_sum_in weigh cube region = record {
  worlds = world_count (cube_rows weigh cube);
  mass = mass (cube_rows weigh cube);
  totals = map (λ column. total cube.schema.dims region column (cube_rows weigh cube)) (range_with_len 0 (width_of_all cube.schema.measures + 1));
}

-- why worlds are not listed; out of memory, which may be met before they are judged, says nothing
abbrev pub IsWorldFault : List Placed → WorldFault → Type 0
IsWorldFault placed (world_fault.Many product) = fault_of placed ≡ Some (world_fault.Many product)
IsWorldFault placed world_fault.Wide = fault_of placed ≡ Some world_fault.Wide
IsWorldFault placed world_fault.Memory = ⊤
