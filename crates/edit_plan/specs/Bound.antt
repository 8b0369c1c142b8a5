-- How many steps a plan takes at most.
use Rattle.std.specs.Prelude.{ℕ, ◌+◌, ◌*◌, List, sum_by, count_by}
use Rattle.cube_model.specs.declared.edit.Edit.{Edit}
use Rattle.cube_model.specs.declared.edit.Fact.{Fact}
use Rattle.cube_model.specs.declared.statistic.CellStat.{CellStat}
use Rattle.cube_model.specs.Allocation.{Policy}
use Rattle.cube_model.specs.Tree.{Dimension}
use Rattle.fact_groups.specs.Changes.{changed_cells}
use Rattle.region_index.specs.Depths.{depth_product}
use Rattle.region_index.specs.Indexed.{covers}
use Rattle.cube_state.specs.State.{StateValue, policy_in}

-- the number of pairs of a cell that an edit changes and an imprecise fact, before the edit, that covers it
abbrev pub covering_pairs : Policy → List Dimension → Edit → List Fact → ℕ
covering_pairs policy dims edit facts = sum_by (λ cell. count_by (covers dims cell) facts) (changed_cells policy dims edit facts)

-- the most steps of a plan of an edit of facts
abbrev pub step_limit : Policy → List Dimension → Edit → List Fact → ℕ
step_limit policy dims edit facts = 2 * depth_product dims + 2 * covering_pairs policy dims edit facts + 2

-- and of one of a state
abbrev pub step_bound : {P : Type 0} → (P → CellStat → ℕ) → StateValue P → Edit → ℕ
step_bound weigh state edit = step_limit (policy_in weigh state) state.dims edit state.facts
