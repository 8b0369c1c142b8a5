-- How many steps the plan of an edit takes: a look at each region over a cell that weighs otherwise, a look at each that is spread anew,
-- each id that is handed out, and each region where the index is staged.
use Rattle.std.proofs.Common.{ℕ, ◌+◌, ◌*◌, ◌≤◌, List, length, ap, arith}
use Rattle.std.specs.Prelude.{All}
use Rattle.std.proofs.Math.Nat.{mul-le-mul_right}
use Rattle.std.proofs.lemmas.List.{length-map}
use Rattle.std.proofs.lemmas.List.Sums.{count_by-le-length, length-filter, sum_by-le}
use Rattle.cube_model.specs.declared.edit.Edit.{Edit}
use Rattle.cube_model.specs.declared.edit.Fact.{Fact}
use Rattle.cube_model.specs.declared.statistic.CellStat.{CellStat}
use Rattle.cube_model.specs.Allocation.{Policy, stat_of}
use Rattle.cube_model.specs.Facts.{after}
use Rattle.cube_model.specs.Tree.{Dimension, IsTree}
use Rattle.alloc_rows.specs.Changed.{Change}
use Rattle.region_index.specs.Depths.{depth_product}
use Rattle.region_index.specs.Over.{codes_over}
use Rattle.region_index.proofs.Lengths.{codes_over-short}
use Rattle.fact_groups.specs.Changes.{touched_cells}
use Rattle.fact_groups.proofs.Statistics.{length-touched}
use Rattle.cube_state.specs.declared.edit_moves.Moves.{Moves}
use Rattle.edit_plan.specs.Bound.{covering_pairs, step_bound}
use Rattle.cube_state.specs.Covering.{probes_over}
use Rattle.cube_state.specs.Moves.{AreMoves}
use Rattle.cube_state.specs.State.{StateValue, policy_in}
use Rattle.touched_cells.specs.Touched.{reweighing, reweighs, touched}
use Rattle.cube_state.proofs.Below.{reweighing-below}

module _ (policy : Policy) (dims : List Dimension) (edit : Edit) (facts : List Fact) where
  -- the cells that weigh otherwise are two at most
  few : length (reweighing policy.weigh (touched policy dims edit facts)) ≤ 2
  few =
      omega (
        arith,
        length-filter (reweighs policy.weigh) (touched policy dims edit facts),
        count_by-le-length (reweighs policy.weigh) (touched policy dims edit facts),
        length-map {B = Change} (touched_cells dims edit facts) (λ cell. (cell, stat_of policy dims facts cell, stat_of policy dims (after edit facts) cell)),
        length-touched dims edit facts,
      )

  -- so the regions over them are no more than twice the depths, multiplied
  probes-few : All IsTree dims → probes_over dims (reweighing policy.weigh (touched policy dims edit facts)) ≤ 2 * depth_product dims
  probes-few trees =
      let changes = reweighing policy.weigh (touched policy dims edit facts) in
      let each = sum_by-le (λ (change : Change). length (codes_over dims change.0)) (depth_product dims) changes (λ k d within. codes_over-short dims _ trees (reweighing-below policy dims edit facts k d within)) in
      let both = mul-le-mul_right (depth_product dims) few in
      omega (arith, each, both)

module _ {P : Type 0} (weigh : P → CellStat → ℕ) (state : StateValue P) (moves : Moves) (are : AreMoves (policy_in weigh state) state.shape state.dims state.facts moves) (trees : All IsTree state.dims)
    (before between : ℕ) (probed : between ≤ before + probes_over state.dims moves.reweighing) where
  -- once the codes are found
  pub codes-within : between ≤ before + step_bound weigh state moves.edit
  codes-within = omega (arith, probed, ap (probes_over state.dims) are.reweighs, probes-few (policy_in weigh state) state.dims moves.edit state.facts trees)

  -- and once the ids are handed out
  pub plan-within : (now : ℕ) → now ≤ between + (2 * covering_pairs (policy_in weigh state) state.dims moves.edit state.facts + 2) → now ≤ before + step_bound weigh state moves.edit
  plan-within now handed = omega (arith, handed, probed, ap (probes_over state.dims) are.reweighs, probes-few (policy_in weigh state) state.dims moves.edit state.facts trees)
