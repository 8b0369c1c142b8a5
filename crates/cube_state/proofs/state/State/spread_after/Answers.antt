-- A step begins with what is spread before the edit, by the statistics that are kept.
use Rattle.std.proofs.Common.{◌≡◌, ◌∙◌, sym, subst}
use Rattle.std.specs.Prelude.{◌<◌, length}
use Rattle.std.proofs.lemmas.Result.{IfOk-weaker}
use Rattle.alloc_rows.specs.Changed.{stat_after}
use Rattle.cube_model.specs.Allocation.{spread}
use Rattle.cube_model.specs.Cells.{cells_of}
use Rattle.cube_model.specs.Facts.{after}
use Rattle.cell_weight.specs.Stats.{stat_at}
use Rattle.fact_groups.specs.Groups.{spread_at}
use Rattle.cube_state.specs.State.{policy_in}
use Rattle.cube_state.proofs.RegionSpreads.{back-seen, changes-shown, few-after, few-before, stepped-seen, touched-within}
use Rattle.cube_state.proofs.state.State.spread_after.Goals as goal

pub returns-then-is_kept : goal.returns-then-is_kept
returns-then-is_kept g c = c.in_ok-before.ensures ∙ c.is_kept.ensures.kept c.if-is_kept.true

pub changes_inside-changed-requires-clause-cells : goal.changes_inside-changed-requires-clause-cells
changes_inside-changed-requires-clause-cells g c = touched-within g.P.WeightPolicy.weigh _ _ c.self.view_is c.self.invariant.state c.args.moves.now c.requires.moves

pub step-requires-clause-counted : goal.step-requires-clause-counted
step-requires-clause-counted g c = few-before g.P.WeightPolicy.weigh _ _ c.self.view_is c.self.invariant.state c.args.r

pub step-requires-clause-counted_after : goal.step-requires-clause-counted_after
step-requires-clause-counted_after g c =
    few-after g.P.WeightPolicy.weigh _ _ c.self.view_is c.self.invariant.state c.args.moves.now c.requires.moves c.args.r c.columns.ensures.shape c.as_slice.result.now
    (c.as_slice.ensures.items ∙ c.changes_inside-changed.ensures)

pub step-requires-clause-before : goal.step-requires-clause-before
step-requires-clause-before g c = back-seen g.P.WeightPolicy.weigh _ _ c.self.view_is c.self.invariant.state _ c.args.r c.in_ok-before.ensures

pub step-requires-clause-changes : goal.step-requires-clause-changes
step-requires-clause-changes g c =
    changes-shown g.P.WeightPolicy.weigh _ _ c.self.view_is c.self.invariant.state c.args.moves.now c.requires.moves c.args.r c.columns.ensures.shape c.as_slice.result.now
    (c.as_slice.ensures.items ∙ c.changes_inside-changed.ensures)

pub returns : goal.returns
returns g c =
    IfOk-weaker c.step.result (λ a. a ≡ spread (λ cell. g.P.WeightPolicy.weigh c.self.inside.policy (stat_after (stat_at c.self.inside.stats) c.as_slice.result.now cell)) (cells_of c.self.inside.space c.args.r))
    (λ a. a ≡ spread_at (policy_in g.P.WeightPolicy.weigh c.args.self.now) c.args.self.now.dims (after c.args.moves.now.edit c.args.self.now.facts) c.args.r)
    (λ a is. is ∙ stepped-seen g.P.WeightPolicy.weigh _ _ c.self.view_is c.self.invariant.state c.args.moves.now c.requires.moves c.args.r c.columns.ensures.shape c.as_slice.result.now
    (c.as_slice.ensures.items ∙ c.changes_inside-changed.ensures)) c.step.ensures.spread

pub step-requires-clause-several : goal.step-requires-clause-several
step-requires-clause-several g c = subst (λ s. 1 < length (cells_of s.dims c.args.r)) (sym c.self.view_is) (c.is_kept.ensures.several c.if-is_kept.false)
