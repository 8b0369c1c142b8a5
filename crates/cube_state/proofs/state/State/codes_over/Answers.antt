-- Each cell adds the codes of the facts that cover it.
use Rattle.std.proofs.Common.{refl, ◌∙◌, sym}
use Rattle.region_index.proofs.HeldCodes.{HasPatterns-known}
use Rattle.fact_indexes.proofs.ValidFacts.{valid-regions}
use Rattle.cube_state.proofs.Covering.{over-all, over-broken, over-next, over-none}
use Rattle.cube_state.proofs.Seeing.{bound-seen, empty-seen, held-seen, over-seen}
use Rattle.cube_state.proofs.state.State.codes_over.Goals as goal

pub loop-cell-init : goal.loop-cell-init
loop-cell-init g c = over-none _ _ _ _ c.in_ok-codes.ensures.items

pub held_codes_by_pattern-requires-clause-patterns : goal.held_codes_by_pattern-requires-clause-patterns
held_codes_by_pattern-requires-clause-patterns g c =
    let kept = c.self.invariant.state in
    HasPatterns-known _ _ _ _ kept.trees (valid-regions _ _ _ kept.valid) kept.index c.self.invariant.known

pub returns-in_err-held_codes_by_pattern-clause-steps : goal.returns-in_err-held_codes_by_pattern-clause-steps
returns-in_err-held_codes_by_pattern-clause-steps g c =
    bound-seen _ _ c.self.view_is c.args.changes.now c.args.steps.now _
    (over-broken _ _ c.args.changes.now c.loop-cell.cell-index _ _ _ _ c.loop-cell-test.true c.loop-cell.invariant _ c.in_err-held_codes_by_pattern.ensures.regions)

pub loop-cell-preserved : goal.loop-cell-preserved
loop-cell-preserved g c =
    over-next _ _ c.args.changes.now c.loop-cell.cell-index _ _ _ _ c.loop-cell-test.true c.loop-cell.invariant _ _ _
    (held-seen _ _ c.self.view_is g.P.WeightPolicy.weigh c.self.invariant.state _ _ c.self.invariant.state.trees refl)
    c.in_ok-held_codes_by_pattern.ensures.codes c.in_ok-held_codes_by_pattern.ensures.regions

pub returns-clause-codes : goal.returns-clause-codes
returns-clause-codes g c = over-seen _ _ c.self.view_is c.args.changes.now _ (over-all _ _ c.args.changes.now c.loop-cell.cell-index _ _ _ c.loop-cell-test.false c.loop-cell.invariant).members

pub returns-clause-steps : goal.returns-clause-steps
returns-clause-steps g c = bound-seen _ _ c.self.view_is c.args.changes.now c.args.steps.now _ (over-all _ _ c.args.changes.now c.loop-cell.cell-index _ _ _ c.loop-cell-test.false c.loop-cell.invariant).steps

-- where no imprecise fact is there, nothing is over the cells
pub returns-then-is_empty-clause-codes : goal.returns-then-is_empty-clause-codes
returns-then-is_empty-clause-codes g c =
    empty-seen _ _ c.self.view_is g.P.WeightPolicy.weigh c.self.invariant.state c.self.invariant.state.trees (sym c.is_empty.ensures ∙ c.if-is_empty.true) c.args.changes.now c.in_ok-codes.codes.items c.in_ok-codes.ensures.items
