-- The facts of the code but for the one of the edit's id are those of the group but for the one that the edit takes.
use Rattle.std.proofs.Common.{ap, sym, ◌∙◌, arith}
use Rattle.staged_map.specs.Staged.{value_at}
use Rattle.cube_state.specs.Moves.{region_code}
use Rattle.cube_state.proofs.GroupSeen.{few-seen, others-seen}
use Rattle.cube_state.proofs.state.State.count_others.Goals as goal

pub fact_at-taken-requires : goal.fact_at-taken-requires
fact_at-taken-requires g c = c.requires.moves.taken_at ∙ ap (region_code c.args.self.now.dims) (sym c.as_ref.ensures.value)

pub overflow_sub-result : goal.overflow_sub-result
overflow_sub-result g c =
    let others = others-seen g.P.WeightPolicy.weigh _ _ c.self.view_is c.self.invariant.state c.self.invariant.state.trees c.args.moves.now c.requires.moves c.args.code c.args.before (c.requires.before ∙ sym (ap (λ s. value_at s.kept.groups c.args.code) c.self.view_is))
    _ _ c.fact_at-taken.ensures c.as_ref.ensures.value _ _ c.members_of.ensures c.number_of.ensures.number in
    omega (arith, others)

pub returns-clause-count : goal.returns-clause-count
returns-clause-count g c =
    let others = others-seen g.P.WeightPolicy.weigh _ _ c.self.view_is c.self.invariant.state c.self.invariant.state.trees c.args.moves.now c.requires.moves c.args.code c.args.before (c.requires.before ∙ sym (ap (λ s. value_at s.kept.groups c.args.code) c.self.view_is))
    _ _ c.fact_at-taken.ensures c.as_ref.ensures.value _ _ c.members_of.ensures c.number_of.ensures.number in
    omega (arith, others)

pub returns-clause-few : goal.returns-clause-few
returns-clause-few g c =
    let few = few-seen g.P.WeightPolicy.weigh _ _ c.self.view_is c.self.invariant.state c.self.invariant.state.trees c.args.moves.now c.requires.moves c.args.code c.args.before (c.requires.before ∙ sym (ap (λ s. value_at s.kept.groups c.args.code) c.self.view_is)) in
    omega (arith, few, c.members_of.ensures)
