-- The rows of some codes are no more than there may be, and those of all tell how many there are.
use Rattle.std.proofs.Common.{arith}
use Rattle.cube_state.proofs.RegroupSeen.{anew-seen, drafted-seen, groups-seen, others-few, rows-enough, rows-seen}
use Rattle.cube_state.proofs.state.State.regroup.Goals as goal

pub regroup_one-requires-clause-few_others : goal.regroup_one-requires-clause-few_others
regroup_one-requires-clause-few_others g c =
    let few = others-few g.P.WeightPolicy.weigh _ _ c.self.view_is c.self.invariant.state c.self.invariant.state.trees c.args.moves.now c.requires.moves c.args.codes.now c.requires.codes c.loop-code.code-index _ _ _ _ _ c.loop-code.invariant in
    omega (arith, few)

pub regroup_one-requires-clause-few_before : goal.regroup_one-requires-clause-few_before
regroup_one-requires-clause-few_before g c =
    let few = drafted-seen g.P.WeightPolicy.weigh _ _ c.self.view_is c.self.invariant.state c.self.invariant.state.trees c.args.moves.now c.requires.moves c.args.codes.now c.requires.codes c.loop-code.code-index _ _ _ _ _ c.loop-code.invariant in
    omega (arith, few.0)

pub regroup_one-requires-clause-few_after : goal.regroup_one-requires-clause-few_after
regroup_one-requires-clause-few_after g c =
    let few = drafted-seen g.P.WeightPolicy.weigh _ _ c.self.view_is c.self.invariant.state c.self.invariant.state.trees c.args.moves.now c.requires.moves c.args.codes.now c.requires.codes c.loop-code.code-index _ _ _ _ _ c.loop-code.invariant in
    omega (arith, few.1)

pub overflow_add-result : goal.overflow_add-result
overflow_add-result g c =
    let few = drafted-seen g.P.WeightPolicy.weigh _ _ c.self.view_is c.self.invariant.state c.self.invariant.state.trees c.args.moves.now c.requires.moves c.args.codes.now c.requires.codes c.loop-code.code-index _ _ _ _ _ c.loop-code.invariant in
    omega (arith, few.1, c.self.invariant.state.few_rows)

pub overflow_sub-result : goal.overflow_sub-result
overflow_sub-result g c = rows-enough g.P.WeightPolicy.weigh _ _ c.self.view_is c.self.invariant.state c.self.invariant.state.trees c.args.moves.now c.requires.moves c.args.codes.now c.requires.codes c.loop-code.code-index _ _ _ _ _ c.loop-code.invariant c.loop-code-test.false

pub returns-clause-rows : goal.returns-clause-rows
returns-clause-rows g c = rows-seen g.P.WeightPolicy.weigh _ _ c.self.view_is c.self.invariant.state c.self.invariant.state.trees c.args.moves.now c.requires.moves c.args.codes.now c.requires.codes c.loop-code.code-index _ _ _ _ _ c.loop-code.invariant c.loop-code-test.false

pub returns-clause-groups : goal.returns-clause-groups
returns-clause-groups g c = groups-seen g.P.WeightPolicy.weigh _ _ c.self.view_is c.self.invariant.state c.self.invariant.state.trees c.args.moves.now c.requires.moves c.args.codes.now c.requires.codes c.loop-code.code-index _ _ _ _ _ c.loop-code.invariant c.loop-code-test.false

pub returns-clause-spread_anew : goal.returns-clause-spread_anew
returns-clause-spread_anew g c = anew-seen g.P.WeightPolicy.weigh _ _ c.self.view_is c.self.invariant.state c.self.invariant.state.trees c.args.moves.now c.requires.moves c.args.codes.now c.requires.codes c.loop-code.code-index _ _ _ _ _ c.loop-code.invariant c.loop-code-test.false
