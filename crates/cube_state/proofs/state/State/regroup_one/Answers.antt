-- No group has more rows than there may be.
use Rattle.std.proofs.Common.{◌∙◌, arith}
use Rattle.cube_state.proofs.RegroupSeen.{rows-before-seen, rows-later-seen}
use Rattle.cube_state.proofs.state.State.regroup_one.Goals as goal

pub rows_of-requires : goal.rows_of-requires
rows_of-requires g c =
    let few = rows-before-seen g.P.WeightPolicy.weigh _ _ c.self.view_is c.self.invariant.state c.self.invariant.state.trees c.args.moves.now c.requires.moves c.args.code c.get-group.result c.get-group.ensures in
    omega (arith, few)

pub overflow_add-draft : goal.overflow_add-draft
overflow_add-draft g c =
    let few = rows-before-seen g.P.WeightPolicy.weigh _ _ c.self.view_is c.self.invariant.state c.self.invariant.state.trees c.args.moves.now c.requires.moves c.args.code c.get-group.result c.get-group.ensures in
    omega (arith, few, c.rows_of.ensures, c.requires.few_before)

pub rows_of-requires-2 : goal.rows_of-requires-2
rows_of-requires-2 g c =
    let few = rows-later-seen g.P.WeightPolicy.weigh _ _ c.self.view_is c.self.invariant.state c.self.invariant.state.trees c.args.moves.now c.requires.moves c.args.code _ (c.as_ref-2.ensures.value ∙ c.in_ok-next.ensures) in
    omega (arith, few)

pub overflow_add-draft-2 : goal.overflow_add-draft-2
overflow_add-draft-2 g c =
    let few = rows-later-seen g.P.WeightPolicy.weigh _ _ c.self.view_is c.self.invariant.state c.self.invariant.state.trees c.args.moves.now c.requires.moves c.args.code _ (c.as_ref-2.ensures.value ∙ c.in_ok-next.ensures) in
    omega (arith, few, c.rows_of-2.ensures, c.requires.few_after)
