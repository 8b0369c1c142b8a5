-- The groups tell how the facts that are taken and given are spread.
use Rattle.std.proofs.Common.{refl}
use Rattle.edit_plan.proofs.GroupsNow.{by-code}
use Rattle.edit_plan.proofs.OwnPair.{given-at, moved-seen, same-seen}
use Rattle.edit_plan.proofs.refreshing.own_pair.Goals as goal

pub lay_as-requires-clause-groups : goal.lay_as-requires-clause-groups
lay_as-requires-clause-groups g c = by-code _ _ _ _ _ c.args.regrouped.now c.requires.regrouped

pub returns-then-lay_as : goal.returns-then-lay_as
returns-then-lay_as g c =
    same-seen g.P.WeightPolicy.weigh c.args.state.now c.facts.ensures.valid c.args.moves.now c.requires.moves c.args.regrouped.now c.requires.regrouped c.facts.ensures.trees c.in_ok-given.given c.in_ok-code.code _ c.lay_as.result c.in_ok-given.was (given-at g.P.WeightPolicy.weigh c.args.state.now c.facts.ensures.valid c.args.moves.now c.requires.moves c.in_ok-given.given c.in_ok-given.was c.in_ok-code.code c.in_ok-code.was) refl c.lay_as.ensures c.if-lay_as.true

pub returns : goal.returns
returns g c =
    moved-seen g.P.WeightPolicy.weigh c.args.state.now c.facts.ensures.valid c.args.moves.now c.requires.moves c.args.regrouped.now c.requires.regrouped c.facts.ensures.trees c.in_ok-given.given c.in_ok-code.code _ c.lay_as.result c.in_ok-given.was (given-at g.P.WeightPolicy.weigh c.args.state.now c.facts.ensures.valid c.args.moves.now c.requires.moves c.in_ok-given.given c.in_ok-given.was c.in_ok-code.code c.in_ok-code.was) refl c.lay_as.ensures c.if-lay_as.false
