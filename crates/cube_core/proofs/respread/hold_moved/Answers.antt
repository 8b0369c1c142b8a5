-- The fact has an allocation in both states, and they are compared.
use Rattle.std.proofs.Common.{sym, ◌∙◌}
use Rattle.std.proofs.lemmas.Result.{on_ok_weaker}
use Rattle.cube_state.specs.State.{policy_in}
use Rattle.cube_core.proofs.Moving.{before-is, before-there, ids-more, ids-stay, later-is, later-there, rows-more, rows-stay}
use Rattle.cube_core.proofs.respread.hold_moved.Goals as goal

pub unreachable-requires : goal.unreachable-requires
unreachable-requires g c = before-there g.P.WeightPolicy.weigh c.args.state.now c.args.later.now c.requires.over c.args.fact.now c.requires.there c.look_up.result c.look_up.ensures.rows c.in_default.is

pub unreachable-requires-in_default-look_up : goal.unreachable-requires-in_default-look_up
unreachable-requires-in_default-look_up g c = later-there g.P.WeightPolicy.weigh c.args.state.now c.args.later.now c.requires.over c.args.fact.now c.requires.there c.look_up-2.result c.look_up-2.ensures.rows c.in_default-look_up.is

pub returns-then-is_same-clause-ids : goal.returns-then-is_same-clause-ids
returns-then-is_same-clause-ids g c =
    let weigh = g.P.WeightPolicy.weigh in
    let state = c.args.state.now in
    ids-stay (policy_in weigh state) state.dims c.args.later.now.dims state.facts c.args.fact.now c.in-Some.before.now c.in-Some-look_up.spread.now
    (before-is weigh state c.args.later.now c.requires.over c.args.fact.now c.requires.there c.look_up.result c.in-Some.before c.look_up.ensures.rows c.in-Some.is)
    (later-is weigh state c.args.later.now c.requires.over c.args.fact.now c.requires.there c.look_up-2.result c.in-Some-look_up.spread c.look_up-2.ensures.rows c.in-Some-look_up.is) c.args.held.now.ids
    (sym c.is_same.ensures ∙ c.if-is_same.true)

pub returns-then-is_same-clause-rows : goal.returns-then-is_same-clause-rows
returns-then-is_same-clause-rows g c =
    let weigh = g.P.WeightPolicy.weigh in
    let state = c.args.state.now in
    rows-stay (policy_in weigh state) state.dims c.args.later.now.dims state.facts c.args.fact.now c.in-Some.before.now c.in-Some-look_up.spread.now
    (before-is weigh state c.args.later.now c.requires.over c.args.fact.now c.requires.there c.look_up.result c.in-Some.before c.look_up.ensures.rows c.in-Some.is)
    (later-is weigh state c.args.later.now c.requires.over c.args.fact.now c.requires.there c.look_up-2.result c.in-Some-look_up.spread c.look_up-2.ensures.rows c.in-Some-look_up.is) c.args.held.now.rows
    (sym c.is_same.ensures ∙ c.if-is_same.true)

pub returns-clause-ids : goal.returns-clause-ids
returns-clause-ids g c =
    let weigh = g.P.WeightPolicy.weigh in
    let state = c.args.state.now in
    on_ok_weaker c.hold.result
    (λ more.
    ids-more (policy_in weigh state) state.dims c.args.later.now.dims state.facts c.args.fact.now c.in-Some.before.now c.in-Some-look_up.spread.now
    (before-is weigh state c.args.later.now c.requires.over c.args.fact.now c.requires.there c.look_up.result c.in-Some.before c.look_up.ensures.rows c.in-Some.is)
    (later-is weigh state c.args.later.now c.requires.over c.args.fact.now c.requires.there c.look_up-2.result c.in-Some-look_up.spread c.look_up-2.ensures.rows c.in-Some-look_up.is) c.args.held.now.ids c.hold.new.self.ids
    (sym c.is_same.ensures ∙ c.if-is_same.false) more)
    c.hold.ensures.ids

pub returns-clause-rows : goal.returns-clause-rows
returns-clause-rows g c =
    let weigh = g.P.WeightPolicy.weigh in
    let state = c.args.state.now in
    on_ok_weaker c.hold.result
    (λ more.
    rows-more (policy_in weigh state) state.dims c.args.later.now.dims state.facts c.args.fact.now c.in-Some.before.now c.in-Some-look_up.spread.now
    (before-is weigh state c.args.later.now c.requires.over c.args.fact.now c.requires.there c.look_up.result c.in-Some.before c.look_up.ensures.rows c.in-Some.is)
    (later-is weigh state c.args.later.now c.requires.over c.args.fact.now c.requires.there c.look_up-2.result c.in-Some-look_up.spread c.look_up-2.ensures.rows c.in-Some-look_up.is) c.args.held.now.rows c.hold.new.self.rows
    (sym c.is_same.ensures ∙ c.if-is_same.false) more)
    c.hold.ensures.rows
