-- The facts are looked at one after another.
use Rattle.std.proofs.Common.{◌≡◌, ◌≤◌, true, subst, sym, ◌∙◌}
use Rattle.std.proofs.lemmas.List.Elements.{All-weaker}
use Rattle.cube_model.specs.Ascending.{ascends_from}
use Rattle.cube_state.specs.State.{policy_in}
use Rattle.fact_records.specs.Valid.{IsValid}
use Rattle.cube_core.proofs.Moving.{ascend-moved, held-ids, held-next, held-none, held-rows, held-there, rows-moved}
use Rattle.cube_core.proofs.respread.moved_between.Goals as goal

pub loop-fact-init : goal.loop-fact-init
loop-fact-init g c =
    let state = c.args.state.now in
    held-none (policy_in g.P.WeightPolicy.weigh state) state.dims c.args.later.now.dims state.facts _ _ _ c.facts.ensures.valid.ascending c.new.ensures c.new-2.ensures
    (c.into_iter-fact-iterator.ensures.into_iter_gives ∙ c.iter-fact-items.ensures ∙ c.facts.ensures.facts)

pub hold_moved-requires-clause-there : goal.hold_moved-requires-clause-there
hold_moved-requires-clause-there g c = held-there _ _ _ _ _ _ _ c.loop-fact.invariant _ _ c.in-Some.ensures.steps

pub loop-fact-preserved : goal.loop-fact-preserved
loop-fact-preserved g c = held-next _ _ _ _ _ _ _ c.loop-fact.invariant _ _ _ _ c.in-Some.ensures.steps c.in_ok-hold_moved.ensures.ids c.in_ok-hold_moved.ensures.rows

pub returns-clause-ids : goal.returns-clause-ids
returns-clause-ids g c = held-ids _ _ _ _ _ _ _ c.loop-fact.invariant c.in-None.ensures.steps.0

pub returns-clause-rows : goal.returns-clause-rows
returns-clause-rows g c =
    let state = c.args.state.now in
    held-rows _ _ _ _ _ _ _ c.loop-fact.invariant c.in-None.ensures.steps.0 ∙ rows-moved (policy_in g.P.WeightPolicy.weigh state) state.dims c.args.later.now.dims state.facts c.facts.ensures.valid.ascending

pub returns-clause-ascending : goal.returns-clause-ascending
returns-clause-ascending g c =
    let state = c.args.state.now in
    let valid = c.facts.ensures.valid in
    let from = All-weaker (IsValid state.shape state.dims) (λ f. 1 ≤ f.id) (λ f one. one.accepted.placed.id.least) state.facts valid.each in
    subst (λ ids. ascends_from (λ id. id) 1 ids ≡ true) (sym (held-ids _ _ _ _ _ _ _ c.loop-fact.invariant c.in-None.ensures.steps.0))
    (ascend-moved (policy_in g.P.WeightPolicy.weigh state) state.dims c.args.later.now.dims state.facts valid.ascending from)
