-- What is refreshed and stored is told by all facts.
use Rattle.std.proofs.Common.{ℕ, length, ap, subst, sym, ◌∙◌}
use Rattle.edit_plan.specs.Plan.{AreNewFor}
use Rattle.edit_plan.specs.Whole.{facts_with_new}
use Rattle.edit_plan.proofs.AllSeen.{ids-planned, lists-planned, new-ascend, new-fits}
use Rattle.edit_plan.proofs.whole.plan_all.Goals as goal

pub returns-clause-fits : goal.returns-clause-fits
returns-clause-fits g c =
    subst (AreNewFor g.P.WeightPolicy.weigh c.args.state.now c.of.result.value) (sym c.in-Ok-in_box.ensures)
    (new-fits g.P.WeightPolicy.weigh c.args.state.now c.args.facts.now _ _ c.requires c.of.ensures (c.in_ok-all.ensures.facts ∙ ap (facts_with_new c.args.state.now) c.as_slice.ensures) c.in_ok-all.ensures.kept)

pub returns-clause-count : goal.returns-clause-count
returns-clause-count g c =
    c.in-Ok.ensures.count
    ∙ ap {B = ℕ} length (ids-planned g.P.WeightPolicy.weigh c.args.state.now c.args.facts.now c.requires c.facts.ensures.valid _ (c.in_ok-all.ensures.facts ∙ ap (facts_with_new c.args.state.now) c.as_slice.ensures))

pub returns-clause-lists : goal.returns-clause-lists
returns-clause-lists g c =
    c.in-Ok.ensures.lists
    ∙ lists-planned g.P.WeightPolicy.weigh c.args.state.now c.args.facts.now c.requires c.facts.ensures.valid _ (c.in_ok-all.ensures.facts ∙ ap (facts_with_new c.args.state.now) c.as_slice.ensures) c.args.detail

pub returns-clause-ascending : goal.returns-clause-ascending
returns-clause-ascending g c =
    new-ascend g.P.WeightPolicy.weigh c.args.state.now c.args.facts.now c.requires c.facts.ensures.valid _ (c.in_ok-all.ensures.facts ∙ ap (facts_with_new c.args.state.now) c.as_slice.ensures)
