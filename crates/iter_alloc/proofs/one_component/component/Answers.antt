-- The labels tell the component.
use Rattle.iter_alloc.proofs.BesideFacts.{component-found, component-none, labels-long}
use Rattle.iter_alloc.proofs.one_component.component.Goals as goal
use Rattle.std.proofs.Common.{ap, length, sym, ◌∙◌}

pub label_of-requires : goal.label_of-requires
label_of-requires c = ap length (c.as_slice.ensures ∙ c.in_ok-labels.ensures.labels) ∙ labels-long c.args.space.now c.args.facts.now.facts c.requires.ascending

pub ids_labelled-requires : goal.ids_labelled-requires
ids_labelled-requires c = ap length (c.as_slice-in-Some.ensures ∙ c.in_ok-labels.ensures.labels) ∙ labels-long c.args.space.now c.args.facts.now.facts c.requires.ascending

pub returns-in-Some-clause-ids : goal.returns-in-Some-clause-ids
returns-in-Some-clause-ids c =
    component-found c.args.space.now c.args.facts.now.facts c.requires.ascending c.args.id c.in-Some.label _ _ _ (c.as_slice.ensures ∙ c.in_ok-labels.ensures.labels) (c.as_slice-in-Some.ensures ∙ c.in_ok-labels.ensures.labels)
    (sym c.in-Some.ensures) c.in_ok-ids_labelled-in-Some.ensures

pub returns-clause-ids : goal.returns-clause-ids
returns-clause-ids c = component-none c.args.space.now c.args.facts.now.facts c.requires.ascending c.args.id _ _ (c.as_slice.ensures ∙ c.in_ok-labels.ensures.labels) (sym c.in-None.ensures) c.new.ensures
