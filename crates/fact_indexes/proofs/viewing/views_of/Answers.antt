-- The views are those of the facts, whose groups are put into views without entries.
use Rattle.std.proofs.Common.{◌≡◌, ◌∙◌, [], List, ap, subst, sym}
use Rattle.std.specs.Prelude.{All}
use Rattle.cube_model.specs.Allocation.{extended}
use Rattle.fact_groups.proofs.Ascending.{ascends-from_increasing}
use Rattle.fact_records.specs.Shape.{policy_over, width_of_all}
use Rattle.view_store.specs.declared.change.ViewChange.{ViewChange}
use Rattle.view_store.specs.Changes.{FitsView, facts_put, facts_taken_away}
use Rattle.view_store.specs.Facts.{FollowBy}
use Rattle.fact_indexes.specs.ViewChanges.{puts_at}
use Rattle.fact_indexes.proofs.EmptyViews.{answers-none, views-put}
use Rattle.fact_indexes.proofs.GroupRegions.{of-regions}
use Rattle.fact_indexes.proofs.PutGroups.{fit-puts, follow-puts}
use Rattle.fact_indexes.proofs.ValidFacts.{valid-regions}
use Rattle.fact_indexes.proofs.viewing.views_of.Goals as goal

pub puts_at-requires : goal.puts_at-requires
puts_at-requires g c =
    of-regions (policy_over (g.P.WeightPolicy.weigh c.args.policy.now) c.args.shape.now) (width_of_all c.args.shape.now.measures) c.args.space.now c.args.facts.now.facts c.dims.ensures.trees
    (valid-regions c.args.shape.now c.args.space.now c.args.facts.now.facts c.requires.valid) c.args.groups.now c.requires.groups

pub stage-requires-clause-changes : goal.stage-requires-clause-changes
stage-requires-clause-changes g c =
    let puts : c.deref.result.now ≡ puts_at c.args.space.now c.args.groups.now c.in_ok-codes.codes = c.deref.ensures.value ∙ c.in_ok-changes.ensures ∙ ap (puts_at c.args.space.now c.args.groups.now) c.as_slice.ensures in
    subst (λ (changes : List ViewChange). All (FitsView c.args.space.now changes) c.args.views.views) (sym puts)
    (fit-puts (g.P.WeightPolicy.weigh c.args.policy.now) (g.met.P.WeightPolicy.bound c.args.policy.now) c.args.shape.now c.args.space.now c.args.facts.now.facts
    c.columns.ensures.shape c.dims.ensures.trees c.requires.valid c.args.groups.now c.requires.groups c.in_ok-codes.codes (ascends-from_increasing c.in_ok-codes.codes c.in_ok-codes.ensures.ascending)
    c.args.views.views (answers-none c.args.shape.now c.args.space.now c.args.views c.requires.empty) c.requires.empty.each)

pub returns : goal.returns
returns g c =
    let puts : c.deref.result.now ≡ puts_at c.args.space.now c.args.groups.now c.in_ok-codes.codes = c.deref.ensures.value ∙ c.in_ok-changes.ensures ∙ ap (puts_at c.args.space.now c.args.groups.now) c.as_slice.ensures in
    let rows = extended (policy_over (g.P.WeightPolicy.weigh c.args.policy.now) c.args.shape.now) c.args.space.now c.args.facts.now.facts in
    let follow : FollowBy [] (facts_taken_away c.deref.result.now) (facts_put c.deref.result.now) rows =
    subst (λ (changes : List ViewChange). FollowBy [] (facts_taken_away changes) (facts_put changes) rows) (sym puts)
    (follow-puts (g.P.WeightPolicy.weigh c.args.policy.now) (g.met.P.WeightPolicy.bound c.args.policy.now) c.args.shape.now c.args.space.now c.args.facts.now.facts
    c.columns.ensures.shape c.dims.ensures.trees c.requires.valid c.args.groups.now c.requires.groups c.in_ok-codes.codes (ascends-from_increasing c.in_ok-codes.codes c.in_ok-codes.ensures.ascending) c.in_ok-codes.ensures) in
    views-put c.args.shape.now c.args.space.now c.args.views c.requires.empty c.stage.new.self c.install.new.self c.deref.result.now rows
    c.in_ok-stage.ensures.same (c.install.ensures.after c.args.space.now c.deref.result.now c.in_ok-stage.ensures.staged) follow
