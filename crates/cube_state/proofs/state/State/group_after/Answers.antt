-- The group after an edit is that before it with the fact that the edit gives and without the one that it takes.
use Rattle.std.proofs.Common.{ap, sym, subst, ◌∙◌, arith}
use Rattle.std.specs.Prelude.{All, IfSome, slice_get}
use Rattle.cube_model.specs.Tree.{IsTree}
use Rattle.region_algebra.proofs.Spaces.{uncode-region}
use Rattle.std.specs.Option.{option_copied}
use Rattle.region_algebra.specs.Space.{IsRegion, all_regions}
use Rattle.staged_map.specs.Staged.{value_at}
use Rattle.cube_state.specs.GroupAfter.{fact_with_code}
use Rattle.cube_state.specs.Moves.{region_code}
use Rattle.cube_state.proofs.GroupSeen.{enough-seen, few-cells-seen, few-seen, given-within, made-seen, none-seen, spread-seen, sums-seen, taken-within, there-seen}
use Rattle.cube_state.proofs.state.State.group_after.Goals as goal

pub fact_at-taken-requires : goal.fact_at-taken-requires
fact_at-taken-requires g c = c.requires.moves.taken_at ∙ ap (region_code c.args.self.now.dims) (sym c.as_ref.ensures.value)

pub fact_at-given-requires : goal.fact_at-given-requires
fact_at-given-requires g c = c.requires.moves.given_at ∙ ap (region_code c.args.self.now.dims) (sym c.as_ref-2.ensures.value)

pub overflow_add-members : goal.overflow_add-members
overflow_add-members g c =
    let few = few-seen g.P.WeightPolicy.weigh _ _ c.self.view_is c.self.invariant.state c.self.invariant.state.trees c.args.moves.now c.requires.moves c.args.code c.args.before (c.requires.before ∙ sym (ap (λ s. value_at s.kept.groups c.args.code) c.self.view_is)) in
    omega (arith, few, c.members_of.ensures, c.number_of.ensures.one)

pub overflow_sub-members : goal.overflow_sub-members
overflow_sub-members g c =
    enough-seen g.P.WeightPolicy.weigh _ _ c.self.view_is c.self.invariant.state c.self.invariant.state.trees c.args.moves.now c.requires.moves c.args.code c.args.before (c.requires.before ∙ sym (ap (λ s. value_at s.kept.groups c.args.code) c.self.view_is))
    _ _ _ _ c.fact_at-taken.ensures c.as_ref.ensures.value c.fact_at-given.ensures c.as_ref-2.ensures.value
    _ _ _ c.members_of.ensures c.number_of-2.ensures.number c.number_of.ensures.number

pub returns-then-members-eq0 : goal.returns-then-members-eq0
returns-then-members-eq0 g c =
    none-seen g.P.WeightPolicy.weigh _ _ c.self.view_is c.self.invariant.state c.self.invariant.state.trees c.args.moves.now c.requires.moves c.args.code c.args.before (c.requires.before ∙ sym (ap (λ s. value_at s.kept.groups c.args.code) c.self.view_is))
    _ _ _ _ c.fact_at-taken.ensures c.as_ref.ensures.value c.fact_at-given.ensures c.as_ref-2.ensures.value
    _ _ _ c.members_of.ensures c.number_of-2.ensures.number c.number_of.ensures.number c.if-members-eq0.true

pub unreachable-requires : goal.unreachable-requires
unreachable-requires g c =
    there-seen g.P.WeightPolicy.weigh _ _ c.self.view_is c.self.invariant.state c.self.invariant.state.trees c.args.moves.now c.requires.moves c.args.code c.args.before (c.requires.before ∙ sym (ap (λ s. value_at s.kept.groups c.args.code) c.self.view_is))
    _ _ _ _ c.fact_at-taken.ensures c.as_ref.ensures.value c.fact_at-given.ensures c.as_ref-2.ensures.value
    _ _ _ c.members_of.ensures c.number_of-2.ensures.number c.number_of.ensures.number
    _ (c.requires.region ∙ ap (λ s. slice_get (all_regions s.dims) c.args.code) (sym c.self.view_is)) c.if-members-eq0.false (ap option_copied c.in_default.is)

pub spread_after-requires-clause-region : goal.spread_after-requires-clause-region
spread_after-requires-clause-region g c =
    subst (λ o. IfSome o (IsRegion c.args.self.now.dims)) (ap option_copied c.in-Some.is) (uncode-region c.args.self.now.dims c.args.code (option_copied c.args.region) (subst (λ s. All IsTree s.dims) c.self.view_is c.self.invariant.state.trees) c.requires.region)

pub spread_after-requires-clause-few : goal.spread_after-requires-clause-few
spread_after-requires-clause-few g c =
    few-cells-seen g.P.WeightPolicy.weigh _ _ c.self.view_is c.self.invariant.state c.self.invariant.state.trees c.args.moves.now c.requires.moves c.args.code c.args.before (c.requires.before ∙ sym (ap (λ s. value_at s.kept.groups c.args.code) c.self.view_is))
    _ _ _ _ c.fact_at-taken.ensures c.as_ref.ensures.value c.fact_at-given.ensures c.as_ref-2.ensures.value
    _ _ _ c.members_of.ensures c.number_of-2.ensures.number c.number_of.ensures.number
    _ (c.requires.region ∙ ap (λ s. slice_get (all_regions s.dims) c.args.code) (sym c.self.view_is)) c.if-members-eq0.false c.in-Some.region.now (ap option_copied c.in-Some.is)

pub spread_after-requires-clause-group : goal.spread_after-requires-clause-group
spread_after-requires-clause-group g c =
    spread-seen g.P.WeightPolicy.weigh _ _ c.self.view_is c.self.invariant.state c.self.invariant.state.trees c.args.moves.now c.requires.moves c.args.code c.args.before (c.requires.before ∙ sym (ap (λ s. value_at s.kept.groups c.args.code) c.self.view_is))
    _ _ _ _ c.fact_at-taken.ensures c.as_ref.ensures.value c.fact_at-given.ensures c.as_ref-2.ensures.value
    _ _ _ c.members_of.ensures c.number_of-2.ensures.number c.number_of.ensures.number
    _ (c.requires.region ∙ ap (λ s. slice_get (all_regions s.dims) c.args.code) (sym c.self.view_is)) c.if-members-eq0.false c.in-Some.region.now (ap option_copied c.in-Some.is)

pub sums_after-sums-requires-clause-group : goal.sums_after-sums-requires-clause-group
sums_after-sums-requires-clause-group g c =
    sums-seen g.P.WeightPolicy.weigh _ _ c.self.view_is c.self.invariant.state c.self.invariant.state.trees c.args.moves.now c.requires.moves c.args.code c.args.before (c.requires.before ∙ sym (ap (λ s. value_at s.kept.groups c.args.code) c.self.view_is)) _ c.columns-columns.ensures.columns c.columns-columns.ensures.shape

pub sums_after-sums-requires-clause-taken : goal.sums_after-sums-requires-clause-taken
sums_after-sums-requires-clause-taken g c =
    taken-within g.P.WeightPolicy.weigh _ _ c.self.view_is c.self.invariant.state c.self.invariant.state.trees c.args.moves.now c.requires.moves c.args.code c.args.before (c.requires.before ∙ sym (ap (λ s. value_at s.kept.groups c.args.code) c.self.view_is)) _ c.columns-columns.ensures.columns c.columns-columns.ensures.shape
    _ (c.fact_at-taken.ensures ∙ ap (fact_with_code c.args.self.now.dims c.args.code) c.as_ref.ensures.value)

pub sums_after-sums-requires-clause-given : goal.sums_after-sums-requires-clause-given
sums_after-sums-requires-clause-given g c =
    given-within g.P.WeightPolicy.weigh _ _ c.self.view_is c.self.invariant.state c.self.invariant.state.trees c.args.moves.now c.requires.moves c.args.code c.args.before (c.requires.before ∙ sym (ap (λ s. value_at s.kept.groups c.args.code) c.self.view_is)) _ c.columns-columns.ensures.columns c.columns-columns.ensures.shape
    _ (c.fact_at-given.ensures ∙ ap (fact_with_code c.args.self.now.dims c.args.code) c.as_ref-2.ensures.value)

pub returns : goal.returns
returns g c =
    made-seen g.P.WeightPolicy.weigh _ _ c.self.view_is c.self.invariant.state c.self.invariant.state.trees c.args.moves.now c.requires.moves c.args.code c.args.before (c.requires.before ∙ sym (ap (λ s. value_at s.kept.groups c.args.code) c.self.view_is))
    _ _ _ _ c.fact_at-taken.ensures c.as_ref.ensures.value c.fact_at-given.ensures c.as_ref-2.ensures.value
    _ _ _ c.members_of.ensures c.number_of-2.ensures.number c.number_of.ensures.number
    _ (c.requires.region ∙ ap (λ s. slice_get (all_regions s.dims) c.args.code) (sym c.self.view_is)) c.if-members-eq0.false c.in-Some.region.now (ap option_copied c.in-Some.is)
    _ _ _ c.in_ok-spread.ensures c.columns-columns.ensures.columns c.sums_after-sums.ensures
