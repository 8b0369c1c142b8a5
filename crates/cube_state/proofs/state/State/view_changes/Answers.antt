-- The changes make the views those of the facts after, and each entry can be changed by them.
use Rattle.std.proofs.Common.{◌≡◌, ◌∙◌, ap, length, sym, subst, ◌==◌, true}
use Rattle.std.proofs.lemmas.Result.{IfOk-weaker}
use Rattle.staged_map.specs.Staged.{value_at}
use Rattle.cube_state.specs.ViewChanges.{SufficeFor, all_changes, changes_by}
use Rattle.cube_state.proofs.ViewsFit.{after-of_regions, suffice-none, suffice-seen, follow-seen, kept-of_regions}
use Rattle.cube_state.proofs.state.State.view_changes.Goals as goal

pub changes_by-requires-clause-kept : goal.changes_by-requires-clause-kept
changes_by-requires-clause-kept g c =
    kept-of_regions g.P.WeightPolicy.weigh _ _ c.self.view_is c.self.invariant.state (g.met.P.WeightPolicy.bound c.self.inside.policy) c.columns.ensures.shape c.self.invariant.state.trees _ c.columns-2.ensures.columns c.columns-2.ensures.each
    c.args.moves.now c.requires.moves c.args.regrouped.now c.requires.regrouped

pub changes_by-requires-clause-after : goal.changes_by-requires-clause-after
changes_by-requires-clause-after g c =
    rw c.as_slice.ensures (after-of_regions g.P.WeightPolicy.weigh _ _ c.self.view_is c.self.invariant.state (g.met.P.WeightPolicy.bound c.self.inside.policy) c.columns.ensures.shape c.self.invariant.state.trees _ c.columns-2.ensures.columns c.columns-2.ensures.each
    c.args.moves.now c.requires.moves c.args.regrouped.now c.requires.regrouped)

pub returns-then-is_empty-clause-follow : goal.returns-then-is_empty-clause-follow
returns-then-is_empty-clause-follow g c =
    follow-seen g.P.WeightPolicy.weigh _ _ c.self.view_is c.self.invariant.state (g.met.P.WeightPolicy.bound c.self.inside.policy) c.columns.ensures.shape c.self.invariant.state.trees _ c.columns-2.ensures.columns c.columns-2.ensures.each
    c.args.moves.now c.requires.moves c.args.regrouped.now c.requires.regrouped _ (sym (ap (λ s. all_changes s c.args.regrouped.now.groups) c.self.view_is))

-- where there is no view, nothing is listed
pub returns-then-is_empty-clause-changes : goal.returns-then-is_empty-clause-changes
returns-then-is_empty-clause-changes g c =
    rw c.new.ensures.items (suffice-none _ _ _ (subst (λ s. (length s.kept.views.views == 0) ≡ true) c.self.view_is (sym c.is_empty.ensures ∙ c.if-is_empty.true)))

pub returns-clause-follow : goal.returns-clause-follow
returns-clause-follow g c =
    follow-seen g.P.WeightPolicy.weigh _ _ c.self.view_is c.self.invariant.state (g.met.P.WeightPolicy.bound c.self.inside.policy) c.columns.ensures.shape c.self.invariant.state.trees _ c.columns-2.ensures.columns c.columns-2.ensures.each
    c.args.moves.now c.requires.moves c.args.regrouped.now c.requires.regrouped _ (sym (ap (λ s. all_changes s c.args.regrouped.now.groups) c.self.view_is))

pub returns-clause-changes : goal.returns-clause-changes
returns-clause-changes g c =
    IfOk-weaker c.changes_by.result (λ changes. changes.items ≡ changes_by c.self.inside.space (value_at c.self.inside.groups) c.as_slice.result.now)
    (λ changes. SufficeFor c.args.self.now.dims c.args.self.now.kept.views (all_changes c.args.self.now c.args.regrouped.now.groups) changes.items)
    (λ changes are.
    suffice-seen g.P.WeightPolicy.weigh _ _ c.self.view_is c.self.invariant.state (g.met.P.WeightPolicy.bound c.self.inside.policy) c.columns.ensures.shape c.self.invariant.state.trees _ c.columns-2.ensures.columns c.columns-2.ensures.each
    c.args.moves.now c.requires.moves c.args.regrouped.now c.requires.regrouped changes.items (are ∙ ap (changes_by c.self.inside.space (value_at c.self.inside.groups)) c.as_slice.ensures))
    c.changes_by.ensures
