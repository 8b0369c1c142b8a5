-- The views stay over the columns.
use Rattle.std.proofs.Common.{◌∙◌, ◌≡◌, ap, length, sym, subst}
use Rattle.std.specs.Prelude.{All}
use Rattle.view_store.specs.Changes.{FitsView}
use Rattle.view_store.specs.Views.{AreOfColumns, ViewMaps}
use Rattle.view_store.proofs.AllViews.{AreOfColumns-same}
use Rattle.view_store.proofs.Turns.{written}
use Rattle.view_store.proofs.views.Views.stage.Goals as goal

pub stage_all-requires-clause-changes : goal.stage_all-requires-clause-changes
stage_all-requires-clause-changes c =
    let fits = subst (λ (v : ViewMaps). All (FitsView c.args.space.now c.args.changes.now) v.views) (sym c.self.view_is) c.requires.changes in
    subst (All (FitsView c.args.space.now c.args.changes.now)) (sym c.deref_mut.ensures.value) fits

pub invariant_of-self : goal.invariant_of-self
invariant_of-self c =
    let count : length c.stage_all.new.views ≡ c.self.inside.views.len = c.in_err-stages.ensures.same.count ∙ c.deref_mut.ensures.len in
    let items : length c.self.inside.views.items ≡ c.self.inside.views.len = sym (ap length c.deref_mut.ensures.value) ∙ c.deref_mut.ensures.len in
    rw (written c.self.inside.views.items c.stage_all.new.views c.self.inside.views.len count items)
    (AreOfColumns-same c.self.inside.columns c.deref_mut.result.now c.stage_all.new.views (subst (AreOfColumns c.self.inside.columns) (sym c.deref_mut.ensures.value) c.self.invariant) c.in_err-stages.ensures.same)

pub invariant_of-self-2 : goal.invariant_of-self-2
invariant_of-self-2 c =
    let count : length c.stage_all.new.views ≡ c.self.inside.views.len = c.in_ok-stages.ensures.same.count ∙ c.deref_mut.ensures.len in
    let items : length c.self.inside.views.items ≡ c.self.inside.views.len = sym (ap length c.deref_mut.ensures.value) ∙ c.deref_mut.ensures.len in
    rw (written c.self.inside.views.items c.stage_all.new.views c.self.inside.views.len count items)
    (AreOfColumns-same c.self.inside.columns c.deref_mut.result.now c.stage_all.new.views (subst (AreOfColumns c.self.inside.columns) (sym c.deref_mut.ensures.value) c.self.invariant) c.in_ok-stages.ensures.same)
