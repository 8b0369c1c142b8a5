-- The views stay over the columns, and what was staged for changes is what they make.
use Rattle.std.proofs.Common.{◌∙◌, ◌≡◌, List, ap, length, sym, subst}
use Rattle.group_sum.specs.Terms.{TermList}
use Rattle.staged_map.specs.Staged.{Entries}
use Rattle.view_store.specs.Changes.{AreAllSet}
use Rattle.view_store.specs.Views.{AreOfColumns, ViewMap, ViewMaps}
use Rattle.view_store.proofs.AllViews.{AreAfter-set, AreOfColumns-set}
use Rattle.view_store.proofs.Turns.{written}
use Rattle.view_store.proofs.views.Views.install.Goals as goal

pub invariant_of-self : goal.invariant_of-self
invariant_of-self c =
    let count : length c.install_all.new.views ≡ c.self.inside.views.len = c.install_all.ensures.count ∙ c.deref_mut.ensures.len in
    let items : length c.self.inside.views.items ≡ c.self.inside.views.len = sym (ap length c.deref_mut.ensures.value) ∙ c.deref_mut.ensures.len in
    let stages : c.into_views.result.items ≡ c.args.s = c.into_views.ensures in
    let rooms = subst (λ (v : ViewMaps). length c.args.s ≡ length v.views) (sym c.self.view_is) c.requires.count in
    rw (written c.self.inside.views.items c.install_all.new.views c.self.inside.views.len count items)
    (AreOfColumns-set c.self.inside.columns c.deref_mut.result.now c.into_views.result.items c.install_all.new.views (subst (AreOfColumns c.self.inside.columns) (sym c.deref_mut.ensures.value) c.self.invariant)
    (ap length stages ∙ rooms ∙ sym (ap length c.deref_mut.ensures.value)) c.install_all.ensures)

pub returns-clause-after : goal.returns-clause-after
returns-clause-after c = λ dims changes staged.
    let views : c.deref_mut.result.now ≡ c.args.self.now.views = c.deref_mut.ensures.value ∙ ap (λ (v : ViewMaps). v.views) c.self.view_is in
    let by_stage = subst (λ (stage : List (Entries TermList)). AreAllSet c.deref_mut.result.now stage c.install_all.new.views) c.into_views.ensures c.install_all.ensures in
    let sets = subst (λ (old : List ViewMap). AreAllSet old c.args.s c.install_all.new.views) views by_stage in
    let count : length c.install_all.new.views ≡ c.self.inside.views.len = c.install_all.ensures.count ∙ c.deref_mut.ensures.len in
    let items : length c.self.inside.views.items ≡ c.self.inside.views.len = sym (ap length c.deref_mut.ensures.value) ∙ c.deref_mut.ensures.len in
    rw (written c.self.inside.views.items c.install_all.new.views c.self.inside.views.len count items)
    (AreAfter-set dims changes c.args.self.now (record { columns = c.self.inside.columns; views = c.install_all.new.views }) c.args.s (record { columns = ap (λ (v : ViewMaps). v.columns) c.self.view_is; views = sets }) staged)
