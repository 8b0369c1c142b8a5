-- The views stay over the columns.
use Rattle.std.proofs.Common.{◌∙◌, ◌≡◌, ◌≤◌, ap, arith, length, map, sym, subst}
use Rattle.std.proofs.lemmas.List.{take_all}
use Rattle.std.specs.Prelude.{All}
use Rattle.view_store.specs.Views.{ViewMap, ViewMaps, without_entries}
use Rattle.view_store.proofs.AllViews.{views-emptied}
use Rattle.view_store.proofs.views.Views.without_entries.Goals as goal

pub invariant_of-result : goal.invariant_of-result
invariant_of-result c =
    let views : c.self.inside.views.items ≡ c.args.self.now.views = ap (λ (maps : ViewMaps). maps.views) c.self.view_is in
    let end : length c.args.self.now.views ≤ c.loop-view.view-index = omega (arith, c.loop-view-test.false, ap length c.deref-view-items.ensures.value, ap length views) in
    let all : c.loop-view.views.items ≡ map without_entries c.self.inside.views.items =
    c.loop-view.invariant ∙ ap (map without_entries) (take_all c.loop-view.view-index c.args.self.now.views end ∙ sym views) in
    record {
      least = c.self.invariant.least;
      most = c.self.invariant.most;
      each = subst (All (λ (view : ViewMap). view.columns ≡ c.self.inside.columns)) (sym all) (views-emptied c.self.inside.columns c.self.inside.views.items c.self.invariant.each);
    }
