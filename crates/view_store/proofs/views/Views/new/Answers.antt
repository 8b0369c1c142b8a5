-- The views are over the columns.
use Rattle.std.proofs.Common.{◌≡◌, ◌∙◌, List, ap, map, sym, subst, take}
use Rattle.std.proofs.lemmas.List.{take_all}
use Rattle.std.specs.Prelude.{All}
use Rattle.view_store.specs.Views.{ViewMap, ViewMaps, view_of}
use Rattle.view_store.proofs.AllViews.{views-made}
use Rattle.view_store.proofs.views.Views.new.Goals as goal

pub invariant_of-result : goal.invariant_of-result
invariant_of-result c = record {
  least = c.requires.some;
  most = c.requires.most;
  each = subst (All (λ (view : ViewMap). view.columns ≡ c.args.columns)) (sym c.loop-def.invariant) (views-made c.args.columns (take c.loop-def.def-index c.args.defs.now));
}

pub returns : goal.returns
returns c =
    let views_of : List ViewMap → ViewMaps = λ views. record { columns = c.args.columns; views = views } in
    ap views_of (c.loop-def.invariant ∙ ap (map (view_of c.args.columns)) (take_all c.loop-def.def-index c.args.defs.now c.loop-def-test.false))
