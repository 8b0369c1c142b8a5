-- The views of facts: those without entries, and those that changes leave.
use Rattle.std.proofs.Common.{◌≡◌, ℕ, ◌<◌, Bool, true, false, List, [], ◌∷◌, length, map, refl, ap, sym, ◌∙◌, arith}
use Rattle.std.specs.Prelude.{All, IfSome, slice_get, is_some}
use Rattle.std.proofs.lemmas.Bool.Decides.{nat_tests}
use Rattle.std.proofs.lemmas.List.Elements.{All-cons, All-head, All-nil, All-tail, All-weaker}
use Rattle.cube_model.specs.Allocation.{ExtendedFact}
use Rattle.cube_model.specs.Tree.{Dimension}
use Rattle.region_algebra.specs.Space.{region_total}
use Rattle.region_algebra.specs.declared.view_def.ViewDef.{ViewDef}
use Rattle.staged_map.specs.Staged.{value_at}
use Rattle.view_store.specs.declared.change.ViewChange.{ViewChange}
use Rattle.view_store.specs.Changes.{AreAfter, IsAfter, facts_put, facts_taken_away}
use Rattle.view_store.specs.Facts.{FollowBy, IsViewOfFacts}
use Rattle.view_store.specs.Views.{AreViewsOf, IsViewOf, ViewMap, ViewMaps, is_in_view, view_of, without_entries}
use Rattle.view_store.proofs.OfFacts.{view-after, view-of_none}
use Rattle.fact_indexes.specs.Kept.{AreViewsOfFacts}
use Rattle.fact_indexes.proofs.AlongViews.{All-along, depths-along}

-- the depths of views of definitions are those of the definitions
pub depths-of_defs : (columns : ℕ) (defs : List ViewDef) → map (λ (view : ViewMap). view.depths) (map (view_of columns) defs) ≡ map (λ (def : ViewDef). def.depths) defs
depths-of_defs columns [] = refl
depths-of_defs columns (def ∷ defs) = ap (λ rest. def.depths ∷ rest) (depths-of_defs columns defs)

module _ (dims : List Dimension) (columns : ℕ) where
  -- a view without entries has none that is of no region
  empty-over : (def : ViewDef) → length def.depths ≡ length dims → IsViewOf dims (view_of columns def)
  empty-over def depths = record { depths = depths; regions = λ code some. absurd (grind (arith, some)) }

  empty-all : (defs : List ViewDef) → All (λ def. length def.depths ≡ length dims) defs → All (IsViewOf dims) (map (view_of columns) defs) × All (IsViewOfFacts dims []) (map (view_of columns) defs)
  empty-all [] each = (All-nil (IsViewOf dims), All-nil (IsViewOfFacts dims []))
  empty-all (def ∷ defs) each =
      let P : ViewDef → Type 0 = λ def. length def.depths ≡ length dims in
      let rest = empty-all defs (All-tail P def defs each) in (
        All-cons (IsViewOf dims) (view_of columns def) (map (view_of columns) defs) (empty-over def (All-head P def defs each)) rest.0,
        All-cons (IsViewOfFacts dims []) (view_of columns def) (map (view_of columns) defs) (view-of_none dims columns def) rest.1,
      )

  -- so these are the views of no facts
  pub AreViewsOfFacts-none : (defs : List ViewDef) → All (λ def. length def.depths ≡ length dims) defs
      → AreViewsOfFacts dims (map (λ (view : ViewMap). view.depths) (map (view_of columns) defs)) columns [] (record { columns = columns; views = map (view_of columns) defs })
  AreViewsOfFacts-none defs each =
      let all = empty-all defs each in
      record { columns_are = refl; cuts_are = refl; over = all.0; answers = all.1 }

-- emptied views have the cuts that they had
pub cuts-emptied : (views : List ViewMap) → map (λ (view : ViewMap). view.depths) (map without_entries views) ≡ map (λ (view : ViewMap). view.depths) views
cuts-emptied [] = refl
cuts-emptied (view ∷ views) = ap (λ rest. view.depths ∷ rest) (cuts-emptied views)

module _ (dims : List Dimension) where
  emptied-all : (views : List ViewMap) → All (λ (view : ViewMap). length view.depths ≡ length dims) views → All (IsViewOf dims) (map without_entries views) × All (IsViewOfFacts dims []) (map without_entries views)
  emptied-all [] each = (All-nil (IsViewOf dims), All-nil (IsViewOfFacts dims []))
  emptied-all (view ∷ views) each =
      let P : ViewMap → Type 0 = λ view. length view.depths ≡ length dims in
      let def : ViewDef = record { name = []; depths = view.depths } in
      let rest = emptied-all views (All-tail P view views each) in (
        All-cons (IsViewOf dims) (without_entries view) (map without_entries views) (empty-over dims view.columns def (All-head P view views each)) rest.0,
        All-cons (IsViewOfFacts dims []) (without_entries view) (map without_entries views) (view-of_none dims view.columns def) rest.1,
      )

  -- and over as many dimensions they are the views of no facts
  pub AreViewsOfFacts-emptied : (space : List Dimension) (columns : ℕ) (maps : ViewMaps) → AreViewsOf space maps → maps.columns ≡ columns → length dims ≡ length space
      → AreViewsOfFacts dims (map (λ (view : ViewMap). view.depths) (map without_entries maps.views)) columns [] (record { columns = maps.columns; views = map without_entries maps.views })
  AreViewsOfFacts-emptied space columns maps over width same =
      let all = emptied-all maps.views (All-weaker (IsViewOf space) (λ (view : ViewMap). length view.depths ≡ length dims) (λ view one. one.depths ∙ sym same) maps.views over) in
      record { columns_are = width; cuts_are = refl; over = all.0; answers = all.1 }

module _ (dims : List Dimension) (changes : List ViewChange) where
  -- the cuts stay
  pub cuts-after : (old new : List ViewMap) → length new ≡ length old → ((v : ℕ) → IfSome (slice_get old v) (λ a. IfSome (slice_get new v) (IsAfter dims changes a)))
      → map (λ (view : ViewMap). view.depths) new ≡ map (λ (view : ViewMap). view.depths) old
  cuts-after old new count is = depths-along (IsAfter dims changes) (λ a b one. one.depths) old new count is

  -- entries of regions stay such
  over-after : (old new : ViewMap) → IsAfter dims changes old new → IsViewOf dims old → IsViewOf dims new
  over-after old new is was = record { depths = ap length is.depths ∙ was.depths; regions = λ code some. by code (is_in_view dims old.depths code) refl some }
    where
      by : (code : ℕ) (b : Bool) → is_in_view dims old.depths code ≡ b → is_some (value_at new.entries code) ≡ true → code < region_total dims
      by code true inside some = grind (arith, nat_tests, inside)
      by code false outside some = was.regions code (ap is_some (sym (is.kept code outside)) ∙ some)

  -- the views after changes are those of the facts after them
  pub AreViewsOfFacts-after : (cuts : List (List ℕ)) (columns : ℕ) (before after : List ExtendedFact) (old new : ViewMaps) → FollowBy before (facts_taken_away changes) (facts_put changes) after → AreAfter dims changes old new
      → AreViewsOfFacts dims cuts columns before old → AreViewsOfFacts dims (map (λ (view : ViewMap). view.depths) new.views) columns after new
  AreViewsOfFacts-after cuts columns before after old new follow is was = record {
    columns_are = is.columns ∙ was.columns_are;
    cuts_are = refl;
    over = All-along (IsAfter dims changes) (IsViewOf dims) (IsViewOf dims) over-after old.views new.views is.count is.each was.over;
    answers = All-along (IsAfter dims changes) (IsViewOfFacts dims before) (IsViewOfFacts dims after) (λ a b one held. view-after dims changes a b before after one held follow) old.views new.views is.count is.each was.answers;
  }
