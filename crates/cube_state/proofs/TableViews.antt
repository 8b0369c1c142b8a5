-- The view that a table is made of, and what its list under a region says.
use Rattle.std.proofs.Common.{◌≡◌, ℕ, ◌+◌, ◌-◌, ◌*◌, ◌≤◌, List, [], ◌∷◌, length, map, refl, ap, sym, ◌∙◌, subst, true, arith, Result}
use Rattle.std.specs.Prelude.{All, IfOk}
use Rattle.std.specs.List.{flat_map}
use Rattle.std.proofs.lemmas.List.Elements.{All-cons, All-head, All-nil}
use Rattle.std.proofs.lemmas.Result.{IfOk-weaker}
use Rattle.cube_model.specs.declared.statistic.CellStat.{CellStat}
use Rattle.cube_model.specs.Allocation.{ExtendedFact}
use Rattle.cube_model.specs.Answer.{answer, merge_all}
use Rattle.cube_model.specs.Cells.{is_inside}
use Rattle.cube_model.specs.Limits.{MAX_VALUE}
use Rattle.cube_model.specs.Tree.{Dimension, IsTree}
use Rattle.cell_weight.specs.Stats.{IsStat}
use Rattle.fact_groups.specs.Groups.{group_facts, groups_at}
use Rattle.fact_records.specs.Shape.{IsShape, ShapeValue, width_of_all}
use Rattle.group_sum.specs.Terms.{TermList}
use Rattle.region_algebra.specs.Space.{IsRegion}
use Rattle.view_store.specs.declared.change.ViewChange.{ViewChange}
use Rattle.view_store.specs.Changes.{AreAfter, FitsView, FitsViews, HaveSameViews}
use Rattle.view_store.specs.Cuts.{entries_of}
use Rattle.view_store.specs.Facts.{IsViewOfFacts}
use Rattle.view_store.specs.Views.{IsViewOf, ViewMap, ViewMaps}
use Rattle.fact_indexes.specs.Anew.{AreEmpty, cuts_of}
use Rattle.fact_indexes.specs.Kept.{AreViewsOfFacts, IsState}
use Rattle.fact_indexes.specs.ViewChanges.{AreOfRegions, puts_at}
use Rattle.fact_indexes.proofs.EmptyViews.{answers-none, views-put}
use Rattle.fact_indexes.proofs.GroupRegions.{of-regions}
use Rattle.fact_indexes.proofs.PutGroups.{fit-puts, follow-some}
use Rattle.fact_indexes.proofs.ValidFacts.{valid-regions}
use Rattle.cube_state.specs.State.{StateValue, policy_in, rows_in, terms_in}
use Rattle.cube_state.specs.Tables.{HoldTouching, IsListUnder, IsOneViewUnder, depths_under, table_at, table_regions}
use Rattle.cube_state.proofs.Listing.{terms-wide}
use Rattle.cube_state.proofs.TableGroups.{near-answer}
use Rattle.cube_state.proofs.TableRegions.{length-depths_under, table-listed, table-merged, table-named}

-- one view without entries
view-alone : (shape : ShapeValue) (dims : List Dimension) (cuts : List ℕ) (columns : ℕ) → columns ≡ 1 + width_of_all shape.measures → length cuts ≡ length dims
    → AreEmpty shape dims (record { columns = columns; views = record { columns = columns; depths = cuts; entries = [] } ∷ [] })
view-alone shape dims cuts columns wide deep =
    let view : ViewMap = record { columns = columns; depths = cuts; entries = [] } in
    let columns_are : columns ≡ width_of_all shape.measures + 1 = omega (arith, wide) in
    record {
      columns = columns_are;
      each = All-cons (λ (v : ViewMap). v.columns ≡ width_of_all shape.measures + 1) view [] columns_are (All-nil (λ (v : ViewMap). v.columns ≡ width_of_all shape.measures + 1));
      over = All-cons (IsViewOf dims) view [] (record { depths = deep; regions = λ code there. cc }) (All-nil (IsViewOf dims));
      none = All-cons (λ (v : ViewMap). v.entries ≡ []) view [] refl (All-nil (λ (v : ViewMap). v.entries ≡ []));
    }

module _ {P : Type 0} (weigh : P → CellStat → ℕ) (seen : StateValue P) (kept : IsState (policy_in weigh seen) seen.shape seen.dims seen.cuts seen.facts seen.kept)
    (bound : (s : CellStat) → IsStat s → weigh seen.policy s ≤ 1 + s.count * MAX_VALUE) (is : IsShape seen.shape) (trees : All IsTree seen.dims) where
  abbrev width : ℕ
  width = width_of_all seen.shape.measures

  pub groups-regions : AreOfRegions seen.dims seen.kept.groups
  groups-regions = of-regions (policy_in weigh seen) width seen.dims seen.facts trees (valid-regions seen.shape seen.dims seen.facts kept.valid) seen.kept.groups kept.groups

  module _ (cuts region codes : List ℕ) (columns : ℕ) (wide : columns ≡ 1 + width) (deep : length cuts ≡ length seen.dims) (hold : HoldTouching seen.dims seen.kept.groups region codes) where
    abbrev changes : List ViewChange
    changes = puts_at seen.dims seen.kept.groups codes

    abbrev empty : ViewMaps
    empty = record { columns = columns; views = record { columns = columns; depths = cuts; entries = [] } ∷ [] }

    abbrev near : List ExtendedFact
    near = flat_map group_facts (groups_at (policy_in weigh seen) width seen.dims seen.facts codes)

    is_empty : AreEmpty seen.shape seen.dims empty
    is_empty = view-alone seen.shape seen.dims cuts columns wide deep

    near-fits : FitsViews seen.dims changes empty
    near-fits =
        fit-puts (weigh seen.policy) bound seen.shape seen.dims seen.facts is trees kept.valid seen.kept.groups kept.groups codes hold.ascending empty.views (answers-none seen.shape seen.dims empty is_empty) is_empty.each

    view-made : (staged new : ViewMaps) → HaveSameViews empty staged → AreAfter seen.dims changes staged new → All (λ view. view.columns ≡ new.columns) new.views → IsRegion seen.dims region → IsOneViewUnder weigh seen cuts region new
    view-made staged new same after each named = by new.views refl made.cuts_are made.over made.answers each
      where
        made : AreViewsOfFacts seen.dims (cuts_of empty) (width + 1) near new
        made =
            views-put seen.shape seen.dims empty is_empty staged new changes near same after
            (follow-some (weigh seen.policy) bound seen.shape seen.dims seen.facts is trees kept.valid seen.kept.groups kept.groups codes hold.ascending)

        by : (views : List ViewMap) → new.views ≡ views → map (λ (view : ViewMap). view.depths) views ≡ cuts ∷ [] → All (IsViewOf seen.dims) views → All (IsViewOfFacts seen.dims near) views → All (λ view. view.columns ≡ new.columns) views
            → IsOneViewUnder weigh seen cuts region new
        by [] are depths over answers each = absurd (omega (arith, ap length depths))
        by (view ∷ other ∷ views) are depths over answers each = absurd (omega (arith, ap length depths))
        by (view ∷ []) are depths over answers each = record {
          view = view;
          only = are;
          under = record {
            some = near;
            columns = All-head (λ (v : ViewMap). v.columns ≡ new.columns) view [] each ∙ made.columns_are;
            depths = first-same depths;
            over = All-head (IsViewOf seen.dims) view [] over;
            of = All-head (IsViewOfFacts seen.dims near) view [] answers;
            alike = λ low named_low under. near-answer (weigh seen.policy) seen.shape seen.dims seen.facts trees kept.valid seen.kept.groups kept.groups region codes hold low named named_low under;
          };
        }
          where
            first-same : {xs ys : List ℕ} → xs ∷ [] ≡ ys ∷ [] → xs ≡ ys
            first-same is = cc

-- what a table is
pub record IsTable {P : Type 0} (weigh : P → CellStat → ℕ) (state : StateValue P) (depths region : List ℕ) (list : List (List ℕ × TermList)) : Type 0 where
  pub entries : list ≡ table_at weigh state depths region
  pub regions : All (λ entry. IsRegion state.dims entry.0) list
  pub merged : merge_all (width_of_all state.shape.measures) (map (λ entry. entry.1.terms) list) ≡ (terms_in weigh state region).terms

module _ {P : Type 0} (weigh : P → CellStat → ℕ) (state : StateValue P) (trees : All IsTree state.dims) (depths region : List ℕ) (deep : length depths ≡ length state.dims) (named : IsRegion state.dims region)
    (list : List (List ℕ × TermList)) (is : IsListUnder weigh state (depths_under state.dims depths region) region list) where
  abbrev view : ViewMap
  view = is.view

  values : view.columns - 1 ≡ width_of_all state.shape.measures
  values = omega (arith, is.under.columns)

  alike : (low : List ℕ) → IsRegion state.dims low → is_inside state.dims region low ≡ true → answer (view.columns - 1) state.dims is.under.some low ≡ answer (view.columns - 1) state.dims (rows_in weigh state) low
  alike low named_low under = ap (λ n. answer n state.dims is.under.some low) values ∙ is.under.alike low named_low under ∙ ap (λ n. answer n state.dims (rows_in weigh state) low) (sym values)

  entries-table : list ≡ table_at weigh state depths region
  entries-table =
      is.entries ∙ table-listed state.dims (rows_in weigh state) is.under.some view depths region trees deep named is.under.of is.under.over is.under.depths is.whole alike
      ∙ ap (λ terms. entries_of terms (table_regions state.dims depths region)) (terms-wide weigh state view.columns is.under.columns)

  list-table : IsTable weigh state depths region list
  list-table = record {
    entries = entries-table;
    regions = subst (All (λ (entry : List ℕ × TermList). IsRegion state.dims entry.0)) (sym entries-table) (table-named (terms_in weigh state) state.dims depths region trees deep named);
    merged =
        ap (λ n. merge_all n (map (λ (entry : List ℕ × TermList). entry.1.terms) list)) (sym values)
        ∙ ap (λ (found : List (List ℕ × TermList)). merge_all (view.columns - 1) (map (λ (entry : List ℕ × TermList). entry.1.terms) found)) is.entries
        ∙ table-merged state.dims (rows_in weigh state) is.under.some view depths region trees deep named is.under.of is.under.over is.under.depths is.whole alike
        ∙ ap (λ n. answer n state.dims (rows_in weigh state) region) values;
  }

-- As the state is seen.
module _ {P : Type 0} (weigh : P → CellStat → ℕ) (state seen : StateValue P) (same : seen ≡ state) (trees : All IsTree seen.dims) (region : List ℕ) (named : IsRegion state.dims region) where
  named-seen : IsRegion seen.dims region
  named-seen = subst (λ (s : StateValue P). IsRegion s.dims region) (sym same) named

  length-seen : (xs : List ℕ) → length xs ≡ length state.dims → length xs ≡ length seen.dims
  length-seen xs deep = deep ∙ ap (λ (s : StateValue P). length s.dims) (sym same)

  module _ (kept : IsState (policy_in weigh seen) seen.shape seen.dims seen.cuts seen.facts seen.kept) (bound : (s : CellStat) → IsStat s → weigh seen.policy s ≤ 1 + s.count * MAX_VALUE) (is : IsShape seen.shape)
      (cuts codes : List ℕ) (columns : ℕ) (wide : columns ≡ 1 + width_of_all seen.shape.measures) (deep : length cuts ≡ length state.dims) (hold : HoldTouching state.dims state.kept.groups region codes)
      (puts : List ViewChange) (are : puts ≡ puts_at seen.dims seen.kept.groups codes) (begun : ViewMaps) (begins : begun ≡ record { columns = columns; views = record { columns = columns; depths = cuts; entries = [] } ∷ [] }) where
    hold-seen : HoldTouching seen.dims seen.kept.groups region codes
    hold-seen = subst (λ (s : StateValue P). HoldTouching s.dims s.kept.groups region codes) (sym same) hold

    pub fits-seen : All (FitsView seen.dims puts) begun.views
    fits-seen = rw (are, begins) (near-fits weigh seen kept bound is trees cuts region codes columns wide (length-seen cuts deep) hold-seen)

    pub made-seen : (staged new : ViewMaps) → HaveSameViews begun staged → AreAfter seen.dims puts staged new → (count : ℕ) → count ≡ new.columns → All (λ view. view.columns ≡ count) new.views → IsOneViewUnder weigh state cuts region new
    made-seen staged new alike after count counted each =
        subst (λ (s : StateValue P). IsOneViewUnder weigh s cuts region new) same
        (view-made weigh seen kept bound is trees cuts region codes columns wide (length-seen cuts deep) hold-seen staged new (subst (λ (maps : ViewMaps). HaveSameViews maps staged) begins alike)
        (subst (λ (changes : List ViewChange). AreAfter seen.dims changes staged new) are after) (subst (λ (n : ℕ). All (λ (view : ViewMap). view.columns ≡ n) new.views) counted each) named-seen)

  module _ (depths : List ℕ) (deep : length depths ≡ length state.dims) (cuts : List ℕ) (told : cuts ≡ depths_under seen.dims depths region) where
    pub cuts-deep : length cuts ≡ length state.dims
    cuts-deep = ap length told ∙ length-depths_under seen.dims depths region (length-seen depths deep) named-seen ∙ ap (λ (s : StateValue P). length s.dims) same

    table-at : (list : List (List ℕ × TermList)) → IsListUnder weigh state cuts region list → IsTable weigh state depths region list
    table-at list is =
        let here = subst (λ (cs : List ℕ). IsListUnder weigh seen cs region list) told (subst (λ (s : StateValue P). IsListUnder weigh s cuts region list) (sym same) is) in
        subst (λ (s : StateValue P). IsTable weigh s depths region list) same (list-table weigh seen trees depths region (length-seen depths deep) named-seen list here)

    pub table-seen : {E : Type 0} (result : Result (List (List ℕ × TermList)) E) → IfOk result (IsListUnder weigh state cuts region) → IfOk result (IsTable weigh state depths region)
    table-seen result is = IfOk-weaker result (IsListUnder weigh state cuts region) (IsTable weigh state depths region) table-at is
