-- Staging and installing, view by view.
use Rattle.std.proofs.Common.{◌≡◌, ℕ, zero, suc, List, [], ◌∷◌, length, map, set, refl, ap, sym, subst, ◌∙◌, arith, Option, Some, None, unwrap_or}
use Rattle.std.specs.Prelude.{All, IfSome, slice_get}
use Rattle.std.proofs.lemmas.List.Elements.{All-cons, All-nil, All-head, All-tail}
use Rattle.cube_model.specs.Tree.{Dimension}
use Rattle.group_sum.specs.Terms.{TermList}
use Rattle.region_algebra.specs.declared.view_def.ViewDef.{ViewDef}
use Rattle.staged_map.specs.Staged.{Entries, staged_entry, value_at}
use Rattle.view_store.specs.declared.change.ViewChange.{ViewChange}
use Rattle.view_store.specs.Changes.{AreAfter, AreAllSet, AreSame, AreSet, AreStagedFor, IsAfter, IsMadeAnew, IsMadeFor, IsSameView, IsSet, facts_put, facts_taken_away, shares, staged_at}
use Rattle.view_store.specs.Views.{AreOfColumns, ViewMap, ViewMaps, entry_at, no_terms, view_of, without_entries}

-- views of definitions are over the columns
pub views-made : (columns : ℕ) (defs : List ViewDef) → All (λ (view : ViewMap). view.columns ≡ columns) (map (view_of columns) defs)
views-made columns [] = All-nil (λ (view : ViewMap). view.columns ≡ columns)
views-made columns (def ∷ defs) = All-cons (λ (view : ViewMap). view.columns ≡ columns) (view_of columns def) (map (view_of columns) defs) refl (views-made columns defs)

-- views stay over the columns without their entries
pub views-emptied : (columns : ℕ) (views : List ViewMap) → All (λ (view : ViewMap). view.columns ≡ columns) views → All (λ (view : ViewMap). view.columns ≡ columns) (map without_entries views)
views-emptied columns [] all = All-nil (λ (view : ViewMap). view.columns ≡ columns)
views-emptied columns (view ∷ views) all = All-cons (λ (view : ViewMap). view.columns ≡ columns) (without_entries view) (map without_entries views)
    (All-head (λ (view : ViewMap). view.columns ≡ columns) view views all) (views-emptied columns views (All-tail (λ (view : ViewMap). view.columns ≡ columns) view views all))

-- what is set by a staging is what its changes make
set-after : (dims : List Dimension) (changes : List ViewChange) (old new : ViewMap) (entries : Entries TermList) → IsMadeFor dims changes old entries → IsSet old entries new → IsAfter dims changes old new
set-after dims changes old new entries made sets = record {
  columns = sets.columns;
  depths = sets.depths;
  made = λ code in_view.
      let same : entry_at new code ≡ staged_at old entries code = ap (λ o. unwrap_or o (no_terms new.columns)) (sets.puts.values code) ∙ ap (λ n. unwrap_or (unwrap_or (staged_entry entries code) (value_at old.entries code)) (no_terms n)) sets.columns in
      subst (IsMadeAnew (entry_at old code) (shares old.columns dims (facts_taken_away changes) code) (shares old.columns dims (facts_put changes) code)) (sym same) (made.made code in_view);
  kept = λ code outside. sets.puts.values code ∙ ap (λ o. unwrap_or o (value_at old.entries code)) (made.kept code outside);
}

-- something is staged for each view
staged-there : (views : List ViewMap) (stages : List (Entries TermList)) (v : ℕ) (view : ViewMap) → length views ≡ length stages → slice_get views v ≡ Some view → slice_get stages v ≡ None → ⊥
staged-there [] stages v view same at none = absurd (grind arith)
staged-there (x ∷ views) [] v view same at none = absurd (omega arith)
staged-there (x ∷ views) (y ∷ stages) zero view same at none = absurd (grind arith)
staged-there (x ∷ views) (y ∷ stages) (suc v) view same at none = staged-there views stages v view (omega (arith, same)) at none

pub AreAfter-set : (dims : List Dimension) (changes : List ViewChange) (old new : ViewMaps) (stage : List (Entries TermList)) → AreSet old stage new → AreStagedFor dims changes old stage → AreAfter dims changes old new
AreAfter-set dims changes old new stage sets staged = record {
  columns = sets.columns;
  count = sets.views.count;
  each = λ v. by v (slice_get old.views v) (slice_get stage v) (slice_get new.views v) refl refl (sets.views.each v) (staged.each v);
}
  where
    by : (v : ℕ) (a : Option ViewMap) (e : Option (Entries TermList)) (b : Option ViewMap) → slice_get old.views v ≡ a → slice_get stage v ≡ e
        → IfSome a (λ before. IfSome e (λ entries. IfSome b (IsSet before entries))) → IfSome a (λ view. IfSome e (IsMadeFor dims changes view)) → IfSome a (λ before. IfSome b (IsAfter dims changes before))
    by v None e b at stage_at set made = tt
    by v (Some before) e None at stage_at set made = tt
    by v (Some before) None (Some after) at stage_at set made = absurd (staged-there old.views stage v before (sym staged.room.count) at stage_at)
    by v (Some before) (Some entries) (Some after) at stage_at set made = set-after dims changes before after entries made set

-- the views stay over the columns
pub columns-kept : (columns : ℕ) (old new : List ViewMap) → All (λ (view : ViewMap). view.columns ≡ columns) old → length new ≡ length old
    → ((v : ℕ) → IfSome (slice_get old v) (λ before. IfSome (slice_get new v) (λ after. after.columns ≡ before.columns))) → All (λ (view : ViewMap). view.columns ≡ columns) new
columns-kept columns [] [] all count each = All-nil (λ (view : ViewMap). view.columns ≡ columns)
columns-kept columns [] (after ∷ new) all count each = absurd (omega arith)
columns-kept columns (before ∷ old) [] all count each = absurd (omega arith)
columns-kept columns (before ∷ old) (after ∷ new) all count each =
    All-cons (λ (view : ViewMap). view.columns ≡ columns) after new (each 0 ∙ All-head (λ (view : ViewMap). view.columns ≡ columns) before old all)
    (columns-kept columns old new (All-tail (λ (view : ViewMap). view.columns ≡ columns) before old all) (omega (arith, count)) (λ v. each (suc v)))

pub AreOfColumns-same : (columns : ℕ) (old new : List ViewMap) → AreOfColumns columns old → AreSame old new → AreOfColumns columns new
AreOfColumns-same columns old new are same = record {
  least = are.least;
  most = are.most;
  each = columns-kept columns old new are.each same.count (λ v. by (slice_get old v) (slice_get new v) (same.each v));
}
  where
    by : (a b : Option ViewMap) → IfSome a (λ before. IfSome b (IsSameView before)) → IfSome a (λ before. IfSome b (λ after. after.columns ≡ before.columns))
    by None b same = tt
    by (Some before) None same = tt
    by (Some before) (Some after) same = same.columns

pub AreOfColumns-set : (columns : ℕ) (old : List ViewMap) (stage : List (Entries TermList)) (new : List ViewMap) → AreOfColumns columns old → length stage ≡ length old → AreAllSet old stage new → AreOfColumns columns new
AreOfColumns-set columns old stage new are count sets = record {
  least = are.least;
  most = are.most;
  each = columns-kept columns old new are.each sets.count (λ v. by v (slice_get old v) (slice_get stage v) (slice_get new v) refl refl (sets.each v));
}
  where
    by : (v : ℕ) (a : Option ViewMap) (e : Option (Entries TermList)) (b : Option ViewMap) → slice_get old v ≡ a → slice_get stage v ≡ e
        → IfSome a (λ before. IfSome e (λ entries. IfSome b (IsSet before entries))) → IfSome a (λ before. IfSome b (λ after. after.columns ≡ before.columns))
    by v None e b at stage_at set = tt
    by v (Some before) e None at stage_at set = tt
    by v (Some before) None (Some after) at stage_at set = absurd (staged-there old stage v before (sym count) at stage_at)
    by v (Some before) (Some entries) (Some after) at stage_at set = set.columns
