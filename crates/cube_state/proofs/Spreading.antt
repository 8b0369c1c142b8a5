-- How a region is spread after an edit, by the statistics after it.
use Rattle.std.proofs.Common.{◌≡◌, ℕ, ◌<◌, ◌≤◌, Bool, true, false, List, [], ◌∷◌, length, map, refl, ap, sym, ◌∙◌, arith}
use Rattle.std.specs.Prelude.{All, AllPairs, filter, not, ◌||◌, ◌==◌, if◌then◌else◌, Some, None, unwrap_or}
use Rattle.std.specs.List.{list_any}
use Rattle.std.proofs.lemmas.Bool.Decides.{nat_tests}
use Rattle.std.proofs.lemmas.List.Elements.{All-cons, All-filter, All-nil}
use Rattle.cube_model.specs.declared.edit.Edit.{Edit}
use Rattle.cube_model.specs.declared.edit.Fact.{Fact}
use Rattle.cube_model.specs.declared.statistic.CellStat.{CellStat}
use Rattle.cube_model.specs.Allocation.{Policy, spread, stat_of, weight_of}
use Rattle.cube_model.specs.Cells.{cells_of, is_among, is_single}
use Rattle.cube_model.specs.Facts.{after}
use Rattle.cube_model.specs.Tree.{Dimension}
use Rattle.cube_model.proofs.Ascending.{ascends_filter, ascends_map}
use Rattle.cell_weight.specs.Stats.{IsStat, change_of}
use Rattle.alloc_rows.specs.Changed.{AreChangesAt, Change, changes_among, new_stats, stat_after}
use Rattle.alloc_rows.proofs.Changes.{among-itself, stat_after-among}
use Rattle.fact_groups.specs.Changes.{holds_any, reweighed_cells, touched_cells}
use Rattle.fact_groups.specs.Groups.{spread_at}
use Rattle.fact_groups.proofs.Frame.{spread-agree, spread_at-kept, spread_at-single}
use Rattle.fact_groups.proofs.Statistics.{ascends-touched, length-touched, stat-untouched}
use Rattle.touched_cells.specs.Touched.{reweighing, reweighs, touched}

-- what is looked up among changes that are made of cells
lookup-made : (f : ℕ → CellStat) (before : ℕ → CellStat) (cells : List ℕ) (cell : ℕ)
    → change_of (new_stats (map (λ c. (c, before c, f c)) cells)) cell ≡ (if is_among cells cell then Some (f cell) else None)
lookup-made f before [] cell = refl
lookup-made f before (c ∷ cells) cell = either (cell == c) (c == cell) refl refl (lookup-made f before cells cell)
  where
    either : (a b : Bool) → (cell == c) ≡ a → (c == cell) ≡ b → change_of (new_stats (map (λ c. (c, before c, f c)) cells)) cell ≡ (if is_among cells cell then Some (f cell) else None)
        → change_of (new_stats (map (λ c. (c, before c, f c)) (c ∷ cells))) cell ≡ (if is_among (c ∷ cells) cell then Some (f cell) else None)
    either true true is also rest = let same : c ≡ cell = grind (arith, nat_tests) in rw (is, also) (ap (λ n. Some (f n)) same)
    either true false is also rest = absurd (grind (arith, nat_tests))
    either false true is also rest = absurd (grind (arith, nat_tests))
    either false false is also rest = rw (is, also) rest

-- those that pass do
filter-passes : (p : Change → Bool) (some : List Change) → All (λ change. p change ≡ true) (filter p some)
filter-passes p [] = All-nil (λ change. p change ≡ true)
filter-passes p (change ∷ some) = either (p change) refl (filter-passes p some)
  where
    either : (b : Bool) → p change ≡ b → All (λ change. p change ≡ true) (filter p some) → All (λ change. p change ≡ true) (if b then change ∷ filter p some else filter p some)
    either true is rest = All-cons (λ change. p change ≡ true) change (filter p some) is rest
    either false is rest = rest

module _ (policy : Policy) (dims : List Dimension) (edit : Edit) (facts : List Fact) (up : AllPairs (λ f g. f.id < g.id) facts) (stats : ℕ → CellStat) (are : (cell : ℕ) → stats cell ≡ stat_of policy dims facts cell) where
  abbrev later : List Fact
  later = after edit facts

  abbrev changes : List Change
  changes = touched policy dims edit facts

  -- the statistics after the changes are those of the facts after the edit
  pub stat_after-touched : (cell : ℕ) → stat_after stats changes cell ≡ stat_of policy dims later cell
  stat_after-touched cell = ap (λ o. unwrap_or o (stats cell)) (lookup-made (stat_of policy dims later) (stat_of policy dims facts) (touched_cells dims edit facts) cell) ∙ either (is_among (touched_cells dims edit facts) cell) refl
    where
      either : (b : Bool) → is_among (touched_cells dims edit facts) cell ≡ b → unwrap_or (if b then Some (stat_of policy dims later cell) else None) (stats cell) ≡ stat_of policy dims later cell
      either true is = refl
      either false is = are cell ∙ sym (stat-untouched policy dims edit facts up cell is)

  -- a region as it is spread by the statistics that are kept
  pub spread-before : (region : List ℕ) → spread (λ cell. policy.weigh (stats cell)) (cells_of dims region) ≡ spread_at policy dims facts region
  unfolding spread_at
  spread-before region = spread-agree (λ cell. policy.weigh (stats cell)) (weight_of policy dims facts) (cells_of dims region) (λ k d within. ap policy.weigh (are _))

  -- and by those after the changes of its own cells
  pub spread-after : (region : List ℕ) → spread (λ cell. policy.weigh (stat_after stats (changes_among (cells_of dims region) changes) cell)) (cells_of dims region) ≡ spread_at policy dims later region
  unfolding spread_at
  spread-after region =
      spread-agree (λ cell. policy.weigh (stat_after stats (changes_among (cells_of dims region) changes) cell)) (weight_of policy dims later) (cells_of dims region)
      (λ k d within. ap policy.weigh (stat_after-among stats (cells_of dims region) changes _ (among-itself (cells_of dims region) k d within) ∙ stat_after-touched _))

  -- the changes of the region's cells are such as a step takes
  pub AreChangesAt-touched : ((cell : ℕ) → IsStat (stat_of policy dims later cell)) → (region : List ℕ) → AreChangesAt (cells_of dims region) stats (changes_among (cells_of dims region) changes)
  AreChangesAt-touched possible region =
      let cells = cells_of dims region in
      let inside = λ (change : Change). is_among cells change.0 in
      record {
        few = omega (arith, filter-short inside changes, length-made (touched_cells dims edit facts), length-touched dims edit facts);
        ascending =
            ascends_filter (λ (change : Change). change.0) inside 0 changes (ascends_map (λ (change : Change). change.0) as_change 0 (touched_cells dims edit facts) ∙ ascends-touched dims edit facts);
        inside = filter-passes inside changes;
        from = All-filter inside (λ change. change.1 ≡ stats change.0) changes (All-made (λ change. change.1 ≡ stats change.0) (λ c. sym (are c)) (touched_cells dims edit facts));
        possible = All-filter inside (λ change. IsStat change.2) changes (All-made (λ change. IsStat change.2) possible (touched_cells dims edit facts));
      }
    where
      as_change : ℕ → Change
      as_change cell = (cell, stat_of policy dims facts cell, stat_of policy dims later cell)

      filter-short : (p : Change → Bool) (some : List Change) → length (filter p some) ≤ length some
      filter-short p [] = omega arith
      filter-short p (change ∷ some) = grind (arith, filter-short p some)

      length-made : (cells : List ℕ) → length (map as_change cells) ≡ length cells
      length-made [] = refl
      length-made (c ∷ cells) = omega (arith, length-made cells)

      All-made : (Q : Change → Type 0) → ((c : ℕ) → Q (as_change c)) → (cells : List ℕ) → All Q (map as_change cells)
      All-made Q each [] = All-nil Q
      All-made Q each (c ∷ cells) = All-cons Q (as_change c) (map as_change cells) (each c) (All-made Q each cells)

  -- a region holds a cell that is reweighed where one of the changes that reweigh is of a cell of it
  pub holds-reweighing : (region : List ℕ) → list_any (λ change. is_among (cells_of dims region) change.0) (reweighing policy.weigh changes) ≡ holds_any dims region (reweighed_cells policy dims edit facts)
  unfolding reweighed_cells
  holds-reweighing region = among (touched_cells dims edit facts)
    where
      among : (cells : List ℕ) → list_any (λ change. is_among (cells_of dims region) change.0) (filter (reweighs policy.weigh) (map (λ c. (c, stat_of policy dims facts c, stat_of policy dims later c)) cells))
          ≡ list_any (is_among (cells_of dims region)) (filter (λ c. not (weight_of policy dims facts c == weight_of policy dims later c)) cells)
      among [] = refl
      among (c ∷ cells) = either (not (weight_of policy dims facts c == weight_of policy dims later c)) refl (among cells)
        where
          either : (b : Bool) → not (weight_of policy dims facts c == weight_of policy dims later c) ≡ b
              → list_any (λ change. is_among (cells_of dims region) change.0) (filter (reweighs policy.weigh) (map (λ c. (c, stat_of policy dims facts c, stat_of policy dims later c)) cells))
              ≡ list_any (is_among (cells_of dims region)) (filter (λ c. not (weight_of policy dims facts c == weight_of policy dims later c)) cells)
              → list_any (λ change. is_among (cells_of dims region) change.0) (filter (reweighs policy.weigh) (map (λ c. (c, stat_of policy dims facts c, stat_of policy dims later c)) (c ∷ cells)))
              ≡ list_any (is_among (cells_of dims region)) (filter (λ c. not (weight_of policy dims facts c == weight_of policy dims later c)) (c ∷ cells))
          either true is rest = rw is (ap (λ b. is_among (cells_of dims region) c || b) rest)
          either false is rest = rw is rest

  -- where it holds none, or is one cell, it is spread as before
  pub spread-same : (region : List ℕ) → holds_any dims region (reweighed_cells policy dims edit facts) ≡ false → spread_at policy dims later region ≡ spread_at policy dims facts region
  spread-same region none = spread_at-kept policy dims edit facts up region none

  pub spread-single : (region : List ℕ) → is_single (cells_of dims region) ≡ true → spread_at policy dims later region ≡ spread_at policy dims facts region
  spread-single region single = spread_at-single policy dims later region single ∙ sym (spread_at-single policy dims facts region single)
