-- What an edit does to the statistics and the weights of cells.
use Rattle.std.proofs.Common.{◌≡◌, ℕ, ◌+◌, ◌<◌, ◌≤◌, Bool, true, false, List, [], ◌∷◌, length, refl, ap, sym, ◌∙◌, arith}
use Rattle.std.specs.Prelude.{AllPairs, Option, Some, None, filter, not, ◌&&◌, ◌||◌, ◌==◌, if◌then◌else◌}
use Rattle.std.specs.List.{sum_by}
use Rattle.std.specs.Option.{option_map_or}
use Rattle.std.proofs.lemmas.Bool.Decides.{nat_tests}
use Rattle.cube_model.specs.declared.edit.Edit.{Edit}
use Rattle.cube_model.specs.declared.edit.Fact.{Fact}
use Rattle.cube_model.specs.declared.statistic.CellStat.{CellStat}
use Rattle.cube_model.specs.Allocation.{Policy, stat_of, weight_of}
use Rattle.cube_model.specs.Ascending.{ascends_from}
use Rattle.cube_model.specs.Cells.{cells_of, is_among, is_single}
use Rattle.cube_model.specs.Facts.{after, lies_at}
use Rattle.cube_model.specs.Tree.{Dimension}
use Rattle.cube_model.proofs.Ascending.{ascends_filter}
use Rattle.region_algebra.specs.Space.{only_cell}
use Rattle.fact_groups.specs.Changes.{cell_of, cells_in_order, changed_cells, is_changed, is_reweighed, is_same_stat, reweighed_cells, touched_cells}
use Rattle.fact_groups.specs.Edits.{given, taken}
use Rattle.fact_groups.proofs.Edits.{sum-after}
use Rattle.fact_groups.proofs.Filters.{filter-within, sum_by-filter-le}
use Rattle.fact_groups.proofs.Partition.{sum_by-filter}

-- the cells in order are those that there are, at most two, and ascend
among-in_order : (a b : Option ℕ) (cell : ℕ) → is_among (cells_in_order a b) cell ≡ (option_map_or (λ k. k == cell) a false || option_map_or (λ k. k == cell) b false)
among-in_order None None cell = refl
among-in_order None (Some b) cell = grind (arith, nat_tests)
among-in_order (Some a) None cell = grind (arith, nat_tests)
among-in_order (Some a) (Some b) cell = grind (arith, nat_tests)

length-in_order : (a b : Option ℕ) → length (cells_in_order a b) ≤ 2
length-in_order None None = omega arith
length-in_order None (Some b) = omega arith
length-in_order (Some a) None = omega arith
length-in_order (Some a) (Some b) = grind (arith, nat_tests)

ascends-in_order : (a b : Option ℕ) → ascends_from (λ cell. cell) 0 (cells_in_order a b) ≡ true
ascends-in_order None None = refl
ascends-in_order None (Some b) = grind (arith, nat_tests)
ascends-in_order (Some a) None = grind (arith, nat_tests)
ascends-in_order (Some a) (Some b) = grind (arith, nat_tests)

-- a fact lies where its one cell is, if there is one
single-among : (cells : List ℕ) (cell : ℕ) → (is_single cells && is_among cells cell) ≡ option_map_or (λ k. k == cell) (only_cell cells) false
single-among [] cell = refl
single-among (c ∷ []) cell = grind (arith, nat_tests)
single-among (c ∷ d ∷ cells) cell = grind (arith, nat_tests)

worth-elsewhere : (dims : List Dimension) (cell : ℕ) (worth : Fact → ℕ) (fact : Option Fact) → option_map_or (λ k. k == cell) (cell_of dims fact) false ≡ false
    → option_map_or (λ f. if lies_at dims cell f then worth f else 0) fact 0 ≡ 0
worth-elsewhere dims cell worth None elsewhere = refl
worth-elsewhere dims cell worth (Some fact) elsewhere = ap (λ (b : Bool). if b then worth fact else 0) (single-among (cells_of dims fact.region) cell ∙ elsewhere)

neither : (a b : Bool) → (a || b) ≡ false → (a ≡ false) × (b ≡ false)
neither true b is = cc
neither false b is = (refl, is)

abbrev stat_with : ℕ → ℕ → CellStat
stat_with count sum = record { count = count; sum = sum }

same_stat : (stat : CellStat) → is_same_stat stat stat ≡ true
same_stat stat = grind (arith, nat_tests)

equal_stats : (a b : CellStat) → not (is_same_stat a b) ≡ false → b ≡ a
equal_stats a b is =
    let count : b.count ≡ a.count = grind (arith, nat_tests, is) in
    let sum : b.sum ≡ a.sum = grind (arith, nat_tests, is) in
    ap (λ n. stat_with n b.sum) count ∙ ap (stat_with a.count) sum

module _ (policy : Policy) (dims : List Dimension) (edit : Edit) (facts : List Fact) (up : AllPairs (λ f g. f.id < g.id) facts) (cell : ℕ) where
  -- the number and the sum at a cell, by the facts that are taken and given
  pub count-after : (stat_of policy dims (after edit facts) cell).count + option_map_or (λ f. if lies_at dims cell f then 1 else 0) (taken edit facts) 0
      ≡ (stat_of policy dims facts cell).count + option_map_or (λ f. if lies_at dims cell f then 1 else 0) (given edit) 0
  count-after = sum-after (λ f. if lies_at dims cell f then 1 else 0) edit facts up

  pub added-after : (stat_of policy dims (after edit facts) cell).sum + option_map_or (λ f. if lies_at dims cell f then policy.adds f.cols else 0) (taken edit facts) 0
      ≡ (stat_of policy dims facts cell).sum + option_map_or (λ f. if lies_at dims cell f then policy.adds f.cols else 0) (given edit) 0
  added-after =
      omega (
        arith,
        sum-after (λ f. if lies_at dims cell f then policy.adds f.cols else 0) edit facts up,
        sum_by-filter (lies_at dims cell) (λ f. policy.adds f.cols) facts,
        sum_by-filter (lies_at dims cell) (λ f. policy.adds f.cols) (after edit facts),
      )

  -- a cell that is not touched keeps its statistics
  pub stat-untouched : is_among (touched_cells dims edit facts) cell ≡ false → stat_of policy dims (after edit facts) cell ≡ stat_of policy dims facts cell
  unfolding touched_cells
  stat-untouched untouched =
      let elsewhere = neither (option_map_or (λ k. k == cell) (cell_of dims (taken edit facts)) false) (option_map_or (λ k. k == cell) (cell_of dims (given edit)) false) (sym (among-in_order (cell_of dims (taken edit facts)) (cell_of dims (given edit)) cell) ∙ untouched) in
      let count : (stat_of policy dims (after edit facts) cell).count ≡ (stat_of policy dims facts cell).count =
      omega (arith, count-after, worth-elsewhere dims cell (λ f. 1) (taken edit facts) elsewhere.0, worth-elsewhere dims cell (λ f. 1) (given edit) elsewhere.1) in
      let sum : (stat_of policy dims (after edit facts) cell).sum ≡ (stat_of policy dims facts cell).sum =
      omega (arith, added-after, worth-elsewhere dims cell (λ f. policy.adds f.cols) (taken edit facts) elsewhere.0, worth-elsewhere dims cell (λ f. policy.adds f.cols) (given edit) elsewhere.1) in
      ap (λ n. stat_with n (stat_of policy dims (after edit facts) cell).sum) count ∙ ap (stat_with (stat_of policy dims facts cell).count) sum

-- a number is among those that pass where it passes and is among all
pub among-filter : (p : ℕ → Bool) (cells : List ℕ) (cell : ℕ) → is_among (filter p cells) cell ≡ (p cell && is_among cells cell)
among-filter p [] cell = sym (and-false (p cell))
  where
    and-false : (b : Bool) → (b && false) ≡ false
    and-false true = refl
    and-false false = refl
among-filter p (c ∷ cells) cell = either (c == cell) (p c) (p cell) refl refl refl (among-filter p cells cell)
  where
    either : (same b here : Bool) → (c == cell) ≡ same → p c ≡ b → p cell ≡ here → is_among (filter p cells) cell ≡ (here && is_among cells cell)
        → is_among (filter p (c ∷ cells)) cell ≡ (here && is_among (c ∷ cells) cell)
    either true true true is passes may rest = rw (passes, is) refl
    either true true false is passes may rest = let its : c ≡ cell = grind (arith, nat_tests) in let alike = ap p its in cc
    either true false true is passes may rest = let its : c ≡ cell = grind (arith, nat_tests) in let alike = ap p its in cc
    either true false false is passes may rest = rw passes rest
    either false true here is passes may rest = rw (passes, is) rest
    either false false here is passes may rest = rw (passes, is) rest

pub passing-are : (p : ℕ → Bool) (cells : List ℕ) (cell : ℕ) → (is_among cells cell ≡ false → p cell ≡ false) → is_among (filter p cells) cell ≡ p cell
passing-are p cells cell none = among-filter p cells cell ∙ either (p cell) (is_among cells cell) none
  where
    either : (a b : Bool) → (b ≡ false → a ≡ false) → (a && b) ≡ a
    either true true none = refl
    either true false none = let is = none refl in cc
    either false b none = refl

filter-shorter : (p : ℕ → Bool) (cells : List ℕ) → length (filter p cells) ≤ length cells
filter-shorter p [] = omega arith
filter-shorter p (c ∷ cells) = grind (arith, filter-shorter p cells)

pub length-touched : (dims : List Dimension) (edit : Edit) (facts : List Fact) → length (touched_cells dims edit facts) ≤ 2
unfolding touched_cells
length-touched dims edit facts = length-in_order (cell_of dims (taken edit facts)) (cell_of dims (given edit))

pub ascends-touched : (dims : List Dimension) (edit : Edit) (facts : List Fact) → ascends_from (λ cell. cell) 0 (touched_cells dims edit facts) ≡ true
unfolding touched_cells
ascends-touched dims edit facts = ascends-in_order (cell_of dims (taken edit facts)) (cell_of dims (given edit))

module _ (policy : Policy) (dims : List Dimension) (edit : Edit) (facts : List Fact) where
  -- few cells, in order
  pub length-changed : length (changed_cells policy dims edit facts) ≤ 2
  unfolding changed_cells
  length-changed = omega (arith, filter-shorter (is_changed policy dims edit facts) (touched_cells dims edit facts), length-touched dims edit facts)

  pub length-reweighed : length (reweighed_cells policy dims edit facts) ≤ 2
  unfolding reweighed_cells
  length-reweighed = omega (arith, filter-shorter (is_reweighed policy dims edit facts) (touched_cells dims edit facts), length-touched dims edit facts)

  pub ascends-changed : ascends_from (λ cell. cell) 0 (changed_cells policy dims edit facts) ≡ true
  unfolding changed_cells
  ascends-changed = ascends_filter (λ (cell : ℕ). cell) (is_changed policy dims edit facts) 0 (touched_cells dims edit facts) (ascends-touched dims edit facts)

  pub ascends-reweighed : ascends_from (λ cell. cell) 0 (reweighed_cells policy dims edit facts) ≡ true
  unfolding reweighed_cells
  ascends-reweighed = ascends_filter (λ (cell : ℕ). cell) (is_reweighed policy dims edit facts) 0 (touched_cells dims edit facts) (ascends-touched dims edit facts)

  -- a cell that weighs otherwise has other statistics, so the cells that do are some of those that have
  reweighed-changed : (cell : ℕ) → is_reweighed policy dims edit facts cell ≡ true → is_changed policy dims edit facts cell ≡ true
  reweighed-changed cell is = either (is_changed policy dims edit facts cell) refl
    where
      either : (b : Bool) → is_changed policy dims edit facts cell ≡ b → is_changed policy dims edit facts cell ≡ true
      either true changed = changed
      either false same =
          let weight : weight_of policy dims (after edit facts) cell ≡ weight_of policy dims facts cell = ap policy.weigh (equal_stats (stat_of policy dims facts cell) (stat_of policy dims (after edit facts) cell) same) in
          absurd (grind (arith, nat_tests, weight, is))

  pub reweighed-some : reweighed_cells policy dims edit facts ≡ filter (is_reweighed policy dims edit facts) (changed_cells policy dims edit facts)
  unfolding changed_cells reweighed_cells
  reweighed-some = sym (filter-within (is_reweighed policy dims edit facts) (is_changed policy dims edit facts) (touched_cells dims edit facts) reweighed-changed)

  pub among-both : (cell : ℕ) → is_among (reweighed_cells policy dims edit facts) cell ≡ true → is_among (changed_cells policy dims edit facts) cell ≡ true
  among-both cell among =
      second (is_reweighed policy dims edit facts cell) (is_among (changed_cells policy dims edit facts) cell)
      (sym (among-filter (is_reweighed policy dims edit facts) (changed_cells policy dims edit facts) cell) ∙ ap (λ cells. is_among cells cell) (sym reweighed-some) ∙ among)
    where
      second : (a b : Bool) → (a && b) ≡ true → b ≡ true
      second true b is = is
      second false b is = cc

  pub sum-reweighed : (f : ℕ → ℕ) → sum_by f (reweighed_cells policy dims edit facts) ≤ sum_by f (changed_cells policy dims edit facts)
  sum-reweighed f = omega (arith, ap (sum_by f) reweighed-some, sum_by-filter-le (is_reweighed policy dims edit facts) f (changed_cells policy dims edit facts))

  module _ (up : AllPairs (λ f g. f.id < g.id) facts) where
    -- each cell that has other statistics, or another weight, and no other
    pub among-changed : (cell : ℕ) → is_among (changed_cells policy dims edit facts) cell ≡ is_changed policy dims edit facts cell
    unfolding changed_cells
    among-changed cell = passing-are (is_changed policy dims edit facts) (touched_cells dims edit facts) cell (λ none.
        let stat = stat-untouched policy dims edit facts up cell none in
        ap not (ap (is_same_stat (stat_of policy dims facts cell)) stat ∙ same_stat (stat_of policy dims facts cell)))

    pub among-reweighed : (cell : ℕ) → is_among (reweighed_cells policy dims edit facts) cell ≡ is_reweighed policy dims edit facts cell
    unfolding reweighed_cells
    among-reweighed cell = passing-are (is_reweighed policy dims edit facts) (touched_cells dims edit facts) cell (λ none.
        let weight : weight_of policy dims (after edit facts) cell ≡ weight_of policy dims facts cell = ap policy.weigh (stat-untouched policy dims edit facts up cell none) in
        grind (arith, nat_tests, weight))

    -- so a cell that is not changed keeps its statistics
    pub stat-unchanged : (cell : ℕ) → is_among (changed_cells policy dims edit facts) cell ≡ false → stat_of policy dims (after edit facts) cell ≡ stat_of policy dims facts cell
    stat-unchanged cell none = equal_stats (stat_of policy dims facts cell) (stat_of policy dims (after edit facts) cell) (sym (among-changed cell) ∙ none)
