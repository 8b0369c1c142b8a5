-- The group at a code is that of a region, and its rows are of cells there.
use Rattle.std.proofs.Common.{◌≡◌, ℕ, ◌<◌, Bool, true, false, List, [], ◌∷◌, length, map, refl, ap, sym, subst, true≢false, arith}
use Rattle.std.specs.Prelude.{All, find, is_some, nat_lt, slice_get, ◌==◌, if◌then◌else◌, Option, Some, None}
use Rattle.std.specs.List.{sum_by}
use Rattle.std.specs.Option.{option_map}
use Rattle.std.proofs.lemmas.Bool.Decides.{nat_tests}
use Rattle.std.proofs.lemmas.List.Elements.{All-cons, All-filter, All-map, All-nil, All-weaker}
use Rattle.std.proofs.lemmas.Option.{same_Some, slice_get_within}
use Rattle.cube_model.specs.declared.edit.Fact.{Fact}
use Rattle.cube_model.specs.Allocation.{Allocation, Policy, allocation, spread, spread_by, spread_evenly, weight_of}
use Rattle.cube_model.specs.Cells.{cells_of, is_among}
use Rattle.cube_model.specs.Tree.{Dimension, IsTree}
use Rattle.region_algebra.specs.Space.{IsRegion, all_regions, code_of, region_total}
use Rattle.region_algebra.proofs.Codes.{length-all_regions}
use Rattle.region_algebra.proofs.Tuples.{region-at_code}
use Rattle.staged_map.specs.Staged.{Places, value_at}
use Rattle.fact_groups.specs.Groups.{Group, column_sums, facts_with, group_at, has_code}
use Rattle.fact_groups.proofs.Groups.{first-holds, first-passes}
use Rattle.view_store.specs.Views.{region_at}
use Rattle.view_store.proofs.CutRegions.{region_at-is}
use Rattle.fact_indexes.specs.ViewChanges.{AreOfRegions, IsOfRegion}

-- each cell is among the cells
among-each : (cells : List ℕ) → All (λ cell. is_among cells cell ≡ true) cells
among-each [] = All-nil (λ cell. is_among [] cell ≡ true)
among-each (first ∷ cells) =
    All-cons (λ cell. is_among (first ∷ cells) cell ≡ true) first cells (grind (arith, nat_tests))
    (All-weaker (λ cell. is_among cells cell ≡ true) (λ cell. is_among (first ∷ cells) cell ≡ true) (λ cell among. grind (arith, among)) cells (among-each cells))

-- what is spread over cells has rows of these
module _ (weight : ℕ → ℕ) (cells : List ℕ) where
  on-cells : (f : ℕ → ℕ) → All {X = ℕ × ℕ} (λ row. is_among cells row.0 ≡ true) (map (λ cell. (cell, f cell)) cells)
  on-cells f = All-map (λ (row : ℕ × ℕ). is_among cells row.0 ≡ true) (λ cell. (cell, f cell)) cells (among-each cells)

  either-rows : (b c : Bool) (even weighed : Allocation) → All (λ row. is_among cells row.0 ≡ true) even.rows → All (λ row. is_among cells row.0 ≡ true) weighed.rows
      → All (λ row. is_among cells row.0 ≡ true) (if b then even else (if c then even else weighed)).rows
  either-rows true c even weighed first second = first
  either-rows false true even weighed first second = first
  either-rows false false even weighed first second = second

  spread-inside : All (λ row. is_among cells row.0 ≡ true) (spread weight cells).rows
  spread-inside =
      either-rows (length cells == 1) (sum_by weight cells == 0) (spread_evenly cells) (spread_by weight cells) (on-cells (λ cell. 1))
      (All-filter (λ (row : ℕ × ℕ). nat_lt 0 row.1) (λ (row : ℕ × ℕ). is_among cells row.0 ≡ true) (map (λ cell. (cell, weight cell)) cells) (on-cells weight))

-- The code of a group is that of a region, in which its rows are.
pub record IsGroupAt (dims : List Dimension) (code : ℕ) (g : Group) : Type 0 where
  pub below : code < region_total dims
  pub named : IsRegion dims (region_at dims code)
  pub inside : All (λ row. is_among (cells_of dims (region_at dims code)) row.0 ≡ true) g.spread.rows

pub group-region : (policy : Policy) (columns : ℕ) (dims : List Dimension) (facts : List Fact) (code : ℕ) (g : Group) → All IsTree dims → All (λ f. IsRegion dims f.region) facts → group_at policy columns dims facts code ≡ Some g → IsGroupAt dims code g
unfolding allocation
group-region policy columns dims facts code g trees regions is = by (find (has_code dims code) facts) refl is
  where
    by : (found : Option Fact) → find (has_code dims code) facts ≡ found
        → option_map (λ f. record { spread = allocation policy dims facts f; count = length (facts_with dims code facts); sums = column_sums columns (facts_with dims code facts) }) found ≡ Some g → IsGroupAt dims code g
    by None there none = cc
    by (Some f) there some =
        let whole : Group = record { spread = allocation policy dims facts f; count = length (facts_with dims code facts); sums = column_sums columns (facts_with dims code facts) } in
        let same : whole ≡ g = same_Some whole g some in
        let spread_is : allocation policy dims facts f ≡ g.spread = ap (λ (x : Group). x.spread) same in
        let passes : has_code dims code f ≡ true = first-passes (has_code dims code) facts f there in
        let coded : code_of dims f.region ≡ code = grind (arith, nat_tests, passes) in
        let named : IsRegion dims f.region = first-holds (λ f. IsRegion dims f.region) (has_code dims code) facts f regions there in
        let at = subst (λ c. slice_get (all_regions dims) c ≡ Some f.region) coded (region-at_code dims f.region trees named) in
        let its : region_at dims code ≡ f.region = region_at-is dims code f.region at in
        let rows = subst (λ (a : Allocation). All (λ row. is_among (cells_of dims f.region) row.0 ≡ true) a.rows) spread_is (spread-inside (weight_of policy dims facts) (cells_of dims f.region)) in
        record {
          below = omega (arith, slice_get_within (all_regions dims) code f.region at, length-all_regions dims);
          named = subst (IsRegion dims) (sym its) named;
          inside = subst (λ (r : List ℕ). All (λ row. is_among (cells_of dims r) row.0 ≡ true) g.spread.rows) (sym its) rows;
        }

module _ (policy : Policy) (columns : ℕ) (dims : List Dimension) (facts : List Fact) (trees : All IsTree dims) (regions : All (λ f. IsRegion dims f.region) facts) where
  -- where there is a group, the code is that of a region
  pub group-of_region : (code : ℕ) → IsOfRegion dims code (group_at policy columns dims facts code)
  group-of_region code some = by (group_at policy columns dims facts code) refl some
    where
      by : (o : Option Group) → group_at policy columns dims facts code ≡ o → is_some o ≡ true → code < region_total dims
      by None is none = absurd (true≢false (sym none))
      by (Some g) is there = (group-region policy columns dims facts code g trees regions is).below

  pub of-regions : (groups : Places Group) → ((code : ℕ) → value_at groups code ≡ group_at policy columns dims facts code) → AreOfRegions dims groups
  of-regions groups kept code = subst (IsOfRegion dims code) (sym (kept code)) (group-of_region code)
