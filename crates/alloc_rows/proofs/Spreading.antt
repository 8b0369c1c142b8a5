-- What is spread over a region, for facts and over its cells.
use Rattle.std.proofs.Common.{◌≡◌, ℕ, suc, ◌<◌, Bool, true, false, List, [], ◌∷◌, length, map, refl, ap, ◌∙◌, subst, arith}
use Rattle.std.proofs.lemmas.Bool.Decides.{nat_tests}
use Rattle.std.proofs.lemmas.List.Elements.{All-filter, All-map}
use Rattle.std.proofs.lemmas.List.Sums.{sum_by-cons}
use Rattle.std.specs.List.{sum_by}
use Rattle.std.specs.Prelude.{All, IfOk, Ok, Err, None, Some, Result, nat_lt, ◌==◌, if◌then◌else◌}
use Rattle.cube_model.specs.declared.edit.Fact.{Fact}
use Rattle.cube_model.specs.declared.statistic.CellStat.{CellStat}
use Rattle.cube_model.specs.Allocation.{Allocation, Policy, allocation, rows_of, stat_of, spread, spread_by, spread_evenly}
use Rattle.cube_model.specs.Cells.{AreRows, all_cells, cells_of, is_single}
use Rattle.cube_model.specs.Tree.{Dimension}
use Rattle.region_algebra.specs.Space.{only_cell}
use Rattle.region_algebra.proofs.Spaces.{cells-within}
use Rattle.cell_weight.specs.Stats.{stat_at}
use Rattle.staged_map.specs.Staged.{Places}
use Rattle.alloc_rows.specs.Alloc.{AreStatsIn, IsAllocationOf, IsSpreadOf}

-- weights that are equal at each cell spread equally
pub sum_by-same : (v w : ℕ → ℕ) (cells : List ℕ) → All (λ cell. v cell ≡ w cell) cells → sum_by v cells ≡ sum_by w cells
sum_by-same v w [] same = refl
sum_by-same v w (cell ∷ cells) same =
    let here : v cell ≡ w cell = same 0 0 (omega arith) in
    let rest : sum_by v cells ≡ sum_by w cells = sum_by-same v w cells (λ k d within. same (suc k) d (omega arith)) in
    omega (arith, here, rest, sum_by-cons v cell cells, sum_by-cons w cell cells)

pub rows_of-same : (v w : ℕ → ℕ) (cells : List ℕ) → All (λ cell. v cell ≡ w cell) cells → rows_of v cells ≡ rows_of w cells
rows_of-same v w [] same = refl
rows_of-same v w (cell ∷ cells) same =
    let here : v cell ≡ w cell = same 0 0 (omega arith) in
    rw (here, rows_of-same v w cells (λ k d within. same (suc k) d (omega arith))) refl

pub spread-same : (v w : ℕ → ℕ) (cells : List ℕ) → All (λ cell. v cell ≡ w cell) cells → spread v cells ≡ spread w cells
spread-same v w cells same = rw (sum_by-same v w cells same, rows_of-same v w cells same) refl

-- what is spread over several cells, by the sum and the rows of their weights
pub spread-several : (weight : ℕ → ℕ) (cells : List ℕ) (total : ℕ) (rows : List (ℕ × ℕ)) → is_single cells ≡ false → total ≡ sum_by weight cells → rows ≡ rows_of weight cells
    → (if total == 0 then spread_evenly cells else record { den = total; rows = rows }) ≡ spread weight cells
spread-several weight cells total rows several sum are = rw (several, sum, are) refl

-- what is spread over one cell, and that several are not one
pub spread-only : (weight : ℕ → ℕ) (cells : List ℕ) (cell : ℕ) → only_cell cells ≡ Some cell → spread weight cells ≡ record { den = 1; rows = (cell, 1) ∷ [] }
spread-only weight [] cell only = cc
spread-only weight (first ∷ []) cell only = grind (arith, only)
spread-only weight (first ∷ second ∷ cells) cell only = cc

pub several-only : (cells : List ℕ) → only_cell cells ≡ None → is_single cells ≡ false
several-only [] none = refl
several-only (first ∷ []) none = cc
several-only (first ∷ second ∷ cells) none = grind (arith, nat_tests)

-- what is spread by the statistics of facts is the facts' allocation
allocation-spread : (policy : Policy) (dims : List Dimension) (facts : List Fact) (fact : Fact) (stats : ℕ → CellStat)
    → AreStatsIn policy dims facts stats (cells_of dims fact.region) → spread (λ cell. policy.weigh (stats cell)) (cells_of dims fact.region) ≡ allocation policy dims facts fact
unfolding allocation
allocation-spread policy dims facts fact stats are =
    spread-same (λ cell. policy.weigh (stats cell)) (λ cell. policy.weigh (stat_of policy dims facts cell)) (cells_of dims fact.region) (λ k d within. ap policy.weigh (are k d within))

allocation-there : (policy : Policy) (dims : List Dimension) (facts : List Fact) (fact : Fact) (stats : ℕ → CellStat) (region : List ℕ) → fact.region ≡ region
    → AreStatsIn policy dims facts stats (cells_of dims region) → spread (λ cell. policy.weigh (stats cell)) (cells_of dims region) ≡ allocation policy dims facts fact
allocation-there policy dims facts fact stats region there =
    subst (λ (r : List ℕ). AreStatsIn policy dims facts stats (cells_of dims r) → spread (λ cell. policy.weigh (stats cell)) (cells_of dims r) ≡ allocation policy dims facts fact) there
    (allocation-spread policy dims facts fact stats)

pub IsSpreadOf-spread : {E : Type 0} (result : Result Allocation E) (weigh : CellStat → ℕ) (dims : List Dimension) (stats : ℕ → CellStat) (region : List ℕ)
    → IfOk result (λ a. a ≡ spread (λ cell. weigh (stats cell)) (cells_of dims region)) → IfOk result (IsSpreadOf weigh dims stats region)
IsSpreadOf-spread (Ok a) weigh dims stats region is = λ adds facts fact there are. is ∙ allocation-there (record { weigh = weigh; adds = adds }) dims facts fact stats region there are
IsSpreadOf-spread (Err e) weigh dims stats region is = tt

pub IsAllocationOf-spread : {E : Type 0} (result : Result Allocation E) (weigh : CellStat → ℕ) (dims : List Dimension) (fact : Fact) (places : Places CellStat)
    → IfOk result (λ a. a ≡ spread (λ cell. weigh (stat_at places cell)) (cells_of dims fact.region)) → IfOk result (IsAllocationOf weigh dims places fact)
IsAllocationOf-spread (Ok a) weigh dims fact places is = λ adds facts are. is ∙ allocation-spread (record { weigh = weigh; adds = adds }) dims facts fact (stat_at places) are
IsAllocationOf-spread (Err e) weigh dims fact places is = tt

-- what is spread over a region has rows of its cells
within-map : (weight : ℕ → ℕ) (n : ℕ) (cells : List ℕ) → All (λ cell. cell < n) cells → All {X = ℕ × ℕ} (λ row. row.0 < n) (map (λ cell. (cell, weight cell)) cells)
within-map weight n cells within = All-map (λ (row : ℕ × ℕ). row.0 < n) (λ cell. (cell, weight cell)) cells within

either-rows : (b c : Bool) (n : ℕ) (even weighed : Allocation) → All (λ row. row.0 < n) even.rows → All (λ row. row.0 < n) weighed.rows → All (λ row. row.0 < n) (if b then even else (if c then even else weighed)).rows
either-rows true c n even weighed first second = first
either-rows false true n even weighed first second = first
either-rows false false n even weighed first second = second

AreRows-spread : (weight : ℕ → ℕ) (dims : List Dimension) (region : List ℕ) → AreRows dims (spread weight (cells_of dims region)).rows
AreRows-spread weight dims region =
    let n = length (all_cells dims) in
    let cells = cells_of dims region in
    let weighed = All-filter (λ (row : ℕ × ℕ). nat_lt 0 row.1) (λ (row : ℕ × ℕ). row.0 < n) (map (λ cell. (cell, weight cell)) cells) (within-map weight n cells (cells-within dims region)) in
    either-rows (length cells == 1) (sum_by weight cells == 0) n (spread_evenly cells) (spread_by weight cells) (within-map (λ cell. 1) n cells (cells-within dims region)) weighed

pub AreRows-spreads : {E : Type 0} (result : Result Allocation E) (weight : ℕ → ℕ) (dims : List Dimension) (region : List ℕ)
    → IfOk result (λ a. a ≡ spread weight (cells_of dims region)) → IfOk result (λ a. AreRows dims a.rows)
AreRows-spreads (Ok a) weight dims region is = rw is (AreRows-spread weight dims region)
AreRows-spreads (Err e) weight dims region is = tt
