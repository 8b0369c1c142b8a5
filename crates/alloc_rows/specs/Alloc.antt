-- What an allocation keeps, and what statistics have to be for it to be that of facts.
use Rattle.std.specs.Prelude.{◌≡◌, ℕ, ◌<◌, ◌≤◌, true, List, All, sum_by, ℤ}
use Rattle.cube_model.specs.Allocation.{Allocation, Policy, allocation, stat_of}
use Rattle.cube_model.specs.Ascending.{ascends_from}
use Rattle.cube_model.specs.Cells.{cells_of}
use Rattle.cube_model.specs.Limits.{DEN_LIMIT, MAX_FACTS}
use Rattle.cube_model.specs.Tree.{Dimension}
use Rattle.cube_model.specs.declared.edit.Fact.{Fact}
use Rattle.cube_model.specs.declared.statistic.CellStat.{CellStat}
use Rattle.staged_map.specs.Staged.{Places}
use Rattle.cell_weight.specs.Stats.{stat_at}

-- The rows ascend by cell, each weighs something, and together they weigh the denominator.
pub record IsAllocation (a : Allocation) : Type 0 where
  pub ascending : ascends_from (λ row. row.0) 0 a.rows ≡ true
  pub weights : All (λ row. 1 ≤ row.1) a.rows
  pub total : sum_by (λ row. row.1) a.rows ≡ a.den
  pub some : 1 ≤ a.den
  pub limit : a.den < DEN_LIMIT

-- the statistics of these cells are what the facts make them
abbrev pub AreStatsIn : Policy → List Dimension → List Fact → (ℕ → CellStat) → List ℕ → Type 0
AreStatsIn policy dims facts stats cells = All (λ cell. stats cell ≡ stat_of policy dims facts cell) cells

-- what is kept for each of these cells is what the facts make it
abbrev pub AreStatsAtCells : Policy → List Dimension → List Fact → Places CellStat → List ℕ → Type 0
AreStatsAtCells policy dims facts places cells = AreStatsIn policy dims facts (stat_at places) cells

-- The allocation is the one of a fact among any facts of which the statistics at the cells of its region are, whatever it is that a policy adds up.
abbrev pub IsAllocationOf : (CellStat → ℕ) → List Dimension → Places CellStat → Fact → Allocation → Type 0
IsAllocationOf weigh dims places fact a =
    (adds : List ℤ → ℕ) (facts : List Fact)
    → AreStatsAtCells (record { weigh = weigh; adds = adds }) dims facts places (cells_of dims fact.region)
    → a ≡ allocation (record { weigh = weigh; adds = adds }) dims facts fact

-- The same of a region: the allocation is the one of every fact there, among any facts of which these statistics are.
abbrev pub IsSpreadOf : (CellStat → ℕ) → List Dimension → (ℕ → CellStat) → List ℕ → Allocation → Type 0
IsSpreadOf weigh dims stats region a =
    (adds : List ℤ → ℕ) (facts : List Fact) (fact : Fact)
    → fact.region ≡ region
    → AreStatsIn (record { weigh = weigh; adds = adds }) dims facts stats (cells_of dims region)
    → a ≡ allocation (record { weigh = weigh; adds = adds }) dims facts fact

-- by these statistics the counts at the cells of a region add up to no more than there can be facts
abbrev pub AreFewIn : List Dimension → (ℕ → CellStat) → List ℕ → Type 0
AreFewIn dims stats region = sum_by (λ cell. (stats cell).count) (cells_of dims region) ≤ MAX_FACTS

-- the same by the statistics that are kept
abbrev pub AreFewAt : List Dimension → Places CellStat → List ℕ → Type 0
AreFewAt dims places region = AreFewIn dims (stat_at places) region
