-- What is known of a cell's precise facts, and what changes of it do.
use Rattle.std.specs.Prelude.{◌≡◌, ℕ, ◌*◌, ◌≤◌, Bool, List, not, ◌&&◌, ◌==◌, Option, unwrap_or, nat_eq}
use Rattle.std.specs.List.{IsDistinct, list_all}
use Rattle.std.specs.Map.{lookup, keys_of}
use Rattle.std.specs.Option.{option_map_or}
use Rattle.cube_model.specs.declared.statistic.CellStat.{CellStat}
use Rattle.cube_model.specs.Limits.{MAX_FACTS, MAX_VALUE}
use Rattle.staged_map.specs.Staged.{Places, has_place, value_at}

-- statistics that facts can have
pub record IsStat (stat : CellStat) : Type 0 where
  pub few : stat.count ≤ MAX_FACTS
  pub light : stat.sum ≤ stat.count * MAX_VALUE

-- what a cell has where no fact lies
abbrev pub no_facts : CellStat
no_facts = record { count = 0; sum = 0 }

-- some fact lies there
abbrev pub has_facts : CellStat → Bool
has_facts stat = not (stat.count == 0 && stat.sum == 0)

-- the statistics of a cell: those kept for it, or zeros
abbrev pub stat_at : Places CellStat → ℕ → CellStat
stat_at places cell = unwrap_or (value_at places cell) no_facts

-- all are such as facts can have
abbrev pub AreStats : Places CellStat → Type 0
AreStats places = (cell : ℕ) → IsStat (stat_at places cell)

-- what a cell changes to, if it is changed
abbrev pub change_of : List (ℕ × CellStat) → ℕ → Option CellStat
change_of changes cell = lookup (λ changed. cell == changed) changes

-- no cell is changed twice
abbrev pub AreOfDifferentCells : List (ℕ × CellStat) → Type 0
AreOfDifferentCells changes = IsDistinct nat_eq (keys_of changes)

-- each changed cell has a place
abbrev pub have_stat_places : Places CellStat → List (ℕ × CellStat) → Bool
have_stat_places places changes = list_all (λ change. has_place places change.0) changes

-- Each changed cell has its new statistics, and every other what it had. A changed cell has a place exactly where its
-- new statistics are not zeros.
pub record Installs (old new : Places CellStat) (changes : List (ℕ × CellStat)) : Type 0 where
  pub stats : (cell : ℕ) → stat_at new cell ≡ unwrap_or (change_of changes cell) (stat_at old cell)
  pub places : (cell : ℕ) → has_place new cell ≡ option_map_or has_facts (change_of changes cell) (has_place old cell)
