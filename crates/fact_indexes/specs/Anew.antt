-- What is kept of facts, made anew from all of them.
use Rattle.std.specs.Prelude.{◌≡◌, ℕ, ◌+◌, ◌<◌, List, [], All, map, ⊤}
use Rattle.cube_model.specs.declared.edit.Fact.{Fact}
use Rattle.cube_model.specs.declared.statistic.CellStat.{CellStat}
use Rattle.cube_model.specs.Allocation.{Policy, extended, row_count, stat_of}
use Rattle.cube_model.specs.Limits.{MAX_ROWS}
use Rattle.cube_model.specs.Tree.{Dimension}
use Rattle.cell_weight.specs.Stats.{stat_at}
use Rattle.fact_groups.specs.Groups.{Group, group_at}
use Rattle.fact_records.specs.Shape.{ShapeValue, policy_over, width_of_all}
use Rattle.staged_map.specs.Staged.{Places, value_at}
use Rattle.view_store.specs.Views.{AreViewsOf, ViewMap, ViewMaps}
use Rattle.fact_indexes.specs.declared.kept.FactsKept.{FactsKept}
use Rattle.fact_indexes.specs.declared.fault.TooMany.{TooMany}
use Rattle.fact_indexes.specs.declared.fault.TooMany.TheVariants as too_many
use Rattle.fact_indexes.specs.declared.tally.Tally.{Tally}
use Rattle.fact_indexes.specs.Kept.{Kept}

-- what is kept beside the facts
abbrev pub kept_of : FactsKept → Kept
kept_of all = record { spare = all.facts.spare; stats = all.stats; index = all.index; groups = all.groups; views = all.views; rows = all.rows }

-- what is counted of facts, with room for so many more, and with views
abbrev pub kept_with : ℕ → Tally → ViewMaps → Kept
kept_with spare tally views = record { spare = spare; stats = tally.stats; index = tally.index; groups = tally.groups; views = views; rows = tally.rows }

-- the depths of each view's cuts
abbrev pub cuts_of : ViewMaps → List (List ℕ)
cuts_of maps = map (λ (view : ViewMap). view.depths) maps.views

-- views of these dimensions, over the columns of a shape, that have no entries yet
pub record AreEmpty (shape : ShapeValue) (dims : List Dimension) (maps : ViewMaps) : Type 0 where
  pub columns : maps.columns ≡ width_of_all shape.measures + 1
  pub each : All (λ (view : ViewMap). view.columns ≡ width_of_all shape.measures + 1) maps.views
  pub over : AreViewsOf dims maps
  pub none : All (λ (view : ViewMap). view.entries ≡ []) maps.views

-- the statistics are those of facts, whatever the policy, over these measures
abbrev pub AreStatsOf : ShapeValue → List Dimension → List Fact → Places CellStat → Type 0
AreStatsOf shape dims facts places = (weigh : CellStat → ℕ) (cell : ℕ) → stat_at places cell ≡ stat_of (policy_over weigh shape) dims facts cell

-- the groups are those of facts
abbrev pub AreGroupsOf : Policy → ShapeValue → List Dimension → List Fact → Places Group → Type 0
AreGroupsOf policy shape dims facts places = (code : ℕ) → value_at places code ≡ group_at policy (width_of_all shape.measures) dims facts code

-- Why not all is kept: the facts have too many rows, so many; or out of memory, of which nothing is said.
abbrev pub IsTooMany : Policy → List Dimension → List Fact → TooMany → Type 0
IsTooMany policy dims facts (too_many.Rows would) = (would ≡ row_count (extended policy dims facts)) × (MAX_ROWS < would)
IsTooMany policy dims facts too_many.Memory = ⊤
