-- What is kept of facts beside them.
use Rattle.std.specs.Prelude.{◌≡◌, ℕ, ◌+◌, ◌≤◌, List, All, map}
use Rattle.cube_model.specs.declared.edit.Fact.{Fact}
use Rattle.cube_model.specs.declared.statistic.CellStat.{CellStat}
use Rattle.cube_model.specs.Allocation.{ExtendedFact, Policy, extended, row_count, stat_of}
use Rattle.cube_model.specs.Limits.{MAX_ROWS}
use Rattle.cube_model.specs.Tree.{Dimension, IsTree}
use Rattle.staged_map.specs.Staged.{Places, value_at}
use Rattle.cell_weight.specs.Stats.{stat_at}
use Rattle.fact_records.specs.Shape.{ShapeValue, width_of_all}
use Rattle.fact_records.specs.Valid.{AreValid}
use Rattle.region_index.specs.Indexed.{Indexes}
use Rattle.fact_groups.specs.Groups.{Group, group_at}
use Rattle.view_store.specs.Facts.{IsViewOfFacts}
use Rattle.view_store.specs.Views.{AreViewsOf, IsViewOf, ViewMap, ViewMaps}

-- What is kept beside the facts, so that an edit looks at few of them: how many more facts there is room for, the statistics
-- of cells, the ids of imprecise facts and the groups of facts by the code of their region, the views, and the number of rows.
pub record Kept : Type 0 where
  pub spare : ℕ
  pub stats : Places CellStat
  pub index : Places (List ℕ)
  pub groups : Places Group
  pub views : ViewMaps
  pub rows : ℕ

-- The views of these cuts, over columns of which one is the count: each has an entry for each region in the product of its cuts
-- where the facts have terms, with these, and no others.
pub record AreViewsOfFacts (dims : List Dimension) (cuts : List (List ℕ)) (columns : ℕ) (facts : List ExtendedFact) (maps : ViewMaps) : Type 0 where
  pub columns_are : maps.columns ≡ columns
  pub cuts_are : map (λ view. view.depths) maps.views ≡ cuts
  pub over : AreViewsOf dims maps
  pub answers : All (IsViewOfFacts dims facts) maps.views

-- One view of these cuts, over columns of which one is the count, that is one of facts.
pub record IsCutView (dims : List Dimension) (cuts : List ℕ) (columns : ℕ) (facts : List ExtendedFact) (view : ViewMap) : Type 0 where
  pub columns_are : view.columns ≡ columns
  pub cuts_are : view.depths ≡ cuts
  pub over : IsViewOf dims view
  pub answers : IsViewOfFacts dims facts view

-- What a state keeps is what its facts make it: the facts are such as a cube may have; the statistics are those of the precise
-- facts, the index has the imprecise ones, there is a group for each region that a fact has, and the views are those of the facts;
-- and there are not too many rows.
pub record IsState (policy : Policy) (shape : ShapeValue) (dims : List Dimension) (cuts : List (List ℕ)) (facts : List Fact) (kept : Kept) : Type 0 where
  pub trees : All IsTree dims
  pub valid : AreValid shape dims facts
  pub stats : (cell : ℕ) → stat_at kept.stats cell ≡ stat_of policy dims facts cell
  pub index : Indexes dims facts kept.index
  pub groups : (code : ℕ) → value_at kept.groups code ≡ group_at policy (width_of_all shape.measures) dims facts code
  pub views : AreViewsOfFacts dims cuts (width_of_all shape.measures + 1) (extended policy dims facts) kept.views
  pub rows : kept.rows ≡ row_count (extended policy dims facts)
  pub few_rows : kept.rows ≤ MAX_ROWS
