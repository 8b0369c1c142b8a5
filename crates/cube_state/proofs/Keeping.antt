-- A state stays what it is where places and room are given.
use Rattle.std.proofs.Common.{◌≡◌, ℕ, List, [], ap, ◌∙◌, arith, unwrap_or}
use Rattle.cube_model.specs.declared.edit.Fact.{Fact}
use Rattle.cube_model.specs.Allocation.{Policy}
use Rattle.cube_model.specs.Tree.{Dimension}
use Rattle.staged_map.specs.Staged.{value_at}
use Rattle.cell_weight.specs.Stats.{stat_at}
use Rattle.fact_records.specs.Shape.{ShapeValue}
use Rattle.view_store.specs.Changes.{HaveSameViews}
use Rattle.fact_indexes.specs.Kept.{IsState, Kept}
use Rattle.fact_indexes.proofs.SameViews.{AreViewsOfFacts-same}

-- What is kept is the same but for places and room.
pub record IsSameKept (old new : Kept) : Type 0 where
  pub stats : (cell : ℕ) → stat_at new.stats cell ≡ stat_at old.stats cell
  pub index : (code : ℕ) → value_at new.index code ≡ value_at old.index code
  pub groups : (code : ℕ) → value_at new.groups code ≡ value_at old.groups code
  pub views : HaveSameViews old.views new.views
  pub rows : new.rows ≡ old.rows

pub IsState-same : (policy : Policy) (shape : ShapeValue) (dims : List Dimension) (cuts : List (List ℕ)) (facts : List Fact) (old new : Kept) → IsSameKept old new → IsState policy shape dims cuts facts old → IsState policy shape dims cuts facts new
IsState-same policy shape dims cuts facts old new same is = record {
  trees = is.trees;
  valid = is.valid;
  stats = λ cell. same.stats cell ∙ is.stats cell;
  index = record { ids = λ code. ap (λ o. unwrap_or o []) (same.index code) ∙ is.index.ids code };
  groups = λ code. same.groups code ∙ is.groups code;
  views = AreViewsOfFacts-same dims cuts _ _ old.views new.views same.views is.views;
  rows = same.rows ∙ is.rows;
  few_rows = omega (arith, same.rows, is.few_rows);
}
