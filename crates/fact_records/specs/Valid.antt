-- Facts and edits that a cube may have.
use Rattle.std.specs.Prelude.{◌≡◌, ◌≤◌, List, All, length, None}
use Rattle.cube_model.specs.declared.edit.Fact.{Fact}
use Rattle.cube_model.specs.declared.edit.Edit.{Edit}
use Rattle.cube_model.specs.declared.edit.Edit.TheVariants.{Put, Change, Withdraw}
use Rattle.cube_model.specs.Facts.{IsId}
use Rattle.cube_model.specs.Limits.{MAX_FACTS}
use Rattle.cube_model.specs.Tree.{Dimension}
use Rattle.region_algebra.specs.Space.{IsRegion}
use Rattle.fact_records.specs.Accepted.{cols_refusal, region_refusal}
use Rattle.fact_records.specs.FactList.{IsAscending}
use Rattle.fact_records.specs.Shape.{ShapeValue}

-- a fact has an id that a fact may have, and a region of the space
pub record IsPlaced (dims : List Dimension) (fact : Fact) : Type 0 where
  pub id : IsId fact.id
  pub region : IsRegion dims fact.region

-- and so does an edit, as far as it has them
abbrev pub IsEditOver : List Dimension → Edit → Type 0
IsEditOver dims (Put fact) = IsPlaced dims fact
IsEditOver dims (Change fact) = IsPlaced dims fact
IsEditOver dims (Withdraw id) = IsId id

-- the values of a fact are those of the measures too
pub record IsFactOf (shape : ShapeValue) (dims : List Dimension) (fact : Fact) : Type 0 where
  pub placed : IsPlaced dims fact
  pub values : cols_refusal shape fact.cols ≡ None

abbrev pub IsEditOf : ShapeValue → List Dimension → Edit → Type 0
IsEditOf shape dims (Put fact) = IsFactOf shape dims fact
IsEditOf shape dims (Change fact) = IsFactOf shape dims fact
IsEditOf shape dims (Withdraw id) = IsId id

-- a fact that a cube may have: its region is not too large either
pub record IsValid (shape : ShapeValue) (dims : List Dimension) (fact : Fact) : Type 0 where
  pub accepted : IsFactOf shape dims fact
  pub size : region_refusal dims fact.region ≡ None

-- facts that a cube may have: ascending by id, each valid, and not too many
pub record AreValid (shape : ShapeValue) (dims : List Dimension) (facts : List Fact) : Type 0 where
  pub ascending : IsAscending facts
  pub few : length facts ≤ MAX_FACTS
  pub each : All (IsValid shape dims) facts
