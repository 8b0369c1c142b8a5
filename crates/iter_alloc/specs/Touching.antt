-- Facts that may lie in the same cell.
use Rattle.cube_model.specs.declared.edit.Fact.{Fact}
use Rattle.cube_model.specs.Cells.{cells_of, is_among}
use Rattle.cube_model.specs.Facts.{is_precise}
use Rattle.cube_model.specs.Tree.{Dimension}
use Rattle.std.specs.List.{Contains, list_any}
use Rattle.std.specs.Prelude.{not, ◌&&◌, ◌≡◌, Bool, true, List}

-- two imprecise facts whose regions share a cell
abbrev pub touch : List Dimension → Fact → Fact → Bool
touch dims f g = not (is_precise dims f) && not (is_precise dims g) && list_any (is_among (cells_of dims g.region)) (cells_of dims f.region)

-- of two facts that touch, both are kept or none is
pub record IsClosed (dims : List Dimension) (keep : Fact → Bool) (facts : List Fact) : Type 0 where
  pub closed : (f g : Fact) → Contains facts f → Contains facts g → touch dims f g ≡ true → keep f ≡ keep g
