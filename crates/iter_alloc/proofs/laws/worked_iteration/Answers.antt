-- The definitions compute it.
use Rattle.std.proofs.Common.{refl}
use Rattle.cube_model.specs.Cells.{all_cells, cells_of, is_inside}
use Rattle.cube_model.specs.Tree.{is_leaf, is_under, leaves, parent, path}
use Rattle.iter_alloc.specs.Components.{labelled}
use Rattle.iter_alloc.specs.Rounds.{level_from}
use Rattle.iter_alloc.proofs.laws.worked_iteration.Goals as goal

pub returns : goal.returns
unfolding all_cells cells_of is_inside is_leaf is_under labelled leaves level_from parent path
returns c = record {
  begun = refl;
  first = refl;
  second = refl;
  iterated = refl;
  even = refl;
  cells = refl;
  labels = refl;
  joined = refl;
  apart = refl;
}
