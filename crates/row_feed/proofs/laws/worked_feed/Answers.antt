use Rattle.std.proofs.Common.{refl}
use Rattle.std.specs.Fmt.{digits}
use Rattle.cube_model.specs.Cells.{all_cells}
use Rattle.cube_model.specs.Tree.{is_leaf, leaves, parent, path}
use Rattle.schema_text.specs.SchemaText.{schema_text}
use Rattle.row_feed.proofs.laws.worked_feed.Goals as goal

-- the definitions compute it
pub returns : goal.returns
unfolding schema_text digits all_cells is_leaf leaves parent path
returns c = record { base = refl; insert = refl; change = refl; withdraw = refl; grow = refl; bytes = refl }
