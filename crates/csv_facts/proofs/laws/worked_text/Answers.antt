use Rattle.std.proofs.Common.{refl}
use Rattle.std.specs.Fmt.{digits}
use Rattle.csv.specs.Writing.{escaped, fields_text, is_blank}
use Rattle.cube_model.specs.Cells.{all_cells}
use Rattle.cube_model.specs.Tree.{is_leaf, leaves, parent, path}
use Rattle.csv_facts.specs.ExtendedRow.{extended_text}
use Rattle.csv_facts.proofs.laws.worked_text.Goals as goal

-- the definitions compute it
pub returns : goal.returns
unfolding extended_text all_cells leaves is_leaf parent path escaped fields_text is_blank digits
returns c = record { rows = refl; none = refl }
