use Rattle.std.proofs.Common.{refl}
use Rattle.std.specs.Char.{encode_utf8}
use Rattle.std.specs.Fmt.{digits}
use Rattle.std.specs.Str.{chars, is_utf8}
use Rattle.exact_fraction.specs.Number.{gcd, greatest_to, lcm}
use Rattle.exact_fraction.specs.One.{one_of}
use Rattle.exact_fraction.specs.Ratio.{ratio_of}
use Rattle.cube_model.specs.Tree.{path, parent, is_under, is_leaf, is_numbered, leaves}
use Rattle.cube_model.specs.Cells.{all_cells, is_inside, cells_of}
use Rattle.cube_model.specs.Allocation.{allocation, extended}
use Rattle.cube_model.specs.Answer.{answer}
use Rattle.cube_model.specs.Difference.{refreshed}
use Rattle.schema_text.specs.SchemaText.{schema_of}
use Rattle.script_text.specs.ScriptLine.{line_of}
use Rattle.script_text.specs.Decimals.{last_digits, whole_text}
use Rattle.script_run.specs.Run.{step}
use Rattle.cube_cli.proofs.laws.worked_questions.Goals as goal

-- the definitions compute it
pub returns : goal.returns
unfolding is_utf8 chars encode_utf8 digits path parent is_under is_leaf is_numbered leaves all_cells is_inside cells_of allocation extended answer refreshed schema_of line_of last_digits whole_text gcd greatest_to lcm one_of ratio_of step
returns c = record {
  none = (refl, refl);
  fractions = (refl, refl);
}
