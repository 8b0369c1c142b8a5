use Rattle.std.proofs.Common.{refl}
use Rattle.std.specs.Str.{chars, is_utf8}
use Rattle.std.specs.Char.{encode_utf8}
use Rattle.script_text.specs.ScriptLine.{line_of}
use Rattle.script_text.proofs.laws.worked_refusals.Goals as goal

-- the definitions compute it
pub returns : goal.returns
unfolding line_of is_utf8 chars encode_utf8
returns c = record {
  long = refl;
  not_long = refl;
  text = refl;
  command = refl;
  fields = refl;
  id = refl;
  node = refl;
  value = refl;
  parts = refl;
  negative = refl;
  node_first = refl;
  measure = refl;
  fields_first = refl;
  view_name = refl;
  growth_fields = refl;
  growth_node = refl;
  growth_name = refl;
  growth_node_first = refl;
  one_view = refl;
  number = refl;
  depth = refl;
  asked_node = refl;
  asked_measure = refl;
  asked_fields = refl;
}
