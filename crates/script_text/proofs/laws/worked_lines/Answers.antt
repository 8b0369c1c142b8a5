use Rattle.std.proofs.Common.{refl}
use Rattle.std.specs.Str.{chars, is_utf8}
use Rattle.std.specs.Char.{encode_utf8}
use Rattle.script_text.specs.ScriptLine.{line_of}
use Rattle.script_text.proofs.laws.worked_lines.Goals as goal

-- the definitions compute it
pub returns : goal.returns
unfolding line_of is_utf8 chars encode_utf8
returns c = record {
  insert = refl;
  change = refl;
  withdraw = refl;
  terms = refl;
  rows = refl;
  worlds = refl;
  nothing = refl;
  negative = refl;
  count = refl;
  sum = refl;
  average = refl;
  pool = refl;
  growth = refl;
  view = refl;
  component = refl;
  ranges = refl;
  rounds = refl;
  table = refl;
  measure_tables = refl;
}
