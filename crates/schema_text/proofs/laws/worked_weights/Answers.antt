use Rattle.std.proofs.Common.{refl}
use Rattle.std.specs.Char.{encode_utf8}
use Rattle.std.specs.Str.{chars, is_utf8}
use Rattle.cube_model.specs.Tree.{is_leaf, is_numbered, leaves, parent, path}
use Rattle.schema_text.specs.SchemaText.{schema_of}
use Rattle.schema_text.proofs.laws.worked_weights.Goals as goal

-- the definitions compute it
pub returns : goal.returns
unfolding schema_of is_utf8 chars encode_utf8 is_numbered path parent is_leaf leaves
returns c = record {
  read = refl;
  no_name = refl;
  empty_name = refl;
  a_name_more = refl;
  unknown = refl;
  no_measure = refl;
  no_number = refl;
}
