use Rattle.std.proofs.Common.{refl}
use Rattle.std.specs.Char.{encode_utf8}
use Rattle.std.specs.Str.{chars, is_utf8}
use Rattle.cube_model.specs.Tree.{is_leaf, is_numbered, leaves, parent, path}
use Rattle.schema_text.specs.SchemaText.{schema_of}
use Rattle.schema_text.proofs.laws.worked_views.Goals as goal

-- the definitions compute it
pub returns : goal.returns
unfolding schema_of is_utf8 chars encode_utf8 is_numbered path parent is_leaf leaves
returns c = record {
  read = refl;
  no_depth = refl;
  a_depth_more = refl;
  empty_name = refl;
  name_twice = refl;
  depth_above = refl;
  depth_misspelled = refl;
  fifth_view = refl;
  number_before_limit = refl;
  before_a_node = refl;
  node_behind = refl;
  dimension_behind = refl;
  number_of_the_root = refl;
  name_before_numbers = refl;
}
