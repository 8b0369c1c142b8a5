use Rattle.std.proofs.Common.{refl}
use Rattle.std.specs.Char.{encode_utf8}
use Rattle.std.specs.Str.{chars, is_utf8}
use Rattle.cube_model.specs.Tree.{is_leaf, is_numbered, leaves, parent, path}
use Rattle.schema_text.specs.SchemaText.{schema_of}
use Rattle.schema_text.proofs.laws.worked_distributions.Goals as goal

-- the definitions compute it
pub returns : goal.returns
unfolding schema_of is_utf8 chars encode_utf8 is_numbered path parent is_leaf leaves
returns c = record {
  read = refl;
  one_outcome = refl;
  outcome_twice = refl;
  scale_0 = refl;
  scale_above = refl;
  eighth_column = refl;
}
