-- The definitions compute it.
use Rattle.std.proofs.Common.{refl}
use Rattle.cube_cli.proofs.laws.worked_asked_words.Goals as goal

pub returns : goal.returns
returns c = record {
  command = refl;
  line = refl;
  empty = refl;
  no_word = refl;
  no_name = refl;
}
