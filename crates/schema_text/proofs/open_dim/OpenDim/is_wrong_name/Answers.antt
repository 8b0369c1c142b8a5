-- A name is taken where it is among the names that are known.
use Rattle.std.proofs.Common.{arith, rules}
use Rattle.dim_tree.proofs.Judging.{list_any-names}
use Rattle.schema_text.proofs.Names.{is_name-not_utf8}
use Rattle.schema_text.proofs.open_dim.OpenDim.is_wrong_name.Goals as goal

pub returns-else-not-is_name : goal.returns-else-not-is_name
returns-else-not-is_name c = rw (← c.requires.known) (grind (arith, list_any-names c.args.name.now c.args.self.now.known.keys))

pub returns-in-Err : goal.returns-in-Err
returns-in-Err c = rw (is_name-not_utf8 _ c.in-Err.ensures.cases.0) (search rules)
