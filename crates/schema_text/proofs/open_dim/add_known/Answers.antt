use Rattle.std.proofs.Common.{arith}
use Rattle.dim_tree.proofs.Judging.{list_any-names}
use Rattle.schema_text.proofs.open_dim.add_known.Goals as goal

pub prove-unreachable-requires : goal.prove-unreachable-requires
prove-unreachable-requires c = grind (arith, list_any-names c.args.name.now c.args.known.now.keys, c.requires)
