use Rattle.std.proofs.Common.{arith}
use Rattle.dim_tree.proofs.Judging.{list_any-names}
use Rattle.dim_tree.proofs.outline.add_name.Goals as goal

pub returns-then-added-clause-accepted : goal.returns-then-added-clause-accepted
returns-then-added-clause-accepted c = grind (arith, list_any-names c.args.name.now c.args.names.now.keys)

pub returns-else-added-clause-refused : goal.returns-else-added-clause-refused
returns-else-added-clause-refused c = grind (arith, list_any-names c.args.name.now c.args.names.now.keys)
