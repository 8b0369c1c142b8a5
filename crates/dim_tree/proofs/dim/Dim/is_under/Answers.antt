use Rattle.std.proofs.Common.{arith}
use Rattle.std.proofs.lemmas.Bool.Decides.{nat_tests}
use Rattle.dim_tree.proofs.dim.Dim.is_under.Goals as goal

pub returns-then-upper-place : goal.returns-then-upper-place
returns-then-upper-place c = grind (arith, nat_tests, (c.node-node.ensures c.args.y c.place-upper.ensures.place).under_is c.args.x c.place-place.result c.place-place.ensures.place)

pub returns-else-upper-place : goal.returns-else-upper-place
returns-else-upper-place c = grind (arith, nat_tests, (c.node-node.ensures c.args.y c.place-upper.ensures.place).under_is c.args.x c.place-place.result c.place-place.ensures.place)
