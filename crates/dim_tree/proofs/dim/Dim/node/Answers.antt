use Rattle.std.proofs.Common.{arith}
use Rattle.dim_tree.proofs.Kept.{kept}
use Rattle.dim_tree.proofs.dim.Dim.node.Goals as goal

pub index-requires : goal.index-requires
index-requires c = grind (arith, (kept c.self.invariant c.self.view_is).room_nodes)

pub returns : goal.returns
returns c = λ n found. (kept c.self.invariant c.self.view_is).node_kept n c.args.place c.index.result.now c.index.ensures found
