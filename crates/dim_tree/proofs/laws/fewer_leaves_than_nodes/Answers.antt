use Rattle.std.proofs.Common.{arith}
use Rattle.dim_tree.proofs.MoreLeaves.{fewer_leaves}
use Rattle.dim_tree.proofs.laws.fewer_leaves_than_nodes.Goals as goal

pub returns : goal.returns
returns c = λ dim tree two. omega (arith, fewer_leaves dim tree two)
