use Rattle.std.proofs.Common.{◌≡◌, map}
use Rattle.std.specs.List.{range_with_len}
use Rattle.dim_tree.specs.Nodes.{node_at}
use Rattle.dim_tree.proofs.node.nodes_of.Given as goal

abbrev pub invariant-loop-place : goal.invariant-loop-place
invariant-loop-place l = l.nodes.items ≡ map (node_at l.depths l.numbers) (range_with_len 0 l.place)
