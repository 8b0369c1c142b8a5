use Rattle.std.proofs.Common.{◌≡◌, true}
use Rattle.std.specs.List.{list_all, range_with_len}
use Rattle.dim_tree.specs.Nodes.{is_above}
use Rattle.dim_tree.proofs.numbering.are_above.Given as goal

abbrev pub invariant-loop-place : goal.invariant-loop-place
invariant-loop-place l = list_all (is_above l.numbers l.parents) (range_with_len 0 l.place) ≡ true
