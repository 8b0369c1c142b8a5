-- Each dimension has few nodes.
use Rattle.std.proofs.Common.{◌≤◌, ◌*◌}
use Rattle.cube_model.specs.Limits.{MAX_NODES}
use Rattle.view_store.proofs.cuts.node_count.Given as goal

abbrev pub invariant-loop-d : goal.invariant-loop-d
invariant-loop-d l = l.count ≤ l.d * MAX_NODES
