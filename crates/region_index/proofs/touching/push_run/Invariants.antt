-- The run up to this place is appended.
use Rattle.std.proofs.Common.{◌≡◌, ◌-◌, ◌≤◌, ◌++◌}
use Rattle.std.specs.List.{range_with_len}
use Rattle.region_index.proofs.touching.push_run.Given as goal

abbrev pub invariant-loop-place : goal.invariant-loop-place
invariant-loop-place l = record {
  from : l.fn.first ≤ l.place;
  run : l.places.items ≡ l.fn.places.items ++ range_with_len l.fn.first (l.place - l.fn.first);
}
