-- The columns before this one have their sums.
use Rattle.std.proofs.Common.{◌≡◌, length, map, take}
use Rattle.std.specs.List.{range_with_len}
use Rattle.std.specs.Option.{option_copied}
use Rattle.cube_state.specs.GroupAfter.{sum_after}
use Rattle.cube_state.proofs.group_after.sums_after.Given as goal

abbrev pub invariant-loop-column : goal.invariant-loop-column
invariant-loop-column l = record {
  places : length l.sums ≡ 7;
  made : take l.column l.sums ≡ map (sum_after (option_copied l.group) (option_copied l.taken) (option_copied l.given)) (range_with_len 0 l.column);
}
