-- The columns before this one have their sums.
use Rattle.std.proofs.Common.{◌≡◌, length, map, take}
use Rattle.std.specs.List.{range_with_len}
use Rattle.fact_indexes.specs.Grouping.{sum_with}
use Rattle.fact_indexes.proofs.grouping.sums_with.Given as goal

abbrev pub invariant-loop-column : goal.invariant-loop-column
invariant-loop-column l = record {
  places : length l.added ≡ 7;
  made : take l.column l.added ≡ map (sum_with l.sums l.values) (range_with_len 0 l.column);
}
