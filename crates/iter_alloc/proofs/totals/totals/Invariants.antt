-- The columns before this one are totalled.
use Rattle.iter_alloc.proofs.totals.totals.Given as goal
use Rattle.iter_alloc.specs.Portions.{column_total}
use Rattle.std.proofs.Common.{◌≡◌, map}
use Rattle.std.specs.List.{range_with_len}

abbrev pub invariant-loop-column : goal.invariant-loop-column
invariant-loop-column l = l.nums ≡ map (λ column. column_total column l.facts.facts l.portions) (range_with_len 0 l.column)
