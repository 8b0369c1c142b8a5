use Rattle.std.proofs.Common.{◌≡◌, ◌*◌, ◌^◌, ◌≤◌, take, pos, ◌+ℤ◌}
use Rattle.std.specs.Prelude.{fold, nat_abs}
use Rattle.fact_records.proofs.checks.sums_to.Given as goal

-- the values before this one are added
abbrev pub invariant-loop-value : goal.invariant-loop-value
invariant-loop-value l =
    (l.sum ≡ fold ◌+ℤ◌ (pos 0) (take l.value-index l.values)) × (nat_abs l.sum ≤ 2 ^ 63 * l.value-index)
