use Rattle.std.proofs.Common.{◌≡◌, false, take}
use Rattle.fact_records.specs.Accepted.{has_wrong_parts}
use Rattle.fact_records.proofs.checks.has_wrong_parts.Given as goal

-- no measure before this one has such values
abbrev pub invariant-loop-measure : goal.invariant-loop-measure
invariant-loop-measure l = has_wrong_parts (take l.measure-index l.measures) l.values ≡ false
