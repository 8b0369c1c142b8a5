use Rattle.std.proofs.Common.{◌≡◌, false, take}
use Rattle.std.specs.List.{list_any}
use Rattle.fact_records.specs.Accepted.{is_wrong_number}
use Rattle.fact_records.specs.Shape.{values_of}
use Rattle.fact_records.proofs.checks.has_wrong_number.Given as goal

-- no measure before this one has such a value
abbrev pub invariant-loop-measure : goal.invariant-loop-measure
invariant-loop-measure l = list_any (λ m. is_wrong_number l.shape m (values_of m l.values)) (take l.measure-index l.measures) ≡ false
