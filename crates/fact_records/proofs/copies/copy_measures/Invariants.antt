use Rattle.std.proofs.Common.{◌≡◌, take}
use Rattle.fact_records.proofs.copies.copy_measures.Given as goal

-- the measures before this one are copied
abbrev pub invariant-loop-measure : goal.invariant-loop-measure
invariant-loop-measure l = l.copies.items ≡ take l.measure-index l.measures
