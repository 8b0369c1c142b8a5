use Rattle.std.proofs.Common.{◌≡◌, take}
use Rattle.fact_records.specs.Shape.{width_of_all}
use Rattle.fact_records.proofs.shape.width_of_all.Given as goal

-- the columns of the measures before this one are counted
abbrev pub invariant-loop-measure : goal.invariant-loop-measure
invariant-loop-measure l = l.columns ≡ width_of_all (take l.measure-index l.measures)
