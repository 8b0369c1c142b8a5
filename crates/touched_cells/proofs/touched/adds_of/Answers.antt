-- The value of the measure by whose sum cells weigh is among the accepted values.
use Rattle.std.proofs.Common.{◌∙◌}
use Rattle.fact_records.proofs.Adding.{weight-adds, weight-small, weight-within}
use Rattle.touched_cells.proofs.touched.adds_of.Goals as goal

pub distance_at-requires : goal.distance_at-requires
distance_at-requires c = weight-within c.args.shape.now c.args.cols c.requires.shape c.requires.values _ _ c.in-Some.ensures.weight c.measure.ensures.measure

pub returns-in-Some-clause-adds : goal.returns-in-Some-clause-adds
returns-in-Some-clause-adds c = c.distance_at.ensures ∙ weight-adds c.args.shape.now c.args.cols c.requires.shape c.requires.values _ _ c.in-Some.ensures.weight c.measure.ensures.measure

pub returns-in-Some-clause-most : goal.returns-in-Some-clause-most
returns-in-Some-clause-most c = rw c.distance_at.ensures (weight-small c.args.shape.now c.args.cols c.requires.shape c.requires.values _ _ c.in-Some.ensures.weight c.measure.ensures.measure)
