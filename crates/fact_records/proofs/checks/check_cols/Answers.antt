-- The columns of each measure are among the values, as many as the columns.
use Rattle.std.proofs.Common.{◌≡◌, arith, length, take}
use Rattle.fact_records.specs.Shape.{width_of_all}
use Rattle.fact_records.proofs.Columns.{AreMeasures-within}
use Rattle.fact_records.proofs.checks.check_cols.Goals as goal

pub has_wrong_number-requires : goal.has_wrong_number-requires
has_wrong_number-requires c =
    let whole : length (take c.len-2.result c.places_of-places.result) ≡ width_of_all c.args.shape.now.measures = rw (c.len-2.ensures.count, c.places_of-places.ensures) (omega arith) in
    AreMeasures-within _ _ c.columns.ensures.shape.measures whole

pub has_wrong_parts-requires-clause-within : goal.has_wrong_parts-requires-clause-within
has_wrong_parts-requires-clause-within c =
    let whole : length (take c.len-2.result c.places_of-places.result) ≡ width_of_all c.args.shape.now.measures = rw (c.len-2.ensures.count, c.places_of-places.ensures) (omega arith) in
    AreMeasures-within _ _ c.columns.ensures.shape.measures whole
