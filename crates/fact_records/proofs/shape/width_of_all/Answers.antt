-- The measures up to one have no more columns than all.
use Rattle.std.proofs.Common.{◌+◌, arith}
use Rattle.fact_records.proofs.Columns.{width_of_all-next, width_of_all-take}
use Rattle.fact_records.proofs.shape.width_of_all.Goals as goal

pub overflow_add-columns : goal.overflow_add-columns
overflow_add-columns c =
    let more = width_of_all-next c.args.measures.now c.loop-measure.measure-index c.measure-item.result c.loop-measure-test.true c.measure-item.is in
    omega (arith, more, width_of_all-take (c.loop-measure.measure-index + 1) c.args.measures.now)

pub loop-measure-preserved : goal.loop-measure-preserved
loop-measure-preserved c =
    let more = width_of_all-next c.args.measures.now c.loop-measure.measure-index c.measure-item.result c.loop-measure-test.true c.measure-item.is in
    omega (arith, more)
