use Rattle.std.proofs.Common.{arith}
use Rattle.fact_records.proofs.Columns.{length-width_of_all}
use Rattle.fact_records.proofs.shape.Shape.len.Goals as goal

pub overflow_cast-result : goal.overflow_cast-result
overflow_cast-result c = omega (arith, length-width_of_all _ c.self.invariant.measures.some)
