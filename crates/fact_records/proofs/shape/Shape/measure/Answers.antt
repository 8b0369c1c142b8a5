use Rattle.fact_records.proofs.Columns.{AreMeasures-measure}
use Rattle.fact_records.proofs.shape.Shape.measure.Goals as goal

pub returns-clause-within : goal.returns-clause-within
returns-clause-within c = AreMeasures-measure c.self.inside.measures.items c.args.i c.index.result.now c.self.invariant.measures (rw (← c.self.view_is) at c.requires) c.index.ensures
