-- A measure more.
use Rattle.schema_text.specs.SchemaText.{measure_line}
use Rattle.schema_text.proofs.Writing.{appended, texts-more}
use Rattle.schema_text.proofs.write.append_measures.Goals as goal

pub loop-i-preserved : goal.loop-i-preserved
loop-i-preserved c =
    appended _ _ _ _ _ _ c.loop-i.invariant c.in_ok-append_measure.ensures (texts-more measure_line c.args.shape.now.measures c.loop-i.i c.measure.result.now c.measure.ensures.measure)
