-- A name is taken where a measure has it.
use Rattle.std.proofs.Common.{rules}
use Rattle.schema_text.proofs.MeasuresMore.{is_among_names-measures}
use Rattle.schema_text.proofs.measures.is_wrong_measure.Goals as goal

pub returns-else-not-is_name : goal.returns-else-not-is_name
returns-else-not-is_name c = rw (is_among_names-measures c.args.name.now c.args.before.now) (search rules)
