use Rattle.schema_text.proofs.MeasuresMore.{width_of_all-next}
use Rattle.schema_text.proofs.measures.take_number.Goals as goal

pub returns-clause-width : goal.returns-clause-width
returns-clause-width c = width_of_all-next _ _ _ _ c.requires.width c.in_ok-push_measure.ensures
