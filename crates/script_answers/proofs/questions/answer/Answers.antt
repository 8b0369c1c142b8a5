use Rattle.script_answers.proofs.questions.answer.Goals as goal

-- the measures of the schema are those of the schema over the same dimensions
pub returns-in-OfMeasure-clause-answer : goal.returns-in-OfMeasure-clause-answer
returns-in-OfMeasure-clause-answer c = rw c.in-OfMeasure.is c.answer_of_measure.ensures.answer
