-- The ids of the component are told, or the first reason why none are.
use Rattle.std.proofs.Common.{◌∙◌, sym}
use Rattle.script_answers.proofs.Many.{component-few, component-many}
use Rattle.script_answers.proofs.depending.component_answer.Goals as goal

pub returns-in_ok-count_and_ids-in-Ok-clause-answer : goal.returns-in_ok-count_and_ids-in-Ok-clause-answer
returns-in_ok-count_and_ids-in-Ok-clause-answer c =
    component-few _ c.args.id c.space.result.now c.space.ensures.dims (sym c.if-not-has.false ∙ c.has.ensures) _ _ c.in-Ok.ensures.few (c.as_slice.ensures ∙ c.in-Ok.ensures.ids) c.in_ok-count_and_ids-in-Ok.ensures

pub returns-in-Err-Many-clause-answer : goal.returns-in-Err-Many-clause-answer
returns-in-Err-Many-clause-answer c =
    let fault = rw c.in-Err-Many.field-0-is at c.in-Err-Many.ensures.fault in
    component-many _ c.args.id c.space.result.now c.space.ensures.dims (sym c.if-not-has.false ∙ c.has.ensures) _ fault.0 fault.1
