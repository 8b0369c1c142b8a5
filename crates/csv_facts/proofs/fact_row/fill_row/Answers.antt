-- The front and the values are the record of the fact.
use Rattle.std.proofs.Common.{◌∙◌, ◌++◌, ◌∷◌, List, ap}
use Rattle.std.specs.Fmt.{decimal}
use Rattle.std.proofs.lemmas.Result.{on_ok_weaker}
use Rattle.cube_model.specs.Tree.{Dimension}
use Rattle.fact_records.specs.Shape.{ShapeValue}
use Rattle.fact_records.proofs.SmallValues.{count-accepted}
use Rattle.schema_text.specs.Schema.{shape_of}
use Rattle.script_text.specs.Reply.{names_of}
use Rattle.fact_fields.specs.FactRow.{value_fields}
use Rattle.csv_facts.proofs.FieldsLeft.{IsRecordRow-longer}
use Rattle.csv_facts.proofs.fact_row.fill_row.Goals as goal

pub start_row-requires : goal.start_row-requires
start_row-requires c = rw c.space.ensures.dims c.requires.placed.region

pub push_values-requires-clause-columns : goal.push_values-requires-clause-columns
push_values-requires-clause-columns c = rw c.shape.ensures.shape (count-accepted (shape_of c.args.s.now) c.args.fact.now.cols c.requires.values)

pub returns : goal.returns
returns c =
    let fact = c.args.fact.now in
    on_ok_weaker c.push_values.result
    (λ longer.
    (IsRecordRow-longer _ _ _ _ c.in_ok-start_row.ensures longer).fields_are
    ∙ ap (λ (dims : List Dimension). (decimal fact.id ∷ names_of dims fact.region) ++ value_fields c.shape.result.now.measures fact.cols) c.space.ensures.dims
    ∙ ap (λ (shape : ShapeValue). (decimal fact.id ∷ names_of c.args.s.now.dims fact.region) ++ value_fields shape.measures fact.cols) c.shape.ensures.shape)
    c.push_values.ensures
