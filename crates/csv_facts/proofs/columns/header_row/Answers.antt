-- The measures stand behind the front.
use Rattle.std.proofs.Common.{◌∙◌, ◌∷◌, ◌++◌, ap, map}
use Rattle.std.specs.Prelude.{codes}
use Rattle.fact_records.specs.Shape.{ShapeValue}
use Rattle.csv_facts.proofs.FieldsLeft.{IsRecordRow-longer}
use Rattle.csv_facts.proofs.columns.header_row.Goals as goal

pub returns-clause-header : goal.returns-clause-header
returns-clause-header c =
    (IsRecordRow-longer _ _ _ _ c.in_ok-row.ensures.row c.in_ok-push_measures.ensures).fields_are
    ∙ ap (λ (shape : ShapeValue). codes "id" ∷ c.args.s.now.names ++ map (λ m. m.name) shape.measures) c.shape.ensures.shape
