-- The two further names and the measures stand behind the front.
use Rattle.std.proofs.Common.{◌∙◌, ◌∷◌, ◌++◌, [], ap, append_assoc, map, refl}
use Rattle.std.specs.Prelude.{codes}
use Rattle.fact_records.specs.Shape.{ShapeValue}
use Rattle.csv_facts.proofs.FieldsLeft.{IsLonger-one, IsRecordRow-longer}
use Rattle.csv_facts.proofs.columns.rows_header_row.Goals as goal

pub returns : goal.returns
returns c =
    let names = c.args.s.now.names in
    let front = c.in_ok-row.ensures.row in
    let e = c.in_ok-push_field.ensures in
    let f = c.in_ok-push_field-2.ensures in
    let weight = IsRecordRow-longer _ _ _ _ front (IsLonger-one _ _ _ (codes "weight") front.whole e.fields e.partial refl) in
    let of = IsRecordRow-longer _ _ _ _ weight (IsLonger-one _ _ _ (codes "of") weight.whole f.fields f.partial refl) in
    let id = codes "id" ∷ names in
    (IsRecordRow-longer _ _ _ _ of c.in_ok-push_measures.ensures).fields_are
    ∙ append_assoc (id ++ codes "weight" ∷ []) (codes "of" ∷ []) _
    ∙ append_assoc id (codes "weight" ∷ []) _
    ∙ ap (λ (shape : ShapeValue). id ++ codes "weight" ∷ codes "of" ∷ map (λ m. m.name) shape.measures) c.shape.ensures.shape
