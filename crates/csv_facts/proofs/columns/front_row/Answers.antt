-- The names stand behind the id.
use Rattle.std.proofs.Common.{◌∷◌, [], refl}
use Rattle.std.specs.Prelude.{codes}
use Rattle.csv_facts.proofs.FieldsLeft.{IsLonger-one, IsRecordRow-longer, IsRecordRow-none}
use Rattle.csv_facts.proofs.columns.front_row.Goals as goal

pub returns-clause-row : goal.returns-clause-row
returns-clause-row c =
    let e = c.in_ok-push_field.ensures in
    let new = c.new-row.ensures in
    let first = IsRecordRow-longer _ _ [] (codes "id" ∷ []) (IsRecordRow-none _ new.fields new.partial) (IsLonger-one _ _ _ (codes "id") new.partial e.fields e.partial refl) in
    rw c.dim_names-names.ensures.names at (IsRecordRow-longer _ _ _ _ first c.in_ok-push_names.ensures)
