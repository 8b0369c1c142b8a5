-- The field at the walk's place is there, and the walk goes on behind it.
use Rattle.std.proofs.Common.{ℕ, ◌+◌, ◌∙◌, sym, drop, ap, List, ◌∷◌, []}
use Rattle.std.proofs.lemmas.List.{drop_more}
use Rattle.csv.specs.Records.{fields_of}
use Rattle.csv_facts.proofs.FieldsLeft.{field-is, field-left, field-some}
use Rattle.csv_facts.proofs.record_fields.RecordFieldsFields.next_field.Goals as goal

pub unwrap-field-requires : goal.unwrap-field-requires
unwrap-field-requires c =
    let within = field-left (fields_of c.self.inside.row.now) c.self.inside.next c.args.self.now c.self.view_is c.requires in
    field-some (fields_of c.self.inside.row.now) c.self.inside.next c.get.result c.get.ensures.value within

pub returns : goal.returns
returns c =
    let fields = fields_of c.self.inside.row.now in
    let within = field-left fields c.self.inside.next c.args.self.now c.self.view_is c.requires in
    let same = field-is fields c.self.inside.next c.get.result c.unwrap-field.result c.get.ensures.value c.unwrap-field.ensures in
    sym c.self.view_is ∙ drop_more fields c.self.inside.next [] within ∙ ap (λ (f : List ℕ). f ∷ drop (c.self.inside.next + 1) fields) (sym same)
