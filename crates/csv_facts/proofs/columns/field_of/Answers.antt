use Rattle.csv.specs.Records.{fields_of}
use Rattle.csv_facts.proofs.FieldsLeft.{field-is, field-some}
use Rattle.csv_facts.proofs.columns.field_of.Goals as goal

pub unwrap-requires : goal.unwrap-requires
unwrap-requires c = field-some (fields_of c.args.row.now) c.args.i c.get.result c.get.ensures.value c.requires

pub returns : goal.returns
returns c = field-is (fields_of c.args.row.now) c.args.i c.get.result c.unwrap.result c.get.ensures.value c.unwrap.ensures
