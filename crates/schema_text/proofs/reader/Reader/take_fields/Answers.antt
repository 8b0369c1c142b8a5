-- What the line of a dimension says, and why it is refused.
use Rattle.std.proofs.Common.{ap, Global, Vec}
use Rattle.fact_records.specs.declared.shape.Measure.{Measure}
use Rattle.region_algebra.specs.declared.view_def.ViewDef.{ViewDef}
use Rattle.text_lines.specs.Text.{fields_of}
use Rattle.schema_text.specs.Kept.{draft_of}
use Rattle.schema_text.proofs.DimensionLines.{refused, says}
use Rattle.schema_text.proofs.reader.Reader.take_fields.Goals as goal

pub returns-in-Dimension-clause-made : goal.returns-in-Dimension-clause-made
returns-in-Dimension-clause-made c =
    let told = c.take_dimension.ensures in
    let others = told.others in
    says (draft_of c.args.self.now) (draft_of c.take_dimension.new.self) (fields_of c.args.line.now) c.args.word c.in-Dimension.is c.take_dimension.result told.names told.dims told.nodes told.version others.0 (ap (λ (list : Vec Measure Global). list.items) others.1) (ap (λ (list : Vec ViewDef Global). list.items) others.3)

pub returns-in-Dimension-clause-refused : goal.returns-in-Dimension-clause-refused
returns-in-Dimension-clause-refused c =
    refused (draft_of c.args.self.now) (draft_of c.take_dimension.new.self) (fields_of c.args.line.now) c.args.word c.in-Dimension.is c.take_dimension.result c.requires.count c.take_dimension.ensures.refused
