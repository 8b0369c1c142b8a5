-- The name is judged first, then the dimension that ends, then the names that are there.
use Rattle.std.proofs.Common.{◌<◌, ◌∙◌, ap, length, subst, sym}
use Rattle.std.proofs.lemmas.Result.{err_from_is_err_and}
use Rattle.cube_model.specs.Limits.{MAX_DIMS}
use Rattle.text_lines.specs.Text.{fields_of}
use Rattle.schema_text.specs.SchemaText.{is_wrong_name}
use Rattle.schema_text.proofs.DimensionLines.{IsCause-ends, accepted}
use Rattle.schema_text.proofs.reader.Reader.take_dimension.Goals as goal

pub returns-clause-accepted : goal.returns-clause-accepted
returns-clause-accepted c =
    let right = sym (c.is_wrong_name.ensures ∙ ap (is_wrong_name c.field_at-name.result.now) c.deref.ensures.value ∙ ap (λ name. is_wrong_name name c.args.self.now.names.items) c.field_at-name.ensures) ∙ c.if-is_wrong_name.false in
    let room = subst (λ count. count < MAX_DIMS) (c.len.ensures ∙ sym c.deref.ensures.len ∙ ap length c.deref.ensures.value) c.if-len-ge-MAX_DIMS.false in
    accepted c.args.self.now.names.items c.args.self.now.named_last.nodes.items (fields_of c.args.line.now) right c.in_ok-end_into.ensures.accepted room

pub returns-in_err-end_into-clause-refused : goal.returns-in_err-end_into-clause-refused
returns-in_err-end_into-clause-refused c =
    let right = sym (c.is_wrong_name.ensures ∙ ap (is_wrong_name c.field_at-name.result.now) c.deref.ensures.value ∙ ap (λ name. is_wrong_name name c.args.self.now.names.items) c.field_at-name.ensures) ∙ c.if-is_wrong_name.false in
    let p = err_from_is_err_and c.from_residual.result c.from_residual.ensures.1 in
    rw (p.1, p.2) (IsCause-ends c.args.self.now.names.items c.args.self.now.named_last.nodes.items (fields_of c.args.line.now) right c.in_err-end_into.field-0.0 c.in_err-end_into.ensures.refused)
