-- The fields of the view are judged first, then the dimension that ends, then the views that are there.
use Rattle.std.proofs.lemmas.Result.{err_from_is_err_and}
use Rattle.text_lines.specs.Text.{fields_of}
use Rattle.schema_text.proofs.ViewsMore.{IfErr-room, IsCause-ended, IsCause-fields, OnOk-room}
use Rattle.schema_text.proofs.reader.Reader.take_view.Goals as goal

pub returns-in_err-view-clause-refused : goal.returns-in_err-view-clause-refused
returns-in_err-view-clause-refused c =
    let p = err_from_is_err_and c.from_residual.result c.from_residual.ensures.1 in
    rw (p.1, p.2) (IsCause-fields c.args.self.now.views.items c.args.self.now.named_last.nodes.items (fields_of c.args.line.now) c.in_err-view.field-0.0 (rw c.deref.ensures.value at c.in_err-view.ensures.refused))

pub returns-in_err-end_into-clause-refused : goal.returns-in_err-end_into-clause-refused
returns-in_err-end_into-clause-refused c =
    let p = err_from_is_err_and c.from_residual-in_err-end_into.result c.from_residual-in_err-end_into.ensures.1 in
    rw (p.1, p.2)
    (IsCause-ended c.args.self.now.views.items c.args.self.now.named_last.nodes.items (fields_of c.args.line.now) c.in_err-end_into.field-0.0 (rw c.deref.ensures.value at c.in_ok-view.ensures.accepted) c.in_err-end_into.ensures.refused)

pub returns-clause-accepted : goal.returns-clause-accepted
returns-clause-accepted c =
    OnOk-room c.args.self.now.views.items c.args.self.now.named_last.nodes.items (fields_of c.args.line.now) (rw c.deref.ensures.value at c.in_ok-view.ensures.accepted) c.in_ok-end_into.ensures.accepted c.push_view.result c.push_view.ensures.accepted

pub returns-clause-refused : goal.returns-clause-refused
returns-clause-refused c =
    IfErr-room c.args.self.now.views.items c.args.self.now.named_last.nodes.items (fields_of c.args.line.now) (rw c.deref.ensures.value at c.in_ok-view.ensures.accepted) c.in_ok-end_into.ensures.accepted c.push_view.result c.push_view.ensures.refused
