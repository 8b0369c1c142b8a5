-- The dimension that ends is judged first.
use Rattle.std.proofs.Common.{◌∙◌, sym}
use Rattle.std.proofs.lemmas.Result.{err_from_is_err_and}
use Rattle.schema_text.specs.Kept.{draft_of}
use Rattle.schema_text.proofs.Ends.{IsCause-ends}
use Rattle.schema_text.proofs.reader.Reader.take_end.Goals as goal

pub returns-in_err-end_into-clause-refused : goal.returns-in_err-end_into-clause-refused
returns-in_err-end_into-clause-refused c =
    let p = err_from_is_err_and c.from_residual.result c.from_residual.ensures.1 in
    rw (p.1, p.2) (IsCause-ends (draft_of c.args.self.now) c.in_err-end_into.field-0.0 (sym c.may_follow.ensures ∙ c.if-not-may_follow.false) c.in_err-end_into.ensures.refused)
