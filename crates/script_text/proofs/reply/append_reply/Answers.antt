-- A refusal is appended as one text.
use Rattle.std.proofs.Common.{◌++◌, ◌∙◌, ap, sym}
use Rattle.script_text.specs.Reply.{reply_text}
use Rattle.script_text.proofs.reply.append_reply.Goals as goal

pub returns-in-Refused-clause-ok : goal.returns-in-Refused-clause-ok
returns-in-Refused-clause-ok c =
    let dims = c.args.schema.now.dims in
    let old = c.args.text.now.items in
    c.in_ok-extend_from_slice.ensures.items ∙ ap (λ bytes. old ++ bytes) (c.as_bytes.ensures.value ∙ c.refusal_text.ensures dims ∙ ap (reply_text dims) (sym c.in-Refused.is))
