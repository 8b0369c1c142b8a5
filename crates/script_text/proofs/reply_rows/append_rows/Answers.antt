-- Each row appends its fields.
use Rattle.script_text.proofs.Appending.{Keeps-front, always}
use Rattle.script_text.proofs.reply_rows.append_rows.Goals as goal

pub returns-in_err-append_row-clause-err : goal.returns-in_err-append_row-clause-err
returns-in_err-append_row-clause-err c = always _ (Keeps-front _ _ _ _ c.loop-row.invariant c.in_err-append_row.ensures.err)
