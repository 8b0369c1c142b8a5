-- Each region appends its fields.
use Rattle.script_text.proofs.Appending.{Keeps-front, always}
use Rattle.script_text.proofs.reply_table.append_table.Goals as goal

pub returns-in_err-append_told-clause-err : goal.returns-in_err-append_told-clause-err
returns-in_err-append_told-clause-err c = always _ (Keeps-front _ _ _ _ c.loop-entry.invariant c.in_err-append_told.ensures.err)
