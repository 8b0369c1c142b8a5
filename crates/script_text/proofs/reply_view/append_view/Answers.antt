-- Each entry appends its fields.
use Rattle.script_text.proofs.Appending.{Keeps-front, always}
use Rattle.script_text.proofs.reply_view.append_view.Goals as goal

pub returns-in_err-append_entry-clause-err : goal.returns-in_err-append_entry-clause-err
returns-in_err-append_entry-clause-err c = always _ (Keeps-front _ _ _ _ c.loop-entry.invariant c.in_err-append_entry.ensures.err)
