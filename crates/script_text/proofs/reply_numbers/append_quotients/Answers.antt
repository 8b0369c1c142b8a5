-- Each quotient appends its fields.
use Rattle.script_text.proofs.Appending.{Keeps-front, always}
use Rattle.script_text.proofs.reply_numbers.append_quotients.Goals as goal

pub returns-in_err-append_quotient-clause-err : goal.returns-in_err-append_quotient-clause-err
returns-in_err-append_quotient-clause-err c = always _ (Keeps-front _ _ _ _ c.loop-quotient.invariant c.in_err-append_quotient.ensures.err)
