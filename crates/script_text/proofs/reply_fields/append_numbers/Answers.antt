-- Each number appends its field.
use Rattle.script_text.proofs.Appending.{Keeps-front, always}
use Rattle.script_text.proofs.reply_fields.append_numbers.Goals as goal

pub returns-in_err-append_signed-clause-err : goal.returns-in_err-append_signed-clause-err
returns-in_err-append_signed-clause-err c = always _ (Keeps-front _ _ _ _ c.loop-number.invariant c.in_err-append_signed.ensures.err)
