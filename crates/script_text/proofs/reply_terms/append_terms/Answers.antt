-- Each place appends its term.
use Rattle.script_text.proofs.Appending.{Keeps-front, always}
use Rattle.script_text.proofs.reply_terms.append_terms.Goals as goal

pub returns-in_err-append_term-clause-err : goal.returns-in_err-append_term-clause-err
returns-in_err-append_term-clause-err c = always _ (Keeps-front _ _ _ _ c.loop-i.invariant c.in_err-append_term.ensures.err)
