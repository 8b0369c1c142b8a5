-- Each pick appends its fields.
use Rattle.script_text.proofs.Appending.{Keeps-front, always}
use Rattle.script_text.proofs.reply_picks.append_picks.Goals as goal

pub returns-in_err-append_pick-clause-err : goal.returns-in_err-append_pick-clause-err
returns-in_err-append_pick-clause-err c = always _ (Keeps-front _ _ _ _ c.loop-pick.invariant c.in_err-append_pick.ensures.err)
