use Rattle.std.proofs.Common.{None, refl}
use Rattle.feed_run.proofs.BaseBegins.{begin-refused, begun-new, unkept-new}
use Rattle.feed_run.proofs.begin.begin_new.Goals as goal

pub returns-in-Err-clause-begins : goal.returns-in-Err-clause-begins
returns-in-Err-clause-begins g c = rw c.at.ensures (begin-refused c.args.number c.args.schema c.args.seq.now.facts _ (record { told = refl; keep = refl }) None c.in-Err.stop c.in-Err.ensures)

pub returns-in-Ok-kept-clause-begins : goal.returns-in-Ok-kept-clause-begins
returns-in-Ok-kept-clause-begins g c = begun-new c.args.number c.args.schema c.args.seq.now.facts _ c.in-Ok.made.0 c.in-Ok.made.1 c.in-Ok.ensures c.in-Ok-kept.ensures.keeps

pub returns-in-Err-kept-clause-begins : goal.returns-in-Err-kept-clause-begins
returns-in-Err-kept-clause-begins g c = unkept-new c.args.number c.args.schema c.args.seq.now.facts _ c.in-Ok.made.0 c.in-Ok.made.1 c.in-Ok.ensures c.in-Err-kept.off c.in-Err-kept.ensures.keeps
