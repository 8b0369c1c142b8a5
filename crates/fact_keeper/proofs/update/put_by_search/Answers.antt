use Rattle.std.proofs.Common.{◌∙◌, sym}
use Rattle.fact_keeper.proofs.Puts.{put-found, put-gap}
use Rattle.fact_keeper.proofs.update.put_by_search.Goals as goal

pub returns-in-Ok-clause-items : goal.returns-in-Ok-clause-items
returns-in-Ok-clause-items g c =
    sym (put-found g.T.Entry.id_of c.args.entry c.args.entry c.args.entries.now.items c.requires.order c.in-Ok.place (rw c.deref.ensures.value at c.in-Ok.ensures.found))

pub returns-in-Err-clause-items : goal.returns-in-Err-clause-items
returns-in-Err-clause-items g c =
    c.insert.ensures.items
    ∙ sym (put-gap g.T.Entry.id_of c.args.entry c.args.entry c.args.entries.now.items c.requires.order c.in-Err.place (rw c.deref.ensures.value at c.in-Err.ensures.absent))
