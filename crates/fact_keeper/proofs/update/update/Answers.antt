use Rattle.std.proofs.Common.{sym, subst, rules}
use Rattle.fact_keeper.specs.Order.{AscendsBy}
use Rattle.fact_keeper.proofs.Puts.{put-ascends, without-ascends}
use Rattle.fact_keeper.proofs.update.update.Goals as goal

pub new-init : goal.new-init
new-init g c = record {
  can_next = search rules;
  is_finite = search rules;
  result = search rules;
  order = λ is. subst (AscendsBy g.T.Entry.id_of) (sym c.drop_gone.ensures.items) (without-ascends g.T.Entry.id_of _ _ (c.requires.order is));
  room = search rules;
}

pub new-preserved : goal.new-preserved
new-preserved g c = record {
  can_next = search rules;
  is_finite = search rules;
  result = search rules;
  order = λ is. subst (AscendsBy g.T.Entry.id_of) (sym c.put.ensures.items) (put-ascends g.T.Entry.id_of _ _ (c.new.invariant.order is));
  room = search rules;
}
