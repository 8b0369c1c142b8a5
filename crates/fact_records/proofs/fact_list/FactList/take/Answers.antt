use Rattle.std.proofs.Common.{Some, sym, ap, ◌∙◌}
use Rattle.std.proofs.lemmas.Option.{get_or_from_slice_get}
use Rattle.fact_records.specs.BlockList.{all_facts, place_in_all}
use Rattle.fact_records.specs.Cut.{no_fact}
use Rattle.fact_records.proofs.Ascending.{withdraw_at, withdraw_gap, fact_of_at, fact_of_gap}
use Rattle.fact_records.proofs.Keeping.{kept_after_remove}
use Rattle.fact_records.proofs.fact_list.FactList.take.Goals as goal

pub invariant_of-self : goal.invariant_of-self
invariant_of-self c =
    let here = rw c.used_blocks.ensures at c.in-Ok.ensures.id in
    kept_after_remove c.self.inside.blocks c.remove-fact.new.self _ _ _ c.self.invariant here.in_range c.remove-fact.ensures.facts c.remove-fact.ensures.filled c.remove-fact.ensures.spare

pub returns-in-Ok-clause-facts : goal.returns-in-Ok-clause-facts
returns-in-Ok-clause-facts c =
    rw (← c.self.view_is) (c.remove-fact.ensures.facts ∙ sym (withdraw_at (all_facts c.self.inside.blocks.used) c.self.invariant.ascending c.args.id _ (rw c.used_blocks.ensures at c.in-Ok.ensures.id)))

pub returns-in-Ok-clause-had : goal.returns-in-Ok-clause-had
returns-in-Ok-clause-had c =
    let facts = all_facts c.self.inside.blocks.used in
    let p = place_in_all c.self.inside.blocks.used c.in-Ok.place.block c.in-Ok.place.at in
    rw (← c.self.view_is) (ap Some (sym (get_or_from_slice_get facts p _ no_fact c.remove-fact.ensures.had)) ∙ sym (fact_of_at facts c.self.invariant.ascending c.args.id p (rw c.used_blocks.ensures at c.in-Ok.ensures.id)))

pub returns-in-Err-clause-facts : goal.returns-in-Err-clause-facts
returns-in-Err-clause-facts c =
    rw (← c.self.view_is) (sym (withdraw_gap (all_facts c.self.inside.blocks.used) c.args.id _ (rw c.used_blocks.ensures at c.in-Err.ensures.gap)))

pub returns-in-Err-clause-had : goal.returns-in-Err-clause-had
returns-in-Err-clause-had c =
    rw (← c.self.view_is) (sym (fact_of_gap (all_facts c.self.inside.blocks.used) c.args.id _ (rw c.used_blocks.ensures at c.in-Err.ensures.gap)))

pub returns-in-Ok-clause-ascending : goal.returns-in-Ok-clause-ascending
returns-in-Ok-clause-ascending c =
    let here = rw c.used_blocks.ensures at c.in-Ok.ensures.id in
    (kept_after_remove c.self.inside.blocks c.remove-fact.new.self _ _ _ c.self.invariant here.in_range c.remove-fact.ensures.facts c.remove-fact.ensures.filled c.remove-fact.ensures.spare).ascending
