use Rattle.std.proofs.Common.{Some, refl, sym, ap, ◌∙◌, arith}
use Rattle.std.proofs.lemmas.Option.{get_or_from_slice_get}
use Rattle.fact_records.specs.BlockList.{all_facts, place_in_all}
use Rattle.fact_records.specs.Cut.{no_fact}
use Rattle.fact_records.proofs.Ascending.{put_at, put_gap, fact_of_at, fact_of_gap}
use Rattle.fact_records.proofs.Keeping.{room_for_new, kept_after_insert, kept_after_set}
use Rattle.fact_records.proofs.fact_list.FactList.put.Goals as goal

pub insert-requires-clause-spare : goal.insert-requires-clause-spare
insert-requires-clause-spare c =
    let some = room_for_new (all_facts c.self.inside.blocks.used) c.args.fact.id _ _ (rw c.used_blocks.ensures at c.in-Err.ensures.gap) (rw (← c.self.view_is) at c.requires) in
    omega (arith, some, c.self.invariant.room)

pub insert-requires-clause-few : goal.insert-requires-clause-few
insert-requires-clause-few c =
    let some = room_for_new (all_facts c.self.inside.blocks.used) c.args.fact.id _ _ (rw c.used_blocks.ensures at c.in-Err.ensures.gap) (rw (← c.self.view_is) at c.requires) in
    omega (arith, some, c.self.invariant.fits, c.self.invariant.counted)

pub overflow_add-self : goal.overflow_add-self
overflow_add-self c =
    let some = room_for_new (all_facts c.self.inside.blocks.used) c.args.fact.id _ _ (rw c.used_blocks.ensures at c.in-Err.ensures.gap) (rw (← c.self.view_is) at c.requires) in
    omega (arith, some, c.self.invariant.fits)

pub overflow_sub-self : goal.overflow_sub-self
overflow_sub-self c =
    room_for_new (all_facts c.self.inside.blocks.used) c.args.fact.id _ _ (rw c.used_blocks.ensures at c.in-Err.ensures.gap) (rw (← c.self.view_is) at c.requires)

pub invariant_of-self : goal.invariant_of-self
invariant_of-self c =
    kept_after_set c.self.inside.blocks c.replace.new.self _ _ _ c.self.invariant c.args.fact (rw c.used_blocks.ensures at c.in-Ok.ensures.id) c.replace.ensures.facts c.replace.ensures.filled c.replace.ensures.spare

pub invariant_of-self-in-Err : goal.invariant_of-self-in-Err
invariant_of-self-in-Err c =
    let some = room_for_new (all_facts c.self.inside.blocks.used) c.args.fact.id _ _ (rw c.used_blocks.ensures at c.in-Err.ensures.gap) (rw (← c.self.view_is) at c.requires) in
    kept_after_insert c.self.inside.blocks c.insert.new.self _ _ _ c.self.invariant c.args.fact (rw c.used_blocks.ensures at c.in-Err.ensures.gap) some c.insert.ensures.facts c.insert.ensures.filled c.insert.ensures.spare

pub returns-in-Ok-clause-facts : goal.returns-in-Ok-clause-facts
returns-in-Ok-clause-facts c =
    rw (← c.self.view_is) (c.replace.ensures.facts ∙ sym (put_at (all_facts c.self.inside.blocks.used) c.self.invariant.ascending c.args.fact.id _ (rw c.used_blocks.ensures at c.in-Ok.ensures.id) c.args.fact refl))

pub returns-in-Ok-clause-had : goal.returns-in-Ok-clause-had
returns-in-Ok-clause-had c =
    let facts = all_facts c.self.inside.blocks.used in
    let p = place_in_all c.self.inside.blocks.used c.in-Ok.place.block c.in-Ok.place.at in
    rw (← c.self.view_is) (ap Some (sym (get_or_from_slice_get facts p _ no_fact c.replace.ensures.had)) ∙ sym (fact_of_at facts c.self.invariant.ascending c.args.fact.id p (rw c.used_blocks.ensures at c.in-Ok.ensures.id)))

pub returns-in-Ok-clause-ascending : goal.returns-in-Ok-clause-ascending
returns-in-Ok-clause-ascending c =
    (kept_after_set c.self.inside.blocks c.replace.new.self _ _ _ c.self.invariant c.args.fact (rw c.used_blocks.ensures at c.in-Ok.ensures.id) c.replace.ensures.facts c.replace.ensures.filled c.replace.ensures.spare).ascending

pub returns-in-Err-clause-facts : goal.returns-in-Err-clause-facts
returns-in-Err-clause-facts c =
    rw (← c.self.view_is) (c.insert.ensures.facts ∙ sym (put_gap (all_facts c.self.inside.blocks.used) c.args.fact.id _ (rw c.used_blocks.ensures at c.in-Err.ensures.gap) c.args.fact refl))

pub returns-in-Err-clause-had : goal.returns-in-Err-clause-had
returns-in-Err-clause-had c =
    rw (← c.self.view_is) (sym (fact_of_gap (all_facts c.self.inside.blocks.used) c.args.fact.id _ (rw c.used_blocks.ensures at c.in-Err.ensures.gap)))

pub returns-in-Err-clause-ascending : goal.returns-in-Err-clause-ascending
returns-in-Err-clause-ascending c =
    let some = room_for_new (all_facts c.self.inside.blocks.used) c.args.fact.id _ _ (rw c.used_blocks.ensures at c.in-Err.ensures.gap) (rw (← c.self.view_is) at c.requires) in
    (kept_after_insert c.self.inside.blocks c.insert.new.self _ _ _ c.self.invariant c.args.fact (rw c.used_blocks.ensures at c.in-Err.ensures.gap) some c.insert.ensures.facts c.insert.ensures.filled c.insert.ensures.spare).ascending
