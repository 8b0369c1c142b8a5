use Rattle.std.proofs.Common.{Some, sym, ap, ◌∙◌}
use Rattle.std.proofs.lemmas.Option.{get_or_from_slice_get}
use Rattle.fact_records.specs.BlockList.{all_facts, place_in_all}
use Rattle.fact_records.specs.Cut.{no_fact}
use Rattle.fact_records.proofs.Ascending.{fact_of_at, fact_of_gap}
use Rattle.fact_records.proofs.fact_list.FactList.get.Goals as goal

pub returns-in-Ok : goal.returns-in-Ok
returns-in-Ok c =
    let used = c.self.inside.blocks.used in
    let p = place_in_all used c.in-Ok.place.block c.in-Ok.place.at in
    let here = rw c.used_blocks.ensures at c.in-Ok.ensures.id in
    let found = rw c.used_blocks-in-Ok.ensures at c.fact_at.ensures in
    rw (← c.self.view_is) (ap Some (sym (get_or_from_slice_get (all_facts used) p _ no_fact found)) ∙ sym (fact_of_at (all_facts used) c.self.invariant.ascending c.args.id p here))

pub returns-in-Err : goal.returns-in-Err
returns-in-Err c =
    let used = c.self.inside.blocks.used in
    let p = place_in_all used c.in-Err.field-0.block c.in-Err.field-0.at in
    rw (← c.self.view_is) (sym (fact_of_gap (all_facts used) c.args.id p (rw c.used_blocks.ensures at c.in-Err.ensures.gap)))
