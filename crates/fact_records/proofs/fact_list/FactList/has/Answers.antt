-- Where the id is found, a fact has it.
use Rattle.std.proofs.Common.{sym, ap, ◌∙◌}
use Rattle.std.specs.Prelude.{is_some, ◌==◌}
use Rattle.cube_model.specs.declared.edit.Fact.{Fact}
use Rattle.fact_records.specs.BlockList.{all_facts, place_in_all}
use Rattle.fact_records.proofs.Ascending.{fact_of_at, fact_of_gap}
use Rattle.fact_records.proofs.HasIds.{is_some-find}
use Rattle.fact_records.proofs.fact_list.FactList.has.Goals as goal

pub returns-in-Ok : goal.returns-in-Ok
returns-in-Ok c =
    let used = c.self.inside.blocks.used in
    let p = place_in_all used c.in-Ok.field-0.block c.in-Ok.field-0.at in
    let here = rw c.used_blocks.ensures at c.in-Ok.ensures.id in
    rw (← c.self.view_is) (sym (ap is_some (fact_of_at (all_facts used) c.self.invariant.ascending c.args.id p here)) ∙ is_some-find (λ (f : Fact). f.id == c.args.id) (all_facts used))

pub returns-in-Err : goal.returns-in-Err
returns-in-Err c =
    let used = c.self.inside.blocks.used in
    let p = place_in_all used c.in-Err.field-0.block c.in-Err.field-0.at in
    let gap = rw c.used_blocks.ensures at c.in-Err.ensures.gap in
    rw (← c.self.view_is) (sym (ap is_some (fact_of_gap (all_facts used) c.args.id p gap)) ∙ is_some-find (λ (f : Fact). f.id == c.args.id) (all_facts used))
