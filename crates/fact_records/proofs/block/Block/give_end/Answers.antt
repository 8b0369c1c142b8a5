use Rattle.std.proofs.Common.{◌++◌, take, drop, ap, ◌∙◌, arith, length-drop}
use Rattle.std.specs.Vec.{vec_capacity}
use Rattle.fact_records.specs.FactColumns.{facts_of}
use Rattle.fact_records.proofs.FactColumns.{facts-append, facts-drop, facts-take, length-columns}
use Rattle.fact_records.proofs.block.Block.give_end.Goals as goal

pub give_end-requires-clause-place : goal.give_end-requires-clause-place
give_end-requires-clause-place c = omega (arith, length-columns c.self.inside.ids.items (vec_capacity c.self.inside.ids) c.self.inside.regions c.self.inside.values c.args.self.now c.self.invariant c.self.view_is, c.requires.place)

pub give_end-requires-clause-room : goal.give_end-requires-clause-room
give_end-requires-clause-room c = omega (arith, length-columns c.self.inside.ids.items (vec_capacity c.self.inside.ids) c.self.inside.regions c.self.inside.values c.args.self.now c.self.invariant c.self.view_is, length-columns c.next.inside.ids.items (vec_capacity c.next.inside.ids) c.next.inside.regions c.next.inside.values c.args.next.now c.next.invariant c.next.view_is, c.requires.room, c.requires.place, c.next.invariant.room)

pub give_end-requires-2 : goal.give_end-requires-2
give_end-requires-2 c =
    let these = length-columns c.self.inside.ids.items (vec_capacity c.self.inside.ids) c.self.inside.regions c.self.inside.values c.args.self.now c.self.invariant c.self.view_is in
    let others = length-columns c.next.inside.ids.items (vec_capacity c.next.inside.ids) c.next.inside.regions c.next.inside.values c.args.next.now c.next.invariant c.next.view_is in
    (omega arith, (omega (arith, these, c.requires.place, c.self.invariant.with_regions), omega (arith, these, others, c.requires.room, c.self.invariant.with_regions, c.next.invariant.with_regions)))

pub give_end-requires-3 : goal.give_end-requires-3
give_end-requires-3 c =
    let these = length-columns c.self.inside.ids.items (vec_capacity c.self.inside.ids) c.self.inside.regions c.self.inside.values c.args.self.now c.self.invariant c.self.view_is in
    let others = length-columns c.next.inside.ids.items (vec_capacity c.next.inside.ids) c.next.inside.regions c.next.inside.values c.args.next.now c.next.invariant c.next.view_is in
    (omega arith, (omega (arith, these, c.requires.place, c.self.invariant.with_values), omega (arith, these, others, c.requires.room, c.self.invariant.with_values, c.next.invariant.with_values)))

pub returns-clause-front : goal.returns-clause-front
returns-clause-front c =
    ap (λ l. facts_of l c.give_end-2.new.self c.give_end-3.new.self) c.give_end.ensures.front
    ∙ ap (λ l. facts_of (take c.args.from c.self.inside.ids.items) l c.give_end-3.new.self) c.give_end-2.ensures.front
    ∙ ap (λ l. facts_of (take c.args.from c.self.inside.ids.items) (take c.args.from c.self.inside.regions) l) c.give_end-3.ensures.front
    ∙ facts-take c.args.from c.self.inside.ids.items c.self.inside.regions c.self.inside.values
    ∙ ap (λ l. take c.args.from l) c.self.view_is

pub returns-clause-back : goal.returns-clause-back
returns-clause-back c =
    let end = facts-append (drop c.args.from c.self.inside.ids.items) c.next.inside.ids.items (drop c.args.from c.self.inside.regions) c.next.inside.regions (drop c.args.from c.self.inside.values) c.next.inside.values (omega (arith, c.self.invariant.with_regions, length-drop c.args.from c.self.inside.ids.items, length-drop c.args.from c.self.inside.regions)) (omega (arith, c.self.invariant.with_values, length-drop c.args.from c.self.inside.ids.items, length-drop c.args.from c.self.inside.values)) in
    ap (λ l. facts_of l c.give_end-2.new.next c.give_end-3.new.next) c.give_end.ensures.back
    ∙ ap (λ l. facts_of (drop c.args.from c.self.inside.ids.items ++ c.next.inside.ids.items) l c.give_end-3.new.next) c.give_end-2.ensures.back
    ∙ ap (λ l. facts_of (drop c.args.from c.self.inside.ids.items ++ c.next.inside.ids.items) (drop c.args.from c.self.inside.regions ++ c.next.inside.regions) l) c.give_end-3.ensures.back
    ∙ end
    ∙ ap (λ l. l ++ facts_of c.next.inside.ids.items c.next.inside.regions c.next.inside.values) (facts-drop c.args.from c.self.inside.ids.items c.self.inside.regions c.self.inside.values c.self.invariant.with_regions c.self.invariant.with_values ∙ ap (λ l. drop c.args.from l) c.self.view_is)
    ∙ ap (λ l. drop c.args.from c.args.self.now ++ l) c.next.view_is
