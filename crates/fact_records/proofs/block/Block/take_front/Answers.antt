use Rattle.std.proofs.Common.{◌++◌, take, drop, ap, ◌∙◌, arith}
use Rattle.std.specs.Vec.{vec_capacity}
use Rattle.fact_records.specs.FactColumns.{facts_of}
use Rattle.fact_records.proofs.FactColumns.{facts-append, facts-drop, facts-take, length-columns}
use Rattle.fact_records.proofs.block.Block.take_front.Goals as goal

pub take_front-requires-clause-place : goal.take_front-requires-clause-place
take_front-requires-clause-place c = omega (arith, length-columns c.next.inside.ids.items (vec_capacity c.next.inside.ids) c.next.inside.regions c.next.inside.values c.args.next.now c.next.invariant c.next.view_is, c.requires.place)

pub take_front-requires-clause-room : goal.take_front-requires-clause-room
take_front-requires-clause-room c = omega (arith, length-columns c.self.inside.ids.items (vec_capacity c.self.inside.ids) c.self.inside.regions c.self.inside.values c.args.self.now c.self.invariant c.self.view_is, c.requires.room, c.self.invariant.room)

pub take_front-requires-2 : goal.take_front-requires-2
take_front-requires-2 c =
    let these = length-columns c.self.inside.ids.items (vec_capacity c.self.inside.ids) c.self.inside.regions c.self.inside.values c.args.self.now c.self.invariant c.self.view_is in
    let others = length-columns c.next.inside.ids.items (vec_capacity c.next.inside.ids) c.next.inside.regions c.next.inside.values c.args.next.now c.next.invariant c.next.view_is in
    (omega arith, (omega (arith, others, c.requires.place, c.next.invariant.with_regions), omega (arith, these, c.requires.room, c.self.invariant.with_regions)))

pub take_front-requires-3 : goal.take_front-requires-3
take_front-requires-3 c =
    let these = length-columns c.self.inside.ids.items (vec_capacity c.self.inside.ids) c.self.inside.regions c.self.inside.values c.args.self.now c.self.invariant c.self.view_is in
    let others = length-columns c.next.inside.ids.items (vec_capacity c.next.inside.ids) c.next.inside.regions c.next.inside.values c.args.next.now c.next.invariant c.next.view_is in
    (omega arith, (omega (arith, others, c.requires.place, c.next.invariant.with_values), omega (arith, these, c.requires.room, c.self.invariant.with_values)))

pub returns-clause-front : goal.returns-clause-front
returns-clause-front c =
    ap (λ l. facts_of l c.take_front-2.new.self c.take_front-3.new.self) c.take_front.ensures.front
    ∙ ap (λ l. facts_of (c.self.inside.ids.items ++ take c.args.count c.next.inside.ids.items) l c.take_front-3.new.self) c.take_front-2.ensures.front
    ∙ ap (λ l. facts_of (c.self.inside.ids.items ++ take c.args.count c.next.inside.ids.items) (c.self.inside.regions ++ take c.args.count c.next.inside.regions) l) c.take_front-3.ensures.front
    ∙ facts-append c.self.inside.ids.items (take c.args.count c.next.inside.ids.items) c.self.inside.regions (take c.args.count c.next.inside.regions) c.self.inside.values (take c.args.count c.next.inside.values) c.self.invariant.with_regions c.self.invariant.with_values
    ∙ ap (λ l. l ++ facts_of (take c.args.count c.next.inside.ids.items) (take c.args.count c.next.inside.regions) (take c.args.count c.next.inside.values)) c.self.view_is
    ∙ ap (λ l. c.args.self.now ++ l) (facts-take c.args.count c.next.inside.ids.items c.next.inside.regions c.next.inside.values ∙ ap (λ l. take c.args.count l) c.next.view_is)

pub returns-clause-back : goal.returns-clause-back
returns-clause-back c =
    ap (λ l. facts_of l c.take_front-2.new.next c.take_front-3.new.next) c.take_front.ensures.back
    ∙ ap (λ l. facts_of (drop c.args.count c.next.inside.ids.items) l c.take_front-3.new.next) c.take_front-2.ensures.back
    ∙ ap (λ l. facts_of (drop c.args.count c.next.inside.ids.items) (drop c.args.count c.next.inside.regions) l) c.take_front-3.ensures.back
    ∙ facts-drop c.args.count c.next.inside.ids.items c.next.inside.regions c.next.inside.values c.next.invariant.with_regions c.next.invariant.with_values
    ∙ ap (λ l. drop c.args.count l) c.next.view_is
