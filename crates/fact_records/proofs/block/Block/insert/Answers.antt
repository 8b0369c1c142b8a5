use Rattle.std.proofs.Common.{◌≤◌, length, ap, ◌∙◌, arith}
use Rattle.std.specs.List.{insert}
use Rattle.std.specs.Vec.{vec_capacity}
use Rattle.fact_records.specs.FactColumns.{facts_of}
use Rattle.fact_records.proofs.FactColumns.{facts-insert, length-columns}
use Rattle.fact_records.proofs.block.Block.insert.Goals as goal

pub insert-requires : goal.insert-requires
insert-requires c =
    let count = length-columns c.self.inside.ids.items (vec_capacity c.self.inside.ids) c.self.inside.regions c.self.inside.values c.args.self.now c.self.invariant c.self.view_is in
    let short : length c.nodes.result.now ≤ 6 = omega (arith, ap length c.nodes.ensures.nodes, c.nodes.ensures.few) in
    (omega arith, (omega (arith, count, c.requires.place, c.self.invariant.with_regions), (omega (arith, count, c.requires.room, c.self.invariant.with_regions), short)))

pub insert-requires-2 : goal.insert-requires-2
insert-requires-2 c =
    let count = length-columns c.self.inside.ids.items (vec_capacity c.self.inside.ids) c.self.inside.regions c.self.inside.values c.args.self.now c.self.invariant c.self.view_is in
    let short : length c.as_slice.result.now ≤ 7 = omega (arith, ap length c.as_slice.ensures.values, c.as_slice.ensures.few) in
    (omega arith, (omega (arith, count, c.requires.place, c.self.invariant.with_values), (omega (arith, count, c.requires.room, c.self.invariant.with_values), short)))

pub insert_in_room-requires-clause-place : goal.insert_in_room-requires-clause-place
insert_in_room-requires-clause-place c = omega (arith, length-columns c.self.inside.ids.items (vec_capacity c.self.inside.ids) c.self.inside.regions c.self.inside.values c.args.self.now c.self.invariant c.self.view_is, c.requires.place, c.self.inside.ids.ok)

pub insert_in_room-requires-clause-room : goal.insert_in_room-requires-clause-room
insert_in_room-requires-clause-room c = omega (arith, length-columns c.self.inside.ids.items (vec_capacity c.self.inside.ids) c.self.inside.regions c.self.inside.values c.args.self.now c.self.invariant c.self.view_is, c.requires.room, c.self.inside.ids.ok, c.self.invariant.room)

pub returns : goal.returns
returns c =
    let count = length-columns c.self.inside.ids.items (vec_capacity c.self.inside.ids) c.self.inside.regions c.self.inside.values c.args.self.now c.self.invariant c.self.view_is in
    ap (λ l. facts_of l c.insert.new.self c.insert-2.new.self) c.insert_in_room.ensures.items
    ∙ ap (λ l. facts_of (insert c.self.inside.ids.items c.args.at c.args.fact.id) l c.insert-2.new.self) (c.insert.ensures ∙ ap (λ l. insert c.self.inside.regions c.args.at l) c.nodes.ensures.nodes)
    ∙ ap (λ l. facts_of (insert c.self.inside.ids.items c.args.at c.args.fact.id) (insert c.self.inside.regions c.args.at c.args.fact.region) l) (c.insert-2.ensures ∙ ap (λ l. insert c.self.inside.values c.args.at l) c.as_slice.ensures.values)
    ∙ facts-insert c.self.inside.ids.items c.self.inside.regions c.self.inside.values c.args.at c.args.fact.id c.args.fact.region c.args.fact.cols c.self.invariant.with_regions c.self.invariant.with_values (omega (arith, count, c.requires.place))
    ∙ ap (λ l. insert l c.args.at c.args.fact) c.self.view_is
