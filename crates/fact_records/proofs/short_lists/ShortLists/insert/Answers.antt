use Rattle.std.proofs.Common.{length, refl, ap, ◌∙◌, arith}
use Rattle.std.specs.List.{insert}
use Rattle.std.specs.Vec.{vec_capacity}
use Rattle.fact_records.specs.ShortLists.{lists_of}
use Rattle.fact_records.proofs.LaidOut.{laid-insert, length-seen, room-more}
use Rattle.fact_records.proofs.ShortLists.{lists-insert}
use Rattle.fact_records.proofs.short_lists.ShortLists.insert.Goals as goal

pub begin-begin-requires-clause-place : goal.begin-begin-requires-clause-place
begin-begin-requires-clause-place g c = omega (arith, length-seen c.self.inside.lengths c.self.inside.items.items c.args.self.now c.self.view_is, c.requires.place)

pub put_in-requires-clause-room : goal.put_in-requires-clause-room
put_in-requires-clause-room g c =
    let few = length-seen c.self.inside.lengths c.self.inside.items.items c.args.self.now c.self.view_is in
    room-more g.row.MOST c.self.inside.lengths (length c.self.inside.items.items) (vec_capacity c.self.inside.items) (length c.args.list.now) c.self.invariant (omega (arith, few, c.requires.room)) c.requires.short

pub insert-requires-clause-place : goal.insert-requires-clause-place
insert-requires-clause-place g c = omega (arith, length-seen c.self.inside.lengths c.self.inside.items.items c.args.self.now c.self.view_is, c.requires.place)

pub insert-requires-clause-room : goal.insert-requires-clause-room
insert-requires-clause-room g c = omega (arith, length-seen c.self.inside.lengths c.self.inside.items.items c.args.self.now c.self.view_is, c.requires.room)

pub invariant_of-self : goal.invariant_of-self
invariant_of-self g c =
    let few = length-seen c.self.inside.lengths c.self.inside.items.items c.args.self.now c.self.view_is in
    laid-insert g.row.MOST c.self.inside.lengths c.insert.new.self c.self.inside.items.items c.args.list.now c.put_in.new.list.items (vec_capacity c.self.inside.items) (vec_capacity c.put_in.new.list) c.args.at c.begin-begin.result c.self.invariant (omega (arith, few, c.requires.place)) (omega (arith, few, c.requires.room)) c.requires.short c.begin-begin.ensures c.insert.ensures c.put_in.ensures.items c.put_in.ensures.room

pub returns : goal.returns
returns g c =
    ap (λ l. lists_of l c.put_in.new.list.items) c.insert.ensures ∙ ap (λ l. lists_of (insert c.self.inside.lengths c.args.at (length c.args.list.now)) l) c.put_in.ensures.items ∙ lists-insert c.self.inside.lengths c.self.inside.items.items c.args.list.now c.args.at c.begin-begin.result (length c.args.list.now) c.self.invariant.whole c.begin-begin.ensures refl ∙ ap (λ l. insert l c.args.at c.args.list.now) c.self.view_is
