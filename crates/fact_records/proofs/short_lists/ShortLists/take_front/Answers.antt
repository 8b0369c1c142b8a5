use Rattle.std.proofs.Common.{◌≤◌, ◌++◌, length, take, drop, refl, ap, sym, ◌∙◌, arith}
use Rattle.std.specs.Vec.{vec_capacity}
use Rattle.std.proofs.lemmas.List.{length-take-le}
use Rattle.std.proofs.lemmas.List.Elements.{All-take}
use Rattle.fact_records.specs.ShortLists.{lists_of}
use Rattle.fact_records.proofs.LaidOut.{laid-append, laid-drop, laid-take, length-seen, room-both}
use Rattle.fact_records.proofs.ShortLists.{lists-append, lists-drop, lists-take}
use Rattle.fact_records.proofs.short_lists.ShortLists.take_front.Goals as goal

pub begin-begin-requires-clause-place : goal.begin-begin-requires-clause-place
begin-begin-requires-clause-place g c = omega (arith, length-seen c.next.inside.lengths c.next.inside.items.items c.args.next.now c.next.view_is, c.requires.place)

pub take_front-requires-clause-room : goal.take_front-requires-clause-room
take_front-requires-clause-room g c =
    let these = length-seen c.self.inside.lengths c.self.inside.items.items c.args.self.now c.self.view_is in
    let others = length-seen c.next.inside.lengths c.next.inside.items.items c.args.next.now c.next.view_is in
    let place : c.args.count ≤ length c.next.inside.lengths = omega (arith, others, c.requires.place) in
    room-both g.row.MOST c.self.inside.lengths (take c.args.count c.next.inside.lengths) _ _ _ c.self.invariant.short (All-take (λ n. n ≤ g.row.MOST) c.args.count c.next.inside.lengths c.next.invariant.short) c.self.invariant.whole (sym c.begin-begin.ensures) (omega (arith, these, c.requires.room, length-take-le c.args.count c.next.inside.lengths place)) c.self.invariant.room

pub take_front-requires-2-clause-place : goal.take_front-requires-2-clause-place
take_front-requires-2-clause-place g c = omega (arith, length-seen c.next.inside.lengths c.next.inside.items.items c.args.next.now c.next.view_is, c.requires.place)

pub take_front-requires-2-clause-room : goal.take_front-requires-2-clause-room
take_front-requires-2-clause-room g c = omega (arith, length-seen c.self.inside.lengths c.self.inside.items.items c.args.self.now c.self.view_is, c.requires.room)

pub invariant_of-self : goal.invariant_of-self
invariant_of-self g c =
    let these = length-seen c.self.inside.lengths c.self.inside.items.items c.args.self.now c.self.view_is in
    let others = length-seen c.next.inside.lengths c.next.inside.items.items c.args.next.now c.next.view_is in
    let place : c.args.count ≤ length c.next.inside.lengths = omega (arith, others, c.requires.place) in
    let front = laid-take g.row.MOST c.next.inside.lengths (take c.args.count c.next.inside.lengths) c.next.inside.items.items (take c.begin-begin.result c.next.inside.items.items) (vec_capacity c.next.inside.items) (vec_capacity c.next.inside.items) c.args.count c.begin-begin.result c.next.invariant place c.begin-begin.ensures refl refl (omega arith) in
    laid-append g.row.MOST c.self.inside.lengths (take c.args.count c.next.inside.lengths) c.take_front-2.new.self c.self.inside.items.items (take c.begin-begin.result c.next.inside.items.items) c.take_front.new.list.items (vec_capacity c.self.inside.items) (vec_capacity c.next.inside.items) (vec_capacity c.take_front.new.list) c.self.invariant front (omega (arith, these, c.requires.room, length-take-le c.args.count c.next.inside.lengths place)) c.take_front-2.ensures.front c.take_front.ensures.front (omega (arith, c.self.invariant.room, c.take_front.ensures.room))

pub invariant_of-next : goal.invariant_of-next
invariant_of-next g c = laid-drop g.row.MOST c.next.inside.lengths c.take_front-2.new.next c.next.inside.items.items c.take_front.new.next.items (vec_capacity c.next.inside.items) (vec_capacity c.take_front.new.next) c.args.count c.begin-begin.result c.next.invariant c.begin-begin.ensures c.take_front-2.ensures.back c.take_front.ensures.back c.take_front.ensures.next_room

pub returns-clause-front : goal.returns-clause-front
returns-clause-front g c =
    ap (λ l. lists_of l c.take_front.new.list.items) c.take_front-2.ensures.front ∙ ap (λ l. lists_of (c.self.inside.lengths ++ take c.args.count c.next.inside.lengths) l) c.take_front.ensures.front ∙ lists-append c.self.inside.lengths (take c.args.count c.next.inside.lengths) c.self.inside.items.items (take c.begin-begin.result c.next.inside.items.items) c.self.invariant.whole ∙ ap (λ l. l ++ lists_of (take c.args.count c.next.inside.lengths) (take c.begin-begin.result c.next.inside.items.items)) c.self.view_is ∙ ap (λ l. c.args.self.now ++ l) (lists-take c.args.count c.begin-begin.result c.next.inside.lengths c.next.inside.items.items c.begin-begin.ensures ∙ ap (λ l. take c.args.count l) c.next.view_is)

pub returns-clause-back : goal.returns-clause-back
returns-clause-back g c =
    ap (λ l. lists_of l c.take_front.new.next.items) c.take_front-2.ensures.back ∙ ap (λ l. lists_of (drop c.args.count c.next.inside.lengths) l) c.take_front.ensures.back ∙ lists-drop c.args.count c.begin-begin.result c.next.inside.lengths c.next.inside.items.items c.begin-begin.ensures ∙ ap (λ l. drop c.args.count l) c.next.view_is
