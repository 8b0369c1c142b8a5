use Rattle.std.proofs.Common.{◌≤◌, ◌++◌, take, drop, refl, ap, ◌∙◌, arith, length-drop}
use Rattle.std.specs.Vec.{vec_capacity}
use Rattle.std.proofs.lemmas.List.Sums.{sum_by-take-drop}
use Rattle.std.proofs.lemmas.List.Elements.{All-drop}
use Rattle.fact_records.specs.ShortLists.{lists_of}
use Rattle.fact_records.proofs.LaidOut.{laid-append, laid-drop, laid-take, length-seen, room-both}
use Rattle.fact_records.proofs.ShortLists.{lists-append, lists-drop, lists-take}
use Rattle.fact_records.proofs.short_lists.ShortLists.give_end.Goals as goal

pub begin-begin-requires-clause-place : goal.begin-begin-requires-clause-place
begin-begin-requires-clause-place g c = omega (arith, length-seen c.self.inside.lengths c.self.inside.items.items c.args.self.now c.self.view_is, c.requires.place)

pub give_end-requires-clause-room : goal.give_end-requires-clause-room
give_end-requires-clause-room g c =
    let these = length-seen c.self.inside.lengths c.self.inside.items.items c.args.self.now c.self.view_is in
    let others = length-seen c.next.inside.lengths c.next.inside.items.items c.args.next.now c.next.view_is in
    room-both g.row.MOST (drop c.args.from c.self.inside.lengths) c.next.inside.lengths _ _ _ (All-drop (λ n. n ≤ g.row.MOST) c.args.from c.self.inside.lengths c.self.invariant.short) c.next.invariant.short (omega (arith, c.self.invariant.whole, c.begin-begin.ensures, sum_by-take-drop (λ x. x) c.self.inside.lengths c.args.from)) c.next.invariant.whole (omega (arith, these, others, c.requires.place, c.requires.room, length-drop c.args.from c.self.inside.lengths)) c.next.invariant.room

pub give_end-requires-2-clause-place : goal.give_end-requires-2-clause-place
give_end-requires-2-clause-place g c = omega (arith, length-seen c.self.inside.lengths c.self.inside.items.items c.args.self.now c.self.view_is, c.requires.place)

pub give_end-requires-2-clause-room : goal.give_end-requires-2-clause-room
give_end-requires-2-clause-room g c =
    let these = length-seen c.self.inside.lengths c.self.inside.items.items c.args.self.now c.self.view_is in
    let others = length-seen c.next.inside.lengths c.next.inside.items.items c.args.next.now c.next.view_is in
    omega (arith, these, others, c.requires.room)

pub invariant_of-self : goal.invariant_of-self
invariant_of-self g c =
    let these = length-seen c.self.inside.lengths c.self.inside.items.items c.args.self.now c.self.view_is in
    laid-take g.row.MOST c.self.inside.lengths c.give_end-2.new.self c.self.inside.items.items c.give_end.new.list.items (vec_capacity c.self.inside.items) (vec_capacity c.give_end.new.list) c.args.from c.begin-begin.result c.self.invariant (omega (arith, these, c.requires.place)) c.begin-begin.ensures c.give_end-2.ensures.front c.give_end.ensures.front c.give_end.ensures.room

pub invariant_of-next : goal.invariant_of-next
invariant_of-next g c =
    let these = length-seen c.self.inside.lengths c.self.inside.items.items c.args.self.now c.self.view_is in
    let others = length-seen c.next.inside.lengths c.next.inside.items.items c.args.next.now c.next.view_is in
    let end = laid-drop g.row.MOST c.self.inside.lengths (drop c.args.from c.self.inside.lengths) c.self.inside.items.items (drop c.begin-begin.result c.self.inside.items.items) (vec_capacity c.self.inside.items) (vec_capacity c.self.inside.items) c.args.from c.begin-begin.result c.self.invariant c.begin-begin.ensures refl refl (omega arith) in
    laid-append g.row.MOST (drop c.args.from c.self.inside.lengths) c.next.inside.lengths c.give_end-2.new.next (drop c.begin-begin.result c.self.inside.items.items) c.next.inside.items.items c.give_end.new.next.items (vec_capacity c.self.inside.items) (vec_capacity c.next.inside.items) (vec_capacity c.give_end.new.next) end c.next.invariant (omega (arith, these, others, c.requires.place, c.requires.room, length-drop c.args.from c.self.inside.lengths)) c.give_end-2.ensures.back c.give_end.ensures.back (omega (arith, c.next.invariant.room, c.give_end.ensures.next_room))

pub returns-clause-front : goal.returns-clause-front
returns-clause-front g c =
    ap (λ l. lists_of l c.give_end.new.list.items) c.give_end-2.ensures.front ∙ ap (λ l. lists_of (take c.args.from c.self.inside.lengths) l) c.give_end.ensures.front ∙ lists-take c.args.from c.begin-begin.result c.self.inside.lengths c.self.inside.items.items c.begin-begin.ensures ∙ ap (λ l. take c.args.from l) c.self.view_is

pub returns-clause-back : goal.returns-clause-back
returns-clause-back g c =
    let end = laid-drop g.row.MOST c.self.inside.lengths (drop c.args.from c.self.inside.lengths) c.self.inside.items.items (drop c.begin-begin.result c.self.inside.items.items) (vec_capacity c.self.inside.items) (vec_capacity c.self.inside.items) c.args.from c.begin-begin.result c.self.invariant c.begin-begin.ensures refl refl (omega arith) in
    ap (λ l. lists_of l c.give_end.new.next.items) c.give_end-2.ensures.back ∙ ap (λ l. lists_of (drop c.args.from c.self.inside.lengths ++ c.next.inside.lengths) l) c.give_end.ensures.back ∙ lists-append (drop c.args.from c.self.inside.lengths) c.next.inside.lengths (drop c.begin-begin.result c.self.inside.items.items) c.next.inside.items.items end.whole ∙ ap (λ l. l ++ lists_of c.next.inside.lengths c.next.inside.items.items) (lists-drop c.args.from c.begin-begin.result c.self.inside.lengths c.self.inside.items.items c.begin-begin.ensures ∙ ap (λ l. drop c.args.from l) c.self.view_is) ∙ ap (λ l. drop c.args.from c.args.self.now ++ l) c.next.view_is
