-- The portion of a spot more.
use Rattle.iter_alloc.proofs.portions.portions_by_places.Goals as goal
use Rattle.iter_alloc.specs.declared.rounds.Span.{Span}
use Rattle.iter_alloc.proofs.PortionSteps.{collect-next, Collecting}
use Rattle.iter_alloc.specs.Forest.{at}
use Rattle.iter_alloc.specs.Places.{levels_in, parts}
use Rattle.iter_alloc.specs.Portions.{portion_in}
use Rattle.std.proofs.Common.{ℕ, List, ◌+◌, get_or, drop, length, ap, sym, subst, ◌∙◌}
use Rattle.std.proofs.lemmas.List.{get_or_default}

abbrev none : Span
none = record { len = 0; members = 0 }

pub loop-span-preserved : goal.loop-span-preserved
loop-span-preserved c =
    let spans = c.deref-span-items.result.now in
    let value = c.deref-span-items.ensures.value in
    let all = parts c.args.layout.now.spans.items c.args.layout.now.flat.items in
    let count = length c.args.places.now in
    let k = c.loop-span.span-index in
    let span = get_or spans k none in
    let portion = portion_in c.args.inside.now c.args.layout.now.cells.keys (at (levels_in c.args.places.now)) in
    let here = subst (λ (ss : List Span). Collecting portion all count (drop k ss) c.loop-span.rest.now c.loop-span.portions.items) (sym value) c.loop-span.invariant in
    subst (λ (ss : List Span). Collecting portion all count (drop (k + 1) ss) c.split_at.result.1.now c.push.new.self.items) value
    (collect-next portion all count k spans span c.loop-span.rest.now c.loop-span.portions.items c.loop-span-test.true (get_or_default spans k none span c.loop-span-test.true) here c.portion_of.result c.split_at.result.1.now c.push.new.self.items
    (c.portion_of.ensures ∙ ap (λ (own : List ℕ). portion (record { own = own; members = 0 })) c.split_at.ensures.front) c.split_at.ensures.back c.in_ok-push.ensures.items)
