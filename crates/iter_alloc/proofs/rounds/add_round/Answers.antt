-- The next spot's places are split off.
use Rattle.iter_alloc.proofs.rounds.add_round.Goals as goal
use Rattle.iter_alloc.specs.declared.rounds.Span.{Span}
use Rattle.iter_alloc.proofs.Sharing.{adding-fits, adding-low, adding-next, adding-start, adding-within}
use Rattle.iter_alloc.specs.Forest.{at}
use Rattle.iter_alloc.specs.Places.{parts, amount, levels_in, nexts_in, IsRaised}
use Rattle.std.proofs.Common.{ℕ, List, ◌+◌, ◌^◌, ◌<◌, get_or, length, sym, subst}
use Rattle.std.proofs.lemmas.List.{get_or_default}
use Rattle.std.proofs.lemmas.List.Elements.{All-take}
use Rattle.std.specs.Prelude.{All}

abbrev none : Span
none = record { len = 0; members = 0 }

pub loop-span-init : goal.loop-span-init
loop-span-init c = adding-start c.args.places.now c.args.spans.now c.args.flat.now c.requires.placed

pub add_shares-requires-clause-within : goal.add_shares-requires-clause-within
add_shares-requires-clause-within c =
    let spans = c.args.spans.now in
    let k = c.loop-span.span-index in
    let span = get_or spans k none in
    subst (λ (own : List ℕ). All (λ i. i < length c.loop-span.places) own) (sym c.split_at.ensures.front)
    (All-take (λ i. i < length c.loop-span.places) span.len c.loop-span.rest.now
    (adding-within (parts spans c.args.flat.now) c.args.places.now k spans span c.loop-span.rest.now c.loop-span.places c.loop-span-test.true (get_or_default spans k none span c.loop-span-test.true) c.loop-span.invariant))

pub add_shares-requires-clause-levels : goal.add_shares-requires-clause-levels
add_shares-requires-clause-levels c =
    let spans = c.args.spans.now in
    let k = c.loop-span.span-index in
    let span = get_or spans k none in
    adding-low (parts spans c.args.flat.now) c.args.places.now k spans span c.loop-span.rest.now c.loop-span.places c.loop-span-test.true (get_or_default spans k none span c.loop-span-test.true) c.loop-span.invariant c.requires.levels

pub add_shares-requires-clause-fits : goal.add_shares-requires-clause-fits
add_shares-requires-clause-fits c =
    let spans = c.args.spans.now in
    let k = c.loop-span.span-index in
    let span = get_or spans k none in
    subst (λ (own : List ℕ). (i : ℕ) → i < length c.loop-span.places → at (nexts_in c.loop-span.places) i + amount (at (levels_in c.loop-span.places)) i (record { own = own; members = span.members }) < 2 ^ 64) (sym c.split_at.ensures.front)
    (adding-fits (parts spans c.args.flat.now) c.args.places.now k spans span c.loop-span.rest.now c.loop-span.places c.loop-span-test.true (get_or_default spans k none span c.loop-span-test.true) c.loop-span.invariant (2 ^ 64) c.requires.fits)

pub loop-span-preserved : goal.loop-span-preserved
loop-span-preserved c =
    let spans = c.args.spans.now in
    let k = c.loop-span.span-index in
    let span = get_or spans k none in
    let adds = subst (λ (own : List ℕ). IsRaised (λ i. amount (at (levels_in c.loop-span.places)) i (record { own = own; members = span.members })) (nexts_in c.loop-span.places) (nexts_in c.add_shares.new.places)) c.split_at.ensures.front c.add_shares.ensures.nexts in
    adding-next (parts spans c.args.flat.now) c.args.places.now k spans span c.loop-span.rest.now c.loop-span.places c.loop-span-test.true (get_or_default spans k none span c.loop-span-test.true) c.loop-span.invariant
    c.add_shares.new.places c.split_at.result.1.now c.split_at.ensures.back c.add_shares.ensures.levels adds
