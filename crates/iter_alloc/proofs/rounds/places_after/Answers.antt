-- Each round is one by how the places stand.
use Rattle.iter_alloc.proofs.rounds.places_after.Goals as goal
use Rattle.iter_alloc.specs.declared.rounds.Place.{Place}
use Rattle.iter_alloc.proofs.PlaceLists.{levels-long, taken}
use Rattle.iter_alloc.proofs.Standing.{parts-within, standing-fits, standing-low, standing-next, standing-start}
use Rattle.iter_alloc.specs.Forest.{at}
use Rattle.iter_alloc.specs.Places.{parts, amounts, levels_in, nexts_in, AreLevels, IsRaised}
use Rattle.std.proofs.Common.{◌≡◌, ℕ, List, ◌++◌, ◌+◌, ◌^◌, ◌<◌, take, drop, length, ap, sym, subst, ◌∙◌, arith}

pub loop-done-init : goal.loop-done-init
loop-done-init c = standing-start c.args.begun.now (parts c.args.spans.now c.args.flat.now) _ _ c.in_ok-places.ensures.levels c.in_ok-places.ensures.nexts

pub add_round-requires-clause-levels : goal.add_round-requires-clause-levels
add_round-requires-clause-levels c =
    subst (λ (ps : List Place). AreLevels (levels_in ps)) (sym c.deref_mut.ensures.value)
    (standing-low c.args.begun.now (parts c.args.spans.now c.args.flat.now) c.loop-done.done _ _ c.loop-done.invariant c.requires.low)

pub add_round-requires-clause-fits : goal.add_round-requires-clause-fits
add_round-requires-clause-fits c =
    let all = parts c.args.spans.now c.args.flat.now in
    let within = parts-within c.args.spans.now c.args.flat.now (length c.args.begun.now) c.requires.placed.within in
    let long = levels-long c.loop-done.places.items in
    subst (λ (ps : List Place). (i : ℕ) → i < length ps → at (nexts_in ps) i + amounts (at (levels_in ps)) all i < 2 ^ 64) (sym c.deref_mut.ensures.value)
    (λ i inside. standing-fits c.args.begun.now all c.loop-done.done _ _ c.loop-done.invariant within c.requires.low i (omega (arith, inside, long, c.loop-done.invariant.as_many)))

pub loop-done-preserved : goal.loop-done-preserved
loop-done-preserved c =
    let all = parts c.args.spans.now c.args.flat.now in
    let within = parts-within c.args.spans.now c.args.flat.now (length c.args.begun.now) c.requires.placed.within in
    let adds = subst (λ (ps : List Place). IsRaised (amounts (at (levels_in ps)) all) (nexts_in ps) (nexts_in c.add_round.new.places)) c.deref_mut.ensures.value c.add_round.ensures.nexts in
    let added : take c.loop-done.places.len (c.add_round.new.places ++ drop (length c.add_round.new.places) c.loop-done.places.items) ≡ c.add_round.new.places = taken _ _ _ (omega arith) in
    let ended : take c.loop-done.places.len (c.end_round.new.places ++ drop (length c.end_round.new.places) (take c.loop-done.places.len (c.add_round.new.places ++ drop (length c.add_round.new.places) c.loop-done.places.items))) ≡ c.end_round.new.places = taken _ _ _ (omega arith) in
    let now = ap (λ (ps : List Place). levels_in ps) ended ∙ c.end_round.ensures.levels ∙ ap (λ (ps : List Place). nexts_in ps) (c.deref_mut-in-loop-done.ensures.value ∙ added) in
    let later = ap (λ (ps : List Place). nexts_in ps) ended ∙ c.end_round.ensures.nexts in
    standing-next c.args.begun.now all c.loop-done.done _ _ c.loop-done.invariant within _ _ _ adds now later
