-- What is added to a place fits, since all that falls to it does.
use Rattle.iter_alloc.proofs.rounds.add_shares.Goals as goal
use Rattle.iter_alloc.proofs.Sharing.{giving-fits, giving-next, giving-share}
use Rattle.iter_alloc.specs.Forest.{at}
use Rattle.iter_alloc.specs.Places.{levels_in}
use Rattle.iter_alloc.specs.Rounds.{share_by}
use Rattle.std.proofs.Common.{ℕ, ◌*◌, ◌^◌, ◌<◌, get_or, length, ap, arith}
use Rattle.std.proofs.lemmas.List.{get_or_default}

pub overflow_mul-given : goal.overflow_mul-given
overflow_mul-given c =
    let places = c.args.places.now in
    let own = c.args.own.now in
    let x = get_or own c.loop-i.i-index 0 in
    let gets : ℕ → ℕ = λ i. c.args.members * share_by (at (levels_in places)) own i in
    let is = get_or_default own c.loop-i.i-index 0 x c.loop-i-test.true in
    let within : x < length c.loop-i.places = omega (arith, c.requires.within c.loop-i.i-index 0 c.loop-i-test.true) in
    let share = giving-share gets own places c.loop-i.i-index x c.loop-i.places c.loop-i-test.true is within c.loop-i.invariant _ _ _ c.share.ensures c.mass_of-mass.ensures.sum c.mass_of-mass.ensures.count in
    omega (arith, ap (λ n. c.args.members * n) share, giving-fits gets own places c.loop-i.i-index x c.loop-i.places c.loop-i-test.true is within c.loop-i.invariant (2 ^ 64) c.requires.fits)

pub overflow_add-places : goal.overflow_add-places
overflow_add-places c =
    let places = c.args.places.now in
    let own = c.args.own.now in
    let x = get_or own c.loop-i.i-index 0 in
    let gets : ℕ → ℕ = λ i. c.args.members * share_by (at (levels_in places)) own i in
    let is = get_or_default own c.loop-i.i-index 0 x c.loop-i-test.true in
    let within : x < length c.loop-i.places = omega (arith, c.requires.within c.loop-i.i-index 0 c.loop-i-test.true) in
    let share = giving-share gets own places c.loop-i.i-index x c.loop-i.places c.loop-i-test.true is within c.loop-i.invariant _ _ _ c.share.ensures c.mass_of-mass.ensures.sum c.mass_of-mass.ensures.count in
    omega (arith, ap (λ n. c.args.members * n) share, giving-fits gets own places c.loop-i.i-index x c.loop-i.places c.loop-i-test.true is within c.loop-i.invariant (2 ^ 64) c.requires.fits)

pub loop-i-preserved : goal.loop-i-preserved
loop-i-preserved c =
    let places = c.args.places.now in
    let own = c.args.own.now in
    let x = get_or own c.loop-i.i-index 0 in
    let gets : ℕ → ℕ = λ i. c.args.members * share_by (at (levels_in places)) own i in
    let is = get_or_default own c.loop-i.i-index 0 x c.loop-i-test.true in
    let within : x < length c.loop-i.places = omega (arith, c.requires.within c.loop-i.i-index 0 c.loop-i-test.true) in
    let share = giving-share gets own places c.loop-i.i-index x c.loop-i.places c.loop-i-test.true is within c.loop-i.invariant _ _ _ c.share.ensures c.mass_of-mass.ensures.sum c.mass_of-mass.ensures.count in
    giving-next gets own places c.loop-i.i-index x c.loop-i.places c.loop-i-test.true is within c.loop-i.invariant _ (ap (λ n. c.args.members * n) share)
