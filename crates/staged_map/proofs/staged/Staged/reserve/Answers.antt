-- The keys before this one have places; where it gets none they are some of the keys.
use Rattle.std.proofs.Common.{subst, sym, rules}
use Rattle.staged_map.specs.Staged.{ReservesSome}
use Rattle.staged_map.proofs.Changes.{ReservesSome-part, Reserves-next, placed-absent}
use Rattle.staged_map.proofs.staged.Staged.reserve.Goals as goal

pub returns-in_err-give_place-clause-err : goal.returns-in_err-give_place-clause-err
returns-in_err-give_place-clause-err g c =
    let before = ReservesSome-part _ _ _ c.loop-key.key-index c.loop-key.invariant in
    let same = sym c.in_err-give_place.ensures.err in
    search (rules, subst (λ new. ReservesSome c.args.self.now new c.args.keys.now) same before)

pub returns-in_err-give_place-clause-placed : goal.returns-in_err-give_place-clause-placed
returns-in_err-give_place-clause-placed g c =
    λ placed. absurd (placed-absent _ _ _ _ _ c.loop-key-test.true c.loop-key.invariant c.in_err-give_place.ensures.absent placed)

pub loop-key-preserved : goal.loop-key-preserved
loop-key-preserved g c = Reserves-next _ _ _ _ _ c.loop-key-test.true c.loop-key.invariant c.in_ok-give_place.ensures.ok
