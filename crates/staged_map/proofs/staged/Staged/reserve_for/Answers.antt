-- The keys of the entries before this one have places; where it gets none they are some of the keys.
use Rattle.std.proofs.Common.{◌≡◌, ◌<◌, [], ◌∷◌, false, get_or, length, take, ap, subst, sym, ◌∙◌, rules}
use Rattle.std.proofs.lemmas.Map.Entries.{length-keys_of}
use Rattle.std.specs.Map.{keys_of}
use Rattle.staged_map.specs.Staged.{Reserves, ReservesSome, has_place}
use Rattle.staged_map.proofs.Changes.{ReservesSome-part, Reserves-next, placed-absent}
use Rattle.staged_map.proofs.Places.{key-of-item}
use Rattle.staged_map.proofs.staged.Staged.reserve_for.Goals as goal

pub returns-in_err-give_place-clause-err : goal.returns-in_err-give_place-clause-err
returns-in_err-give_place-clause-err g c =
    let before = ReservesSome-part _ _ _ c.loop-key.key-index c.loop-key.invariant in
    let same = sym c.in_err-give_place.ensures.err in
    search (rules, subst (λ new. ReservesSome c.args.self.now new (keys_of c.args.entries.now)) same before)

pub returns-in_err-give_place-clause-placed : goal.returns-in_err-give_place-clause-placed
returns-in_err-give_place-clause-placed g c =
    let entries = c.args.entries.now in
    let i = c.loop-key.key-index in
    let within : i < length (keys_of entries) = subst (λ n. i < n) (sym (length-keys_of entries)) c.loop-key-test.true in
    let key = key-of-item entries i c.loop-key-item.result c.loop-key-item.is c.loop-key-test.true in
    let absent : has_place c.give_place.new.self (get_or (keys_of entries) i 0) ≡ false =
    ap (has_place c.give_place.new.self) key ∙ ap (λ places. has_place places c.loop-key-item.result.0) c.in_err-give_place.ensures.err ∙ c.in_err-give_place.ensures.absent in
    let before : Reserves c.args.self.now c.give_place.new.self (take i (keys_of entries)) = subst (λ new. Reserves c.args.self.now new (take i (keys_of entries))) (sym c.in_err-give_place.ensures.err) c.loop-key.invariant in
    λ placed. absurd (placed-absent _ _ _ _ _ within before absent placed)

pub loop-key-preserved : goal.loop-key-preserved
loop-key-preserved g c =
    let entries = c.args.entries.now in
    let i = c.loop-key.key-index in
    let within : i < length (keys_of entries) = subst (λ n. i < n) (sym (length-keys_of entries)) c.loop-key-test.true in
    let key = key-of-item entries i c.loop-key-item.result c.loop-key-item.is c.loop-key-test.true in
    Reserves-next _ _ c.loop-key.self (keys_of entries) i within c.loop-key.invariant (subst (λ k. Reserves c.loop-key.self c.give_place.new.self (k ∷ [])) (sym key) c.in_ok-give_place.ensures.ok)
