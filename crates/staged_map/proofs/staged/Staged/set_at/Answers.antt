-- What is written at the place is the value of its key.
use Rattle.std.proofs.Common.{◌≡◌, Some, ap, sym, ◌∙◌}
use Rattle.std.specs.Cmp.{nat_eq_equiv}
use Rattle.std.specs.List.{slice_get}
use Rattle.std.specs.Map.{keys_of, values_of}
use Rattle.std.specs.Option.{option_copied_mut, option_flatten}
use Rattle.indexmap.proofs.CallerLemmas.{keys-with_value_at, updates-with_value_at}
use Rattle.staged_map.specs.Staged.{key_of_place, value_at}
use Rattle.staged_map.proofs.Changes.{Sets-at}
use Rattle.staged_map.proofs.Noting.{AreNoted-keys}
use Rattle.staged_map.proofs.Places.{key_place-at, slice-place}
use Rattle.staged_map.proofs.staged.Staged.set_at.Goals as goal

pub invariant_of-self : goal.invariant_of-self
invariant_of-self g c = AreNoted-keys c.self.inside.hints c.self.inside.places.entries _ (keys-with_value_at c.self.inside.places c.args.i c.replace.new.self) c.self.invariant

pub returns-clause-had : goal.returns-clause-had
returns-clause-had g c =
    let inside = c.self.inside.places.entries in
    let held : slice_get (values_of inside) c.args.i ≡ Some c.unwrap.result.now = sym c.get_index_mut.ensures.value ∙ ap option_copied_mut c.unwrap.ensures in
    let there = key_place-at inside c.args.i c.unwrap.result.now c.get_index_mut.ensures.unique held in
    c.replace.ensures.value ∙ sym (ap option_flatten there) ∙ ap (λ places. value_at places (key_of_place places c.args.i)) c.self.view_is

pub returns-clause-sets : goal.returns-clause-sets
returns-clause-sets g c =
    let inside = c.self.inside.places.entries in
    let held : slice_get (values_of inside) c.args.i ≡ Some c.unwrap.result.now = sym c.get_index_mut.ensures.value ∙ ap option_copied_mut c.unwrap.ensures in
    let unique = c.get_index_mut.ensures.unique in
    let at = slice-place inside c.args.i c.unwrap.result.now held in
    let updates = updates-with_value_at c.self.inside.places c.args.i c.replace.new.self nat_eq_equiv unique (key_of_place inside c.args.i) c.unwrap.result.now at in
    Sets-at c.args.self.now inside _ c.args.i c.unwrap.result.now c.replace.new.self c.args.value c.self.view_is c.replace.ensures.after (key_place-at inside c.args.i c.unwrap.result.now unique held) updates.0

pub returns-clause-keys : goal.returns-clause-keys
returns-clause-keys g c = keys-with_value_at c.self.inside.places c.args.i c.replace.new.self ∙ ap keys_of c.self.view_is
