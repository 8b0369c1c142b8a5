-- The place that the map finds is the key's.
use Rattle.std.proofs.Common.{◌≡◌, subst}
use Rattle.std.specs.List.{slice_get}
use Rattle.staged_map.specs.Staged.{place_of}
use Rattle.staged_map.proofs.Places.{place-searched}
use Rattle.staged_map.proofs.staged.Staged.search.Goals as goal

pub returns-clause-place : goal.returns-clause-place
returns-clause-place g c =
    let found = c.in_ok-i.ensures in
    let at = place-searched c.self.inside.places.entries c.args.key c.in_ok-i.i c.in_ok-i.field-0-1.now c.in_ok-i.field-0-2.now found.entry found.key found.value in
    subst (λ places. slice_get places c.in_ok-i.i ≡ place_of places c.args.key) c.self.view_is at
