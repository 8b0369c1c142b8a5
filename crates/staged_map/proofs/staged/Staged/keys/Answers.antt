-- Sorting moves the keys alone, and they were different.
use Rattle.std.proofs.Common.{sym, subst}
use Rattle.staged_map.specs.Staged.{AreKeys}
use Rattle.staged_map.proofs.Listing.{AreKeys-sorted}
use Rattle.staged_map.proofs.staged.Staged.keys.Goals as goal

pub returns : goal.returns
returns g c =
    let listed = c.in_ok-keys.ensures in
    let sorts = c.sort_unstable.ensures in
    let are = AreKeys-sorted c.args.self.now _ _ listed.places_of_different_keys listed.keys sorts.permutation sorts.sorted in
    subst (AreKeys c.args.self.now) (sym c.from.ensures) are
