use Rattle.std.proofs.Common.{arith}
use Rattle.dim_tree.proofs.Kept.{item_read, kept}
use Rattle.dim_tree.proofs.dim.Dim.place.Goals as goal

pub index-requires : goal.index-requires
index-requires c = grind (arith, (kept c.self.invariant c.self.view_is).room_places)

pub returns-clause-place : goal.returns-clause-place
returns-clause-place c =
    let its = kept c.self.invariant c.self.view_is in
    rw (item_read _ _ _ its.room_places c.requires c.index.ensures) (its.place_kept c.args.n c.requires).0

pub returns-clause-within : goal.returns-clause-within
returns-clause-within c =
    let its = kept c.self.invariant c.self.view_is in
    rw (item_read _ _ _ its.room_places c.requires c.index.ensures) (its.place_kept c.args.n c.requires).1
