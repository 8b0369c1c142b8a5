-- What is listed of the leaves of a cell tells the region over it.
use Rattle.view_store.specs.CutTables.{IsTable}
use Rattle.view_store.proofs.CutTables.{cell-digits, cell-told}
use Rattle.view_store.proofs.cuts.Cuts.over_cell.Goals as goal

pub share_sum-requires : goal.share_sum-requires
share_sum-requires c =
    let dims = c.self.inside.space.now in
    let listed : IsTable dims c.self.inside.depths.now c.in-Some.table = rw c.in-Some.is at c.self.invariant.listed in
    rw c.as_slice.ensures (cell-digits dims c.self.inside.depths.now c.self.invariant.deep c.dims.ensures.trees c.dims.ensures.accepted c.in-Some.table listed c.args.cell (rw (← c.self.view_is) at c.requires))

pub unwrap-requires : goal.unwrap-requires
unwrap-requires c =
    let dims = c.self.inside.space.now in
    let listed : IsTable dims c.self.inside.depths.now c.in-Some.table = rw c.in-Some.is at c.self.invariant.listed in
    (cell-told dims c.self.inside.depths.now c.self.invariant.deep c.dims.ensures.trees c.dims.ensures.accepted c.in-Some.table listed c.args.cell c.share_sum.result (rw (← c.self.view_is) at c.requires) (rw c.as_slice.ensures at c.share_sum.ensures)).0

pub returns-in-Some : goal.returns-in-Some
returns-in-Some c =
    let dims = c.self.inside.space.now in
    let listed : IsTable dims c.self.inside.depths.now c.in-Some.table = rw c.in-Some.is at c.self.invariant.listed in
    let told = (cell-told dims c.self.inside.depths.now c.self.invariant.deep c.dims.ensures.trees c.dims.ensures.accepted c.in-Some.table listed c.args.cell c.share_sum.result (rw (← c.self.view_is) at c.requires) (rw c.as_slice.ensures at c.share_sum.ensures)).1 in
    rw (← c.self.view_is) (rw c.unwrap.ensures at told)
