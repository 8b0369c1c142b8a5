-- What is listed of the nodes of a region tells the one over it.
use Rattle.std.proofs.Common.{◌≡◌, sym, ◌∙◌}
use Rattle.view_store.specs.CutTables.{IsTable}
use Rattle.view_store.specs.Views.{region_at}
use Rattle.view_store.proofs.CutRegions.{region_at-is}
use Rattle.view_store.proofs.CutTables.{region-told}
use Rattle.view_store.proofs.cuts.Cuts.over_code.Goals as goal

pub returns-in-Some-clause-some : goal.returns-in-Some-clause-some
returns-in-Some-clause-some c =
    let dims = c.self.inside.space.now in
    let listed : IsTable dims c.self.inside.depths.now c.in-Some.table = rw c.in-Some.is at c.self.invariant.listed in
    rw (← c.self.view_is) (region-told dims c.self.inside.depths.now c.self.invariant.deep c.dims.ensures.trees c.dims.ensures.accepted c.in-Some.table listed c.args.code c.share_sum.result (rw (← c.self.view_is) at c.requires) (rw c.as_slice.ensures at c.share_sum.ensures)).0

pub returns-in-Some-clause-over : goal.returns-in-Some-clause-over
returns-in-Some-clause-over c =
    let dims = c.self.inside.space.now in
    let listed : IsTable dims c.self.inside.depths.now c.in-Some.table = rw c.in-Some.is at c.self.invariant.listed in
    rw (← c.self.view_is) (region-told dims c.self.inside.depths.now c.self.invariant.deep c.dims.ensures.trees c.dims.ensures.accepted c.in-Some.table listed c.args.code c.share_sum.result (rw (← c.self.view_is) at c.requires) (rw c.as_slice.ensures at c.share_sum.ensures)).1

pub returns-in-None-clause-some : goal.returns-in-None-clause-some
returns-in-None-clause-some c =
    let same : region_at c.args.self.now.dims c.args.code ≡ c.unwrap.result = region_at-is c.args.self.now.dims c.args.code c.unwrap.result (rw (← c.self.view_is) (sym c.uncode.ensures.region ∙ c.unwrap.ensures)) in
    rw same c.over_region.ensures.some

pub returns-in-None-clause-over : goal.returns-in-None-clause-over
returns-in-None-clause-over c =
    let same : region_at c.args.self.now.dims c.args.code ≡ c.unwrap.result = region_at-is c.args.self.now.dims c.args.code c.unwrap.result (rw (← c.self.view_is) (sym c.uncode.ensures.region ∙ c.unwrap.ensures)) in
    rw same c.over_region.ensures.over
