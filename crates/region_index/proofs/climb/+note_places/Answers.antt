-- The node's own place is written, and then the places over its parent.
use Rattle.std.proofs.Common.{◌<◌, length, sym, ◌∙◌, arith}
use Rattle.region_index.proofs.Depths.{depth-read}
use Rattle.region_index.proofs.PlaceTable.{IsRow-parent, IsRow-root}
use Rattle.region_index.proofs.climb.+note_places.Goals as goal

pub returns-in-Some : goal.returns-in-Some
returns-in-Some t c =
    let own = depth-read c.args.dim.now c.args.node c.depth.result c.depth.ensures.depth in
    let room : c.depth.result < length c.args.row.now = omega (arith, c.told-row, c.depth.ensures.most) in
    IsRow-parent c.args.dim.now c.len.ensures.tree c.args.node c.requires _ _ own c.place.ensures.place c.place.ensures.within c.args.row.now room c.in-Some.parent (omega (arith, c.in-Some.ensures.before, c.requires)) c.in-Some.ensures.before (sym c.in-Some.ensures.parent) _ c.note_places.ensures

pub returns-in_default : goal.returns-in_default
returns-in_default t c =
    let own = depth-read c.args.dim.now c.args.node c.depth.result c.depth.ensures.depth in
    let room : c.depth.result < length c.args.row.now = omega (arith, c.told-row, c.depth.ensures.most) in
    IsRow-root c.args.dim.now c.len.ensures.tree c.args.node c.requires _ _ own c.place.ensures.place c.place.ensures.within c.args.row.now room (sym c.parent-parent.ensures.parent ∙ c.in_default.is)
