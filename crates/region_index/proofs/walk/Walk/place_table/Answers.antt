-- Each dimension gets the row of its leaf.
use Rattle.std.proofs.Common.{arith}
use Rattle.region_algebra.proofs.Turns.{is_region-length, node-within}
use Rattle.region_index.proofs.PlaceTable.{IsBegun-next}
use Rattle.region_index.proofs.walk.Walk.place_table.Goals as goal

pub node-requires : goal.node-requires
node-requires c = omega (arith, is_region-length c.args.self.now.space.now c.args.self.now.leaves c.requires.named, c.loop-d-test.true, c.dims-d-end.ensures.count)

pub note_places-requires : goal.note_places-requires
note_places-requires c = node-within c.args.self.now.space.now c.args.self.now.leaves c.loop-d.d c.dim.result.now c.node.result c.requires.named c.dim.ensures c.node.ensures

pub loop-d-preserved : goal.loop-d-preserved
loop-d-preserved c =
    IsBegun-next c.args.self.now.space.now c.args.self.now.leaves c.loop-d.d c.loop-d.table (omega (arith, c.loop-d-test.true, c.dims-d-end.ensures.count, c.requires.few)) c.loop-d.invariant c.dim.result.now c.dim.ensures c.node.result c.node.ensures _ c.note_places.ensures
