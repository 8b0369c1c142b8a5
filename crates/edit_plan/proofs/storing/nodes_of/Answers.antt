-- A region has a node of each dimension.
use Rattle.std.proofs.Common.{◌∙◌, arith}
use Rattle.std.proofs.lemmas.List.{take_all}
use Rattle.region_algebra.proofs.Turns.{is_region-length}
use Rattle.edit_plan.proofs.storing.nodes_of.Goals as goal

pub node-requires : goal.node-requires
node-requires c = omega (arith, is_region-length c.args.space.now c.args.region c.requires, c.dims-d-end.ensures.count)

pub returns : goal.returns
returns c = c.loop-d.invariant ∙ take_all c.loop-d.d c.args.region (omega (arith, is_region-length c.args.space.now c.args.region c.requires, c.dims-d-end.ensures.count))
