use Rattle.std.proofs.Common.{refl}
use Rattle.region_algebra.specs.Space.{is_region}
use Rattle.region_algebra.proofs.Tuples.{is_region-other}
use Rattle.region_algebra.proofs.regions.is_region.Goals as goal

pub returns-then-dims-nodes : goal.returns-then-dims-nodes
returns-then-dims-nodes c = is_region-other c.args.dims.now c.args.nodes.now (is_region c.args.dims.now c.args.nodes.now) refl c.if-dims-nodes.true
