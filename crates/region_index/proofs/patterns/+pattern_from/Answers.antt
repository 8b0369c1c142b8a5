-- The depth of one dimension more.
use Rattle.std.proofs.Common.{◌+◌, arith}
use Rattle.region_algebra.proofs.Spaces.{accepted-limits}
use Rattle.region_algebra.proofs.Turns.{is_region-length, node-within}
use Rattle.region_index.proofs.PatternNumbers.{pattern-fits, pattern_of-next}
use Rattle.region_index.proofs.Depths.{depth-read}
use Rattle.region_index.proofs.patterns.+pattern_from.Goals as goal

pub node-requires : goal.node-requires
node-requires t c = omega (arith, is_region-length c.args.space.now c.args.region c.requires.region, c.requires.within, c.if-d-dims.false, c.dims.ensures.count)

pub depth-depth-requires : goal.depth-depth-requires
depth-depth-requires t c = node-within c.args.space.now c.args.region c.args.d c.dim.result.now c.node.result c.requires.region c.dim.ensures c.node.ensures

pub overflow_mul-result : goal.overflow_mul-result
overflow_mul-result t c =
    omega (arith, c.pattern_from.ensures, pattern-fits c.args.space.now c.args.region (c.args.d + 1) c.dims.ensures.trees (accepted-limits c.args.space.now c.dims.ensures.accepted).few)

pub overflow_add-result : goal.overflow_add-result
overflow_add-result t c =
    omega (arith, c.pattern_from.ensures, c.from.ensures, c.depth-depth.ensures.most, pattern-fits c.args.space.now c.args.region (c.args.d + 1) c.dims.ensures.trees (accepted-limits c.args.space.now c.dims.ensures.accepted).few)

pub returns-else-d-dims : goal.returns-else-d-dims
returns-else-d-dims t c =
    let own = depth-read c.dim.result.now c.node.result c.depth-depth.result c.depth-depth.ensures.depth in
    omega (arith, own, c.from.ensures, c.pattern_from.ensures, pattern_of-next c.args.space.now c.args.region c.args.d c.dim.result.now c.node.result c.dim.ensures c.node.ensures)
