use Rattle.std.proofs.Common.{length, ap, arith}
use Rattle.region_algebra.proofs.Spaces.{is_region-set}
use Rattle.region_algebra.proofs.Turns.{is_region-length}
use Rattle.region_algebra.proofs.space.Space.child.Goals as goal

pub child-requires-clause-dims : goal.child-requires-clause-dims
child-requires-clause-dims c = omega (arith, is_region-length c.args.self.now c.args.r c.requires.region, ap length c.self.view_is, c.len.ensures, c.self.inside.dims.ok)

pub returns-clause-region : goal.returns-clause-region
returns-clause-region c = rw c.child.ensures (is_region-set c.args.self.now c.args.r c.args.d c.args.node c.requires.region c.requires.dim c.requires.child)
