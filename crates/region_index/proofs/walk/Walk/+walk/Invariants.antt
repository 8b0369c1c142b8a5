-- The walk goes on to later dimensions, and within one to parents, whose numbers are smaller.
use Rattle.std.proofs.Common.{◌+◌, ◌-◌, ◌*◌, length}
use Rattle.region_index.proofs.walk.Walk.+walk.Given as goal

abbrev pub decreases-above : goal.decreases-above
decreases-above g l = (length l.self.now.space.now - l.d) * 0x4_0000_0000 + 2 * l.node + 1

abbrev pub decreases-higher : goal.decreases-higher
decreases-higher g l = (length l.self.now.space.now - l.d) * 0x4_0000_0000 + 2 * l.node

abbrev pub decreases-over : goal.decreases-over
decreases-over g l = (length l.self.now.space.now - l.d) * 0x4_0000_0000 + 0x2_0000_0000
