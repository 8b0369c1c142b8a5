-- The depths of later dimensions are read first.
use Rattle.std.proofs.Common.{◌-◌, length}
use Rattle.region_index.proofs.patterns.+pattern_from.Given as goal

abbrev pub decreases-pattern_from : goal.decreases-pattern_from
decreases-pattern_from l = length l.space.now - l.d
