-- The regions of the patterns before this one were probed.
use Rattle.std.proofs.Common.{take}
use Rattle.region_index.proofs.PatternWalk.{AreProbed}
use Rattle.region_index.proofs.walk.Walk.of_patterns.Given as goal

abbrev pub invariant-loop-pattern : goal.invariant-loop-pattern
invariant-loop-pattern g l = AreProbed l.self.ids.now l.self.space.now l.self.leaves (take l.pattern-index l.patterns) l.initial.found.items l.found.items l.initial.steps l.steps
