use Rattle.library_tests.specs.Noted.{AreNoted}
use Rattle.library_tests.proofs.covers.place_all.Given as goal

abbrev pub invariant-loop-fact : goal.invariant-loop-fact
invariant-loop-fact l = AreNoted l.space l.placed.0.items l.placed.1
