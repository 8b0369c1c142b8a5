-- The places so far are left free.
use Rattle.iter_alloc.proofs.layout.leave_free.Given as goal
use Rattle.iter_alloc.specs.LaidOut.{AreNumbered}
use Rattle.std.proofs.Common.{[]}

abbrev pub invariant-loop-done : goal.invariant-loop-done
invariant-loop-done l = AreNumbered l.initial.cells.keys l.cells.keys [] [] []
