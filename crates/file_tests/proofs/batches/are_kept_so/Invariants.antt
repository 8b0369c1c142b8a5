use Rattle.std.specs.Prelude.{IsTrue}
use Rattle.file_tests.proofs.batches.are_kept_so.Given as goal

abbrev pub invariant-loop-case : goal.invariant-loop-case
invariant-loop-case l = IsTrue l.keeper.is_open
