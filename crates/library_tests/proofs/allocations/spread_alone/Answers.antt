-- No fact lies anywhere.
use Rattle.library_tests.proofs.NoFacts.{AreFewAt-none}
use Rattle.library_tests.proofs.allocations.spread_alone.Goals as goal

pub allocate-requires-clause-counted : goal.allocate-requires-clause-counted
allocate-requires-clause-counted g c = AreFewAt-none _ _ _ c.new.ensures
