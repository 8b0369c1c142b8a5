use Rattle.std.proofs.Common.{arith}
use Rattle.library_tests.proofs.FewFacts.{AreFewAt-each}
use Rattle.library_tests.proofs.ranges.place.Goals as goal

pub allocate_at-requires-clause-counted : goal.allocate_at-requires-clause-counted
allocate_at-requires-clause-counted c =
    AreFewAt-each c.args.space.now c.args.stats.now c.in_ok-region.region c.requires.few (omega (arith, c.cell_count.ensures.count, c.if-cell_count-gt-MOST_CELLS.false))
