-- At the end all places are renewed.
use Rattle.iter_alloc.proofs.rounds.end_round.Goals as goal
use Rattle.iter_alloc.proofs.PlaceLists.{renewed-levels, renewed-nexts}
use Rattle.std.proofs.Common.{arith}

pub returns-clause-levels : goal.returns-clause-levels
returns-clause-levels c = renewed-levels c.args.begun.now c.args.places.now c.loop-i.i c.loop-i.places c.loop-i.invariant c.requires.as_many (omega (arith, c.loop-i-test.false))

pub returns-clause-nexts : goal.returns-clause-nexts
returns-clause-nexts c = renewed-nexts c.args.begun.now c.args.places.now c.loop-i.i c.loop-i.places c.loop-i.invariant c.requires.as_many (omega (arith, c.loop-i-test.false))
