-- Where the walk stops at a pattern, it took no more steps than all do.
use Rattle.std.proofs.lemmas.List.{take_more}
use Rattle.region_index.proofs.PatternWalk.{stopped-codes}
use Rattle.region_index.proofs.Walking.{on_err}
use Rattle.region_index.proofs.walk.Walk.of_patterns.Goals as goal

pub returns-in_err-of_pattern-clause-err : goal.returns-in_err-of_pattern-clause-err
returns-in_err-of_pattern-clause-err g c =
    let next = take_more c.args.patterns.now c.loop-pattern.pattern-index 0 c.loop-pattern-test.true in
    on_err _ (stopped-codes _ _ _ c.args.patterns.now _ c.loop-pattern.pattern-index _ next _ _ _ c.loop-pattern.invariant _ c.in_err-of_pattern.ensures.err)
