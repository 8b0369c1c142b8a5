-- A fact that has another id is passed over.
use Rattle.iter_alloc.proofs.BesideFacts.{looking-next}
use Rattle.iter_alloc.proofs.one_component.label_of.Goals as goal
use Rattle.std.proofs.Common.{◌≡◌, arith, false}
use Rattle.std.proofs.lemmas.Bool.Decides.{nat_tests}
use Rattle.std.specs.Prelude.{◌==◌}

pub loop-fact-preserved : goal.loop-fact-preserved
loop-fact-preserved c =
    let other : (c.in-Some.fact.id == c.args.id) ≡ false = grind (arith, nat_tests, c.if-fact-id.false) in
    looking-next c.args.facts.now.facts c.args.labels.now _ _ _ _ c.in-Some.ensures.steps c.loop-fact.invariant.long c.args.id c.loop-fact.invariant other
