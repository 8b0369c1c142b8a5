-- The portion of a fact more.
use Rattle.iter_alloc.proofs.portions.fact_portions.Goals as goal
use Rattle.iter_alloc.proofs.portions.fact_portions.Goals.{in-Some-spots, in-None-spots}
use Rattle.iter_alloc.proofs.PortionSteps.{apportion-fits, apportion-next, apportion-within}
use Rattle.iter_alloc.specs.Rounds.{WHOLE_FACT}
use Rattle.std.proofs.Common.{◌≡◌, ◌*◌, ◌<◌, ◌∙◌, get_or, length, ap, sym, arith, None, Some}
use Rattle.std.proofs.lemmas.List.{get_or_default}

pub overflow_mul-portion : goal.overflow_mul-portion
overflow_mul-portion c =
    omega (
      arith,
      c.overlap_count.ensures,
      apportion-fits c.args.space.now c.args.r c.args.portions.now c.args.facts.now.facts c.args.spots.now _ c.in-Some.fact _ _ _ c.in-Some.ensures.steps c.loop-fact.invariant,
    )

pub loop-fact-preserved : goal.loop-fact-preserved
loop-fact-preserved c =
    let dims = c.args.space.now in
    let facts = c.args.facts.now.facts in
    let spots = c.args.spots.now in
    let i = c.loop-fact.i in
    let within : i < length spots
    = apportion-within dims c.args.r c.args.portions.now facts spots c.loop-fact.fact-iterator c.in-Some.fact c.next.new.self i c.loop-fact.of_facts.items c.in-Some.ensures.steps c.loop-fact.invariant in
    let next = apportion-next dims c.args.r c.args.portions.now facts spots c.loop-fact.fact-iterator c.in-Some.fact c.next.new.self i c.loop-fact.of_facts.items c.in-Some.ensures.steps c.loop-fact.invariant in
    elim c.match-spots-i.branch [
      | in-Some-spots w ↦
          let is : get_or spots i None ≡ Some w.in-Some-spots.spot = w.in-Some-spots.is in
          next (Some w.in-Some-spots.spot) c.match-spots-i.portion c.push.new.self.items (sym is ∙ get_or_default spots i None (Some w.in-Some-spots.spot) within) w.portion-is c.in_ok-push.ensures.items
      | in-None-spots w ↦
          let is : get_or spots i None ≡ None = w.in-None-spots.is in
          next None c.match-spots-i.portion c.push.new.self.items (sym is) (w.portion-is ∙ ap (λ n. WHOLE_FACT * n) w.overlap_count.ensures) c.in_ok-push.ensures.items
    ]
