-- A fact more is put in its spot.
use Rattle.iter_alloc.proofs.spots.spots_of.Goals as goal
use Rattle.iter_alloc.proofs.SpotsSoFar.{spotting-next, spotting-start}
use Rattle.std.proofs.Common.{◌∙◌}

pub loop-fact-init : goal.loop-fact-init
loop-fact-init c =
    spotting-start c.args.space.now c.args.facts.now.facts _ _ _ _ c.requires (c.into_iter-fact-iterator.ensures.into_iter_gives ∙ c.iter-fact-items.ensures) c.new-codes.ensures.empty c.new-firsts.ensures.items
    c.new-spots.ensures.items

pub loop-fact-preserved : goal.loop-fact-preserved
loop-fact-preserved c =
    let said = c.in_ok-spot.ensures in
    spotting-next c.args.space.now c.args.facts.now.facts c.loop-fact.fact-iterator c.loop-fact.codes.keys c.loop-fact.firsts.items c.loop-fact.spots.items c.loop-fact.invariant _ c.next.new.self c.in-Some.ensures.steps
    c.add_fact.new.codes.keys c.add_fact.new.firsts.items c.in_ok-spot.spot c.push.new.self.items said.codes said.firsts said.spot c.in_ok-push.ensures.items
