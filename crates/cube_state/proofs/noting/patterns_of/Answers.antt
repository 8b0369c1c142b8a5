-- Each fact more is noted.
use Rattle.std.proofs.Common.{◌∙◌}
use Rattle.cube_state.proofs.Knowing.{KnowsPatterns-all, Noting-next, Noting-start, noting-region}
use Rattle.cube_state.proofs.noting.patterns_of.Goals as goal

pub loop-fact-init : goal.loop-fact-init
loop-fact-init c =
    Noting-start c.args.space.now c.args.facts.now.facts _ _ c.requires (c.into_iter-fact-iterator.ensures.into_iter_gives ∙ c.iter-fact-items.ensures) c.new-patterns.ensures

pub note_fact-requires : goal.note_fact-requires
note_fact-requires c = noting-region _ _ _ _ c.loop-fact.invariant _ _ c.in-Some.ensures.steps

pub loop-fact-preserved : goal.loop-fact-preserved
loop-fact-preserved c = Noting-next _ _ _ _ c.loop-fact.invariant _ _ _ c.in-Some.ensures.steps c.note_fact.ensures

pub returns : goal.returns
returns c = KnowsPatterns-all _ _ _ _ c.loop-fact.invariant c.in-None.ensures.steps.0
