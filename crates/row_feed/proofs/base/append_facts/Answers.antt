-- A fact's line more is appended.
use Rattle.std.proofs.Common.{◌∙◌}
use Rattle.row_feed.proofs.Appended.{IsPartAppended-end, IsPartAppended-next, IsPartAppended-start, IsPartAppended-valid}
use Rattle.row_feed.proofs.base.append_facts.Goals as goal

pub loop-fact-init : goal.loop-fact-init
loop-fact-init c =
    IsPartAppended-start c.args.schema.now c.args.text.now.items c.args.facts.now.facts _ c.requires (c.into_iter-fact-iterator.ensures.into_iter_gives ∙ c.iter-fact-items.ensures)

pub append_fact_line-requires : goal.append_fact_line-requires
append_fact_line-requires c = IsPartAppended-valid _ _ _ _ _ _ _ c.loop-fact.invariant c.in-Some.ensures.steps

pub loop-fact-preserved : goal.loop-fact-preserved
loop-fact-preserved c = IsPartAppended-next _ _ _ _ _ _ _ _ c.loop-fact.invariant c.in-Some.ensures.steps c.in_ok-append_fact_line.ensures

pub returns : goal.returns
returns c = IsPartAppended-end _ _ _ _ _ c.loop-fact.invariant c.in-None.ensures.steps.0
