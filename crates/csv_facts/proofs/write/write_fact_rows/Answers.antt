-- A fact's record more is written.
use Rattle.std.proofs.Common.{◌∙◌}
use Rattle.csv_facts.proofs.RowsWritten.{IsPartWritten-end, IsPartWritten-next, IsPartWritten-start, IsPartWritten-valid}
use Rattle.csv_facts.proofs.write.write_fact_rows.Goals as goal

pub loop-fact-init : goal.loop-fact-init
loop-fact-init c =
    IsPartWritten-start c.args.s.now c.args.out.now c.args.facts.now.facts _ c.requires.writing c.requires.valid (c.into_iter-fact-iterator.ensures.into_iter_gives ∙ c.iter-fact-items.ensures)

pub fill_row-requires : goal.fill_row-requires
fill_row-requires c = IsPartWritten-valid _ _ _ _ _ _ _ c.loop-fact.invariant c.in-Some.ensures.steps

pub write_row-requires : goal.write_row-requires
write_row-requires c = c.loop-fact.invariant.writing

pub loop-fact-preserved : goal.loop-fact-preserved
loop-fact-preserved c = IsPartWritten-next _ _ _ _ _ _ _ _ _ c.loop-fact.invariant c.in-Some.ensures.steps c.in_ok-fill_row.ensures c.in_ok-write_row.ensures

pub returns : goal.returns
returns c = IsPartWritten-end _ _ _ _ _ c.loop-fact.invariant c.in-None.ensures.steps.0
