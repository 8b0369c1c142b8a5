-- What is kept is what the facts make it: so each part was made.
use Rattle.fact_indexes.proofs.anew.keep_beside.Goals as goal

pub returns-clause-kept : goal.returns-clause-kept
returns-clause-kept g c = record {
  trees = c.dims.ensures.trees;
  valid = c.requires.valid;
  stats = c.in_ok-tally.ensures.stats (g.P.WeightPolicy.weigh c.args.policy.now);
  index = c.in_ok-tally.ensures.index;
  groups = c.in_ok-tally.ensures.groups;
  views = c.in_ok-views.ensures;
  rows = c.in_ok-tally.ensures.rows;
  few_rows = c.in_ok-tally.ensures.few;
}
