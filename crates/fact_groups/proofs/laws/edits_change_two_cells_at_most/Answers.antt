use Rattle.fact_groups.proofs.Statistics.{added-after, among-changed, among-reweighed, ascends-changed, ascends-reweighed, ascends-touched, count-after, length-changed, length-reweighed, length-touched, stat-unchanged, stat-untouched}
use Rattle.fact_groups.proofs.laws.edits_change_two_cells_at_most.Goals as goal

pub returns : goal.returns
returns c = record {
  counts = count-after;
  sums = added-after;
  untouched = stat-untouched;
  changed = among-changed;
  unchanged = stat-unchanged;
  reweighed = among-reweighed;
  few = length-touched;
  few_changed = length-changed;
  few_reweighed = length-reweighed;
  ascending = ascends-touched;
  ascending_changed = ascends-changed;
  ascending_reweighed = ascends-reweighed;
}
