-- The codes before this one are done.
use Rattle.std.proofs.Common.{◌≡◌, ◌+◌, take}
use Rattle.edit_plan.specs.Refreshing.{id_count_at, others_at}
use Rattle.edit_plan.proofs.refreshing.others_at.Given as goal

abbrev pub invariant-loop-code : goal.invariant-loop-code
invariant-loop-code g l = record {
  pairs : l.pairs.items ≡ others_at l.state.dims l.state.facts l.id (take l.code-index l.codes);
  steps : l.steps ≡ l.initial.steps + (l.code-index + id_count_at l.state.dims l.state.facts (take l.code-index l.codes));
}
