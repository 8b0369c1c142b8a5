-- The ids before this one are added, but for the one.
use Rattle.std.proofs.Common.{◌≡◌, ◌++◌, take}
use Rattle.edit_plan.specs.Refreshing.{others_with}
use Rattle.edit_plan.proofs.refreshing.add_others.Given as goal

abbrev pub invariant-loop-other : goal.invariant-loop-other
invariant-loop-other l = l.pairs.items ≡ l.initial.pairs.items ++ others_with l.id l.code (take l.other-index l.ids)
