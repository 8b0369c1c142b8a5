-- At the places before this one stands what is left of the entries.
use Rattle.view_store.proofs.TakingAway.{AreLeft}
use Rattle.view_store.proofs.drafts.leave_each.Given as goal

abbrev pub invariant-loop-i : goal.invariant-loop-i
invariant-loop-i l = AreLeft l.columns l.entries l.initial.parts l.i l.parts
