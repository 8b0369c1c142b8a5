-- Those before this one are kept.
use Rattle.view_store.proofs.Keeping.{kept_first}
use Rattle.std.proofs.Common.{◌≡◌}
use Rattle.view_store.proofs.drafts.keep_each.Given as goal

abbrev pub invariant-loop-i : goal.invariant-loop-i
invariant-loop-i l = l.entries ≡ kept_first l.i l.initial.entries
