-- The shares of the changes before this one were added.
use Rattle.std.proofs.Common.{take}
use Rattle.view_store.specs.Drafts.{facts_of_kind}
use Rattle.view_store.proofs.AllChanges.{HasFacts}
use Rattle.view_store.proofs.drafts.add_changes.Given as goal

abbrev pub invariant-loop-change : goal.invariant-loop-change
invariant-loop-change l = HasFacts l.cuts.dims l.cuts.depths l.columns l.entries (facts_of_kind l.put (take l.change-index l.changes)) l.initial.drafts l.drafts
