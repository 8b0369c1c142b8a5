-- The shares of the changes before this one were added.
use Rattle.std.proofs.Common.{take}
use Rattle.view_store.specs.Drafts.{facts_of_kind}
use Rattle.view_store.proofs.Alone.{HasShare}
use Rattle.view_store.proofs.drafts.raise_by_all.Given as goal

abbrev pub invariant-loop-change : goal.invariant-loop-change
invariant-loop-change l = HasShare l.initial.terms.columns l.cuts.dims (facts_of_kind l.put (take l.change-index l.changes)) l.code l.initial.terms l.terms
