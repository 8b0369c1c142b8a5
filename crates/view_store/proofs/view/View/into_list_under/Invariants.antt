-- The entries of the codes before this one that lie below are listed, and those of the others are there.
use Rattle.view_store.proofs.Listing.{IsListedTo}
use Rattle.view_store.proofs.view.View.into_list_under.Given as goal

abbrev pub invariant-loop-code : goal.invariant-loop-code
invariant-loop-code l = IsListedTo l.space l.fn.self l.r l.code-items l.code-index l.list.items l.entries
