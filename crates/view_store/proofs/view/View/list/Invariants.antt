-- The entries of the codes before this one are listed.
use Rattle.std.proofs.Common.{◌≡◌, take}
use Rattle.view_store.proofs.Listing.{listed_first}
use Rattle.view_store.proofs.view.View.list.Given as goal

abbrev pub invariant-loop-code : goal.invariant-loop-code
invariant-loop-code l = l.list.items ≡ listed_first l.space l.self (take l.code-index l.code-items)
