-- The entries of the codes before this one that lie below are listed.
use Rattle.std.proofs.Common.{◌≡◌, take}
use Rattle.view_store.proofs.Listing.{listed_below}
use Rattle.view_store.proofs.view.View.list_under.Given as goal

abbrev pub invariant-loop-code : goal.invariant-loop-code
invariant-loop-code l = l.list.items ≡ listed_below l.space l.self l.r (take l.code-index l.code-items)
