-- The terms of the codes before this one that lie below were merged.
use Rattle.std.proofs.Common.{◌≡◌, take}
use Rattle.view_store.proofs.RollingUp.{merged}
use Rattle.view_store.proofs.view.merge_below.Given as goal

abbrev pub invariant-loop-code : goal.invariant-loop-code
invariant-loop-code l = l.all ≡ merged l.columns l.space l.r l.entries (take l.code-index l.codes)
