-- The dimensions before this one are copied.
use Rattle.std.proofs.Common.{◌≡◌, take}
use Rattle.region_algebra.proofs.copies.copies_of.Given as goal

abbrev pub invariant-loop-dim : goal.invariant-loop-dim
invariant-loop-dim l = l.copies.items ≡ take l.dim-index l.dims
