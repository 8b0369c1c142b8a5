-- The codes before this one are appended.
use Rattle.std.proofs.Common.{◌≡◌, ◌+◌, ◌++◌, map, take}
use Rattle.region_index.proofs.touching.push_codes.Given as goal

abbrev pub invariant-loop-code : goal.invariant-loop-code
invariant-loop-code l = l.next.items ≡ l.fn.next.items ++ map (λ code. l.first + code) (take l.code-index l.codes)
