-- The entries of the codes before this one are made.
use Rattle.std.proofs.Common.{◌≡◌, List, map, take}
use Rattle.region_index.specs.Changes.{AreByCode, Pair, changed_entry}
use Rattle.region_index.proofs.region_index.RegionIndex.entries_by.Given as goal

abbrev pub invariant-loop-code : goal.invariant-loop-code
invariant-loop-code l = (puts drops : List Pair) → AreByCode l.put puts → AreByCode l.dropped drops → l.entries.items ≡ map (changed_entry l.self puts drops) (take l.code-index l.codes)
