-- The entries of the codes before this one are made.
use Rattle.std.proofs.Common.{◌≡◌, map, take}
use Rattle.std.specs.Option.{option_to_list}
use Rattle.region_index.specs.Changes.{changed_entry}
use Rattle.region_index.proofs.region_index.RegionIndex.few_entries.Given as goal

abbrev pub invariant-loop-code : goal.invariant-loop-code
invariant-loop-code l = l.entries.items ≡ map (changed_entry l.self (option_to_list l.put) (option_to_list l.dropped)) (take l.code-index l.codes)
