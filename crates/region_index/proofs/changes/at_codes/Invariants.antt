-- The ids at the codes before this one are gathered.
use Rattle.std.proofs.Common.{◌≡◌, take}
use Rattle.std.specs.List.{flat_map}
use Rattle.region_index.specs.Content.{ids_at}
use Rattle.region_index.proofs.changes.at_codes.Given as goal

abbrev pub invariant-loop-code : goal.invariant-loop-code
invariant-loop-code l = l.ids.items ≡ flat_map (ids_at l.groups) (take l.code-index l.codes)
