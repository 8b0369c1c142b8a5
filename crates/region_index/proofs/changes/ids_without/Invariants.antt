-- Those of the ids before this one are kept that are not dropped.
use Rattle.std.proofs.Common.{◌≡◌, filter, not, take}
use Rattle.cube_model.specs.Cells.{is_among}
use Rattle.region_index.proofs.changes.ids_without.Given as goal

abbrev pub invariant-loop-id : goal.invariant-loop-id
invariant-loop-id l = l.kept.items ≡ filter (λ id. not (is_among l.dropped id)) (take l.id-index l.ids)
