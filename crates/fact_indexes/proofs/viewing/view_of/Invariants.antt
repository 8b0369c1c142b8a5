-- The view is one of the facts of the groups before this place.
use Rattle.std.proofs.Common.{◌+◌}
use Rattle.std.specs.List.{flat_map}
use Rattle.fact_groups.specs.Groups.{group_facts}
use Rattle.fact_records.specs.Shape.{width_of_all}
use Rattle.fact_indexes.specs.Kept.{IsCutView}
use Rattle.fact_indexes.proofs.OneView.{groups_before}
use Rattle.fact_indexes.proofs.viewing.view_of.Given as goal

abbrev pub invariant-loop-i : goal.invariant-loop-i
invariant-loop-i g l = IsCutView l.space l.depths (width_of_all l.shape.measures + 1) (flat_map group_facts (groups_before l.groups l.i)) l.view
