-- On which sides of a region rows lie, which is all that tells what a fact adds at an end.
use Rattle.std.specs.Prelude.{ℕ, List, not, ◌&&◌, if◌then◌else◌, ℤ, pos}
use Rattle.std.specs.List.{list_any}
use Rattle.cube_model.specs.Cells.{is_among}
use Rattle.world_range.specs.declared.extreme.Extreme.{Extreme}
use Rattle.world_range.specs.declared.sides.Sides.{Sides}
use Rattle.world_range.specs.Picks.{wants_inside}

-- whether some rows are in these cells, and some are not
abbrev pub sides_of : List ℕ → List (ℕ × ℕ) → Sides
sides_of cells rows = record { inside = list_any (λ row. is_among cells row.0) rows; outside = list_any (λ row. not (is_among cells row.0)) rows }

-- what a value adds at an end: nothing where no row is inside; where rows are on both sides, itself only if it is wanted inside
abbrev pub part_where : Extreme → Sides → ℤ → ℤ
part_where extreme sides value = if sides.inside then (if sides.outside && not (wants_inside extreme value) then pos 0 else value) else pos 0
