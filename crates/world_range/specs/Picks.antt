-- In which cell each fact stands so that a region's sum is the least or the greatest, and what that sum is.
use Rattle.std.specs.Prelude.{ℕ, Bool, List, map, not, ◌||◌, if◌then◌else◌, find, int_lt, slice_get, ℤ, pos}
use Rattle.std.specs.Option.{option_map_or, option_or}
use Rattle.std.specs.Ordering.{int_eq}
use Rattle.cube_model.specs.Allocation.{ExtendedFact}
use Rattle.cube_model.specs.Answer.{total_by}
use Rattle.cube_model.specs.Cells.{is_among}
use Rattle.world_law.specs.Choices.{own}
use Rattle.world_law.specs.Worlds.{column_of}
use Rattle.world_range.specs.declared.extreme.Extreme.{Extreme}
use Rattle.world_range.specs.declared.extreme.Extreme.TheVariants.{Greatest, Least}

-- whether a value stands inside, if it can: it lowers the least there, or raises the greatest
abbrev pub wants_inside : Extreme → ℤ → Bool
wants_inside Least value = int_lt value (pos 0)
wants_inside Greatest value = int_lt (pos 0) value

-- A row is wanted for a value, where it is inside or where it is not. For the value 0 any row is.
abbrev pub is_wanted : Extreme → ℤ → Bool → Bool
is_wanted extreme value inside = int_eq value (pos 0) || (if wants_inside extreme value then inside else not inside)

-- the cell of the first wanted row, or of the first row where none is wanted
abbrev pub pick_among : Extreme → List ℕ → ℤ → List (ℕ × ℕ) → ℕ
pick_among extreme cells value rows =
    option_map_or (λ row. row.0) (option_or (find (λ row. is_wanted extreme value (is_among cells row.0)) rows) (slice_get rows 0)) 0

-- the cell in which a fact stands, for the sum of a column in these cells
abbrev pub pick : Extreme → List ℕ → ℕ → ExtendedFact → ℕ
pick extreme cells column e = pick_among extreme cells (column_of column e) e.allocation.rows

-- those of all facts, in order
abbrev pub picks : Extreme → List ℕ → ℕ → List ExtendedFact → List ℕ
picks extreme cells column facts = map (pick extreme cells column) facts

-- what a fact adds there, and what all add
abbrev pub part : Extreme → List ℕ → ℕ → ExtendedFact → ℤ
part extreme cells column e = own cells column e (pick extreme cells column e)

abbrev pub end_of : Extreme → List ℕ → ℕ → List ExtendedFact → ℤ
end_of extreme cells column facts = total_by (part extreme cells column) facts
