-- The edits of the drill of a number: so many facts come, which are drawn, and then each goes whose id 3 divides.
use Rattle.std.specs.Prelude.{ℕ, ◌+◌, ◌*◌, ◌/◌, ◌%◌, ◌==◌, ◌||◌, if◌then◌else◌, List, [], ◌∷◌, ◌++◌, filter, map, pos}
use Rattle.std.specs.List.{range_with_len}
use Rattle.cube_model.specs.declared.edit.Edit.{Edit}
use Rattle.cube_model.specs.declared.edit.Edit.TheVariants.{Put, Withdraw}
use Rattle.cube_model.specs.declared.edit.Fact.{Fact}
use Rattle.drill_run.specs.Numbers.{drawn}

-- the most facts of a drill
abbrev pub MAX_DRILL : ℕ
MAX_DRILL = 100000

-- The nodes of a city and of its state, of a week and of its quarter. A state stands before its eight cities, a quarter before its
-- thirteen weeks.
abbrev pub state_node : ℕ → ℕ
state_node city = 1 + city / 8 * 9

abbrev pub city_node : ℕ → ℕ
city_node city = state_node city + 1 + city % 8

abbrev pub quarter_node : ℕ → ℕ
quarter_node week = 1 + week / 13 * 14

abbrev pub week_node : ℕ → ℕ
week_node week = quarter_node week + 1 + week % 13

-- Where a fact of a kind lies: of kinds 0 and 2 somewhere in the state, of kinds 1 and 2 sometime in the quarter.
abbrev pub place_node : ℕ → ℕ → ℕ
place_node kind city = if kind == 0 || kind == 2 then state_node city else city_node city

abbrev pub time_node : ℕ → ℕ → ℕ
time_node kind week = if kind == 1 || kind == 2 then quarter_node week else week_node week

-- a fact by what was drawn for its place, its time, its kind and its amount
abbrev pub fact_drawn : ℕ → ℕ → ℕ → ℕ → ℕ → Fact
fact_drawn id place time kind amount = record {
  id = id;
  region = place_node (kind % 16) (place % 64) ∷ time_node (kind % 16) (time % 52) ∷ [];
  cols = pos (amount % 1000) ∷ [];
}

-- the fact that comes after so many earlier ones
abbrev pub fact_after : ℕ → ℕ → Fact
fact_after seed earlier = fact_drawn (earlier + 1) (drawn seed (4 * earlier + 1)) (drawn seed (4 * earlier + 2)) (drawn seed (4 * earlier + 3)) (drawn seed (4 * earlier + 4))

-- the first so many facts come
abbrev pub first_puts : ℕ → ℕ → List Edit
first_puts seed count = map (λ earlier. Put (fact_after seed earlier)) (range_with_len 0 count)

-- of the first so many ids those go that 3 divides
abbrev pub thirds : ℕ → List Edit
thirds count = map (λ id. Withdraw id) (filter (λ id. id % 3 == 0) (range_with_len 1 count))

abbrev pub edits_of : ℕ → List Edit
edits_of n = first_puts n n ++ thirds n
