-- Where the imprecise facts of a cube stand at an end of a region's sum.
use Rattle.std.specs.Prelude.{ℕ, List, filter, map, not}
use Rattle.cube_model.specs.declared.edit.Fact.{Fact}
use Rattle.cube_model.specs.declared.statistic.CellStat.{CellStat}
use Rattle.cube_model.specs.Allocation.{Policy, allocation}
use Rattle.cube_model.specs.Cells.{cells_of}
use Rattle.cube_model.specs.Facts.{is_precise}
use Rattle.cube_model.specs.Tree.{Dimension}
use Rattle.cube_state.specs.State.{StateValue, policy_in}
use Rattle.schema_text.specs.Schema.{SchemaValue, schema_policy}
use Rattle.world_range.specs.declared.extreme.Extreme.{Extreme}
use Rattle.world_range.specs.Picks.{pick}

-- the id of a fact, and the cell in which it stands at an end of a region's sum of a column
abbrev pub pair_of : Policy → List Dimension → List Fact → Extreme → List ℕ → ℕ → Fact → ℕ × ℕ
pair_of policy dims facts extreme region column fact =
    (fact.id, pick extreme (cells_of dims region) column (record { id = fact.id; values = fact.cols; allocation = allocation policy dims facts fact }))

-- That of each imprecise fact, ascending by id. A fact is imprecise where its region has several cells, however many rows it has.
abbrev pub imprecise_picks : Policy → List Dimension → List Fact → Extreme → List ℕ → ℕ → List (ℕ × ℕ)
imprecise_picks policy dims facts extreme region column = map (pair_of policy dims facts extreme region column) (filter (λ fact. not (is_precise dims fact)) facts)

-- the same over a schema, and in a state
abbrev pub picks_over : (CellStat → ℕ) → SchemaValue → List Fact → Extreme → List ℕ → ℕ → List (ℕ × ℕ)
picks_over weigh schema facts extreme region column = imprecise_picks (schema_policy weigh schema) schema.dims facts extreme region column

abbrev pub picks_in : {P : Type 0} → (P → CellStat → ℕ) → StateValue P → Extreme → List ℕ → ℕ → List (ℕ × ℕ)
picks_in weigh state extreme region column = imprecise_picks (policy_in weigh state) state.dims state.facts extreme region column
