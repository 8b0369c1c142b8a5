-- A view of facts: what they add up to in the regions where its cuts meet.
use Rattle.std.specs.Prelude.{ℕ, ◌+◌, List, [], slice_get}
use Rattle.std.specs.Option.{option_map_or}
use Rattle.cube_model.specs.declared.edit.Fact.{Fact}
use Rattle.cube_model.specs.declared.statistic.CellStat.{CellStat}
use Rattle.cube_model.specs.Answer.{answer}
use Rattle.fact_records.specs.Shape.{width_of_all}
use Rattle.group_sum.specs.Terms.{TermList}
use Rattle.schema_text.specs.Schema.{SchemaValue}
use Rattle.view_store.specs.Cuts.{cut_regions, entries_of}
use Rattle.cube_state.specs.Tables.{table_regions}
use Rattle.cube_core.specs.Cube.{CubeValue, rows_over}

-- what facts add up to in a region
abbrev pub terms_over : (CellStat → ℕ) → SchemaValue → List Fact → List ℕ → TermList
terms_over weigh schema facts region = record { columns = width_of_all schema.measures + 1; terms = answer (width_of_all schema.measures) schema.dims (rows_over weigh schema facts) region }

-- the entries of facts in the product of the cuts at depths
abbrev pub cut_entries : (CellStat → ℕ) → SchemaValue → List Fact → List ℕ → List (List ℕ × TermList)
cut_entries weigh schema facts depths = entries_of (terms_over weigh schema facts) (cut_regions schema.dims depths)

-- The view at a place of facts over a schema: each region of the product of its cuts where the facts have terms, with them, in
-- the order of the product, which is that of the regions' codes.
abbrev pub view_over : (CellStat → ℕ) → SchemaValue → List Fact → ℕ → List (List ℕ × TermList)
view_over weigh schema facts view = option_map_or (λ v. cut_entries weigh schema facts v.depths) (slice_get schema.views view) []

-- that of a cube's facts
abbrev pub view_in : {P : Type 0} → (P → CellStat → ℕ) → CubeValue P → ℕ → List (List ℕ × TermList)
view_in weigh cube view = view_over (weigh cube.policy) cube.schema cube.facts view

-- and what these add up to in a region
abbrev pub cube_terms : {P : Type 0} → (P → CellStat → ℕ) → CubeValue P → List ℕ → TermList
cube_terms weigh cube region = terms_over (weigh cube.policy) cube.schema cube.facts region

-- The table of a region at depths: each region of the product of its members where the facts have terms, with them, in the order of
-- the product.
abbrev pub table_over : (CellStat → ℕ) → SchemaValue → List Fact → List ℕ → List ℕ → List (List ℕ × TermList)
table_over weigh schema facts depths region = entries_of (terms_over weigh schema facts) (table_regions schema.dims depths region)
