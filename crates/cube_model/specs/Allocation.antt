-- How a fact is spread over the cells of its region, and the table of all rows. That the weights of a fact add up to the whole
-- of it follows Burdick and others, "OLAP Over Uncertain and Imprecise Data", VLDB 2005; the policies and the even spread do not.
use Rattle.std.specs.Prelude.{ℕ, List, length, map, filter, sum_by, count_by, nat_lt, ◌==◌, if◌then◌else◌, ◌∷◌, ℤ, pos, nat_abs, slice_index_or, Option}
use Rattle.std.specs.Option.{option_map}
use Rattle.std.specs.List.{find}
use Rattle.cube_model.specs.declared.statistic.CellStat.{CellStat}
use Rattle.cube_model.specs.declared.edit.Fact.{Fact}
use Rattle.cube_model.specs.Tree.{Dimension}
use Rattle.cube_model.specs.Cells.{cells_of, is_single}
use Rattle.cube_model.specs.Facts.{lies_at}

-- A policy: what a cell weighs, by what is known of its precise facts; and what a fact of these values adds to the sum that is known.
pub record Policy : Type 0 where
  pub weigh : CellStat → ℕ
  pub adds : List ℤ → ℕ

-- every cell weighs the same
abbrev pub weigh_evenly : CellStat → ℕ
weigh_evenly stat = 1

-- a cell weighs as much as it has precise facts
abbrev pub weigh_count : CellStat → ℕ
weigh_count stat = stat.count

-- a cell weighs the sum that is known of its precise facts
abbrev pub weigh_sum : CellStat → ℕ
weigh_sum stat = stat.sum

-- nothing is added up
abbrev pub add_nothing : List ℤ → ℕ
add_nothing values = 0

-- a column's value, the count being column 0; where it is below 0, which no accepted value is, its distance from 0
abbrev pub add_column : ℕ → List ℤ → ℕ
add_column column values = nat_abs (slice_index_or (pos 1 ∷ values) column (pos 0))

abbrev pub uniform : Policy
uniform = record { weigh = weigh_evenly; adds = add_nothing }

abbrev pub by_count : Policy
by_count = record { weigh = weigh_count; adds = add_nothing }

-- by the sum of a column
abbrev pub by_sum : ℕ → Policy
by_sum column = record { weigh = weigh_sum; adds = add_column column }

-- of the precise facts at a cell, the number, and the sum of what they add
abbrev pub stat_of : Policy → List Dimension → List Fact → ℕ → CellStat
stat_of policy dims facts cell = record {
  count = count_by (lies_at dims cell) facts;
  sum = sum_by (λ f. policy.adds f.cols) (filter (lies_at dims cell) facts);
}

-- what a cell weighs
abbrev pub weight_of : Policy → List Dimension → List Fact → ℕ → ℕ
weight_of policy dims facts cell = policy.weigh (stat_of policy dims facts cell)

-- an allocation: a denominator, and rows of a cell and its weight, ascending by cell
pub record Allocation : Type 0 where
  pub den : ℕ
  pub rows : List (ℕ × ℕ)

-- every cell has the same weight
abbrev pub spread_evenly : List ℕ → Allocation
spread_evenly cells = record { den = length cells; rows = map (λ cell. (cell, 1)) cells }

-- the rows of the cells that weigh something
abbrev pub rows_of : (ℕ → ℕ) → List ℕ → List (ℕ × ℕ)
rows_of weight cells = filter (λ row. nat_lt 0 row.1) (map (λ cell. (cell, weight cell)) cells)

-- every cell has its weight, and those of weight 0 are left out
abbrev pub spread_by : (ℕ → ℕ) → List ℕ → Allocation
spread_by weight cells = record { den = sum_by weight cells; rows = rows_of weight cells }

-- A fact on one cell is there. Else it is spread over the cells by their weights, or evenly where these are 0.
abbrev pub spread : (ℕ → ℕ) → List ℕ → Allocation
spread weight cells =
    if is_single cells then spread_evenly cells
    else (if sum_by weight cells == 0 then spread_evenly cells else spread_by weight cells)

-- a fact's allocation among the facts
unfoldable pub allocation : Policy → List Dimension → List Fact → Fact → Allocation
allocation policy dims facts fact = spread (weight_of policy dims facts) (cells_of dims fact.region)

-- a fact's rows with its id and its values
pub record ExtendedFact : Type 0 where
  pub id : ℕ
  pub values : List ℤ
  pub allocation : Allocation

-- the extended database: every fact in order, with its allocation
unfoldable pub extended : Policy → List Dimension → List Fact → List ExtendedFact
extended policy dims facts = map (λ f. record { id = f.id; values = f.cols; allocation = allocation policy dims facts f }) facts

-- the allocation of the fact of an id, if there is one
abbrev pub allocation_of : ℕ → List ExtendedFact → Option Allocation
allocation_of id rows = option_map (λ e. e.allocation) (find (λ e. e.id == id) rows)

-- the number of rows
abbrev pub row_count : List ExtendedFact → ℕ
row_count rows = sum_by (λ e. length e.allocation.rows) rows
