-- Rows of which one changes.
use Rattle.std.specs.Prelude.{ℕ, List, [], ◌∷◌, ◌++◌, filter, nat_lt, ◌==◌, if◌then◌else◌}
use Rattle.cube_model.specs.Allocation.{Allocation}

-- the row of a cell, if it weighs something
abbrev pub cell_row : ℕ → ℕ → List (ℕ × ℕ)
cell_row cell weight = if weight == 0 then [] else (cell, weight) ∷ []

-- the rows of smaller cells, then that of the cell, then those of greater cells
abbrev pub with_row : List (ℕ × ℕ) → ℕ → ℕ → List (ℕ × ℕ)
with_row rows cell weight = filter (λ row. nat_lt row.0 cell) rows ++ (cell_row cell weight ++ filter (λ row. nat_lt cell row.0) rows)

-- what the cell of the first row weighs
abbrev pub first_weight : (ℕ → ℕ) → List (ℕ × ℕ) → ℕ
first_weight weight [] = 0
first_weight weight (row ∷ rows) = weight row.0

-- What there is by weight alone: nothing of even rows, whose first cell weighs nothing, else all.
abbrev pub weighted_part : (ℕ → ℕ) → Allocation → Allocation
weighted_part weight a = if first_weight weight a.rows == 0 then record { den = 0; rows = [] } else a
