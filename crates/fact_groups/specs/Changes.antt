-- Which cells an edit changes.
use Rattle.std.specs.Prelude.{◌≡◌, ℕ, Bool, true, List, [], ◌∷◌, All, IfSome, filter, not, nat_lt, ◌&&◌, ◌==◌, if◌then◌else◌, Option, Some, None}
use Rattle.std.specs.List.{list_any}
use Rattle.std.specs.Option.{option_and_then}
use Rattle.cube_model.specs.declared.edit.Edit.{Edit}
use Rattle.cube_model.specs.declared.edit.Fact.{Fact}
use Rattle.cube_model.specs.declared.statistic.CellStat.{CellStat}
use Rattle.cube_model.specs.Allocation.{Policy, stat_of, weight_of}
use Rattle.cube_model.specs.Cells.{cells_of, is_among}
use Rattle.cube_model.specs.Facts.{after, is_precise}
use Rattle.cube_model.specs.Tree.{Dimension}
use Rattle.region_algebra.specs.Space.{code_of, only_cell}
use Rattle.fact_groups.specs.Edits.{given, taken}

-- the cell of a fact that may be there, if its region is one cell
abbrev pub cell_of : List Dimension → Option Fact → Option ℕ
cell_of dims fact = option_and_then (λ f. only_cell (cells_of dims f.region)) fact

-- the cells that there are, ascending, one that is there twice once
abbrev pub cells_in_order : Option ℕ → Option ℕ → List ℕ
cells_in_order None None = []
cells_in_order None (Some b) = b ∷ []
cells_in_order (Some a) None = a ∷ []
cells_in_order (Some a) (Some b) = if a == b then a ∷ [] else (if nat_lt a b then a ∷ b ∷ [] else b ∷ a ∷ [])

-- the cells of an edit's old fact and new fact where these are precise, of which there are at most two
unfoldable pub touched_cells : List Dimension → Edit → List Fact → List ℕ
touched_cells dims edit facts = cells_in_order (cell_of dims (taken edit facts)) (cell_of dims (given edit))

-- statistics are the same
abbrev pub is_same_stat : CellStat → CellStat → Bool
is_same_stat a b = a.count == b.count && a.sum == b.sum

-- an edit gives a cell other statistics, or another weight
abbrev pub is_changed : Policy → List Dimension → Edit → List Fact → ℕ → Bool
is_changed policy dims edit facts cell = not (is_same_stat (stat_of policy dims facts cell) (stat_of policy dims (after edit facts) cell))

abbrev pub is_reweighed : Policy → List Dimension → Edit → List Fact → ℕ → Bool
is_reweighed policy dims edit facts cell = not (weight_of policy dims facts cell == weight_of policy dims (after edit facts) cell)

-- the cells to which an edit gives other statistics, ascending
unfoldable pub changed_cells : Policy → List Dimension → Edit → List Fact → List ℕ
changed_cells policy dims edit facts = filter (is_changed policy dims edit facts) (touched_cells dims edit facts)

-- those to which it gives another weight, ascending
unfoldable pub reweighed_cells : Policy → List Dimension → Edit → List Fact → List ℕ
reweighed_cells policy dims edit facts = filter (is_reweighed policy dims edit facts) (touched_cells dims edit facts)

-- a region holds one of these cells
abbrev pub holds_any : List Dimension → List ℕ → List ℕ → Bool
holds_any dims region cells = list_any (is_among (cells_of dims region)) cells

-- an imprecise fact whose region holds one of these cells
abbrev pub covers_any : List Dimension → List ℕ → Fact → Bool
covers_any dims cells fact = not (is_precise dims fact) && holds_any dims fact.region cells

-- Each code at which an edit may change the group is among these codes. Such are the codes of the regions of its old
-- fact and its new fact, and of each imprecise fact that covers a cell which it reweighs.
pub record HasCodesOf (policy : Policy) (dims : List Dimension) (edit : Edit) (facts : List Fact) (codes : List ℕ) : Type 0 where
  pub took : IfSome (taken edit facts) (λ f. is_among codes (code_of dims f.region) ≡ true)
  pub gave : IfSome (given edit) (λ f. is_among codes (code_of dims f.region) ≡ true)
  pub covering : All (λ f. covers_any dims (reweighed_cells policy dims edit facts) f ≡ true → is_among codes (code_of dims f.region) ≡ true) facts
