-- How much of facts is in a region after rounds.
use Rattle.cube_model.specs.declared.edit.Fact.{Fact}
use Rattle.cube_model.specs.Answer.{total_by}
use Rattle.cube_model.specs.Cells.{cells_of}
use Rattle.cube_model.specs.Facts.{is_precise}
use Rattle.cube_model.specs.Tree.{Dimension}
use Rattle.iter_alloc.specs.Rounds.{WHOLE_FACT, share_by, level_from}
use Rattle.region_algebra.specs.Space.{common_cells}
use Rattle.std.specs.List.{sum_by, range_with_len}
use Rattle.std.specs.Prelude.{if◌then◌else◌, slice_index_or, ℕ, zero, suc, ◌-◌, ◌*◌, List, length, map, ℤ, pos, ◌*ℤ◌}

-- Of a fact the units in the region, where the cells begin with the precise ones of some facts, and others give. There is one
-- round at least: the last one shares the fact among the cells as they stood before it.
abbrev pub portion_from : List Dimension → List Fact → List Fact → ℕ → List ℕ → Fact → ℕ
portion_from dims facts givers rounds region fact =
    if is_precise dims fact
    then WHOLE_FACT * length (common_cells dims fact.region region)
    else sum_by (share_by (level_from dims facts givers (rounds - 1)) (cells_of dims fact.region)) (common_cells dims fact.region region)

abbrev pub portion : List Dimension → List Fact → ℕ → List ℕ → Fact → ℕ
portion dims facts rounds region fact = portion_from dims facts facts rounds region fact

-- a column of a fact: the count, which is one, and then its values
abbrev pub value_of : ℕ → Fact → ℤ
value_of zero fact = pos 1
value_of (suc column) fact = slice_index_or fact.cols column (pos 0)

-- what all facts have in the region, column by column
abbrev pub iterated : List Dimension → List Fact → ℕ → List ℕ → ℕ → ℤ
iterated dims facts rounds region column = total_by (λ fact. value_of column fact *ℤ pos (portion dims facts rounds region fact)) facts

abbrev pub iterated_all : List Dimension → List Fact → ℕ → List ℕ → ℕ → List ℤ
iterated_all dims facts rounds region columns = map (iterated dims facts rounds region) (range_with_len 0 columns)
