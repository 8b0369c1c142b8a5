-- The regions whose imprecise facts cover cells.
use Rattle.std.specs.Prelude.{ℕ, Bool, List, length, ◌&&◌, sum_by}
use Rattle.std.specs.List.{list_any}
use Rattle.cube_model.specs.declared.edit.Fact.{Fact}
use Rattle.cube_model.specs.Tree.{Dimension}
use Rattle.alloc_rows.specs.Changed.{Change}
use Rattle.fact_groups.specs.Groups.{has_code}
use Rattle.region_index.specs.Indexed.{covers}
use Rattle.region_index.specs.Over.{codes_over}

-- a fact covers one of the changed cells
abbrev pub covers_one : List Dimension → List Change → Fact → Bool
covers_one dims changes fact = list_any (λ change. covers dims change.0 fact) changes

-- so does a fact whose region has the code
abbrev pub is_over_one : List Dimension → List Change → List Fact → ℕ → Bool
is_over_one dims changes facts code = list_any (λ f. covers_one dims changes f && has_code dims code f) facts

-- the regions over each changed cell
abbrev pub probes_over : List Dimension → List Change → ℕ
probes_over dims changes = sum_by (λ change. length (codes_over dims change.0)) changes
