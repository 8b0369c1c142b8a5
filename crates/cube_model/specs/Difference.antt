-- The facts whose allocation changed after an edit.
use Rattle.std.specs.Prelude.{ℕ, Bool, List, map, filter, not, ◌&&◌, ◌==◌}
use Rattle.std.specs.List.{list_any}
use Rattle.std.specs.Cmp.Lexicographic.{pointwise}
use Rattle.cube_model.specs.declared.edit.Fact.{Fact}
use Rattle.cube_model.specs.Tree.{Dimension}
use Rattle.cube_model.specs.Allocation.{Policy, Allocation, allocation}

-- two allocations have one denominator and the same rows
abbrev pub is_same : Allocation → Allocation → Bool
is_same a b = a.den == b.den && pointwise (λ r s. r.0 == s.0 && r.1 == s.1) a.rows b.rows

-- a fact of the later list was in the earlier one, and lay there as it does now
abbrev pub lies_as_before : Policy → List Dimension → List Fact → List Fact → Fact → Bool
lies_as_before policy dims facts later fact =
    list_any (λ f. f.id == fact.id && is_same (allocation policy dims facts f) (allocation policy dims later fact)) facts

-- the ids of the later facts that are new or whose allocation changed, in order
unfoldable pub refreshed : Policy → List Dimension → List Fact → List Fact → List ℕ
refreshed policy dims facts later = map (λ f. f.id) (filter (λ f. not (lies_as_before policy dims facts later f)) later)
