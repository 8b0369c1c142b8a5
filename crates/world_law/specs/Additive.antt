-- Answers at a region and at those into which it is cut.
use Rattle.std.specs.Prelude.{◌≡◌, ℕ, false, List, map, IfSome, slice_get, slice_set}
use Rattle.cube_model.specs.declared.term.Term.{Term}
use Rattle.cube_model.specs.Allocation.{ExtendedFact}
use Rattle.cube_model.specs.Answer.{answer, merge_all}
use Rattle.cube_model.specs.Cut.{children}
use Rattle.cube_model.specs.Tree.{Dimension, is_leaf}

-- In each dimension in which the region's node has children, the answers at the regions with each child in its place merge to these terms.
abbrev pub AddUpOverChildren : ℕ → List Dimension → List ℕ → List ExtendedFact → List Term → Type 0
AddUpOverChildren columns dims region facts terms =
    (d : ℕ) → IfSome (slice_get dims d) (λ dim. IfSome (slice_get region d) (λ node.
    is_leaf dim node ≡ false → merge_all columns (map (λ child. answer columns dims facts (slice_set region d child)) (children dim node)) ≡ terms))
