-- Whether the nodes of a region reach the cuts.
use Rattle.std.proofs.Common.{◌≡◌, ℕ, zero, suc, true, List, [], ◌∷◌, arith, get_or, length, refl, sym, true≢false, Some}
use Rattle.std.specs.Prelude.{nat_lt, slice_get}
use Rattle.cube_model.specs.Tree.{Dimension, is_leaf}
use Rattle.dim_tree.proofs.Climbing.{both, together}
use Rattle.view_store.specs.Cuts.{reaches_cut, reaches_cuts}
use Rattle.region_algebra.proofs.LeafTuples.{are_leaves, is_node_leaf}

-- where all do, the one of a dimension does
pub reaches-at : (dims : List Dimension) (depths nodes : List ℕ) (d : ℕ) (dim : Dimension) (node : ℕ) → reaches_cuts dims depths nodes ≡ true → slice_get dims d ≡ Some dim → slice_get nodes d ≡ Some node → reaches_cut dim (get_or depths d 0) node ≡ true
reaches-at [] depths nodes d dim node reach is at = absurd (grind arith)
reaches-at (e ∷ dims) [] nodes d dim node reach is at = absurd (true≢false (sym reach))
reaches-at (e ∷ dims) (depth ∷ depths) [] d dim node reach is at = absurd (true≢false (sym reach))
reaches-at (e ∷ dims) (depth ∷ depths) (z ∷ nodes) zero dim node reach is at =
    let same : e ≡ dim = grind arith in
    let it : z ≡ node = grind arith in
    rw (← same, ← it) (both (reaches_cut e depth z) (reaches_cuts dims depths nodes) reach).0
reaches-at (e ∷ dims) (depth ∷ depths) (z ∷ nodes) (suc d) dim node reach is at = reaches-at dims depths nodes d dim node (both (reaches_cut e depth z) (reaches_cuts dims depths nodes) reach).1 is at

-- leaves reach every cut
pub leaves-reach : (dims : List Dimension) (depths leaves : List ℕ) → length depths ≡ length dims → are_leaves dims leaves ≡ true → reaches_cuts dims depths leaves ≡ true
leaves-reach [] [] [] deep are = refl
leaves-reach [] [] (z ∷ leaves) deep are = absurd (true≢false (sym are))
leaves-reach [] (depth ∷ depths) leaves deep are = absurd (omega arith)
leaves-reach (dim ∷ dims) [] leaves deep are = absurd (omega arith)
leaves-reach (dim ∷ dims) (depth ∷ depths) [] deep are = absurd (true≢false (sym are))
leaves-reach (dim ∷ dims) (depth ∷ depths) (z ∷ leaves) deep are =
    let parts = both (is_node_leaf dim z) (are_leaves dims leaves) are in
    let leaf = (both (is_leaf dim z) (nat_lt z (length dim)) parts.0).0 in
    together (grind (arith, leaf)) (leaves-reach dims depths leaves (omega (arith, deep)) parts.1)
