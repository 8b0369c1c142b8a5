-- Accepted lines rise by at most one, and lie at most MAX_DEPTH deep.
use Rattle.std.proofs.Common.{◌≡◌, ℕ, ◌+◌, ◌≤◌, true, List, [], ◌∷◌, None, nat_le, refl, arith}
use Rattle.std.specs.List.{list_all}
use Rattle.std.proofs.lemmas.Bool.Decides.{nat_tests}
use Rattle.cube_model.specs.declared.tree.NodeLine.{NodeLine}
use Rattle.cube_model.specs.Limits.{MAX_DEPTH}
use Rattle.cube_model.specs.Tree.{Entry, line_fault, first_fault, numbered_from, node_lines}
use Rattle.dim_tree.proofs.Climbing.{stands, rises_on, depths_of, node_at, together}

-- a line without fault stands behind the others, at most MAX_DEPTH deep
pub line_fault-stands : (es : List Entry) (k : ℕ) (line : NodeLine) → line_fault (node_lines es) k line ≡ None → (stands es line.depth ≡ true) × (line.depth ≤ MAX_DEPTH)
line_fault-stands [] k line accepted = grind (arith, nat_tests)
line_fault-stands (e ∷ es) k line accepted = grind (arith, nat_tests)

-- the first of the lines has no fault, and neither have the others
pub first_fault-parts : (earlier : List NodeLine) (k : ℕ) (line : NodeLine) (lines : List NodeLine) → first_fault earlier k (line ∷ lines) ≡ None → (line_fault earlier k line ≡ None) × (first_fault (line ∷ earlier) (k + 1) lines ≡ None)
first_fault-parts earlier k line lines accepted = grind arith

-- so the nodes rise one after another
pub first_fault-rises_on : (es : List Entry) (k : ℕ) (lines : List NodeLine) → first_fault (node_lines es) k lines ≡ None → rises_on es (numbered_from k lines) ≡ true
first_fault-rises_on es k [] accepted = refl
first_fault-rises_on es k (line ∷ lines) accepted =
    let parts = first_fault-parts (node_lines es) k line lines accepted in
    together (line_fault-stands es k line parts.0).0 (first_fault-rises_on (node_at k line ∷ es) (k + 1) lines parts.1)

-- no line lies deeper than MAX_DEPTH
pub first_fault-shallow : (es : List Entry) (k : ℕ) (lines : List NodeLine) → first_fault (node_lines es) k lines ≡ None → list_all (λ depth. nat_le depth MAX_DEPTH) (depths_of lines) ≡ true
first_fault-shallow es k [] accepted = refl
first_fault-shallow es k (line ∷ lines) accepted =
    let parts = first_fault-parts (node_lines es) k line lines accepted in
    let shallow : line.depth ≤ MAX_DEPTH = (line_fault-stands es k line parts.0).1 in
    grind (arith, nat_tests, shallow, first_fault-shallow (node_at k line ∷ es) (k + 1) lines parts.1)
