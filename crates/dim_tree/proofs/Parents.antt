-- The parent of a node, by the depths.
use Rattle.std.proofs.Common.{◌≡◌, ℕ, ◌+◌, ◌<◌, ◌≤◌, Bool, true, false, List, [], ◌∷◌, length, get_or, map, slice_get, Some, None, option_map, ◌&&◌, ◌==◌, if◌then◌else◌, cond, zero, suc, refl, ap, ◌∙◌, eq-eqb, arith}
use Rattle.std.proofs.lemmas.Bool.Decides.{nat_tests}
use Rattle.std.proofs.lemmas.List.{length-map}
use Rattle.cube_model.specs.declared.tree.NodeLine.{NodeLine}
use Rattle.cube_model.specs.Tree.{Entry, climb, path_after, numbered_from}
use Rattle.dim_tree.specs.Places.{nearest_parent, parents_from, ends_from}
use Rattle.dim_tree.proofs.Climbing.{stands, is_rising, rises_on, depths_of, node_at, both, together}

-- whether each of these, the nearest first, has its place as its number
abbrev pub placed : List Entry → Bool
placed [] = true
placed (e ∷ es) = e.number == length es && placed es

-- the first that climbing meets is the nearest parent
climb-nearest : (d : ℕ) (e : Entry) (es : List Entry) → is_rising (e ∷ es) ≡ true → placed (e ∷ es) ≡ true → 1 ≤ d → d ≤ e.depth + 1 → option_map (λ p. p.number) (slice_get (climb d (e ∷ es)) 0) ≡ Some (nearest_parent d (map (λ p. p.depth) (e ∷ es)))
climb-nearest d e [] rising at deep near = grind (arith, nat_tests)
climb-nearest d e (b ∷ es) rising at deep near =
    let rising' : is_rising (b ∷ es) ≡ true = (both (stands (b ∷ es) e.depth) (is_rising (b ∷ es)) rising).1 in
    let near' : e.depth ≤ b.depth + 1 = grind (arith, nat_tests) in
    let at' : placed (b ∷ es) ≡ true = (both (e.number == length (b ∷ es)) (placed (b ∷ es)) at).1 in
    grind (arith, nat_tests, length-map (b ∷ es) (λ (p : Entry). p.depth), λ (h : d ≤ b.depth + 1). climb-nearest d b es rising' at' deep h)

-- the first node has no parent, and another has the nearest
parent_here : (es : List Entry) (line : NodeLine) → is_rising es ≡ true → placed es ≡ true → stands es line.depth ≡ true
    → option_map (λ p. p.number) (slice_get (climb line.depth es) 0) ≡ (if length es == 0 then None else Some (nearest_parent line.depth (map (λ p. p.depth) es)))
parent_here [] line rising at stand = refl
parent_here (e ∷ es) line rising at stand =
    let deep : 1 ≤ line.depth = grind (arith, nat_tests) in
    let near : line.depth ≤ e.depth + 1 = grind (arith, nat_tests) in
    grind (arith, nat_tests, climb-nearest line.depth e es rising at deep near)

-- the second on one of two paths
second-cond : (b : Bool) (es fs : List Entry) → slice_get (cond b es fs) 1 ≡ cond b (slice_get es 1) (slice_get fs 1)
second-cond true es fs = refl
second-cond false es fs = refl

-- the parent of the node at place x, where the first of the lines has place k
pub parent-path : (lines : List NodeLine) (es : List Entry) (k i x : ℕ) → k ≡ length es → x ≡ k + i → i < length lines → is_rising es ≡ true → rises_on es (numbered_from k lines) ≡ true → placed es ≡ true
    → option_map (λ p. p.number) (slice_get (path_after es x (numbered_from k lines)) 1) ≡ (if x == 0 then None else Some (get_or (parents_from (map (λ p. p.depth) es) (depths_of lines)) i 0))
parent-path [] es k i x start at within rising rises placed_es = absurd (omega arith)
parent-path (line ∷ lines) es k zero x start at within rising rises placed_es =
    let next = both (stands es line.depth) (rises_on (node_at k line ∷ es) (numbered_from (k + 1) lines)) rises in
    ap (option_map (λ p. p.number)) (second-cond (k == x) (node_at k line ∷ climb line.depth es) (path_after (node_at k line ∷ es) x (numbered_from (k + 1) lines))) ∙ grind (arith, nat_tests, parent_here es line rising placed_es next.0)
parent-path (line ∷ lines) es k (suc i) x start at within rising rises placed_es =
    let next = both (stands es line.depth) (rises_on (node_at k line ∷ es) (numbered_from (k + 1) lines)) rises in
    let placed_more : placed (node_at k line ∷ es) ≡ true = together (eq-eqb k (length es) start) placed_es in
    ap (option_map (λ p. p.number)) (second-cond (k == x) (node_at k line ∷ climb line.depth es) (path_after (node_at k line ∷ es) x (numbered_from (k + 1) lines))) ∙ grind (arith, nat_tests, parent-path lines (node_at k line ∷ es) (k + 1) i x (omega arith) (omega arith) (omega arith) (together next.0 rising) next.1 placed_more)

-- a parent stands before its children
pub nearest_parent-below : (d e : ℕ) (ds : List ℕ) → nearest_parent d (e ∷ ds) < length (e ∷ ds)
nearest_parent-below d e [] = grind (arith, nat_tests)
nearest_parent-below d e (f ∷ ds) = grind (arith, nat_tests, nearest_parent-below d f ds)

-- and so does what is kept as its parent
pub parents_from-below : (earlier ds : List ℕ) (i : ℕ) → i < length ds → 0 < length earlier + i → get_or (parents_from earlier ds) i 0 < length earlier + i
parents_from-below earlier [] i within some = absurd (omega arith)
parents_from-below [] (d ∷ ds) zero within some = absurd (omega arith)
parents_from-below (e ∷ earlier) (d ∷ ds) zero within some = grind (arith, nearest_parent-below d e earlier)
parents_from-below earlier (d ∷ ds) (suc i) within some = grind (arith, parents_from-below (d ∷ earlier) ds i (omega arith) (omega arith))

-- a node that lies deeper than the one just before it is its child
pub child-next : (lines : List NodeLine) (es : List Entry) (k i : ℕ) → k ≡ length es → i + 1 < length lines → rises_on es (numbered_from k lines) ≡ true
    → k + i + 1 < get_or (ends_from k (depths_of lines)) i 0 → get_or (parents_from (map (λ p. p.depth) es) (depths_of lines)) (i + 1) 0 ≡ k + i
child-next [] es k i start within rises under = absurd (omega arith)
child-next (line ∷ []) es k i start within rises under = absurd (omega arith)
child-next (line ∷ after ∷ lines) es k zero start within rises under =
    let next = both (stands es line.depth) (rises_on (node_at k line ∷ es) (numbered_from (k + 1) (after ∷ lines))) rises in
    let stand : stands (node_at k line ∷ es) after.depth ≡ true = (both (stands (node_at k line ∷ es) after.depth) (rises_on (node_at (k + 1) after ∷ node_at k line ∷ es) (numbered_from (k + 1 + 1) lines)) next.1).0 in
    let near : after.depth ≤ line.depth + 1 = grind (arith, nat_tests) in
    grind (arith, nat_tests, length-map es (λ (p : Entry). p.depth))
child-next (line ∷ after ∷ lines) es k (suc i) start within rises under =
    let next = both (stands es line.depth) (rises_on (node_at k line ∷ es) (numbered_from (k + 1) (after ∷ lines))) rises in
    grind (arith, child-next (after ∷ lines) (node_at k line ∷ es) (k + 1) i (omega arith) (omega arith) next.1 (omega arith))

-- there is one for each node
pub length-parents_from : (earlier ds : List ℕ) → length (parents_from earlier ds) ≡ length ds
length-parents_from earlier [] = refl
length-parents_from earlier (d ∷ ds) = ap suc (length-parents_from (d ∷ earlier) ds)
