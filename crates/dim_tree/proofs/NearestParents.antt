-- The parent of a node is the nearest before it that lies less deep by one, and what stands between a node and its end lies deeper.
use Rattle.std.proofs.Common.{◌≡◌, ℕ, ◌+◌, ◌<◌, ◌≤◌, Bool, true, List, [], ◌∷◌, length, get_or, map, None, ◌&&◌, ◌==◌, zero, suc, refl, sym, ap, ◌∙◌, inl, inr, eq-eqb, arith}
use Rattle.std.proofs.lemmas.Bool.{cases_eq}
use Rattle.std.proofs.lemmas.Bool.Decides.{nat_tests}
use Rattle.std.proofs.lemmas.List.{length-map}
use Rattle.cube_model.specs.declared.tree.NodeLine.{NodeLine}
use Rattle.cube_model.specs.Tree.{Entry, numbered_from, first_fault}
use Rattle.dim_tree.specs.Places.{count_deeper, nearest_parent, parents_from, ends_from}
use Rattle.dim_tree.proofs.Climbing.{stands, is_rising, rises_on, depths_of, node_at, both, together}
use Rattle.dim_tree.proofs.Rising.{first_fault-rises_on}

-- whether each of these depths, the nearest first, is that of its place
abbrev follows : (ℕ → ℕ) → List ℕ → Bool
follows depth [] = true
follows depth (d ∷ ds) = depth (length ds) == d && follows depth ds

-- the nearest parent lies less deep by one
nearest_parent-depth : (depth : ℕ → ℕ) (d : ℕ) (e : Entry) (es : List Entry) → is_rising (e ∷ es) ≡ true → follows depth (map (λ p. p.depth) (e ∷ es)) ≡ true → 1 ≤ d → d ≤ e.depth + 1 → depth (nearest_parent d (map (λ p. p.depth) (e ∷ es))) + 1 ≡ d
nearest_parent-depth depth d e [] rising follow deep near = grind (arith, nat_tests)
nearest_parent-depth depth d e (b ∷ es) rising follow deep near =
    let rising' : is_rising (b ∷ es) ≡ true = (both (stands (b ∷ es) e.depth) (is_rising (b ∷ es)) rising).1 in
    let near' : e.depth ≤ b.depth + 1 = grind (arith, nat_tests) in
    let ds = map (λ (p : Entry). p.depth) (b ∷ es) in
    let follow' : follows depth ds ≡ true = (both (depth (length ds) == e.depth) (follows depth ds) follow).1 in
    grind (arith, nat_tests, λ (h : d ≤ b.depth + 1). nearest_parent-depth depth d b es rising' follow' deep h)

-- and none nearer does
nearest_parent-nearest : (depth : ℕ → ℕ) (d : ℕ) (ds : List ℕ) (y : ℕ) → follows depth ds ≡ true → nearest_parent d ds < y → y < length ds → depth y + 1 ≡ d → ⊥
nearest_parent-nearest depth d [] y follow above within same = omega arith
nearest_parent-nearest depth d (e ∷ ds) y follow above within same =
    let parts = both (depth (length ds) == e) (follows depth ds) follow in
    elim (cases_eq (length ds) y) [
      | inl here ↦
          let at : (depth (length ds) == e) ≡ true = parts.0 in
          let its : depth (length ds) ≡ depth y = ap depth here in
          grind (arith, nat_tests, at, its)
      | inr there ↦
          let inside : y < length ds = omega (arith, there) in
          grind (arith, nat_tests, inside, λ (h : nearest_parent d ds < y). nearest_parent-nearest depth d ds y parts.1 h inside same)
    ]

-- what is said of the parent q of the node at place z
pub record IsNearest (depth : ℕ → ℕ) (z q : ℕ) : Type 0 where
  pub depth_above : depth q + 1 ≡ depth z
  pub nearest : (y : ℕ) → q < y → y < z → depth y + 1 ≡ depth z → ⊥

-- what is kept as a node's parent is the nearest that lies less deep by one
parents_from-nearest : (depth : ℕ → ℕ) (lines : List NodeLine) (es : List Entry) (k i z : ℕ) → k ≡ length es → z ≡ k + i → i < length lines → 0 < z → is_rising es ≡ true → rises_on es (numbered_from k lines) ≡ true → follows depth (map (λ p. p.depth) es) ≡ true
    → ((j y : ℕ) → y ≡ k + j → j < length lines → depth y ≡ get_or (depths_of lines) j 0)
    → IsNearest depth z (get_or (parents_from (map (λ p. p.depth) es) (depths_of lines)) i 0)
parents_from-nearest depth [] es k i z start at within some rising rises follow is = absurd (omega arith)
parents_from-nearest depth (line ∷ lines) [] k zero z start at within some rising rises follow is = absurd (omega arith)
parents_from-nearest depth (line ∷ lines) (e ∷ es) k zero z start at within some rising rises follow is =
    let stand : stands (e ∷ es) line.depth ≡ true = (both (stands (e ∷ es) line.depth) (rises_on (node_at k line ∷ e ∷ es) (numbered_from (k + 1) lines)) rises).0 in
    let deep : 1 ≤ line.depth = grind (arith, nat_tests) in
    let near : line.depth ≤ e.depth + 1 = grind (arith, nat_tests) in
    let its : depth z ≡ line.depth = is 0 z at within in
    let count = length-map (e ∷ es) (λ (p : Entry). p.depth) in
    record {
      depth_above = nearest_parent-depth depth line.depth e es rising follow deep near ∙ sym its;
      nearest = λ y above before same. nearest_parent-nearest depth line.depth (map (λ p. p.depth) (e ∷ es)) y follow above (omega (arith, count)) (same ∙ its);
    }
parents_from-nearest depth (line ∷ lines) es k (suc i) z start at within some rising rises follow is =
    let next = both (stands es line.depth) (rises_on (node_at k line ∷ es) (numbered_from (k + 1) lines)) rises in
    let count = length-map es (λ (p : Entry). p.depth) in
    let its : depth (length (map (λ (p : Entry). p.depth) es)) ≡ line.depth = is 0 (length (map (λ (p : Entry). p.depth) es)) (omega (arith, count)) (omega arith) in
    parents_from-nearest depth lines (node_at k line ∷ es) (k + 1) i z (omega arith) (omega arith) (omega arith) some (together next.0 rising) next.1 (together (eq-eqb _ _ its) follow) (λ j y there inside. is (suc j) y (omega arith) (omega arith))

-- what is counted as deeper lies deeper
count_deeper-deeper : (f : ℕ) (ds : List ℕ) (j : ℕ) → j < count_deeper f ds → f < get_or ds j 0
count_deeper-deeper f [] j counted = absurd (omega arith)
count_deeper-deeper f (d ∷ ds) zero counted = grind (arith, nat_tests)
count_deeper-deeper f (d ∷ ds) (suc j) counted = grind (arith, nat_tests, λ (h : j < count_deeper f ds). count_deeper-deeper f ds j h)

-- behind a node and before its end, nodes lie deeper
pub ends_from-deeper : (k : ℕ) (ds : List ℕ) (i j : ℕ) → i < length ds → i < j → k + j < get_or (ends_from k ds) i 0 → get_or ds i 0 < get_or ds j 0
ends_from-deeper k [] i j within order inside = absurd (omega arith)
ends_from-deeper k (d ∷ ds) i zero within order inside = absurd (omega arith)
ends_from-deeper k (d ∷ ds) zero (suc j) within order inside = count_deeper-deeper d ds j (omega arith)
ends_from-deeper k (d ∷ ds) (suc i) (suc j) within order inside = ends_from-deeper (k + 1) ds i j (omega arith) (omega arith) (omega arith)

module _ (lines : List NodeLine) (accepted : first_fault [] 0 lines ≡ None) where
  -- what is kept as the parent of x
  abbrev parent_at : ℕ → ℕ
  parent_at x = get_or (parents_from [] (depths_of lines)) x 0

  -- how deep x lies
  abbrev depth_at : ℕ → ℕ
  depth_at x = get_or (depths_of lines) x 0

  -- the parent of a node that is not the first
  pub nearest_at : (x : ℕ) → x < length lines → 0 < x → IsNearest depth_at x (parent_at x)
  nearest_at x within some = parents_from-nearest depth_at lines [] 0 x x refl (omega arith) within some refl (first_fault-rises_on [] 0 lines accepted) refl (λ j y at inside. ap (λ n. get_or (depths_of lines) n 0) (at ∙ omega arith))
