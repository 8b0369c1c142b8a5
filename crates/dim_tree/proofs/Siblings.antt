-- A node's children and the next one with its parent, by the places of nodes.
use Rattle.std.proofs.Common.{◌≡◌, ℕ, ◌+◌, ◌<◌, ◌≤◌, Bool, true, false, List, [], ◌∷◌, length, get_or, map, filter, slice_get, Option, Some, None, ◌&&◌, ◌==◌, nat_lt, if◌then◌else◌, cond, zero, suc, refl, sym, ap, ◌∙◌, inl, inr, eq-eqb, ne_eqb, true≢false, arith, nat_le}
use Rattle.std.specs.Option.{option_and_then, option_map_or}
use Rattle.std.proofs.lemmas.Bool.{cases_eq, cases_lt}
use Rattle.std.proofs.lemmas.Bool.Decides.{nat_tests}
use Rattle.std.proofs.lemmas.List.{length-map}
use Rattle.cube_model.specs.declared.tree.NodeLine.{NodeLine}
use Rattle.cube_model.specs.Tree.{Entry, numbered, numbered_from, first_fault, parent}
use Rattle.cube_model.specs.Cut.{behind, children, first_child, next_sibling}
use Rattle.dim_tree.specs.Places.{count_deeper, parents_from, ends_from}
use Rattle.dim_tree.proofs.Climbing.{depths_of}
use Rattle.dim_tree.proofs.Rising.{first_fault-rises_on}
use Rattle.dim_tree.proofs.NearestParents.{ends_from-deeper, nearest_at}
use Rattle.dim_tree.proofs.Parents.{parents_from-below, child-next}
use Rattle.dim_tree.proofs.Nodes.{ends_from-above, ends_from-within, is_under-end, is_under-parent, parent-place}

-- the next from a place on that passes, of those before `to`, or that there is none
abbrev IsNext : (ℕ → Bool) → ℕ → ℕ → Option ℕ → Type 0
IsNext p from to None = (x : ℕ) → from ≤ x → x < to → p x ≡ false
IsNext p from to (Some c) = (from ≤ c) × (c < to) × (p c ≡ true) × ((x : ℕ) → from ≤ x → x < c → p x ≡ false)

-- the numbers of nodes
abbrev numbers : List Entry → List ℕ
numbers es = map (λ e. e.number) es

-- the first of one more number, if it passes
first-cond : (b : Bool) (k : ℕ) (ks : List ℕ) → slice_get (cond b (k ∷ ks) ks) 0 ≡ (if b then Some k else slice_get ks 0)
first-cond true k ks = refl
first-cond false k ks = refl

-- the first number that passes is the next one from the first on
filter-next : (p : ℕ → Bool) (k to : ℕ) (lines : List NodeLine) (o : Option ℕ) → to ≡ k + length lines → IsNext p k to o → slice_get (filter p (numbers (numbered_from k lines))) 0 ≡ o
filter-next p k to [] None end is = refl
filter-next p k to [] (Some c) end is = absurd (omega arith)
filter-next p k to (line ∷ lines) None end is =
    let rest = filter-next p (k + 1) to lines None (omega arith) (λ x from before. is x (omega arith) before) in
    first-cond (p k) k (filter p (numbers (numbered_from (k + 1) lines))) ∙ ap (λ b. if b then Some k else slice_get (filter p (numbers (numbered_from (k + 1) lines))) 0) (is k (omega arith) (omega arith)) ∙ rest
filter-next p k to (line ∷ lines) (Some c) end is =
    first-cond (p k) k (filter p (numbers (numbered_from (k + 1) lines))) ∙ elim (cases_eq k c) [
      | inl here ↦ ap (λ b. if b then Some k else slice_get (filter p (numbers (numbered_from (k + 1) lines))) 0) (ap p here ∙ is.2) ∙ ap Some here
      | inr there ↦
          let past : k + 1 ≤ c = omega (arith, is.0, there) in
          ap (λ b. if b then Some k else slice_get (filter p (numbers (numbered_from (k + 1) lines))) 0) (is.3 k (omega arith) (omega arith)) ∙ filter-next p (k + 1) to lines (Some c) (omega arith) (past, is.1, is.2, λ x from before. is.3 x (omega arith) before)
    ]

-- a number that is not x, passing or not, does not stand for it
behind-cond : (b : Bool) (k x : ℕ) (ks : List ℕ) → (k == x) ≡ false → behind x (cond b (k ∷ ks) ks) ≡ behind x ks
behind-cond true k x ks differs = ap (λ same. if same then ks else behind x ks) differs
behind-cond false k x ks differs = refl

-- what stands behind x, where x stands first
behind-first : (b : Bool) (k x : ℕ) (ks : List ℕ) → b ≡ true → (k == x) ≡ true → behind x (cond b (k ∷ ks) ks) ≡ ks
behind-first b k x ks passes same = ap (λ c. behind x (cond c (k ∷ ks) ks)) passes ∙ ap (λ c. if c then ks else behind x ks) same

-- the first behind x, which passes itself, is the next one from the place behind x on
behind-next : (p : ℕ → Bool) (k to : ℕ) (lines : List NodeLine) (x : ℕ) (o : Option ℕ) → to ≡ k + length lines → k ≤ x → x < to → p x ≡ true → IsNext p (x + 1) to o → slice_get (behind x (filter p (numbers (numbered_from k lines)))) 0 ≡ o
behind-next p k to [] x o end from within passes is = absurd (omega arith)
behind-next p k to (line ∷ lines) x o end from within passes is = elim (cases_eq k x) [
  | inl here ↦ ap (λ ks. slice_get ks 0) (behind-first (p k) k x (filter p (numbers (numbered_from (k + 1) lines))) (ap p here ∙ passes) (eq-eqb k x here)) ∙ filter-next p (k + 1) to lines o (omega arith) (rw here is)
  | inr there ↦ ap (λ ks. slice_get ks 0) (behind-cond (p k) k x (filter p (numbers (numbered_from (k + 1) lines))) (ne_eqb k x there)) ∙ behind-next p (k + 1) to lines x o (omega arith) (omega (arith, there)) within passes is
]

-- the first has none
parents_from-first : (ds : List ℕ) → get_or (parents_from [] ds) 0 0 ≡ 0
parents_from-first [] = refl
parents_from-first (d ∷ ds) = refl

-- what follows the deeper ones does not lie deeper
count_deeper-stops : (f : ℕ) (ds : List ℕ) (j : ℕ) → j ≡ count_deeper f ds → j < length ds → get_or ds j 0 ≤ f
count_deeper-stops f [] j counted within = absurd (omega arith)
count_deeper-stops f (d ∷ ds) zero counted within = grind (arith, nat_tests)
count_deeper-stops f (d ∷ ds) (suc j) counted within = grind (arith, nat_tests, λ (h : j ≡ count_deeper f ds). count_deeper-stops f ds j h (omega arith))

-- at the end of a node, none lies deeper
ends_from-stops : (k : ℕ) (ds : List ℕ) (i j : ℕ) → i < length ds → k + j ≡ get_or (ends_from k ds) i 0 → j < length ds → get_or ds j 0 ≤ get_or ds i 0
ends_from-stops k [] i j within at inside = absurd (omega arith)
ends_from-stops k (d ∷ ds) zero zero within at inside = absurd (omega arith)
ends_from-stops k (d ∷ ds) zero (suc j) within at inside = count_deeper-stops d ds j (omega arith) (omega arith)
ends_from-stops k (d ∷ ds) (suc i) zero within at inside = absurd (omega (arith, ends_from-above (k + 1) ds i (omega arith)))
ends_from-stops k (d ∷ ds) (suc i) (suc j) within at inside = ends_from-stops (k + 1) ds i j (omega arith) (omega arith) (omega arith)

module _ (lines : List NodeLine) (accepted : first_fault [] 0 lines ≡ None) where
  -- the place behind the last node under y
  abbrev end_at : ℕ → ℕ
  end_at y = get_or (ends_from 0 (depths_of lines)) y 0

  -- what is kept as the parent of x
  abbrev parent_at : ℕ → ℕ
  parent_at x = get_or (parents_from [] (depths_of lines)) x 0

  -- how deep x lies
  abbrev depth_at : ℕ → ℕ
  depth_at x = get_or (depths_of lines) x 0

  -- whether p is the parent of x
  abbrev is_child : ℕ → ℕ → Bool
  is_child p x = option_map_or (λ y. y == p) (parent (numbered lines) x) false

  -- the lines are counted by their depths
  count : length (depths_of lines) ≡ length lines
  count = length-map lines (λ (line : NodeLine). line.depth)

  -- a node's parent lies before it
  parent-before : (x : ℕ) → x < length lines → 0 < x → parent_at x < x
  parent-before x within some = omega (arith, parents_from-below [] (depths_of lines) x (omega (arith, count)) (omega arith))

  -- and it is under its parent
  parent-inside : (x : ℕ) → x < length lines → 0 < x → x < end_at (parent_at x)
  parent-inside x within some =
      let before = parent-before x within some in
      let its : parent (numbered lines) x ≡ Some (parent_at x) = parent-place lines accepted x within ∙ grind (arith, nat_tests) in
      let under : (nat_le (parent_at x) x && nat_lt x (end_at (parent_at x))) ≡ true = sym (is_under-end lines accepted x (parent_at x) (omega arith)) ∙ is_under-parent lines accepted x (parent_at x) its in
      grind (arith, nat_tests, under)

  -- the first node is kept as its own parent
  parent-first : (x : ℕ) → x ≡ 0 → parent_at x ≡ 0
  parent-first x first = ap parent_at first ∙ parents_from-first (depths_of lines)

  -- what is kept as a parent is a node
  pub parent_at-within : (x : ℕ) → x < length lines → parent_at x < length lines
  parent_at-within x within = elim (cases_eq x 0) [
    | inl first ↦ rw (parent-first x first) (omega arith)
    | inr other ↦ omega (arith, other, parent-before x within (omega (arith, other)))
  ]

  -- whether p is the parent of a node, by what is kept
  is_child-place : (p x : ℕ) → x < length lines → is_child p x ≡ (nat_lt 0 x && parent_at x == p)
  is_child-place p x within = ap (λ o. option_map_or (λ y. y == p) o false) (parent-place lines accepted x within) ∙ grind (arith, nat_tests)

  -- it is no node's that has another
  no_child : (p x : ℕ) → x < length lines → (0 < x → parent_at x ≡ p → ⊥) → is_child p x ≡ false
  no_child p x within differs = is_child-place p x within ∙ grind (arith, nat_tests, differs)

  -- a node under p that lies deeper by one is its child
  parent-one_deeper : (p x : ℕ) → p < x → x < end_at p → x < length lines → depth_at x ≡ depth_at p + 1 → parent_at x ≡ p
  parent-one_deeper p x before inside within deeper =
      let near = nearest_at lines accepted x within (omega arith) in
      let q = parent_at x in
      let not_before : q < p → ⊥ = λ h. near.nearest p h before (sym deeper) in
      let not_behind : p < q → ⊥ = λ h.
      let lower : depth_at p < depth_at q = ends_from-deeper 0 (depths_of lines) p q (omega (arith, count)) h (omega (arith, parent-before x within (omega arith))) in
      omega (arith, near.depth_above, lower) in
      omega (arith, not_before, not_behind)

  -- the first child is the next node, where there is one
  next_child : (n : ℕ) → n < length lines → n + 1 < end_at n → IsNext (is_child n) 0 (length lines) (Some (n + 1))
  next_child n within more =
      let room : n + 1 < length lines = omega (arith, count, ends_from-within 0 (depths_of lines) n (omega (arith, count))) in
      let its : parent_at (n + 1) ≡ n = child-next lines [] 0 n refl room (first_fault-rises_on [] 0 lines accepted) (omega arith) ∙ omega arith in
      (omega arith, room, is_child-place n (n + 1) room ∙ grind (arith, nat_tests, its), λ x from before. no_child n x (omega arith) (λ some same. omega (arith, same, parent-before x (omega arith) some)))

  -- a leaf has none
  no_next_child : (n : ℕ) → end_at n ≡ n + 1 → IsNext (is_child n) 0 (length lines) None
  no_next_child n none x from before = no_child n x before (λ some same.
      let inside : x < end_at n = rw same at (parent-inside x before some) in
      omega (arith, same, parent-before x before some, inside, none))

  -- the first child, by the places
  pub first_child-place : (n : ℕ) → n < length lines → first_child (numbered lines) n ≡ (if end_at n == n + 1 then None else Some (n + 1))
  unfolding first_child children
  first_child-place n within = elim (cases_eq (end_at n) (n + 1)) [
    | inl none ↦ filter-next (is_child n) 0 (length lines) lines None (omega arith) (no_next_child n none) ∙ ap (λ b. if b then None else Some (n + 1)) (sym (eq-eqb (end_at n) (n + 1) none))
    | inr some ↦ filter-next (is_child n) 0 (length lines) lines (Some (n + 1)) (omega arith) (next_child n within (omega (arith, some, ends_from-above 0 (depths_of lines) n (omega (arith, count))))) ∙ ap (λ b. if b then None else Some (n + 1)) (sym (ne_eqb (end_at n) (n + 1) some))
  ]

  -- behind a node and before its end, no node has its parent
  none_between : (x z : ℕ) → x < length lines → 0 < x → x < z → z < end_at x → z < length lines → is_child (parent_at x) z ≡ false
  none_between x z within some behind_it inside room = no_child (parent_at x) z room (λ above same.
      let its : depth_at (parent_at z) ≡ depth_at (parent_at x) = ap depth_at same in
      omega (arith, its, (nearest_at lines accepted x within some).depth_above, (nearest_at lines accepted z room above).depth_above, ends_from-deeper 0 (depths_of lines) x z (omega (arith, count)) behind_it (omega arith)))

  -- its end is the next with its parent, where it is still under the parent
  next_at_end : (x : ℕ) → x < length lines → 0 < x → end_at x < end_at (parent_at x) → IsNext (is_child (parent_at x)) (x + 1) (length lines) (Some (end_at x))
  next_at_end x within some more =
      let p = parent_at x in
      let e = end_at x in
      let before : p < x = parent-before x within some in
      let above : x < e = omega (arith, ends_from-above 0 (depths_of lines) x (omega (arith, count))) in
      let room : e < length lines = omega (arith, count, ends_from-within 0 (depths_of lines) p (omega (arith, count))) in
      let lower : depth_at p < depth_at e = ends_from-deeper 0 (depths_of lines) p e (omega (arith, count)) (omega arith) (omega arith) in
      let upper : depth_at e ≤ depth_at x = ends_from-stops 0 (depths_of lines) x e (omega (arith, count)) (omega arith) (omega (arith, count)) in
      let its : parent_at e ≡ p = parent-one_deeper p e (omega arith) more room (omega (arith, lower, upper, (nearest_at lines accepted x within some).depth_above)) in
      (omega arith, room, is_child-place p e room ∙ grind (arith, nat_tests, its), λ z from inside. none_between x z within some (omega arith) inside (omega arith))

  -- else there is none
  none_behind : (x : ℕ) → x < length lines → 0 < x → end_at (parent_at x) ≤ end_at x → IsNext (is_child (parent_at x)) (x + 1) (length lines) None
  none_behind x within some last z from room = no_child (parent_at x) z room (λ above same.
      let inside : z < end_at (parent_at x) = rw same at (parent-inside z room above) in
      true≢false (sym (is_child-place (parent_at x) z room ∙ grind (arith, nat_tests, same)) ∙ none_between x z within some (omega arith) (omega arith) room))

  -- the next with the same parent, by the places
  next_among : (x : ℕ) → x < length lines → 0 < x → slice_get (behind x (children (numbered lines) (parent_at x))) 0 ≡ (if nat_lt (end_at x) (end_at (parent_at x)) then Some (end_at x) else None)
  unfolding children
  next_among x within some =
      let passes : is_child (parent_at x) x ≡ true = is_child-place (parent_at x) x within ∙ grind (arith, nat_tests) in
      elim (cases_lt (end_at x) (end_at (parent_at x))) [
        | inl more ↦ behind-next (is_child (parent_at x)) 0 (length lines) lines x (Some (end_at x)) (omega arith) (omega arith) within passes (next_at_end x within some more) ∙ grind (arith, nat_tests)
        | inr last ↦ behind-next (is_child (parent_at x)) 0 (length lines) lines x None (omega arith) (omega arith) within passes (none_behind x within some last) ∙ grind (arith, nat_tests)
      ]

  -- the next sibling, by the places
  pub next_sibling-place : (x : ℕ) → x < length lines → next_sibling (numbered lines) x ≡ (if nat_lt (end_at x) (end_at (parent_at x)) then Some (end_at x) else None)
  unfolding next_sibling
  next_sibling-place x within = elim (cases_eq x 0) [
    | inl first ↦
        let same : end_at (parent_at x) ≡ end_at x = ap end_at (parent-first x first ∙ sym first) in
        let root : parent (numbered lines) x ≡ None = parent-place lines accepted x within ∙ grind (arith, nat_tests) in
        ap (option_and_then (λ p. slice_get (behind x (children (numbered lines) p)) 0)) root ∙ grind (arith, nat_tests, same)
    | inr other ↦
        let its : parent (numbered lines) x ≡ Some (parent_at x) = parent-place lines accepted x within ∙ grind (arith, nat_tests) in
        ap (option_and_then (λ p. slice_get (behind x (children (numbered lines) p)) 0)) its ∙ next_among x within (omega (arith, other))
  ]
