-- Of the children of a node that is no leaf, each leaf under the node is under exactly one.
use Rattle.std.proofs.Common.{◌≡◌, ℕ, zero, suc, ◌+◌, ◌<◌, ◌≤◌, ◌≢◌, Bool, true, false, List, [], ◌∷◌, length, map, refl, sym, ap, ◌∙◌, inl, inr, true≢false, arith, eq-eqb, ne_eqb, get_or, subst}
use Rattle.std.specs.Prelude.{if◌then◌else◌, cond, filter, Some, None, ◌&&◌, ◌||◌, ◌==◌, nat_lt, nat_le, slice_get}
use Rattle.std.specs.List.{count_by}
use Rattle.std.specs.Option.{option_map, option_map_or}
use Rattle.std.proofs.lemmas.Bool.{cases_eq, and_right}
use Rattle.std.proofs.lemmas.Bool.Decides.{nat_tests}
use Rattle.std.proofs.lemmas.List.{length-map}
use Rattle.std.proofs.lemmas.List.Sums.{sum_by-cons}
use Rattle.cube_model.specs.declared.tree.NodeLine.{NodeLine}
use Rattle.cube_model.specs.Tree.{Dimension, Entry, IsTree, climb, first_fault, is_leaf, is_under, node_lines, numbered, numbered_from, parent, path, path_after}
use Rattle.cube_model.specs.Cut.{children}
use Rattle.dim_tree.specs.Places.{ends_from, parents_from}
use Rattle.dim_tree.proofs.Climbing.{both, depths_of, meets, node_at, together}
use Rattle.dim_tree.proofs.Nodes.{is_under-end, parent-place, ends_from-above}
use Rattle.dim_tree.proofs.Entries.{length-node_lines}
use Rattle.std.proofs.Math.Path.{fun_ext}
use Rattle.dim_tree.proofs.Outlines.{tree_fault_none}
use Rattle.dim_tree.proofs.Parents.{parents_from-below, placed}
use Rattle.dim_tree.proofs.Renumbering.{are_numbers, number_at, number_at-place_at, place_at, place_at-number_at, place_at-within, plain}
use Rattle.region_algebra.proofs.Numbers.{children-plain, is_under-plain}

-- the path from a node among these, the nearest first
abbrev back : List Entry → ℕ → List Entry
back [] x = []
back (e ∷ es) x = if e.number == x then e ∷ climb e.depth es else back es x

-- what climbing meets is the path from the first that it meets, which stands before
abbrev ClimbsFrom : List Entry → List Entry → ℕ → Type 0
ClimbsFrom es met q = (met ≡ back es q) × (q < length es)

-- one node further, which is met or not
climb-here : (b : Bool) (e : Entry) (es met : List Entry) (q : ℕ) → e.number ≡ length es
    → (option_map (λ p. p.number) (slice_get met 0) ≡ Some q → ClimbsFrom es met q)
    → option_map (λ p. p.number) (slice_get (cond b (e ∷ climb e.depth es) met) 0) ≡ Some q → ClimbsFrom (e ∷ es) (cond b (e ∷ climb e.depth es) met) q
climb-here true e es met q at before first =
    let its : e.number ≡ q = grind arith in
    let here : (e.number == q) ≡ true = eq-eqb e.number q its in
    (rw here refl, omega (arith, its, at))
climb-here false e es met q at before first =
    let is = before first in
    let other : (e.number == q) ≡ false = ne_eqb e.number q (λ same. omega (arith, same, at, is.1)) in
    (rw other is.0, omega (arith, is.1))

climb-from : (d : ℕ) (es : List Entry) (q : ℕ) → placed es ≡ true → option_map (λ p. p.number) (slice_get (climb d es) 0) ≡ Some q → ClimbsFrom es (climb d es) q
climb-from d [] q at first = absurd (grind arith)
climb-from d (e ∷ es) q at first =
    let parts = both (e.number == length es) (placed es) at in
    climb-here (e.depth + 1 == d) e es (climb d es) q (grind (arith, nat_tests, parts.0)) (climb-from d es q parts.1) first

-- a path behind its first node is the path from its second
meets-here : (whole : ℕ → List Entry) (e : Entry) (es : List Entry) (x q y : ℕ) → placed es ≡ true → e.number ≡ x → whole x ≡ e ∷ climb e.depth es → ((z : ℕ) → z < length es → back es z ≡ whole z)
    → option_map (λ p. p.number) (slice_get (whole x) 1) ≡ Some q → meets y (whole x) ≡ (x == y || meets y (whole q))
meets-here whole e es x q y at number is before second =
    let from : ClimbsFrom es (climb e.depth es) q = climb-from e.depth es q at (ap (λ l. option_map (λ p. p.number) (slice_get l 1)) (sym is) ∙ second) in
    let rest : climb e.depth es ≡ whole q = from.0 ∙ before q from.1 in
    rw is (ap (λ n. n == y || meets y (climb e.depth es)) number ∙ ap (λ l. x == y || meets y l) rest)

-- the paths over all nodes, of which `es` stand before the lines
meets-second : (whole : ℕ → List Entry) (lines : List NodeLine) (es : List Entry) (k x q y : ℕ) → k ≡ length es → placed es ≡ true → k ≤ x → x < k + length lines
    → ((z : ℕ) → z < k → back es z ≡ whole z) → ((z : ℕ) → k ≤ z → path_after es z (numbered_from k lines) ≡ whole z)
    → option_map (λ p. p.number) (slice_get (whole x) 1) ≡ Some q → meets y (whole x) ≡ (x == y || meets y (whole q))
meets-second whole [] es k x q y start at from within before later second = absurd (omega arith)
meets-second whole (line ∷ lines) es k x q y start at from within before later second = elim (cases_eq k x) [
  | inl here ↦
      let same : (k == x) ≡ true = eq-eqb k x here in
      let is : whole x ≡ node_at k line ∷ climb line.depth es = sym (later x from) ∙ rw same refl in
      meets-here whole (node_at k line) es x q y at here is (λ z inside. before z (omega arith)) second
  | inr there ↦
      let at_k : back (node_at k line ∷ es) k ≡ whole k = rw (eq-eqb k k refl) (sym (rw (eq-eqb k k refl) refl) ∙ later k (omega arith)) in
      meets-second whole lines (node_at k line ∷ es) (k + 1) x q y (omega arith) (together (eq-eqb k (length es) start) at) (omega (arith, there)) (omega arith)
      (λ z inside. elim (cases_eq k z) [
        | inl last ↦ subst (λ n. back (node_at k line ∷ es) n ≡ whole n) last at_k
        | inr not_last ↦ let other : (k == z) ≡ false = ne_eqb k z not_last in rw other (before z (omega (arith, not_last)))
      ])
      (λ z behind. let other : (k == z) ≡ false = ne_eqb k z (λ same. omega (arith, same)) in sym (rw other refl) ∙ later z (omega arith))
      second
]

-- Counts over nodes.

abbrev numbers : List Entry → List ℕ
numbers dim = map (λ e. e.number) dim

pub count_by-cons : (p : ℕ → Bool) (x : ℕ) (xs : List ℕ) → count_by p (x ∷ xs) ≡ (if p x then 1 else 0) + count_by p xs
count_by-cons p x xs = sum_by-cons (λ y. cond (p y) 1 0) x xs

count_if : (b : Bool) (q : ℕ → Bool) (x n : ℕ) (xs : List ℕ) → count_by q xs ≡ n → count_by q (if b then x ∷ xs else xs) ≡ (if b && q x then 1 else 0) + n
count_if true q x n xs is = count_by-cons q x xs ∙ ap (λ m. (if q x then 1 else 0) + m) is
count_if false q x n xs is = omega (arith, is)

-- a count of those that pass another test
count_by-filter : (p q : ℕ → Bool) (xs : List ℕ) → count_by q (filter p xs) ≡ count_by (λ x. p x && q x) xs
count_by-filter p q [] = refl
count_by-filter p q (x ∷ xs) = count_if (p x) q x (count_by (λ x. p x && q x) xs) (filter p xs) (count_by-filter p q xs) ∙ sym (count_by-cons (λ x. p x && q x) x xs)

-- tests that agree on the nodes count the same
count-same : (g h : ℕ → Bool) (k to : ℕ) (lines : List NodeLine) → to ≡ k + length lines → ((c : ℕ) → k ≤ c → c < to → g c ≡ h c) → count_by g (numbers (numbered_from k lines)) ≡ count_by h (numbers (numbered_from k lines))
count-same g h k to [] end each = refl
count-same g h k to (line ∷ lines) end each =
    let rest = numbers (numbered_from (k + 1) lines) in
    count_by-cons g k rest
    ∙ rw (each k (omega arith) (omega arith), count-same g h (k + 1) to lines (omega arith) (λ c from before. each c (omega arith) before)) (sym (count_by-cons h k rest))

-- a test that no node passes
count-none : (g : ℕ → Bool) (k to : ℕ) (lines : List NodeLine) → to ≡ k + length lines → ((c : ℕ) → k ≤ c → c < to → g c ≡ false) → count_by g (numbers (numbered_from k lines)) ≡ 0
count-none g k to [] end each = refl
count-none g k to (line ∷ lines) end each =
    count_by-cons g k (numbers (numbered_from (k + 1) lines)) ∙ rw (each k (omega arith) (omega arith), count-none g (k + 1) to lines (omega arith) (λ c from before. each c (omega arith) before)) refl

-- a count under a test that differs at one node alone
count-once : (b : Bool) (g h : ℕ → Bool) (z k to : ℕ) (lines : List NodeLine) → to ≡ k + length lines → k ≤ z → z < to → ((c : ℕ) → k ≤ c → c < to → c ≢ z → g c ≡ h c) → h z ≡ false → g z ≡ b
    → count_by g (numbers (numbered_from k lines)) ≡ (if b then 1 else 0) + count_by h (numbers (numbered_from k lines))
count-once b g h z k to [] end from within each none is = absurd (omega arith)
count-once b g h z k to (line ∷ lines) end from within each none is =
    let rest = numbers (numbered_from (k + 1) lines) in
    elim (cases_eq k z) [
      | inl here ↦
          let same : count_by g rest ≡ count_by h rest = count-same g h (k + 1) to lines (omega arith) (λ c above before. each c (omega arith) before (λ at. omega (arith, at, here))) in
          let g_is : g k ≡ b = ap g here ∙ is in
          let h_is : h k ≡ false = ap h here ∙ none in
          count_by-cons g k rest ∙ rw (g_is, same) (sym (ap (λ n. (if b then 1 else 0) + n) (count_by-cons h k rest ∙ ap (λ c. (if c then 1 else 0) + count_by h rest) h_is ∙ omega arith)))
      | inr there ↦
          let same : g k ≡ h k = each k (omega arith) (omega arith) there in
          let more = count-once b g h z (k + 1) to lines (omega arith) (omega (arith, there)) within (λ c above before other. each c (omega arith) before other) none is in
          let g_is : count_by g (k ∷ rest) ≡ (if h k then 1 else 0) + count_by g rest = count_by-cons g k rest ∙ ap (λ c. (if c then 1 else 0) + count_by g rest) same in
          omega (arith, g_is, more, count_by-cons h k rest)
    ]

-- one node further up, the parent being the node itself or not
count_up : (n q z end : ℕ) → q < z → n < end
    → ((if q == n then 1 else 0) + (if nat_lt n q && (nat_le n q && nat_lt q end) then 1 else 0)) ≡ (if nat_lt n z && (z == n || (nat_le n q && nat_lt q end)) then 1 else 0)
count_up n q z end above some = grind (arith, nat_tests)

and-true : (a : Bool) → (a && true) ≡ a
and-true true = refl
and-true false = refl

module _ (lines : List NodeLine) (accepted : first_fault [] 0 lines ≡ None) where
  abbrev dim : Dimension
  dim = numbered lines

  abbrev is_child : ℕ → ℕ → Bool
  is_child n x = option_map_or (λ p. p == n) (parent dim x) false

  -- the children of n that z is under
  abbrev hits : ℕ → ℕ → ℕ → Bool
  hits n z c = is_child n c && is_under dim z c

  abbrev end_at : ℕ → ℕ
  end_at y = get_or (ends_from 0 (depths_of lines)) y 0

  abbrev parent_at : ℕ → ℕ
  parent_at x = get_or (parents_from [] (depths_of lines)) x 0

  -- a node is under itself and what its parent is under
  under-step : (x q y : ℕ) → x < length lines → parent dim x ≡ Some q → is_under dim x y ≡ (x == y || is_under dim q y)
  unfolding is_under parent path
  under-step x q y within second = meets-second (λ z. path_after [] z (numbered lines)) lines [] 0 x q y refl refl (omega arith) (omega arith) (λ z inside. absurd (omega (arith, inside))) (λ z behind. refl) second

  end-above : (y : ℕ) → y < length lines → y < end_at y
  end-above y within = omega (arith, ends_from-above 0 (depths_of lines) y (omega (arith, length-map lines (λ (line : NodeLine). line.depth))))

  -- a node is under none behind it
  under-before : (x y : ℕ) → x < y → y < length lines → is_under dim x y ≡ false
  under-before x y before within = is_under-end lines accepted x y within ∙ grind (arith, nat_tests)

  under-self : (x : ℕ) → x < length lines → is_under dim x x ≡ true
  under-self x within = is_under-end lines accepted x x within ∙ grind (arith, nat_tests, end-above x within)

  -- the first node is under no child
  hits-root : (n c : ℕ) → c < length lines → hits n 0 c ≡ false
  hits-root n c within = elim (cases_eq c 0) [
    | inl first ↦
        let none : parent dim c ≡ None = parent-place lines accepted c within ∙ grind (arith, nat_tests, first) in
        ap (λ o. option_map_or (λ p. p == n) o false && is_under dim 0 c) none
    | inr other ↦ and_right (is_child n c) (is_under dim 0 c) (under-before 0 c (omega (arith, other)) within)
  ]

  -- a node is under the same children as its parent, and under itself where it is one
  hits-other : (n z q c : ℕ) → z < length lines → parent dim z ≡ Some q → c ≢ z → hits n z c ≡ hits n q c
  hits-other n z q c within is other =
      let differs : (z == c) ≡ false = ne_eqb z c (λ same. other (sym same)) in
      ap (λ b. is_child n c && b) (under-step z q c within is ∙ ap (λ b. b || is_under dim q c) differs)

  hits-self : (n z q : ℕ) → z < length lines → parent dim z ≡ Some q → hits n z z ≡ (q == n)
  hits-self n z q within is =
      ap (λ b. is_child n z && b) (under-self z within) ∙ ap (λ o. option_map_or (λ p. p == n) o false && true) is ∙ and-true (q == n)

  -- how many children of n a node is under, by way of its parents
  count-hits : (fuel n z : ℕ) → z < fuel → z < length lines → n < length lines → count_by (hits n z) (numbers dim) ≡ (if nat_lt n z && is_under dim z n then 1 else 0)
  count-hits zero n z enough within node = absurd (omega arith)
  count-hits (suc fuel) n z enough within node = elim (cases_eq z 0) [
    | inl first ↦ count-none (hits n z) 0 (length lines) lines (omega arith) (λ c from before. ap (λ x. hits n x c) first ∙ hits-root n c before) ∙ grind (arith, nat_tests, first)
    | inr other ↦
        let q = parent_at z in
        let is : parent dim z ≡ Some q = parent-place lines accepted z within ∙ grind (arith, nat_tests, other) in
        let above : q < z = omega (arith, parents_from-below [] (depths_of lines) z (omega (arith, length-map lines (λ (line : NodeLine). line.depth))) (omega (arith, other))) in
        count-once (q == n) (hits n z) (hits n q) z 0 (length lines) lines (omega arith) (omega arith) within
        (λ c from before differs. hits-other n z q c within is differs)
        (and_right (is_child n z) (is_under dim q z) (under-before q z above within))
        (hits-self n z q within is)
        ∙ rw (count-hits fuel n q (omega arith) (omega arith) node, under-step z q n within is, is_under-end lines accepted q n node) (count_up n q z (end_at n) above (end-above n node))
  ]

  -- a node other than n is under one child of n exactly where it is under n
  one_child_of : (n z : ℕ) → z < length lines → n < length lines → z ≢ n → count_by (is_under dim z) (children dim n) ≡ (if is_under dim z n then 1 else 0)
  unfolding children
  one_child_of n z within node differs =
      count_by-filter (is_child n) (is_under dim z) (numbers dim) ∙ count-hits (z + 1) n z (omega arith) within node
      ∙ ap (λ b. if b then 1 else 0) (rw (is_under-end lines accepted z n node) (grind (arith, nat_tests, differs)))

-- a count over renumbered nodes
count_by-map : (p : ℕ → Bool) (f : ℕ → ℕ) (xs : List ℕ) → count_by p (map f xs) ≡ count_by (λ x. p (f x)) xs
count_by-map p f [] = refl
count_by-map p f (x ∷ xs) = count_by-cons p (f x) (map f xs) ∙ ap (λ n. (if p (f x) then 1 else 0) + n) (count_by-map p f xs) ∙ sym (count_by-cons (λ y. p (f y)) x xs)

-- a leaf under a node that is none is under exactly one of its children, and another under none
pub one_child : (dim : Dimension) (n z : ℕ) → IsTree dim → n < length dim → z < length dim → is_leaf dim n ≡ false → is_leaf dim z ≡ true → count_by (is_under dim z) (children dim n) ≡ (if is_under dim z n then 1 else 0)
one_child dim n z tree node within inner leaf =
    let sound = tree_fault_none (node_lines dim) tree.accepted in
    let few : length (node_lines dim) ≡ length dim = length-node_lines dim in
    let i = place_at dim n in
    let j = place_at dim z in
    let differs : j ≢ i = λ same. true≢false (sym leaf ∙ ap (is_leaf dim) (sym (number_at-place_at dim (are_numbers dim tree) z) ∙ ap (number_at dim) same ∙ number_at-place_at dim (are_numbers dim tree) n) ∙ inner) in
    let alike : (λ c. is_under dim z (number_at dim c)) ≡ is_under (plain dim) j = fun_ext (λ c. is_under-plain dim tree z (number_at dim c) ∙ ap (is_under (plain dim) j) (place_at-number_at dim (are_numbers dim tree) c)) in
    ap (count_by (is_under dim z)) (children-plain dim tree n) ∙ count_by-map (is_under dim z) (number_at dim) (children (plain dim) i)
    ∙ ap (λ p. count_by p (children (plain dim) i)) alike
    ∙ one_child_of (node_lines dim) sound.2 i j (omega (arith, few, place_at-within dim (are_numbers dim tree) z within)) (omega (arith, few, place_at-within dim (are_numbers dim tree) n node)) differs
    ∙ ap (λ b. if b then 1 else 0) (sym (is_under-plain dim tree z n))
