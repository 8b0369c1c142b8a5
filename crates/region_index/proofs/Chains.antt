-- The chain of a node: what climbing meets from it is the node, and then what climbing meets from its parent.
use Rattle.std.proofs.Common.{◌≡◌, ℕ, ◌+◌, Bool, true, false, List, [], ◌∷◌, refl, sym, ap, ◌∙◌, true≢false, arith}
use Rattle.std.specs.Prelude.{◌&&◌, ◌||◌, ◌==◌, not, Some, None, slice_get}
use Rattle.std.specs.List.{list_any}
use Rattle.std.specs.Option.{option_map}
use Rattle.std.proofs.lemmas.Bool.Decides.{nat_tests}
use Rattle.cube_model.specs.Tree.{Dimension, Entry, are_distinct, climb, is_under, numbers, parent, path, path_after}
use Rattle.dim_tree.proofs.Climbing.{both, together}

-- a number is one of these
abbrev pub has : List ℕ → ℕ → Bool
has ns n = list_any (λ m. m == n) ns

-- the nodes of a dimension, of which the first are given from the nearest on
abbrev pub onto : List Entry → List Entry → List Entry
onto [] rest = rest
onto (e ∷ earlier) rest = onto earlier (e ∷ rest)

-- no number of the later nodes is one of the earlier ones
abbrev pub are_apart : List Entry → List Entry → Bool
are_apart earlier [] = true
are_apart earlier (e ∷ rest) = not (has (numbers earlier) e.number) && are_apart earlier rest

-- a path to a node behind the earlier ones passes over them
path-behind : (earlier rest : List Entry) (n : ℕ) → has (numbers earlier) n ≡ false → path_after [] n (onto earlier rest) ≡ path_after earlier n rest
path-behind [] rest n none = refl
path-behind (e ∷ earlier) rest n none =
    let other : (e.number == n) ≡ false = grind (arith, nat_tests, none) in
    let others : has (numbers earlier) n ≡ false = grind (arith, nat_tests, none) in
    path-behind earlier (e ∷ rest) n others ∙ rw other refl

-- what climbing meets, from the first that it meets on, is the path of that node
climb-path : (depth : ℕ) (earlier rest : List Entry) (p : Entry) → are_distinct (numbers earlier) ≡ true → slice_get (climb depth earlier) 0 ≡ Some p
    → path_after [] p.number (onto earlier rest) ≡ climb depth earlier
climb-path depth [] rest p distinct first = absurd (grind arith)
climb-path depth (e ∷ earlier) rest p distinct first = here (e.depth + 1 == depth) refl (climb-path depth earlier (e ∷ rest) p parts.1)
  where
    parts : (not (has (numbers earlier) e.number) ≡ true) × (are_distinct (numbers earlier) ≡ true)
    parts = both (not (has (numbers earlier) e.number)) (are_distinct (numbers earlier)) distinct

    new : has (numbers earlier) e.number ≡ false
    new = grind (arith, parts.0)

    here : (b : Bool) → (e.depth + 1 == depth) ≡ b → (slice_get (climb depth earlier) 0 ≡ Some p → path_after [] p.number (onto earlier (e ∷ rest)) ≡ climb depth earlier)
        → path_after [] p.number (onto (e ∷ earlier) rest) ≡ climb depth (e ∷ earlier)
    here true is before =
        let same : Some e ≡ Some p = rw is at first in
        let it : e ≡ p = grind (arith, same) in
        let found : path_after [] e.number (onto earlier (e ∷ rest)) ≡ e ∷ climb e.depth earlier = path-behind earlier (e ∷ rest) e.number new ∙ grind (arith, nat_tests) in
        rw (is, ← it) found
    here false is before =
        let later : slice_get (climb depth earlier) 0 ≡ Some p = rw is at first in
        rw is (before later)

-- the path of a node that has a parent
pub record IsChained (dim : Dimension) (es : List Entry) (x p : ℕ) : Type 0 where
  pub node : Entry
  pub named : node.number ≡ x
  pub path_is : es ≡ node ∷ path_after [] p dim

chained : (earlier rest : List Entry) (x p : ℕ) → are_distinct (numbers (onto earlier rest)) ≡ true → ((es fs : List Entry) → onto es fs ≡ onto earlier rest → are_distinct (numbers es) ≡ true)
    → option_map (λ e. e.number) (slice_get (path_after earlier x rest) 1) ≡ Some p → IsChained (onto earlier rest) (path_after earlier x rest) x p
chained earlier [] x p distinct parts second = absurd (grind arith)
chained earlier (e ∷ rest) x p distinct parts second = here (e.number == x) refl (chained (e ∷ earlier) rest x p distinct parts)
  where
    first_of : (es : List Entry) → option_map (λ e. e.number) (slice_get es 0) ≡ Some p → (a : Entry) × (slice_get es 0 ≡ Some a) × (a.number ≡ p)
    first_of [] is = absurd (grind arith)
    first_of (a ∷ es) is = (a, refl, grind arith)

    here : (b : Bool) → (e.number == x) ≡ b
        → (option_map (λ e. e.number) (slice_get (path_after (e ∷ earlier) x rest) 1) ≡ Some p → IsChained (onto earlier (e ∷ rest)) (path_after (e ∷ earlier) x rest) x p)
        → IsChained (onto earlier (e ∷ rest)) (path_after earlier x (e ∷ rest)) x p
    here true is behind =
        let found = first_of (climb e.depth earlier) (rw is at second) in
        let climbed = climb-path e.depth earlier (e ∷ rest) found.0 (parts earlier (e ∷ rest) refl) found.1 in
        rw is (record { node = e; named = grind (arith, nat_tests, is); path_is = rw (← found.2) (ap (λ es. e ∷ es) (sym climbed)) })
    here false is behind = rw is (behind (rw is at second))

-- the numbers of the earlier nodes are distinct where all are
distinct-earlier : (earlier rest : List Entry) → are_distinct (numbers (onto earlier rest)) ≡ true → (are_distinct (numbers earlier) ≡ true) × ((are_distinct (numbers rest) ≡ true) × (are_apart earlier rest ≡ true))
distinct-earlier [] rest distinct = (refl, (distinct, none rest))
  where
    none : (rest : List Entry) → are_apart [] rest ≡ true
    none [] = refl
    none (e ∷ rest) = none rest
distinct-earlier (e ∷ earlier) rest distinct =
    let before = distinct-earlier earlier (e ∷ rest) distinct in
    let here = both (not (has (numbers rest) e.number)) (are_distinct (numbers rest)) before.1.0 in
    let behind = both (not (has (numbers earlier) e.number)) (are_apart earlier rest) before.1.1 in
    (together behind.0 before.0, (here.1, apart-more rest here.0 behind.1))
  where
    apart-more : (rest : List Entry) → not (has (numbers rest) e.number) ≡ true → are_apart earlier rest ≡ true → are_apart (e ∷ earlier) rest ≡ true
    apart-more [] new apart = refl
    apart-more (f ∷ rest) new apart = grind (arith, nat_tests, new, apart, apart-more rest)

-- the path of a node is the node, and then the path of its parent
pub path-parent : (dim : Dimension) (x p : ℕ) → are_distinct (numbers dim) ≡ true → parent dim x ≡ Some p → IsChained dim (path dim x) x p
unfolding parent path
path-parent dim x p distinct is =
    chained [] dim x p distinct (λ es fs whole. (distinct-earlier es fs (rw whole distinct)).0) is

-- so what it is under is itself and what its parent is under
pub is_under-parent : (dim : Dimension) (x p y : ℕ) → are_distinct (numbers dim) ≡ true → parent dim x ≡ Some p → is_under dim x y ≡ ((x == y) || is_under dim p y)
unfolding is_under path
is_under-parent dim x p y distinct is =
    let chain = path-parent dim x p distinct is in
    ap (list_any (λ e. e.number == y)) chain.path_is ∙ rw chain.named refl

-- a node without a parent is under itself alone
alone : (earlier rest : List Entry) (x y : ℕ) → has (numbers rest) x ≡ true → option_map (λ e. e.number) (slice_get (path_after earlier x rest) 1) ≡ None
    → list_any (λ e. e.number == y) (path_after earlier x rest) ≡ (x == y)
alone earlier [] x y among none = absurd (true≢false (sym among))
alone earlier (e ∷ rest) x y among none = here (e.number == x) refl (alone (e ∷ earlier) rest x y)
  where
    nothing : (es : List Entry) → option_map (λ e. e.number) (slice_get es 0) ≡ None → es ≡ []
    nothing [] is = refl
    nothing (a ∷ es) is = absurd (grind arith)

    here : (b : Bool) → (e.number == x) ≡ b
        → (has (numbers rest) x ≡ true → option_map (λ e. e.number) (slice_get (path_after (e ∷ earlier) x rest) 1) ≡ None → list_any (λ e. e.number == y) (path_after (e ∷ earlier) x rest) ≡ (x == y))
        → list_any (λ e. e.number == y) (path_after earlier x (e ∷ rest)) ≡ (x == y)
    here true is behind =
        let none_above : climb e.depth earlier ≡ [] = nothing (climb e.depth earlier) (rw is at none) in
        rw (is, none_above) (grind (arith, nat_tests, is))
    here false is behind =
        let later : has (numbers rest) x ≡ true = grind (arith, nat_tests, is, among) in
        rw is (behind later (rw is at none))

pub is_under-alone : (dim : Dimension) (x y : ℕ) → has (numbers dim) x ≡ true → parent dim x ≡ None → is_under dim x y ≡ (x == y)
unfolding is_under parent path
is_under-alone dim x y among is = alone [] dim x y among is
