-- A cell of a region is in exactly one of the regions with a child in the place of a node.
use Rattle.std.proofs.Common.{◌≡◌, ℕ, zero, suc, Bool, true, false, List, [], ◌∷◌, length, refl, sym, ap, ◌∙◌, true≢false, arith}
use Rattle.std.specs.Prelude.{if◌then◌else◌, All, IfSome, Option, Some, None, ◌&&◌, nat_lt, slice_get, slice_set}
use Rattle.std.specs.List.{count_by}
use Rattle.std.specs.Option.{option_map_or}
use Rattle.std.proofs.lemmas.Bool.Decides.{nat_tests}
use Rattle.std.proofs.lemmas.List.Elements.{All-head, All-tail}
use Rattle.std.proofs.Math.Bool.{and_comm}
use Rattle.cube_model.specs.Tree.{Dimension, IsTree, is_leaf, is_under}
use Rattle.cube_model.specs.Cells.{all_cells, cells_of, is_among, is_inside}
use Rattle.cube_model.specs.Cut.{children}
use Rattle.region_algebra.specs.Space.{is_region}
use Rattle.region_algebra.proofs.Children.{count_by-cons, one_child}
use Rattle.region_algebra.proofs.LeafTuples.{are_leaves, cells-are, is_among-inside, is_node_leaf}
use Rattle.region_algebra.proofs.Meets.{is_region-cons}
use Rattle.region_algebra.proofs.Numbers.{found-passes}
use Rattle.dim_tree.proofs.Climbing.{both}

count-alike : (p q : ℕ → Bool) (xs : List ℕ) → ((x : ℕ) → p x ≡ q x) → count_by p xs ≡ count_by q xs
count-alike p q [] each = refl
count-alike p q (x ∷ xs) each = count_by-cons p x xs ∙ rw (each x, count-alike p q xs each) (sym (count_by-cons q x xs))

count-never : (xs : List ℕ) → count_by (λ x. false) xs ≡ 0
count-never [] = refl
count-never (x ∷ xs) = count_by-cons (λ x. false) x xs ∙ rw (count-never xs) refl

-- where a test is part of each
count-front : (b inside : Bool) (p : ℕ → Bool) (xs : List ℕ) → count_by p xs ≡ (if inside then 1 else 0) → count_by (λ x. b && p x) xs ≡ (if b && inside then 1 else 0)
count-front true inside p xs is = is
count-front false inside p xs is = count-never xs

count-back : (b inside : Bool) (p : ℕ → Bool) (xs : List ℕ) → count_by p xs ≡ (if inside then 1 else 0) → count_by (λ x. p x && b) xs ≡ (if inside && b then 1 else 0)
count-back b inside p xs is = count-alike (λ x. p x && b) (λ x. b && p x) xs (λ x. and_comm (p x) b) ∙ count-front b inside p xs is ∙ ap (λ c. if c then 1 else 0) (and_comm b inside)

-- a tuple of leaves is inside exactly one of the regions with a child in the node's place where it is inside the region
one_inside : (dims : List Dimension) (region : List ℕ) (d : ℕ) (dim : Dimension) (node : ℕ) (cell : List ℕ) → All IsTree dims → is_region dims region ≡ true → slice_get dims d ≡ Some dim → slice_get region d ≡ Some node → is_leaf dim node ≡ false → are_leaves dims cell ≡ true
    → count_by (λ child. is_inside dims (slice_set region d child) cell) (children dim node) ≡ (if is_inside dims region cell then 1 else 0)
unfolding is_inside
one_inside [] region d dim node cell trees names is has inner are = absurd (grind arith)
one_inside (e ∷ dims) [] d dim node cell trees names is has inner are = absurd (true≢false (sym names))
one_inside (e ∷ dims) (m ∷ nodes) d dim node [] trees names is has inner are = absurd (true≢false (sym are))
one_inside (e ∷ dims) (m ∷ nodes) zero dim node (z ∷ cell) trees names is has inner are =
    let same : e ≡ dim = grind arith in
    let named : m ≡ node = grind arith in
    let within = (is_region-cons e dims m nodes names).0 in
    let first = both (is_leaf e z) (nat_lt z (length e)) (both (is_node_leaf e z) (are_leaves dims cell) are).0 in
    let inner_here : is_leaf e m ≡ false = rw (same, named) inner in
    rw (← same, ← named) (count-back (is_inside dims nodes cell) (is_under e z m) (is_under e z) (children e m) (one_child e m z (All-head IsTree e dims trees) within (grind (arith, nat_tests, first.1)) inner_here first.0))
one_inside (e ∷ dims) (m ∷ nodes) (suc d) dim node (z ∷ cell) trees names is has inner are =
    count-front (is_under e z m) (is_inside dims nodes cell) (λ child. is_inside dims (slice_set nodes d child) cell) (children dim node)
    (one_inside dims nodes d dim node cell (All-tail IsTree e dims trees) (is_region-cons e dims m nodes names).1 is has inner (both (is_node_leaf e z) (are_leaves dims cell) are).1)

one_inside-at : (dims : List Dimension) (region : List ℕ) (d : ℕ) (dim : Dimension) (node : ℕ) (found : Option (List ℕ)) → All IsTree dims → is_region dims region ≡ true → slice_get dims d ≡ Some dim → slice_get region d ≡ Some node → is_leaf dim node ≡ false → ((cell : List ℕ) → found ≡ Some cell → are_leaves dims cell ≡ true)
    → count_by (λ child. option_map_or (is_inside dims (slice_set region d child)) found false) (children dim node) ≡ (if option_map_or (is_inside dims region) found false then 1 else 0)
one_inside-at dims region d dim node None trees names is has inner are = count-never (children dim node)
one_inside-at dims region d dim node (Some cell) trees names is has inner are = one_inside dims region d dim node cell trees names is has inner (are cell refl)

one_region : (dims : List Dimension) (region : List ℕ) (d : ℕ) (dim : Dimension) (node : ℕ) → All IsTree dims → is_region dims region ≡ true → slice_get dims d ≡ Some dim → slice_get region d ≡ Some node → is_leaf dim node ≡ false
    → (cell : ℕ) → count_by (λ child. is_among (cells_of dims (slice_set region d child)) cell) (children dim node) ≡ (if is_among (cells_of dims region) cell then 1 else 0)
one_region dims region d dim node trees names is has inner cell =
    let found = slice_get (all_cells dims) cell in
    count-alike (λ child. is_among (cells_of dims (slice_set region d child)) cell) (λ child. option_map_or (is_inside dims (slice_set region d child)) found false) (children dim node) (λ child. is_among-inside dims (slice_set region d child) cell)
    ∙ one_inside-at dims region d dim node found trees names is has inner (λ t at. found-passes (are_leaves dims) (all_cells dims) cell t (cells-are dims trees) at)
    ∙ ap (λ b. if b then 1 else 0) (sym (is_among-inside dims region cell))

if_some : {X : Type 0} (o : Option X) (P : X → Type 0) → ((x : X) → o ≡ Some x → P x) → IfSome o P
if_some None P each = tt
if_some (Some x) P each = each x refl

pub cells_are_those_of_the_children : (dims : List Dimension) (region : List ℕ) (d : ℕ) → All IsTree dims → is_region dims region ≡ true
    → IfSome (slice_get dims d) (λ dim. IfSome (slice_get region d) (λ node. is_leaf dim node ≡ false
    → (cell : ℕ) → count_by (λ child. is_among (cells_of dims (slice_set region d child)) cell) (children dim node) ≡ (if is_among (cells_of dims region) cell then 1 else 0)))
cells_are_those_of_the_children dims region d trees names =
    if_some (slice_get dims d) _ (λ dim is. if_some (slice_get region d) _ (λ node has inner cell. one_region dims region d dim node trees names is has inner cell))
