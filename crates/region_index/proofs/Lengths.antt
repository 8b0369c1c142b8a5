-- How many regions are over a cell: no more than the depths in each dimension, multiplied.
use Rattle.std.proofs.Common.{◌≡◌, ℕ, ◌+◌, ◌*◌, ◌<◌, ◌≤◌, Bool, true, false, List, [], ◌∷◌, length, length-append, map, refl, sym, ap, subst, ◌∙◌, arith}
use Rattle.std.specs.Prelude.{All, if◌then◌else◌, not, ◌||◌, ◌==◌}
use Rattle.std.specs.List.{flat_map, list_any}
use Rattle.std.proofs.lemmas.Bool.Decides.{nat_tests}
use Rattle.std.proofs.lemmas.List.{length-map}
use Rattle.std.proofs.lemmas.List.Elements.{All-head, All-tail}
use Rattle.std.proofs.lemmas.Nat.{mul-le}
use Rattle.std.proofs.lemmas.Option.{slice_get-get_or}
use Rattle.cube_model.specs.Cells.{all_cells, is_inside, places_from}
use Rattle.cube_model.specs.Tree.{Dimension, Entry, IsTree, are_distinct, climb, is_under, numbers, path, path_after}
use Rattle.dim_tree.proofs.Climbing.{both}
use Rattle.dim_tree.proofs.Renumbering.{are_numbers}
use Rattle.region_algebra.specs.Space.{all_regions, region_total}
use Rattle.region_algebra.proofs.Meets.{places_from-same}
use Rattle.region_index.specs.Depths.{depth_product, largest_depth}
use Rattle.region_index.specs.Over.{codes_over}
use Rattle.region_index.specs.Walk.{codes_of_leaves, places_over}
use Rattle.region_index.proofs.Walking.{codes_of_leaves-cons, codes_over-leaves}

-- climbing from a depth meets no more nodes than the depth says
climb-short : (depth : ℕ) (earlier : List Entry) → length (climb depth earlier) ≤ depth
climb-short depth [] = omega arith
climb-short depth (e ∷ earlier) = here (e.depth + 1 == depth) refl (climb-short e.depth earlier) (climb-short depth earlier)
  where
    here : (b : Bool) → (e.depth + 1 == depth) ≡ b → length (climb e.depth earlier) ≤ e.depth → length (climb depth earlier) ≤ depth → length (if b then e ∷ climb e.depth earlier else climb depth earlier) ≤ depth
    here true is met others =
        let next : e.depth + 1 ≡ depth = grind (arith, nat_tests, is) in
        omega (arith, next, met)
    here false is met others = others

-- nor does the path of a node of these
path_after-short : (earlier : List Entry) (x : ℕ) (rest : List Entry) → length (path_after earlier x rest) ≤ largest_depth rest + 1
path_after-short earlier x [] = omega arith
path_after-short earlier x (e ∷ rest) = here (e.number == x) (path_after-short (e ∷ earlier) x rest)
  where
    here : (b : Bool) → length (path_after (e ∷ earlier) x rest) ≤ largest_depth rest + 1 → length (if b then e ∷ climb e.depth earlier else path_after (e ∷ earlier) x rest) ≤ largest_depth (e ∷ rest) + 1
    here true later = omega (arith, climb-short e.depth earlier)
    here false later = omega (arith, later)

-- the items that pass one of two tests are no more than those that pass the one and those that pass the other
either-short : (p q : ℕ → Bool) (k : ℕ) (xs : List ℕ) → length (places_from (λ x. p x || q x) k xs) ≤ length (places_from p k xs) + length (places_from q k xs)
either-short p q k [] = omega arith
either-short p q k (x ∷ xs) = grind (arith, either-short p q (k + 1) xs)

never-short : {X : Type 0} (k : ℕ) (xs : List X) → length (places_from (λ x. false) k xs) ≡ 0
never-short k [] = refl
never-short k (x ∷ xs) = never-short (k + 1) xs

none-short : (n k : ℕ) (xs : List ℕ) → list_any (λ m. m == n) xs ≡ false → length (places_from (λ y. n == y) k xs) ≡ 0
none-short n k [] absent = refl
none-short n k (x ∷ xs) absent = grind (arith, nat_tests, absent, none-short n (k + 1) xs)

-- of distinct numbers one at most is a given one
once-short : (n k : ℕ) (xs : List ℕ) → are_distinct xs ≡ true → length (places_from (λ y. n == y) k xs) ≤ 1
once-short n k [] distinct = omega arith
once-short n k (x ∷ xs) distinct =
    let parts = both (not (list_any (λ m. m == x) xs)) (are_distinct xs) distinct in
    grind (arith, nat_tests, parts.0, once-short n (k + 1) xs parts.1, none-short n (k + 1) xs)

-- so those that are numbers of these nodes are no more than the nodes
named-short : (es : List Entry) (k : ℕ) (xs : List ℕ) → are_distinct xs ≡ true → length (places_from (λ y. list_any (λ e. e.number == y) es) k xs) ≤ length es
named-short [] k xs distinct = omega (arith, never-short k xs)
named-short (e ∷ es) k xs distinct =
    omega (arith, either-short (λ y. e.number == y) (λ y. list_any (λ e. e.number == y) es) k xs, once-short e.number k xs distinct, named-short es k xs distinct)

places_over-short : (dim : Dimension) (x : ℕ) → IsTree dim → length (places_over dim x) ≤ largest_depth dim + 1
unfolding places_over is_under path
places_over-short dim x tree =
    omega (arith, named-short (path_after [] x dim) 0 (numbers dim) (are_numbers dim tree).distinct, path_after-short [] x dim)

-- as many codes for each place
length-places : (f : ℕ → ℕ → ℕ) (codes places : List ℕ) → length (flat_map (λ place. map (f place) codes) places) ≡ length places * length codes
length-places f codes [] = omega arith
length-places f codes (place ∷ places) =
    length-append (map (f place) codes) (flat_map (λ place. map (f place) codes) places)
    ∙ rw (length-map codes (f place), length-places f codes places) (omega arith)

codes_of_leaves-short : (dims : List Dimension) (leaves : List ℕ) → All IsTree dims → length (codes_of_leaves dims leaves) ≤ depth_product dims
unfolding codes_of_leaves all_regions is_inside
codes_of_leaves-short [] [] trees = omega arith
codes_of_leaves-short [] (leaf ∷ leaves) trees = omega arith
codes_of_leaves-short (dim ∷ dims) [] trees =
    let none = places_from-same (λ region. is_inside (dim ∷ dims) region []) (λ region. false) 0 (all_regions (dim ∷ dims)) outside in
    omega (arith, ap length none, never-short 0 (all_regions (dim ∷ dims)))
  where
    outside : (region : List ℕ) → is_inside (dim ∷ dims) region [] ≡ false
    outside [] = refl
    outside (node ∷ nodes) = refl
codes_of_leaves-short (dim ∷ dims) (leaf ∷ leaves) trees =
    let here = places_over-short dim leaf (All-head IsTree dim dims trees) in
    let others = codes_of_leaves-short dims leaves (All-tail IsTree dim dims trees) in
    let count = ap length (codes_of_leaves-cons dim dims leaf leaves) ∙ length-places (λ place c. place * region_total dims + c) (codes_of_leaves dims leaves) (places_over dim leaf) in
    subst (λ n. n ≤ (largest_depth dim + 1) * depth_product dims) (sym count) (mul-le (length (places_over dim leaf)) (length (codes_of_leaves dims leaves)) (largest_depth dim + 1) (depth_product dims) here others)

pub codes_over-short : (dims : List Dimension) (cell : ℕ) → All IsTree dims → cell < length (all_cells dims) → length (codes_over dims cell) ≤ depth_product dims
codes_over-short dims cell trees within =
    let leaves = slice_get-get_or (all_cells dims) cell [] within in
    let same = ap length (sym (codes_over-leaves dims cell _ leaves)) ∙ length-map _ _ in
    subst (λ n. n ≤ depth_product dims) (sym same) (codes_of_leaves-short dims _ trees)
