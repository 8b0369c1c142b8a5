-- The cells that two regions share are those of the region that has the lower nodes.
use Rattle.std.proofs.Common.{◌≡◌, ℕ, ◌+◌, ◌<◌, Bool, true, false, List, [], ◌∷◌, length, ◌⊎◌, inl, inr, refl, sym, ◌∙◌, true≢false, arith}
use Rattle.std.specs.Prelude.{if◌then◌else◌, ◌&&◌, filter, All, Option, Some, None, nat_lt}
use Rattle.std.specs.Option.{option_map, option_and_then}
use Rattle.std.proofs.lemmas.Bool.Decides.{nat_tests}
use Rattle.std.proofs.lemmas.Bool.{and_left, and_right}
use Rattle.std.proofs.lemmas.List.Elements.{All-head, All-tail}
use Rattle.cube_model.specs.Tree.{Dimension, IsTree, is_under}
use Rattle.cube_model.specs.Cells.{all_cells, cells_of, is_among, is_inside, places_from}
use Rattle.region_algebra.specs.Space.{common_cells, is_region, lower, meet_of}
use Rattle.dim_tree.proofs.Climbing.{both}
use Rattle.region_algebra.proofs.Intervals.{under-lower, under-none, lower-within}

-- what a region's first node and its others are
pub is_region-cons : (dim : Dimension) (dims : List Dimension) (node : ℕ) (nodes : List ℕ) → is_region (dim ∷ dims) (node ∷ nodes) ≡ true → (node < length dim) × (is_region dims nodes ≡ true)
is_region-cons dim dims node nodes names =
    let parts = both (nat_lt node (length dim)) (is_region dims nodes) names in
    (grind (arith, nat_tests, parts.0), parts.1)

if-same : (b c : Bool) (k : ℕ) (xs ys : List ℕ) → b ≡ c → xs ≡ ys → (if b then k ∷ xs else xs) ≡ (if c then k ∷ ys else ys)
if-same b c k xs ys same rest = rw (same, rest) refl

pub places_from-same : {X : Type 0} (p q : X → Bool) (k : ℕ) (xs : List X) → ((x : X) → p x ≡ q x) → places_from p k xs ≡ places_from q k xs
places_from-same p q k [] each = refl
places_from-same p q k (x ∷ xs) each = if-same (p x) (q x) k _ _ (each x) (places_from-same p q (k + 1) xs each)

pub places_from-never : {X : Type 0} (p : X → Bool) (k : ℕ) (xs : List X) → ((x : X) → p x ≡ false) → places_from p k xs ≡ []
places_from-never p k [] each = refl
places_from-never p k (x ∷ xs) each = rw (each x, places_from-never p (k + 1) xs each) refl

among-if : (b : Bool) (m k : ℕ) (cells : List ℕ) → k < m → is_among cells k ≡ false → is_among (if b then m ∷ cells else cells) k ≡ false
among-if true m k cells before none = grind (arith, nat_tests)
among-if false m k cells before none = none

-- what is counted from further on is not before
pub not_among : {X : Type 0} (q : X → Bool) (k m : ℕ) (xs : List X) → k < m → is_among (places_from q m xs) k ≡ false
not_among q k m [] before = refl
not_among q k m (x ∷ xs) before = among-if (q x) m k (places_from q (m + 1) xs) before (not_among q k (m + 1) xs (omega arith))

filter-if : (b : Bool) (f : ℕ → Bool) (m : ℕ) (cells : List ℕ) → filter f (if b then m ∷ cells else cells) ≡ (if b && f m then m ∷ filter f cells else filter f cells)
filter-if true f m cells = refl
filter-if false f m cells = refl

-- a number before those counted makes no difference among them
skip_front : {X : Type 0} (p : X → Bool) (k m : ℕ) (cells : List ℕ) (xs : List X) → k < m → filter (is_among (k ∷ cells)) (places_from p m xs) ≡ filter (is_among cells) (places_from p m xs)
skip_front p k m cells [] before = refl
skip_front p k m cells (x ∷ xs) before =
    let same : is_among (k ∷ cells) m ≡ is_among cells m = grind (arith, nat_tests) in
    filter-if (p x) (is_among (k ∷ cells)) m (places_from p (m + 1) xs)
    ∙ rw (same, skip_front p k (m + 1) cells xs (omega arith)) (sym (filter-if (p x) (is_among cells) m (places_from p (m + 1) xs)))

skip_if : {X : Type 0} (b : Bool) (p : X → Bool) (k m : ℕ) (cells : List ℕ) (xs : List X) → k < m → filter (is_among (if b then k ∷ cells else cells)) (places_from p m xs) ≡ filter (is_among cells) (places_from p m xs)
skip_if true p k m cells xs before = skip_front p k m cells xs before
skip_if false p k m cells xs before = refl

pub among-here : (b : Bool) (k : ℕ) (cells : List ℕ) → is_among cells k ≡ false → is_among (if b then k ∷ cells else cells) k ≡ b
among-here true k cells none = grind (arith, nat_tests)
among-here false k cells none = none

-- the places of one kind that are among those of another are the places of both kinds
pub places_from-both : {X : Type 0} (p q : X → Bool) (k : ℕ) (xs : List X) → filter (is_among (places_from q k xs)) (places_from p k xs) ≡ places_from (λ x. p x && q x) k xs
places_from-both p q k [] = refl
places_from-both p q k (x ∷ xs) =
    let others = places_from q (k + 1) xs in
    let here : is_among (places_from q k (x ∷ xs)) k ≡ q x = among-here (q x) k others (not_among q k (k + 1) xs (omega arith)) in
    let rest : filter (is_among (places_from q k (x ∷ xs))) (places_from p (k + 1) xs) ≡ places_from (λ x. p x && q x) (k + 1) xs = skip_if (q x) p k (k + 1) others xs (omega arith) ∙ places_from-both p q (k + 1) xs in
    filter-if (p x) (is_among (places_from q k (x ∷ xs))) k (places_from p (k + 1) xs) ∙ rw (here, rest) refl

-- the cells inside both regions
pub common_cells-both : (dims : List Dimension) (a b : List ℕ) → common_cells dims a b ≡ places_from (λ cell. is_inside dims a cell && is_inside dims b cell) 0 (all_cells dims)
unfolding cells_of
common_cells-both dims a b = places_from-both (is_inside dims a) (is_inside dims b) 0 (all_cells dims)

and_four : (a b c d : Bool) → ((a && b) && (c && d)) ≡ ((a && c) && (b && d))
and_four true true c d = refl
and_four true false true d = refl
and_four true false false d = refl
and_four false b c d = refl

-- the meet of the first nodes and that of the others
meet_parts : (dim : Dimension) (x y : ℕ) (first : Option ℕ) (others : Option (List ℕ)) (m : List ℕ) → option_and_then (λ node. option_map (λ nodes. node ∷ nodes) others) first ≡ Some m → (node : ℕ) × (nodes : List ℕ) × (first ≡ Some node) × (others ≡ Some nodes) × (m ≡ node ∷ nodes)
meet_parts dim x y None others m is = absurd (grind arith)
meet_parts dim x y (Some node) None m is = absurd (grind arith)
meet_parts dim x y (Some node) (Some nodes) m is = (node, nodes, refl, refl, sym (grind arith))

pub is_inside-meet : (dims : List Dimension) (a b m : List ℕ) → All IsTree dims → is_region dims a ≡ true → is_region dims b ≡ true → meet_of dims a b ≡ Some m
    → (cell : List ℕ) → is_inside dims m cell ≡ (is_inside dims a cell && is_inside dims b cell)
unfolding is_inside
is_inside-meet [] [] [] m trees first second is [] = let none : m ≡ [] = sym (grind arith) in rw none refl
is_inside-meet [] [] [] m trees first second is (z ∷ cell) = let none : m ≡ [] = sym (grind arith) in rw none refl
is_inside-meet [] [] (y ∷ ys) m trees first second is cell = absurd (true≢false (sym second))
is_inside-meet [] (x ∷ xs) b m trees first second is cell = absurd (true≢false (sym first))
is_inside-meet (dim ∷ dims) [] b m trees first second is cell = absurd (true≢false (sym first))
is_inside-meet (dim ∷ dims) (x ∷ xs) [] m trees first second is cell = absurd (true≢false (sym second))
is_inside-meet (dim ∷ dims) (x ∷ xs) (y ∷ ys) m trees first second is [] =
    let parts = meet_parts dim x y (lower dim x y) (meet_of dims xs ys) m is in
    rw parts.4 refl
is_inside-meet (dim ∷ dims) (x ∷ xs) (y ∷ ys) m trees first second is (z ∷ cell) =
    let parts = meet_parts dim x y (lower dim x y) (meet_of dims xs ys) m is in
    let a_is = is_region-cons dim dims x xs first in
    let b_is = is_region-cons dim dims y ys second in
    rw (parts.4, under-lower dim (All-head IsTree dim dims trees) x y a_is.0 b_is.0 parts.0 parts.2 z, is_inside-meet dims xs ys parts.1 (All-tail IsTree dim dims trees) a_is.1 b_is.1 parts.3 cell)
    (and_four (is_under dim z x) (is_under dim z y) (is_inside dims xs cell) (is_inside dims ys cell))

meet_missing : (first : Option ℕ) (others : Option (List ℕ)) → option_and_then (λ node. option_map (λ nodes. node ∷ nodes) others) first ≡ None → (first ≡ None) ⊎ (others ≡ None)
meet_missing None others is = inl refl
meet_missing (Some node) None is = inr refl
meet_missing (Some node) (Some nodes) is = absurd (grind arith)

pub is_inside-apart : (dims : List Dimension) (a b : List ℕ) → All IsTree dims → is_region dims a ≡ true → is_region dims b ≡ true → meet_of dims a b ≡ None
    → (cell : List ℕ) → (is_inside dims a cell && is_inside dims b cell) ≡ false
unfolding is_inside
is_inside-apart [] [] [] trees first second is cell = absurd (grind arith)
is_inside-apart [] [] (y ∷ ys) trees first second is cell = absurd (true≢false (sym second))
is_inside-apart [] (x ∷ xs) b trees first second is cell = absurd (true≢false (sym first))
is_inside-apart (dim ∷ dims) [] b trees first second is cell = absurd (true≢false (sym first))
is_inside-apart (dim ∷ dims) (x ∷ xs) [] trees first second is cell = absurd (true≢false (sym second))
is_inside-apart (dim ∷ dims) (x ∷ xs) (y ∷ ys) trees first second is [] = refl
is_inside-apart (dim ∷ dims) (x ∷ xs) (y ∷ ys) trees first second is (z ∷ cell) =
    let a_is = is_region-cons dim dims x xs first in
    let b_is = is_region-cons dim dims y ys second in
    and_four (is_under dim z x) (is_inside dims xs cell) (is_under dim z y) (is_inside dims ys cell)
    ∙ elim (meet_missing (lower dim x y) (meet_of dims xs ys) is) [
      | inl none ↦ and_left (is_under dim z x && is_under dim z y) _ (under-none dim (All-head IsTree dim dims trees) x y a_is.0 b_is.0 none z)
      | inr none ↦ and_right (is_under dim z x && is_under dim z y) _ (is_inside-apart dims xs ys (All-tail IsTree dim dims trees) a_is.1 b_is.1 none cell)
    ]

pub cells_of-meet : (dims : List Dimension) (a b m : List ℕ) → All IsTree dims → is_region dims a ≡ true → is_region dims b ≡ true → meet_of dims a b ≡ Some m → cells_of dims m ≡ common_cells dims a b
unfolding cells_of
cells_of-meet dims a b m trees first second is =
    places_from-same (is_inside dims m) (λ cell. is_inside dims a cell && is_inside dims b cell) 0 (all_cells dims) (is_inside-meet dims a b m trees first second is) ∙ sym (common_cells-both dims a b)

pub common_cells-none : (dims : List Dimension) (a b : List ℕ) → All IsTree dims → is_region dims a ≡ true → is_region dims b ≡ true → meet_of dims a b ≡ None → common_cells dims a b ≡ []
common_cells-none dims a b trees first second is =
    common_cells-both dims a b ∙ places_from-never (λ cell. is_inside dims a cell && is_inside dims b cell) 0 (all_cells dims) (is_inside-apart dims a b trees first second is)

pub is_region-meet : (dims : List Dimension) (a b m : List ℕ) → is_region dims a ≡ true → is_region dims b ≡ true → meet_of dims a b ≡ Some m → is_region dims m ≡ true
is_region-meet [] [] [] m first second is = let none : m ≡ [] = sym (grind arith) in rw none refl
is_region-meet [] [] (y ∷ ys) m first second is = absurd (true≢false (sym second))
is_region-meet [] (x ∷ xs) b m first second is = absurd (true≢false (sym first))
is_region-meet (dim ∷ dims) [] b m first second is = absurd (true≢false (sym first))
is_region-meet (dim ∷ dims) (x ∷ xs) [] m first second is = absurd (true≢false (sym second))
is_region-meet (dim ∷ dims) (x ∷ xs) (y ∷ ys) m first second is =
    let parts = meet_parts dim x y (lower dim x y) (meet_of dims xs ys) m is in
    let a_is = is_region-cons dim dims x xs first in
    let b_is = is_region-cons dim dims y ys second in
    let within : parts.0 < length dim = lower-within dim x y (length dim) parts.0 a_is.0 b_is.0 parts.2 in
    rw (parts.4, is_region-meet dims xs ys parts.1 a_is.1 b_is.1 parts.3) (grind (arith, nat_tests, within))
