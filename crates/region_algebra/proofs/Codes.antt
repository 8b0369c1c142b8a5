-- Codes in mixed radix: the place of a tuple among all tuples, and the places of the tuples that pass.
use Rattle.std.proofs.Common.{◌≡◌, ℕ, zero, suc, ◌+◌, ◌*◌, ◌<◌, Bool, true, false, List, [], ◌∷◌, ◌++◌, length, map, refl, sym, ap, ◌∙◌, true≢false, arith, length-append}
use Rattle.std.specs.Prelude.{if◌then◌else◌, ◌&&◌, slice_get, nat_lt}
use Rattle.std.specs.Option.{option_map, option_and_then}
use Rattle.std.specs.List.{flat_map}
use Rattle.std.proofs.lemmas.List.{length-map}
use Rattle.std.proofs.lemmas.Option.{slice_get-map}
use Rattle.cube_model.specs.Tree.{Dimension, Entry, leaves, is_under}
use Rattle.cube_model.specs.Cells.{all_cells, is_inside, places_from, cells_of, leaf_places}
use Rattle.region_algebra.specs.Space.{cell_total, region_total, all_regions, product, leaf_counts, is_region}

-- each of these numbers before each of these tuples
abbrev pub blocks : List ℕ → List (List ℕ) → List (List ℕ)
blocks xs ts = flat_map (λ x. map (λ t. x ∷ t) ts) xs

pub length-blocks : (xs : List ℕ) (ts : List (List ℕ)) → length (blocks xs ts) ≡ length xs * length ts
length-blocks [] ts = omega arith
length-blocks (x ∷ xs) ts = length-append (map (λ t. x ∷ t) ts) (blocks xs ts) ∙ grind (arith, length-map ts (λ (t : List ℕ). x ∷ t), length-blocks xs ts)

pub slice_get-front : {X : Type 0} (xs ys : List X) (i : ℕ) → i < length xs → slice_get (xs ++ ys) i ≡ slice_get xs i
slice_get-front [] ys i within = absurd (omega arith)
slice_get-front (x ∷ xs) ys zero within = refl
slice_get-front (x ∷ xs) ys (suc i) within = slice_get-front xs ys i (omega arith)

pub slice_get-back : {X : Type 0} (xs ys : List X) (i k : ℕ) → k ≡ length xs + i → slice_get (xs ++ ys) k ≡ slice_get ys i
slice_get-back [] ys i k is =
    let here : k ≡ i = omega (arith, is) in
    ap (slice_get ys) here
slice_get-back (x ∷ xs) ys i zero is = absurd (omega arith)
slice_get-back (x ∷ xs) ys i (suc k) is = slice_get-back xs ys i k (omega arith)

-- a block's places stand behind those of the blocks before
turn : (i n j k : ℕ) → k ≡ suc i * n + j → k ≡ n + (i * n + j)
turn i n j k is = grind arith

-- the tuple at a code has the number of its block, and behind it the tuple at the place in the block
pub slice_get-blocks : (xs : List ℕ) (ts : List (List ℕ)) (i j k : ℕ) → k ≡ i * length ts + j → j < length ts → slice_get (blocks xs ts) k ≡ option_and_then (λ x. option_map (λ t. x ∷ t) (slice_get ts j)) (slice_get xs i)
slice_get-blocks [] ts i j k is within = refl
slice_get-blocks (x ∷ xs) ts zero j k is within =
    let here : k ≡ j = omega (arith, is) in
    rw here (slice_get-front (map (λ t. x ∷ t) ts) (blocks xs ts) j (omega (arith, length-map ts (λ (t : List ℕ). x ∷ t), within)) ∙ slice_get-map (λ t. x ∷ t) ts j)
slice_get-blocks (x ∷ xs) ts (suc i) j k is within =
    let behind : k ≡ length (map (λ (t : List ℕ). x ∷ t) ts) + (i * length ts + j) = rw (length-map ts (λ (t : List ℕ). x ∷ t)) (turn i (length ts) j k is) in
    slice_get-back (map (λ t. x ∷ t) ts) (blocks xs ts) (i * length ts + j) k behind ∙ slice_get-blocks xs ts i j (i * length ts + j) refl within

if-append : (b : Bool) (k : ℕ) (xs ys zs : List ℕ) → xs ≡ ys ++ zs → (if b then k ∷ xs else xs) ≡ (if b then k ∷ ys else ys) ++ zs
if-append true k xs ys zs is = ap (λ l. k ∷ l) is
if-append false k xs ys zs is = is

pub places_from-append : {X : Type 0} (p : X → Bool) (k : ℕ) (xs ys : List X) → places_from p k (xs ++ ys) ≡ places_from p k xs ++ places_from p (k + length xs) ys
places_from-append p k [] ys = ap (λ n. places_from p n ys) (omega arith)
places_from-append p k (x ∷ xs) ys =
    let step : k + 1 + length xs ≡ k + suc (length xs) = omega arith in
    if-append (p x) k (places_from p (k + 1) (xs ++ ys)) (places_from p (k + 1) xs) (places_from p (k + suc (length xs)) ys) (places_from-append p (k + 1) xs ys ∙ ap (λ n. places_from p (k + 1) xs ++ places_from p n ys) step)

if-shift : (b : Bool) (k c m : ℕ) (xs ys : List ℕ) → m ≡ k + c → xs ≡ map (λ c. k + c) ys → (if b then m ∷ xs else xs) ≡ map (λ c. k + c) (if b then c ∷ ys else ys)
if-shift true k c m xs ys is rest = rw (is, rest) refl
if-shift false k c m xs ys is rest = rest

-- places counted from further on
pub places_from-shift : {X : Type 0} (p : X → Bool) (k c m : ℕ) (xs : List X) → m ≡ k + c → places_from p m xs ≡ map (λ c. k + c) (places_from p c xs)
places_from-shift p k c m [] is = refl
places_from-shift p k c m (x ∷ xs) is = if-shift (p x) k c m _ _ is (places_from-shift p k (c + 1) (m + 1) xs (omega (arith, is)))

-- in the block of a leaf outside there is none
places_from-none : (p : List ℕ → Bool) (k : ℕ) (x : ℕ) (ts : List (List ℕ)) (b : Bool) (q : List ℕ → Bool) → ((t : List ℕ) → p (x ∷ t) ≡ (b && q t)) → b ≡ false → places_from p k (map (λ t. x ∷ t) ts) ≡ []
places_from-none p k x [] b q each out = refl
places_from-none p k x (t ∷ ts) b q each out =
    let no : p (x ∷ t) ≡ false = each t ∙ ap (λ c. c && q t) out in
    rw no (places_from-none p (k + 1) x ts b q each out)

places_from-block : (p : List ℕ → Bool) (k : ℕ) (x : ℕ) (ts : List (List ℕ)) (b : Bool) (q : List ℕ → Bool) → ((t : List ℕ) → p (x ∷ t) ≡ (b && q t)) → b ≡ true → places_from p k (map (λ t. x ∷ t) ts) ≡ places_from q k ts
places_from-block p k x [] b q each inside = refl
places_from-block p k x (t ∷ ts) b q each inside =
    let same : p (x ∷ t) ≡ q t = each t ∙ ap (λ c. c && q t) inside in
    rw (same, places_from-block p (k + 1) x ts b q each inside) refl

-- the places in a block, as far on as the blocks before are long
abbrev pub shifted : ℕ → List ℕ → ℕ → List ℕ
shifted n cells i = map (λ c. i * n + c) cells

if-block : (b : Bool) (i n : ℕ) (cells block rest is : List ℕ) → (b ≡ true → block ≡ shifted n cells i) → (b ≡ false → block ≡ []) → rest ≡ flat_map (shifted n cells) is → block ++ rest ≡ flat_map (shifted n cells) (if b then i ∷ is else is)
if-block true i n cells block rest is inside outside next = rw (inside refl, next) refl
if-block false i n cells block rest is inside outside next = rw (outside refl, next) refl

-- the places of the tuples of which the first number passes one test and the others another
pub places_from-blocks : (p : List ℕ → Bool) (f : ℕ → Bool) (q : List ℕ → Bool) (i k : ℕ) (xs : List ℕ) (ts : List (List ℕ)) → ((x : ℕ) (t : List ℕ) → p (x ∷ t) ≡ (f x && q t)) → k ≡ i * length ts → places_from p k (blocks xs ts) ≡ flat_map (shifted (length ts) (places_from q 0 ts)) (places_from f i xs)
places_from-blocks p f q i k [] ts each is = refl
places_from-blocks p f q i k (x ∷ xs) ts each is =
    let block = map (λ (t : List ℕ). x ∷ t) ts in
    let behind : k + length block ≡ (i + 1) * length ts = rw (length-map ts (λ (t : List ℕ). x ∷ t), is) (grind arith) in
    let from_k : k ≡ i * length ts + 0 = omega (arith, is) in
    places_from-append p k block (blocks xs ts)
    ∙ if-block (f x) i (length ts) (places_from q 0 ts) (places_from p k block) (places_from p (k + length block) (blocks xs ts)) (places_from f (i + 1) xs)
    (λ inside. places_from-block p k x ts (f x) q (each x) inside ∙ places_from-shift q (i * length ts) 0 k ts from_k)
    (λ out. places_from-none p k x ts (f x) q (each x) out)
    (places_from-blocks p f q (i + 1) (k + length block) xs ts each behind)

-- Cells over one more dimension: the leaves under the node there, each before the cells of the other dimensions.
pub cells_of-cons : (dim : Dimension) (dims : List Dimension) (node : ℕ) (nodes : List ℕ) → cells_of (dim ∷ dims) (node ∷ nodes) ≡ flat_map (shifted (length (all_cells dims)) (cells_of dims nodes)) (leaf_places dim node)
unfolding cells_of leaf_places all_cells is_inside
cells_of-cons dim dims node nodes = places_from-blocks (is_inside (dim ∷ dims) (node ∷ nodes)) (λ leaf. is_under dim leaf node) (is_inside dims nodes) 0 0 (leaves dim) (all_cells dims) (λ leaf cell. refl) (omega arith)

pub length-all_cells : (dims : List Dimension) → length (all_cells dims) ≡ cell_total dims
unfolding all_cells
length-all_cells [] = refl
length-all_cells (dim ∷ dims) = length-blocks (leaves dim) (all_cells dims) ∙ ap (λ n. length (leaves dim) * n) (length-all_cells dims)

pub length-all_regions : (dims : List Dimension) → length (all_regions dims) ≡ region_total dims
unfolding all_regions
length-all_regions [] = refl
length-all_regions (dim ∷ dims) = length-blocks (map (λ e. e.number) dim) (all_regions dims) ∙ rw (length-map dim (λ (e : Entry). e.number)) (ap (λ n. length dim * n) (length-all_regions dims))

pub length-shifted : (n : ℕ) (cells is : List ℕ) → length (flat_map (shifted n cells) is) ≡ length is * length cells
length-shifted n cells [] = omega arith
length-shifted n cells (i ∷ is) = length-append (shifted n cells i) (flat_map (shifted n cells) is) ∙ grind (arith, length-map cells (λ (c : ℕ). i * n + c), length-shifted n cells is)

pub length-cells_of-cons : (dim : Dimension) (dims : List Dimension) (node : ℕ) (nodes : List ℕ) → length (cells_of (dim ∷ dims) (node ∷ nodes)) ≡ length (leaf_places dim node) * length (cells_of dims nodes)
length-cells_of-cons dim dims node nodes = ap length (cells_of-cons dim dims node nodes) ∙ length-shifted (length (all_cells dims)) (cells_of dims nodes) (leaf_places dim node)

pub length-cells_of-nil : length (cells_of [] []) ≡ 1
unfolding cells_of all_cells is_inside
length-cells_of-nil = refl

pub cells_of-nil : cells_of [] [] ≡ 0 ∷ []
unfolding cells_of all_cells is_inside
cells_of-nil = refl

and-second : (a b : Bool) → (a && b) ≡ true → b ≡ true
and-second true b h = h
and-second false b h = absurd (true≢false (sym h))

pub product-leaf_counts : (dims : List Dimension) (region : List ℕ) → is_region dims region ≡ true → length (cells_of dims region) ≡ product (leaf_counts dims region)
product-leaf_counts [] [] names = length-cells_of-nil
product-leaf_counts [] (node ∷ nodes) names = absurd (true≢false (sym names))
product-leaf_counts (dim ∷ dims) [] names = absurd (true≢false (sym names))
product-leaf_counts (dim ∷ dims) (node ∷ nodes) names = length-cells_of-cons dim dims node nodes ∙ ap (λ n. length (leaf_places dim node) * n) (product-leaf_counts dims nodes (and-second (nat_lt node (length dim)) (is_region dims nodes) names))
