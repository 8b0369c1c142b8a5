-- One dimension more or less: what cells and regions over the dimensions from d on are by those from d + 1 on.
use Rattle.std.proofs.Common.{◌≡◌, ℕ, zero, suc, ◌+◌, ◌-◌, ◌*◌, ◌<◌, ◌≤◌, Bool, true, false, List, [], ◌∷◌, length, drop, get_or, refl, sym, ap, ◌∙◌, true≢false, arith}
use Rattle.std.specs.Prelude.{if◌then◌else◌, All, Some, slice_get}
use Rattle.std.specs.Option.{option_map}
use Rattle.std.specs.List.{flat_map, range_with_len}
use Rattle.std.proofs.lemmas.List.{length-map, drop_more, drop_all}
use Rattle.std.proofs.lemmas.List.FromFn.{length-range_with_len}
use Rattle.std.proofs.lemmas.Nat.{mul-le}
use Rattle.std.proofs.lemmas.Option.{slice_get-map, slice_get_within, get_or_from_slice_get, slice_get_read}
use Rattle.std.proofs.lemmas.List.Elements.{All-cons, All-head, All-tail}
use Rattle.cube_model.specs.Tree.{Dimension, IsTree, leaves}
use Rattle.cube_model.specs.Cells.{all_cells, is_inside, places_from, cells_of, leaf_places}
use Rattle.cube_model.specs.Limits.{SPACE_LIMIT}
use Rattle.region_algebra.specs.Space.{cell_total, is_region, region_total}
use Rattle.region_algebra.specs.Stepped.{IsStepped}
use Rattle.region_algebra.proofs.Codes.{shifted, cells_of-cons, cells_of-nil, length-all_cells, length-cells_of-cons, length-cells_of-nil, slice_get-front}
use Rattle.region_algebra.proofs.Intervals.{some_leaf, some_leaf_under, some_node}
use Rattle.region_algebra.proofs.Meets.{is_region-cons}

pub drop-at : {X : Type 0} (xs : List X) (d : ℕ) (x : X) → slice_get xs d ≡ Some x → drop d xs ≡ x ∷ drop (d + 1) xs
drop-at xs d x is = drop_more xs d x (slice_get_within xs d x is) ∙ ap (λ y. y ∷ drop (d + 1) xs) (get_or_from_slice_get xs d x x is)

pub is_region-length : (dims : List Dimension) (nodes : List ℕ) → is_region dims nodes ≡ true → length nodes ≡ length dims
is_region-length [] [] names = refl
is_region-length [] (node ∷ nodes) names = absurd (true≢false (sym names))
is_region-length (dim ∷ dims) [] names = absurd (true≢false (sym names))
is_region-length (dim ∷ dims) (node ∷ nodes) names = ap suc (is_region-length dims nodes (is_region-cons dim dims node nodes names).1)

pub node-within : (dims : List Dimension) (nodes : List ℕ) (d : ℕ) (dim : Dimension) (node : ℕ) → is_region dims nodes ≡ true → slice_get dims d ≡ Some dim → slice_get nodes d ≡ Some node → node < length dim
node-within [] nodes d dim node names is has = absurd (grind arith)
node-within (e ∷ dims) [] d dim node names is has = absurd (true≢false (sym names))
node-within (e ∷ dims) (m ∷ nodes) zero dim node names is has =
    let same : e ≡ dim = grind arith in
    let named : m ≡ node = grind arith in
    rw (← same, ← named) ((is_region-cons e dims m nodes names).0)
node-within (e ∷ dims) (m ∷ nodes) (suc d) dim node names is has = node-within dims nodes d dim node (is_region-cons e dims m nodes names).1 is has

-- a dimension that was read, with a region's node there
pub record Here (dims : List Dimension) (nodes : List ℕ) (d e : ℕ) (dim : Dimension) (node : ℕ) : Type 0 where
  pub dims_are : drop d dims ≡ dim ∷ drop e dims
  pub nodes_are : drop d nodes ≡ node ∷ drop e nodes
  pub within : node < length dim

pub here : (dims : List Dimension) (nodes : List ℕ) (d e : ℕ) (dim : Dimension) (node : ℕ) → is_region dims nodes ≡ true → d < length dims → e ≡ d + 1 → dim ≡ get_or dims d dim → slice_get nodes d ≡ Some node → Here dims nodes d e dim node
here dims nodes d e dim node names inside next read has =
    let is : slice_get dims d ≡ Some dim = slice_get_read dims (length dims) d dim refl inside read in
    rw next (record { dims_are = drop-at dims d dim is; nodes_are = drop-at nodes d node has; within = node-within dims nodes d dim node names is has })

-- cells that may be over fewer dimensions

pub cell_total-drop : (dims : List Dimension) (d : ℕ) → All IsTree dims → cell_total (drop d dims) ≤ cell_total dims
cell_total-drop dims zero trees = omega arith
cell_total-drop [] (suc d) trees = omega arith
cell_total-drop (dim ∷ dims) (suc d) trees =
    omega (arith, cell_total-drop dims d (All-tail IsTree dim dims trees), mul-le 1 (cell_total dims) (length (leaves dim)) (cell_total dims) (some_leaf dim (All-head IsTree dim dims trees)) (omega arith))

pub region_total-drop : (dims : List Dimension) (d : ℕ) → All IsTree dims → region_total (drop d dims) ≤ region_total dims
region_total-drop dims zero trees = omega arith
region_total-drop [] (suc d) trees = omega arith
region_total-drop (dim ∷ dims) (suc d) trees =
    omega (arith, region_total-drop dims d (All-tail IsTree dim dims trees), mul-le 1 (region_total dims) (length dim) (region_total dims) (some_node dim (All-head IsTree dim dims trees)) (omega arith))

-- at least one cell over any dimensions
pub cell_total-some : (dims : List Dimension) → All IsTree dims → 1 ≤ cell_total dims
cell_total-some dims trees = omega (arith, cell_total-drop dims (length dims) trees, ap cell_total (drop_all (length dims) dims (omega arith)))

pub region_total-some : (dims : List Dimension) → All IsTree dims → 1 ≤ region_total dims
region_total-some dims trees = omega (arith, region_total-drop dims (length dims) trees, ap region_total (drop_all (length dims) dims (omega arith)))

All-if : (b : Bool) (P : ℕ → Type 0) (k : ℕ) (xs : List ℕ) → P k → All P xs → All P (if b then k ∷ xs else xs)
All-if true P k xs first rest = All-cons P k xs first rest
All-if false P k xs first rest = rest

places_from-below : {X : Type 0} (p : X → Bool) (k n : ℕ) (xs : List X) → k + length xs ≤ n → All (λ c. c < n) (places_from p k xs)
places_from-below p k n [] within = λ i d inside. absurd (omega arith)
places_from-below p k n (x ∷ xs) within = All-if (p x) (λ c. c < n) k (places_from p (k + 1) xs) (omega arith) (places_from-below p (k + 1) n xs (omega arith))

-- cells are below their number
pub cells-below : (dims : List Dimension) (nodes : List ℕ) → All (λ c. c < cell_total dims) (cells_of dims nodes)
unfolding cells_of
cells-below dims nodes = places_from-below (is_inside dims nodes) 0 (cell_total dims) (all_cells dims) (omega (arith, length-all_cells dims))

length-if : (b : Bool) (k n : ℕ) (xs : List ℕ) → length xs ≤ n → length (if b then k ∷ xs else xs) ≤ suc n
length-if true k n xs few = omega arith
length-if false k n xs few = omega arith

length-places_from : {X : Type 0} (p : X → Bool) (k : ℕ) (xs : List X) → length (places_from p k xs) ≤ length xs
length-places_from p k [] = omega arith
length-places_from p k (x ∷ xs) = length-if (p x) k (length xs) (places_from p (k + 1) xs) (length-places_from p (k + 1) xs)

pub cells-few : (dims : List Dimension) (nodes : List ℕ) → length (cells_of dims nodes) ≤ cell_total dims
unfolding cells_of
cells-few dims nodes = omega (arith, length-places_from (is_inside dims nodes) 0 (all_cells dims), length-all_cells dims)

-- a region has a cell
pub cells-some : (dims : List Dimension) (nodes : List ℕ) → All IsTree dims → is_region dims nodes ≡ true → 1 ≤ length (cells_of dims nodes)
cells-some [] [] trees names = omega (arith, length-cells_of-nil)
cells-some [] (node ∷ nodes) trees names = absurd (true≢false (sym names))
cells-some (dim ∷ dims) [] trees names = absurd (true≢false (sym names))
cells-some (dim ∷ dims) (node ∷ nodes) trees names =
    let parts = is_region-cons dim dims node nodes names in
    let leaf = some_leaf_under dim node (All-head IsTree dim dims trees) parts.0 in
    let rest = cells-some dims nodes (All-tail IsTree dim dims trees) parts.1 in
    omega (arith, length-cells_of-cons dim dims node nodes, mul-le 1 1 (length (leaf_places dim node)) (length (cells_of dims nodes)) leaf rest)

-- the number of cells, one dimension before
pub count_turn : (dims : List Dimension) (nodes : List ℕ) (d e : ℕ) (dim : Dimension) (node first n count : ℕ) → Here dims nodes d e dim node → leaf_places dim node ≡ range_with_len first n → count ≡ length (cells_of (drop e dims) (drop e nodes))
    → count * n ≡ length (cells_of (drop d dims) (drop d nodes))
count_turn dims nodes d e dim node first n count at range is =
    let turned : count * n ≡ n * count = omega arith in
    turned ∙ rw (at.dims_are, at.nodes_are, is) (sym (length-cells_of-cons dim (drop e dims) node (drop e nodes) ∙ rw range (ap (λ m. m * length (cells_of (drop e dims) (drop e nodes))) (length-range_with_len first n))))

-- over no dimension there is one cell
pub cells-at_end : (dims : List Dimension) (nodes : List ℕ) (d : ℕ) → is_region dims nodes ≡ true → length dims ≤ d → cells_of (drop d dims) (drop d nodes) ≡ 0 ∷ []
cells-at_end dims nodes d names all = rw (drop_all d dims all, drop_all d nodes (omega (arith, is_region-length dims nodes names))) cells_of-nil

-- the next dimension before, as it is read
pub before : (dims : List Dimension) (nodes : List ℕ) (d e : ℕ) (dim : Dimension) (node : ℕ) → is_region dims nodes ≡ true → e ≤ length dims → 0 < e → d ≡ e - 1 → dim ≡ get_or dims d dim → slice_get nodes d ≡ Some node → Here dims nodes d e dim node
before dims nodes d e dim node names within some next read has = here dims nodes d e dim node names (omega arith) (omega arith) read has

pub step-before : (total : List Dimension → ℕ) (dims : List Dimension) (steps : List ℕ) (d e : ℕ) → IsStepped total dims steps → e ≤ length dims → 0 < e → d ≡ e - 1 → get_or steps d 0 ≡ total (drop e dims)
step-before total dims steps d e stepped within some next =
    let behind : d + 1 ≡ e = omega arith in
    stepped.each d (omega arith) ∙ ap (λ k. total (drop k dims)) behind

pub range-of : (dim : Dimension) (node first end n : ℕ) → leaf_places dim node ≡ range_with_len first (end - first) → n ≡ end - first → leaf_places dim node ≡ range_with_len first n
range-of dim node first end n range is = range ∙ ap (range_with_len first) (sym is)

pub count_next : (dims : List Dimension) (nodes : List ℕ) (d e first end n count : ℕ) (dim : Dimension) (node : ℕ) → All IsTree dims → cell_total dims < SPACE_LIMIT → Here dims nodes d e dim node
    → leaf_places dim node ≡ range_with_len first (end - first) → n ≡ end - first → count ≡ length (cells_of (drop e dims) (drop e nodes))
    → (count * n ≡ length (cells_of (drop d dims) (drop d nodes))) × (count * n < SPACE_LIMIT)
count_next dims nodes d e first end n count dim node trees total at range is counted =
    let next = count_turn dims nodes d e dim node first n count at (range-of dim node first end n range is) counted in
    (next, omega (arith, next, cells-few (drop d dims) (drop d nodes), cell_total-drop dims d trees, total))

-- cells over the dimensions from one on, in the words of those behind it
pub cells-here : (dims : List Dimension) (nodes : List ℕ) (d e first end step : ℕ) (dim : Dimension) (node : ℕ) → Here dims nodes d e dim node → leaf_places dim node ≡ range_with_len first (end - first) → step ≡ cell_total (drop e dims)
    → cells_of (drop d dims) (drop d nodes) ≡ flat_map (shifted step (cells_of (drop e dims) (drop e nodes))) (range_with_len first (end - first))
cells-here dims nodes d e first end step dim node at range steps =
    rw (at.dims_are, at.nodes_are) (cells_of-cons dim (drop e dims) node (drop e nodes) ∙ rw (range, length-all_cells (drop e dims), steps) refl)

-- the first of the cells
first-shifted : (n : ℕ) (cells : List ℕ) (first w cell : ℕ) → 0 < w → slice_get cells 0 ≡ Some cell → slice_get (flat_map (shifted n cells) (range_with_len first w)) 0 ≡ Some (cell + first * n)
first-shifted n cells first zero cell some is = absurd (omega arith)
first-shifted n cells first (suc w) cell some is =
    slice_get-front (shifted n cells first) (flat_map (shifted n cells) (range_with_len (first + 1) w)) 0 (omega (arith, length-map cells (λ (c : ℕ). first * n + c), slice_get_within cells 0 cell is))
    ∙ slice_get-map (λ c. first * n + c) cells 0 ∙ ap (option_map (λ c. first * n + c)) is ∙ ap Some (omega arith)

pub first_next : (dims : List Dimension) (steps nodes : List ℕ) (d e code low first end : ℕ) (dim : Dimension) (node : ℕ) → IsStepped cell_total dims steps → Here dims nodes d e dim node → e ≤ length dims → 0 < e → d ≡ e - 1
    → leaf_places dim node ≡ range_with_len first (end - first) → first < end → low ≡ first → slice_get (cells_of (drop e dims) (drop e nodes)) 0 ≡ Some code
    → (slice_get (cells_of (drop d dims) (drop d nodes)) 0 ≡ Some (code + low * get_or steps d 0)) × (code + low * get_or steps d 0 < SPACE_LIMIT)
first_next dims steps nodes d e code low first end dim node stepped at within behind next range some same is =
    let step = step-before cell_total dims steps d e stepped within behind next in
    let found : slice_get (cells_of (drop d dims) (drop d nodes)) 0 ≡ Some (code + low * get_or steps d 0) =
    rw (cells-here dims nodes d e first end (get_or steps d 0) dim node at range step, same) (first-shifted (get_or steps d 0) (cells_of (drop e dims) (drop e nodes)) first (end - first) code (omega arith) is) in
    let read : get_or (cells_of (drop d dims) (drop d nodes)) 0 0 ≡ code + low * get_or steps d 0 = get_or_from_slice_get (cells_of (drop d dims) (drop d nodes)) 0 (code + low * get_or steps d 0) 0 found in
    (found, omega (arith, read, cells-below (drop d dims) (drop d nodes) 0 0 (slice_get_within (cells_of (drop d dims) (drop d nodes)) 0 (code + low * get_or steps d 0) found), cell_total-drop dims d stepped.trees, stepped.limit))
