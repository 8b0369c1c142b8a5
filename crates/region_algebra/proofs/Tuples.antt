-- What is found dimension by dimension, the first first: whether a cell is a region's, and the tuple of a code.
use Rattle.std.proofs.Common.{◌≡◌, ℕ, zero, suc, ◌+◌, ◌-◌, ◌*◌, ◌/◌, ◌%◌, ◌<◌, ◌≤◌, ◌≢◌, Bool, true, false, List, [], ◌∷◌, ◌++◌, length, map, take, drop, get_or, refl, sym, ap, ◌∙◌, true≢false, arith, append_assoc}
use Rattle.std.specs.Prelude.{◌&&◌, ◌||◌, ◌==◌, All, Option, Some, None, slice_get, slice_set, nat_lt, nat_le}
use Rattle.std.specs.Option.{option_map, option_and_then}
use Rattle.std.specs.List.{flat_map, range_with_len}
use Rattle.std.proofs.lemmas.Bool.Decides.{nat_tests}
use Rattle.std.proofs.lemmas.List.{append-nil, drop_all, length-set, take_all, take_more, take_more_set}
use Rattle.std.proofs.lemmas.List.Folds.{list_any-append}
use Rattle.std.proofs.lemmas.Nat.{div-add-mod', div_below, mod_below, same_from_place}
use Rattle.std.proofs.lemmas.Option.{same_Some, slice_get_within, slice_get_read, slice_get_past}
use Rattle.cube_model.specs.Tree.{Dimension, Entry, IsTree, is_leaf, leaves, node_lines, numbers, place_of}
use Rattle.cube_model.specs.Cells.{all_cells, cells_of, is_among, leaf_places}
use Rattle.cube_model.specs.Limits.{SPACE_LIMIT, MAX_DIMS}
use Rattle.cube_model.specs.declared.tree.NodeLine.{NodeLine}
use Rattle.std.proofs.lemmas.List.{length-map}
use Rattle.dim_tree.proofs.Renumbering.{are_numbers, place_at, place_of-place_at}
use Rattle.region_algebra.specs.Space.{all_regions, cell_total, code_of, is_region, lower, meet_of, region_total}
use Rattle.region_algebra.specs.Stepped.{IsStepped}
use Rattle.region_algebra.proofs.Codes.{shifted, cells_of-cons, length-all_cells, length-all_regions, slice_get-blocks}
use Rattle.region_algebra.proofs.Numbers.{place_of-number}
use Rattle.region_algebra.proofs.Meets.{is_region-cons}
use Rattle.dim_tree.proofs.Outlines.{tree_fault_none}
use Rattle.std.proofs.lemmas.List.Sums.{count_by-le-length, length-filter}
use Rattle.std.proofs.lemmas.Bool.{and_left}
use Rattle.std.proofs.lemmas.List.Elements.{All-drop, All-head, All-tail}
use Rattle.region_algebra.proofs.Turns.{Here, before, here, step-before, cells-below, cell_total-some, region_total-some, region_total-drop, drop-at, is_region-length}

and-false : (a : Bool) → false ≡ (a && false)
and-false true = refl
and-false false = refl

and_or : (a b c : Bool) → ((a && b) || (a && c)) ≡ (a && (b || c))
and_or true b c = refl
and_or false b c = refl

-- two codes are one where both of their parts are
same_place : (n i q c r : ℕ) → c < n → r < n → (i * n + c == q * n + r) ≡ ((i == q) && (c == r))
same_place n i q c r first second = grind (arith, nat_tests, same_from_place i c q r n first second)

one_run : (first w q : ℕ) (rest : Bool) → (((first == q) && rest) || ((nat_le (first + 1) q && nat_lt q (first + 1 + w)) && rest)) ≡ ((nat_le first q && nat_lt q (first + suc w)) && rest)
one_run first w q true = grind (arith, nat_tests)
one_run first w q false = grind (arith, nat_tests)

-- a cell among those of one run
is_among-run : (n i q r : ℕ) (cells : List ℕ) → r < n → All (λ c. c < n) cells → is_among (shifted n cells i) (q * n + r) ≡ ((i == q) && is_among cells r)
is_among-run n i q r [] inside below = and-false (i == q)
is_among-run n i q r (c ∷ cells) inside below =
    let one : (i * n + c == q * n + r) ≡ ((i == q) && (c == r)) = same_place n i q c r (All-head (λ c. c < n) c cells below) inside in
    rw (one, is_among-run n i q r cells inside (All-tail (λ c. c < n) c cells below)) (and_or (i == q) (c == r) (is_among cells r))

-- a cell among those of many runs
is_among-runs : (n first w q r : ℕ) (cells : List ℕ) → r < n → All (λ c. c < n) cells → is_among (flat_map (shifted n cells) (range_with_len first w)) (q * n + r) ≡ ((nat_le first q && nat_lt q (first + w)) && is_among cells r)
is_among-runs n first zero q r cells inside below = sym (and_left (nat_le first q && nat_lt q (first + 0)) (is_among cells r) (grind (arith, nat_tests)))
is_among-runs n first (suc w) q r cells inside below =
    list_any-append (λ c. c == q * n + r) (shifted n cells first) (flat_map (shifted n cells) (range_with_len (first + 1) w))
    ∙ rw (is_among-run n first q r cells inside below, is_among-runs n (first + 1) w q r cells inside below) (one_run first w q (is_among cells r))

-- a cell is one of a region's where its leaf in a dimension is under the node and the rest is one of the others'
pub is_among-turn : (dims : List Dimension) (nodes : List ℕ) (d e first end step cell : ℕ) (dim : Dimension) (node : ℕ) → Here dims nodes d e dim node → leaf_places dim node ≡ range_with_len first (end - first) → first < end → step ≡ cell_total (drop e dims) → 0 < step
    → is_among (cells_of (drop d dims) (drop d nodes)) cell ≡ ((nat_le first (cell / step) && nat_lt (cell / step) end) && is_among (cells_of (drop e dims) (drop e nodes)) (cell % step))
is_among-turn dims nodes d e first end step cell dim node at range some steps positive =
    let cells = cells_of (drop e dims) (drop e nodes) in
    let these : cells_of (drop d dims) (drop d nodes) ≡ flat_map (shifted step cells) (range_with_len first (end - first)) = rw (at.dims_are, at.nodes_are) (cells_of-cons dim (drop e dims) node (drop e nodes) ∙ rw (range, length-all_cells (drop e dims), steps) refl) in
    let below : All (λ c. c < step) cells = rw steps (cells-below (drop e dims) (drop e nodes)) in
    let ends : first + (end - first) ≡ end = omega arith in
    let apart : cell / step * step + cell % step ≡ cell = div-add-mod' cell step in
    ap (is_among (cells_of (drop d dims) (drop d nodes))) (sym apart) ∙ ap (λ cs. is_among cs (cell / step * step + cell % step)) these
    ∙ is_among-runs step first (end - first) (cell / step) (cell % step) cells (mod_below cell step positive) below
    ∙ ap (λ m. (nat_le first (cell / step) && nat_lt (cell / step) m) && is_among cells (cell % step)) ends

pub step-at : (total : List Dimension → ℕ) (some : (dims : List Dimension) → All IsTree dims → 1 ≤ total dims) (dims : List Dimension) (steps : List ℕ) (d : ℕ) → IsStepped total dims steps → d < length dims → (get_or steps d 0 ≡ total (drop (d + 1) dims)) × (0 < get_or steps d 0)
step-at total some dims steps d stepped within =
    let is = stepped.each d within in
    (is, omega (arith, is, some (drop (d + 1) dims) (All-drop IsTree (d + 1) dims stepped.trees)))

-- the tuples over one dimension more, by the number and the rest

pub all_cells-turn : (dims : List Dimension) (d e step rest leaf : ℕ) (dim : Dimension) → drop d dims ≡ dim ∷ drop e dims → step ≡ cell_total (drop e dims) → 0 < step → slice_get (leaves dim) (rest / step) ≡ Some leaf
    → slice_get (all_cells (drop d dims)) rest ≡ option_map (λ t. leaf ∷ t) (slice_get (all_cells (drop e dims)) (rest % step))
unfolding all_cells
all_cells-turn dims d e step rest leaf dim dims_are steps positive found =
    let room : length (all_cells (drop e dims)) ≡ step = length-all_cells (drop e dims) ∙ sym steps in
    let apart : rest ≡ rest / step * length (all_cells (drop e dims)) + rest % step = rw room (sym (div-add-mod' rest step)) in
    rw dims_are (slice_get-blocks (leaves dim) (all_cells (drop e dims)) (rest / step) (rest % step) rest apart (omega (arith, room, mod_below rest step positive))
    ∙ ap (option_and_then (λ x. option_map (λ t. x ∷ t) (slice_get (all_cells (drop e dims)) (rest % step)))) found)

pub all_regions-turn : (dims : List Dimension) (d e step rest : ℕ) (dim : Dimension) → drop d dims ≡ dim ∷ drop e dims → step ≡ region_total (drop e dims) → 0 < step
    → slice_get (all_regions (drop d dims)) rest ≡ option_and_then (λ x. option_map (λ t. x ∷ t) (slice_get (all_regions (drop e dims)) (rest % step))) (slice_get (numbers dim) (rest / step))
unfolding all_regions
all_regions-turn dims d e step rest dim dims_are steps positive =
    let room : length (all_regions (drop e dims)) ≡ step = length-all_regions (drop e dims) ∙ sym steps in
    let apart : rest ≡ rest / step * length (all_regions (drop e dims)) + rest % step = rw room (sym (div-add-mod' rest step)) in
    rw dims_are (slice_get-blocks (numbers dim) (all_regions (drop e dims)) (rest / step) (rest % step) rest apart (omega (arith, room, mod_below rest step positive)))

pub all_regions-found : (dims : List Dimension) (d e step rest node : ℕ) (dim : Dimension) → drop d dims ≡ dim ∷ drop e dims → step ≡ region_total (drop e dims) → 0 < step → slice_get (numbers dim) (rest / step) ≡ Some node
    → slice_get (all_regions (drop d dims)) rest ≡ option_map (λ t. node ∷ t) (slice_get (all_regions (drop e dims)) (rest % step))
all_regions-found dims d e step rest node dim dims_are steps positive found =
    all_regions-turn dims d e step rest dim dims_are steps positive
    ∙ ap (option_and_then (λ x. option_map (λ t. x ∷ t) (slice_get (all_regions (drop e dims)) (rest % step)))) found

pub all_regions-past : (dims : List Dimension) (d e step rest : ℕ) (dim : Dimension) → drop d dims ≡ dim ∷ drop e dims → step ≡ region_total (drop e dims) → 0 < step → length dim ≤ rest / step
    → slice_get (all_regions (drop d dims)) rest ≡ None
all_regions-past dims d e step rest dim dims_are steps positive past =
    all_regions-turn dims d e step rest dim dims_are steps positive
    ∙ ap (option_and_then (λ x. option_map (λ t. x ∷ t) (slice_get (all_regions (drop e dims)) (rest % step)))) (slice_get_past (numbers dim) (rest / step) (omega (arith, length-map dim (λ (e : Entry). e.number))))

-- The tuple looked for is the front that was found, with a tuple over the dimensions behind.
abbrev pub IsBehind : List ℕ → Option (List ℕ) → Option (List ℕ) → Type 0
IsBehind front behind whole = option_map (λ t. front ++ t) behind ≡ whole

pub behind_start : (whole : Option (List ℕ)) → IsBehind [] whole whole
behind_start None = refl
behind_start (Some t) = refl

behind_one : (front next : List ℕ) (x : ℕ) (behind : Option (List ℕ)) → next ≡ front ++ x ∷ [] → option_map (λ t. next ++ t) behind ≡ option_map (λ t. front ++ t) (option_map (λ t. x ∷ t) behind)
behind_one front next x None is = refl
behind_one front next x (Some t) is = ap Some (ap (λ l. l ++ t) is ∙ append_assoc front (x ∷ []) t)

pub behind_next : (nodes : List ℕ) (d x : ℕ) (here behind whole : Option (List ℕ)) → d < length nodes → IsBehind (take d nodes) here whole → here ≡ option_map (λ t. x ∷ t) behind → IsBehind (take (d + 1) (slice_set nodes d x)) behind whole
behind_next nodes d x here behind whole within is turned = behind_one (take d nodes) (take (d + 1) (slice_set nodes d x)) x behind (take_more_set nodes d x within) ∙ ap (option_map (λ t. take d nodes ++ t)) (sym turned) ∙ is

pub behind_none : (front : List ℕ) (here whole : Option (List ℕ)) → IsBehind front here whole → here ≡ None → whole ≡ None
behind_none front here whole is none = sym is ∙ ap (option_map (λ t. front ++ t)) none

pub behind_end : (front : List ℕ) (here whole : Option (List ℕ)) → IsBehind front here whole → here ≡ Some [] → whole ≡ Some front
behind_end front here whole is nothing = sym is ∙ ap (option_map (λ t. front ++ t)) nothing ∙ ap Some (append-nil front)

pub all_cells-end : (dims : List Dimension) (d rest : ℕ) → length dims ≤ d → rest < cell_total (drop d dims) → slice_get (all_cells (drop d dims)) rest ≡ Some []
unfolding all_cells
all_cells-end dims d rest all below =
    let none : drop d dims ≡ [] = drop_all d dims all in
    let first : rest ≡ 0 = omega (arith, ap cell_total none) in
    rw (none, first) refl

pub all_regions-end : (dims : List Dimension) (d rest : ℕ) → length dims ≤ d → rest < region_total (drop d dims) → slice_get (all_regions (drop d dims)) rest ≡ Some []
unfolding all_regions
all_regions-end dims d rest all below =
    let none : drop d dims ≡ [] = drop_all d dims all in
    let first : rest ≡ 0 = omega (arith, ap region_total none) in
    rw (none, first) refl

-- nodes of the first dimensions

is_region-append : (dims : List Dimension) (nodes : List ℕ) (dim : Dimension) (node : ℕ) → is_region dims nodes ≡ true → node < length dim → is_region (dims ++ dim ∷ []) (nodes ++ node ∷ []) ≡ true
is_region-append [] [] dim node names within = grind (arith, nat_tests)
is_region-append [] (m ∷ nodes) dim node names within = absurd (true≢false (sym names))
is_region-append (e ∷ dims) [] dim node names within = absurd (true≢false (sym names))
is_region-append (e ∷ dims) (m ∷ nodes) dim node names within =
    let parts = is_region-cons e dims m nodes names in
    rw (is_region-append dims nodes dim node parts.1 within) (grind (arith, nat_tests, parts.0))

pub is_region-next : (dims : List Dimension) (nodes : List ℕ) (d : ℕ) (dim : Dimension) (node : ℕ) → is_region (take d dims) (take d nodes) ≡ true → d < length dims → d < length nodes → dim ≡ get_or dims d dim → node < length dim → is_region (take (d + 1) dims) (take (d + 1) (slice_set nodes d node)) ≡ true
is_region-next dims nodes d dim node names inside room read within =
    let more : take (d + 1) dims ≡ take d dims ++ dim ∷ [] = take_more dims d dim inside ∙ ap (λ x. take d dims ++ x ∷ []) (sym read) in
    rw (more, take_more_set nodes d node room) (is_region-append (take d dims) (take d nodes) dim node names within)

-- the codes of regions

-- the code with one dimension more is that of the places
code_of-turn : (dims : List Dimension) (nodes : List ℕ) (d e step code place : ℕ) (dim : Dimension) (node : ℕ) → Here dims nodes d e dim node → step ≡ region_total (drop e dims) → place_of dim node ≡ Some place → code ≡ code_of (drop e dims) (drop e nodes)
    → code + place * step ≡ code_of (drop d dims) (drop d nodes)
code_of-turn dims nodes d e step code place dim node at steps placed is =
    let turned : code + place * step ≡ place * region_total (drop e dims) + code_of (drop e dims) (drop e nodes) = rw (← is, ← steps) (omega arith) in
    rw (at.dims_are, at.nodes_are, placed) turned

pub code_turn : (dims : List Dimension) (nodes : List ℕ) (d e step code place : ℕ) (dim : Dimension) (node : ℕ) → Here dims nodes d e dim node → step ≡ region_total (drop e dims) → place_of dim node ≡ Some place → code < step → slice_get (all_regions (drop e dims)) code ≡ Some (drop e nodes)
    → slice_get (all_regions (drop d dims)) (code + place * step) ≡ Some (drop d nodes)
unfolding all_regions
code_turn dims nodes d e step code place dim node at steps placed below is =
    let room : length (all_regions (drop e dims)) ≡ step = length-all_regions (drop e dims) ∙ sym steps in
    let apart : code + place * step ≡ place * length (all_regions (drop e dims)) + code = rw room (omega arith) in
    rw (at.dims_are, at.nodes_are) (slice_get-blocks (numbers dim) (all_regions (drop e dims)) place code (code + place * step) apart (omega (arith, room))
    ∙ rw ((place_of-number dim node place placed).1, is) refl)

pub region-below : (dims : List Dimension) (code : ℕ) (region : List ℕ) → slice_get (all_regions dims) code ≡ Some region → code < region_total dims
region-below dims code region is = omega (arith, slice_get_within (all_regions dims) code region is, length-all_regions dims)

-- the meet

pub meet_turn : (dims : List Dimension) (a b : List ℕ) (d e : ℕ) (dim : Dimension) (x y : ℕ) (found : Option ℕ) → Here dims a d e dim x → Here dims b d e dim y → found ≡ lower dim x y
    → meet_of (drop d dims) (drop d a) (drop d b) ≡ option_and_then (λ node. option_map (λ nodes. node ∷ nodes) (meet_of (drop e dims) (drop e a) (drop e b))) found
meet_turn dims a b d e dim x y found first second is = rw (first.dims_are, first.nodes_are, second.nodes_are, is) refl

pub meet_end : (dims : List Dimension) (a b : List ℕ) (d : ℕ) → is_region dims a ≡ true → is_region dims b ≡ true → length dims ≤ d → meet_of (drop d dims) (drop d a) (drop d b) ≡ Some []
meet_end dims a b d first second all =
    rw (drop_all d dims all, drop_all d a (omega (arith, is_region-length dims a first)), drop_all d b (omega (arith, is_region-length dims b second))) refl

dims-at : (dims : List Dimension) (d : ℕ) (dim : Dimension) → d < length dims → dim ≡ get_or dims d dim → drop d dims ≡ dim ∷ drop (d + 1) dims
dims-at dims d dim within read = drop-at dims d dim (slice_get_read dims (length dims) d dim refl within read)

tree-at : (dims : List Dimension) (d : ℕ) (dim : Dimension) → All IsTree dims → d < length dims → dim ≡ get_or dims d dim → IsTree dim
tree-at dims d dim trees within read = rw read (trees d dim within)

leaves-few : (dim : Dimension) → IsTree dim → length (leaves dim) ≤ 65536
unfolding leaves
leaves-few dim tree =
    let numbers = map (λ (e : Entry). e.number) dim in
    let few : length (node_lines dim) ≡ length dim = length-map {B = NodeLine} dim (λ (e : Entry). record { depth = e.depth; name = e.name }) in
    omega (arith, (tree_fault_none (node_lines dim) tree.accepted).1, few, length-map dim (λ (e : Entry). e.number), length-filter (is_leaf dim) numbers, count_by-le-length (is_leaf dim) numbers)

-- The leaves of a cell over the first d dimensions, and the code of the rest.
pub record HasLeaves (dims : List Dimension) (nodes : List ℕ) (d rest cell : ℕ) : Type 0 where
  pub room : length nodes ≡ MAX_DIMS
  pub below : rest < cell_total (drop d dims)
  pub named : is_region (take d dims) (take d nodes) ≡ true
  pub behind : IsBehind (take d nodes) (slice_get (all_cells (drop d dims)) rest) (slice_get (all_cells dims) cell)

pub leaves_start : (dims : List Dimension) (nodes : List ℕ) (cell : ℕ) → length nodes ≡ MAX_DIMS → cell < length (all_cells dims) → HasLeaves dims nodes 0 cell cell
leaves_start dims nodes cell room within = record {
  room = room;
  below = omega (arith, length-all_cells dims);
  named = refl;
  behind = behind_start (slice_get (all_cells dims) cell);
}

module _ (dims : List Dimension) (steps nodes : List ℕ) (d rest cell : ℕ) (dim : Dimension) (stepped : IsStepped cell_total dims steps) (within : d < length dims) (few : length dims ≤ MAX_DIMS) (read : dim ≡ get_or dims d dim) (has : HasLeaves dims nodes d rest cell) where
  -- the place of the leaf is one of the leaves
  pub leaf-within : (rest / get_or steps d 0 < length (leaves dim)) × (rest / get_or steps d 0 < 65536)
  leaf-within =
      let step = step-at cell_total cell_total-some dims steps d stepped within in
      let whole : cell_total (drop d dims) ≡ length (leaves dim) * get_or steps d 0 = ap cell_total (dims-at dims d dim within read) ∙ ap (λ n. length (leaves dim) * n) (sym step.0) in
      let inside : rest / get_or steps d 0 < length (leaves dim) = div_below rest (get_or steps d 0) (length (leaves dim)) step.1 (omega (arith, whole, has.below)) in
      (inside, omega (arith, inside, leaves-few dim (tree-at dims d dim stepped.trees within read)))

  pub leaves_next : (leaf : ℕ) → slice_get (leaves dim) (rest / get_or steps d 0) ≡ Some leaf → leaf < length dim → HasLeaves dims (slice_set nodes d leaf) (d + 1) (rest % get_or steps d 0) cell
  leaves_next leaf found inside =
      let step = step-at cell_total cell_total-some dims steps d stepped within in
      let room : d < length nodes = omega (arith, has.room) in
      record {
        room = length-set nodes d leaf ∙ has.room;
        below = omega (arith, mod_below rest (get_or steps d 0) step.1, step.0);
        named = is_region-next dims nodes d dim leaf has.named within room read inside;
        behind = behind_next nodes d leaf (slice_get (all_cells (drop d dims)) rest) (slice_get (all_cells (drop (d + 1) dims)) (rest % get_or steps d 0)) (slice_get (all_cells dims) cell) room has.behind
            (all_cells-turn dims d (d + 1) (get_or steps d 0) rest leaf dim (dims-at dims d dim within read) step.0 step.1 found);
      }

pub leaves_done : (dims : List Dimension) (nodes : List ℕ) (d n rest cell : ℕ) → length dims ≤ d → d ≤ length dims → n ≡ length dims → HasLeaves dims nodes d rest cell → (slice_get (all_cells dims) cell ≡ Some (take n nodes)) × (is_region dims (take n nodes) ≡ true)
leaves_done dims nodes d n rest cell all most many has =
    let same : d ≡ n = omega (arith, many) in
    let whole : take d dims ≡ dims = take_all d dims all in
    rw (← same) (
      behind_end (take d nodes) (slice_get (all_cells (drop d dims)) rest) (slice_get (all_cells dims) cell) has.behind (all_cells-end dims d rest all has.below),
      ap (λ ds. is_region ds (take d nodes)) (sym whole) ∙ has.named,
    )

-- The nodes of a region over the first d dimensions, and the code of the rest.
pub record HasNodes (dims : List Dimension) (nodes : List ℕ) (d rest code : ℕ) : Type 0 where
  pub room : length nodes ≡ MAX_DIMS
  pub below : 0 < d → rest < region_total (drop d dims)
  pub behind : IsBehind (take d nodes) (slice_get (all_regions (drop d dims)) rest) (slice_get (all_regions dims) code)

pub nodes_start : (dims : List Dimension) (nodes : List ℕ) (code : ℕ) → length nodes ≡ MAX_DIMS → HasNodes dims nodes 0 code code
nodes_start dims nodes code room = record { room = room; below = λ some. absurd (omega arith); behind = behind_start (slice_get (all_regions dims) code) }

module _ (dims : List Dimension) (steps nodes : List ℕ) (d rest code : ℕ) (dim : Dimension) (stepped : IsStepped region_total dims steps) (within : d < length dims) (few : length dims ≤ MAX_DIMS) (read : dim ≡ get_or dims d dim) (has : HasNodes dims nodes d rest code) where
  pub nodes_none : length dim ≤ rest / get_or steps d 0 → slice_get (all_regions dims) code ≡ None
  nodes_none past =
      let step = step-at region_total region_total-some dims steps d stepped within in
      behind_none (take d nodes) (slice_get (all_regions (drop d dims)) rest) (slice_get (all_regions dims) code) has.behind
      (all_regions-past dims d (d + 1) (get_or steps d 0) rest dim (dims-at dims d dim within read) step.0 step.1 past)

  pub nodes_next : (node : ℕ) → slice_get (numbers dim) (rest / get_or steps d 0) ≡ Some node → HasNodes dims (slice_set nodes d node) (d + 1) (rest % get_or steps d 0) code
  nodes_next node found =
      let step = step-at region_total region_total-some dims steps d stepped within in
      record {
        room = length-set nodes d node ∙ has.room;
        below = λ _. omega (arith, mod_below rest (get_or steps d 0) step.1, step.0);
        behind = behind_next nodes d node (slice_get (all_regions (drop d dims)) rest) (slice_get (all_regions (drop (d + 1) dims)) (rest % get_or steps d 0)) (slice_get (all_regions dims) code) (omega (arith, has.room)) has.behind
            (all_regions-found dims d (d + 1) (get_or steps d 0) rest node dim (dims-at dims d dim within read) step.0 step.1 found);
      }

pub nodes_done : (dims : List Dimension) (nodes : List ℕ) (d n rest code : ℕ) → 1 ≤ length dims → length dims ≤ d → d ≤ length dims → n ≡ length dims → HasNodes dims nodes d rest code → Some (take n nodes) ≡ slice_get (all_regions dims) code
nodes_done dims nodes d n rest code some all most many has =
    let same : d ≡ n = omega (arith, many) in
    rw (← same) (sym (behind_end (take d nodes) (slice_get (all_regions (drop d dims)) rest) (slice_get (all_regions dims) code) has.behind (all_regions-end dims d rest all (has.below (omega arith)))))

-- The code of a region's nodes from dimension d on.
pub record HasCode (dims : List Dimension) (nodes : List ℕ) (d code : ℕ) : Type 0 where
  pub coded : code ≡ code_of (drop d dims) (drop d nodes)
  pub is : slice_get (all_regions (drop d dims)) code ≡ Some (drop d nodes)
  pub below : code < region_total (drop d dims)

pub code_start : (dims : List Dimension) (nodes : List ℕ) (d : ℕ) → is_region dims nodes ≡ true → d ≡ length dims → HasCode dims nodes d 0
unfolding all_regions
code_start dims nodes d names all =
    let none_dims : drop d dims ≡ [] = drop_all d dims (omega (arith, all)) in
    let none_nodes : drop d nodes ≡ [] = drop_all d nodes (omega (arith, all, is_region-length dims nodes names)) in
    record { coded = rw none_dims refl; is = rw (none_dims, none_nodes) refl; below = rw none_dims (omega arith) }

pub code_next : (dims : List Dimension) (steps nodes : List ℕ) (d e code node place : ℕ) (dim : Dimension) → IsStepped region_total dims steps → Here dims nodes d e dim node → e ≤ length dims → 0 < e → d ≡ e - 1 → place_of dim node ≡ Some place → HasCode dims nodes e code
    → HasCode dims nodes d (code + place * get_or steps d 0) × (code + place * get_or steps d 0 < SPACE_LIMIT)
code_next dims steps nodes d e code node place dim stepped at within some next placed has =
    let step = step-before region_total dims steps d e stepped within some next in
    let turned = code_turn dims nodes d e (get_or steps d 0) code place dim node at step placed (omega (arith, step, has.below)) has.is in
    let small = region-below (drop d dims) (code + place * get_or steps d 0) (drop d nodes) turned in
    (record { coded = code_of-turn dims nodes d e (get_or steps d 0) code place dim node at step placed has.coded; is = turned; below = small }, omega (arith, small, region_total-drop dims d stepped.trees, stepped.limit))

-- the region at a code has the code
pub region-at_code : (dims : List Dimension) (nodes : List ℕ) → All IsTree dims → is_region dims nodes ≡ true → slice_get (all_regions dims) (code_of dims nodes) ≡ Some nodes
unfolding all_regions
region-at_code [] [] trees names = refl
region-at_code [] (node ∷ nodes) trees names = absurd (true≢false (sym names))
region-at_code (dim ∷ dims) [] trees names = absurd (true≢false (sym names))
region-at_code (dim ∷ dims) (node ∷ nodes) trees names =
    let parts = is_region-cons dim dims node nodes names in
    let place = place_at dim node in
    let placed : place_of dim node ≡ Some place = place_of-place_at dim (are_numbers dim (All-head IsTree dim dims trees)) node parts.0 in
    let rest = region-at_code dims nodes (All-tail IsTree dim dims trees) parts.1 in
    let room : length (all_regions dims) ≡ region_total dims = length-all_regions dims in
    let inside : code_of dims nodes < length (all_regions dims) = slice_get_within (all_regions dims) (code_of dims nodes) nodes rest in
    rw placed (slice_get-blocks (numbers dim) (all_regions dims) place (code_of dims nodes) (place * region_total dims + code_of dims nodes) (rw room refl) inside
    ∙ rw ((place_of-number dim node place placed).1, rest) refl)

-- so regions of one code are one
pub code_of-same : (dims : List Dimension) (a b : List ℕ) → All IsTree dims → is_region dims a ≡ true → is_region dims b ≡ true → code_of dims a ≡ code_of dims b → a ≡ b
code_of-same dims a b trees first second same =
    let found : Some a ≡ Some b = sym (region-at_code dims a trees first) ∙ ap (slice_get (all_regions dims)) same ∙ region-at_code dims b trees second in
    same_Some a b found

-- a cell outside in one dimension is outside, and one inside there is inside where the rest is
pub outside-here : (whole here rest inside within : Bool) → whole ≡ here → here ≡ (within && rest) → inside ≡ within → inside ≡ false → false ≡ whole
outside-here whole here rest inside within before turned is out = sym (before ∙ turned ∙ and_left within rest (sym is ∙ out))

pub inside-here : (whole here rest inside within : Bool) → whole ≡ here → here ≡ (within && rest) → inside ≡ within → inside ≡ true → whole ≡ rest
inside-here whole here rest inside within before turned is true_here = before ∙ turned ∙ ap (λ b. b && rest) (sym is ∙ true_here)

-- the codes of nodes of another number
pub is_region-other : (dims : List Dimension) (nodes : List ℕ) (b : Bool) → is_region dims nodes ≡ b → length dims ≢ length nodes → false ≡ b
is_region-other dims nodes true names differ = absurd (differ (sym (is_region-length dims nodes names)))
is_region-other dims nodes false names differ = refl

pub meet_next : (dims : List Dimension) (a b nodes : List ℕ) (d : ℕ) (dim : Dimension) (x y m : ℕ) → length nodes ≡ MAX_DIMS → length dims ≤ MAX_DIMS → is_region dims a ≡ true → is_region dims b ≡ true → d < length dims → dim ≡ get_or dims d dim → slice_get a d ≡ Some x → slice_get b d ≡ Some y → Some m ≡ lower dim x y
    → IsBehind (take d nodes) (meet_of (drop d dims) (drop d a) (drop d b)) (meet_of dims a b)
    → IsBehind (take (d + 1) (slice_set nodes d m)) (meet_of (drop (d + 1) dims) (drop (d + 1) a) (drop (d + 1) b)) (meet_of dims a b)
meet_next dims a b nodes d dim x y m room few first second within read has_x has_y is behind =
    behind_next nodes d m (meet_of (drop d dims) (drop d a) (drop d b)) (meet_of (drop (d + 1) dims) (drop (d + 1) a) (drop (d + 1) b)) (meet_of dims a b) (omega (arith, room)) behind
    (meet_turn dims a b d (d + 1) dim x y (Some m) (here dims a d (d + 1) dim x first within refl read has_x) (here dims b d (d + 1) dim y second within refl read has_y) is)

pub meet_none : (dims : List Dimension) (a b nodes : List ℕ) (d : ℕ) (dim : Dimension) (x y : ℕ) → is_region dims a ≡ true → is_region dims b ≡ true → d < length dims → dim ≡ get_or dims d dim → slice_get a d ≡ Some x → slice_get b d ≡ Some y → None ≡ lower dim x y
    → IsBehind (take d nodes) (meet_of (drop d dims) (drop d a) (drop d b)) (meet_of dims a b)
    → meet_of dims a b ≡ None
meet_none dims a b nodes d dim x y first second within read has_x has_y is behind =
    behind_none (take d nodes) (meet_of (drop d dims) (drop d a) (drop d b)) (meet_of dims a b) behind
    (meet_turn dims a b d (d + 1) dim x y None (here dims a d (d + 1) dim x first within refl read has_x) (here dims b d (d + 1) dim y second within refl read has_y) is)

pub meet_done : (dims : List Dimension) (a b nodes : List ℕ) (d n : ℕ) → is_region dims a ≡ true → is_region dims b ≡ true → length dims ≤ d → d ≤ length dims → n ≡ length dims → IsBehind (take d nodes) (meet_of (drop d dims) (drop d a) (drop d b)) (meet_of dims a b) → Some (take n nodes) ≡ meet_of dims a b
meet_done dims a b nodes d n first second all most many behind =
    let same : d ≡ n = omega (arith, many) in
    rw (← same) (sym (behind_end (take d nodes) (meet_of (drop d dims) (drop d a) (drop d b)) (meet_of dims a b) behind (meet_end dims a b d first second all)))
