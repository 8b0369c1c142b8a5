-- What holds of accepted dimensions, and of what is kept beside them.
use Rattle.std.proofs.Common.{◌≡◌, ℕ, zero, suc, ◌+◌, ◌/◌, ◌%◌, ◌<◌, ◌≤◌, ◌↔◌, true, List, [], ◌∷◌, length, map, drop, refl, sym, ap, ◌∙◌, true≢false, arith}
use Rattle.std.specs.Prelude.{All, Option, Some, None, IfSome, IsNone, IsSome, slice_get, slice_set}
use Rattle.std.specs.Option.{option_map}
use Rattle.std.proofs.lemmas.Bool.Decides.{nat_tests}
use Rattle.std.proofs.lemmas.List.{drop-map, length-map}
use Rattle.std.proofs.lemmas.Option.{slice_get_within}
use Rattle.std.proofs.lemmas.List.Elements.{All-head, All-tail}
use Rattle.cube_model.specs.Tree.{Dimension, IsTree, leaves, numbers, parent}
use Rattle.cube_model.specs.Cells.{all_cells, cells_of}
use Rattle.cube_model.specs.Limits.{SPACE_LIMIT, MAX_DIMS}
use Rattle.region_algebra.specs.Fault.{space_fault}
use Rattle.region_algebra.specs.Space.{all_regions, cell_total, common_cells, is_region, meet_of, product, region_total}
use Rattle.region_algebra.specs.Stepped.{AreSteps, IsStepped, IsSteppedSpace}
use Rattle.region_algebra.proofs.Codes.{length-all_cells, length-all_regions}
use Rattle.region_algebra.proofs.Intervals.{some_leaf, some_node}
use Rattle.region_algebra.proofs.Tuples.{all_regions-found, all_regions-turn}
use Rattle.region_algebra.proofs.Numbers.{number-within}
use Rattle.region_algebra.proofs.Turns.{cells-below, cells-some, region_total-some}
use Rattle.region_algebra.proofs.Meets.{cells_of-meet, common_cells-none, is_region-cons, is_region-meet}

pub accepted-few : (dims : List Dimension) → space_fault dims ≡ None → (1 ≤ length dims) × (length dims ≤ MAX_DIMS)
accepted-few dims accepted = grind (arith, nat_tests)

pub accepted-from : (dims : List Dimension) → 1 ≤ length dims → length dims ≤ MAX_DIMS → cell_total dims < SPACE_LIMIT → region_total dims < SPACE_LIMIT → space_fault dims ≡ None
accepted-from dims some few cells regions = grind (arith, nat_tests)

-- the limits of an accepted space
pub record IsLimited (dims : List Dimension) : Type 0 where
  pub some : 1 ≤ length dims
  pub few : length dims ≤ MAX_DIMS
  pub cells : cell_total dims < SPACE_LIMIT
  pub regions : region_total dims < SPACE_LIMIT

pub accepted-limits : (dims : List Dimension) → space_fault dims ≡ None → IsLimited dims
accepted-limits dims accepted = record { some = grind (arith, nat_tests); few = grind (arith, nat_tests); cells = grind (arith, nat_tests); regions = grind (arith, nat_tests) }

some-map : (f : Dimension → ℕ) (dims : List Dimension) → All IsTree dims → ((dim : Dimension) → IsTree dim → 1 ≤ f dim) → All (λ n. 1 ≤ n) (map f dims)
some-map f [] trees each k d within = absurd (omega arith)
some-map f (dim ∷ dims) trees each zero d within = each dim (All-head IsTree dim dims trees)
some-map f (dim ∷ dims) trees each (suc k) d within = some-map f dims (All-tail IsTree dim dims trees) each k d (omega arith)

pub some_leaves : (dims : List Dimension) (sizes : List ℕ) → All IsTree dims → sizes ≡ map (λ dim. length (leaves dim)) dims → All (λ n. 1 ≤ n) sizes
some_leaves dims sizes trees are = rw are (some-map (λ dim. length (leaves dim)) dims trees some_leaf)

pub some_nodes : (dims : List Dimension) (sizes : List ℕ) → All IsTree dims → sizes ≡ map (λ dim. length dim) dims → All (λ n. 1 ≤ n) sizes
some_nodes dims sizes trees are = rw are (some-map (λ dim. length dim) dims trees some_node)

-- the steps of the sizes are those of the dimensions
pub stepped_of : (f : Dimension → ℕ) (dims : List Dimension) (sizes steps : List ℕ) → All IsTree dims → sizes ≡ map f dims → AreSteps sizes steps → IsStepped (λ ds. product (map f ds)) dims steps
stepped_of f dims sizes steps trees are has = record {
  trees = trees;
  each = λ d within. has.each d (omega (arith, ap length are, length-map dims f)) ∙ ap (λ l. product (drop (d + 1) l)) are ∙ ap product (drop-map f (d + 1) dims);
  limit = omega (arith, has.limit, ap product are);
}

pub stepped_space : (dims : List Dimension) (leaf_sizes node_sizes cell_steps region_steps : List ℕ) → 1 ≤ length dims → length dims ≤ MAX_DIMS → All IsTree dims → leaf_sizes ≡ map (λ dim. length (leaves dim)) dims → node_sizes ≡ map (λ dim. length dim) dims
    → AreSteps leaf_sizes cell_steps → AreSteps node_sizes region_steps → IsSteppedSpace dims cell_steps region_steps
stepped_space dims leaf_sizes node_sizes cell_steps region_steps some few trees leaves_are nodes_are cells regions =
    let of_cells = stepped_of (λ dim. length (leaves dim)) dims leaf_sizes cell_steps trees leaves_are cells in
    let of_regions = stepped_of (λ dim. length dim) dims node_sizes region_steps trees nodes_are regions in
    record { accepted = accepted-from dims some few of_cells.limit of_regions.limit; cells = of_cells; regions = of_regions }

pub meet-common : (dims : List Dimension) (a b : List ℕ) (met : Option (List ℕ)) → All IsTree dims → is_region dims a ≡ true → is_region dims b ≡ true → met ≡ meet_of dims a b → IfSome met (λ region. cells_of dims region ≡ common_cells dims a b)
meet-common dims a b None trees first second is = tt
meet-common dims a b (Some m) trees first second is = cells_of-meet dims a b m trees first second (sym is)

pub meet-region : (dims : List Dimension) (a b : List ℕ) (met : Option (List ℕ)) → is_region dims a ≡ true → is_region dims b ≡ true → met ≡ meet_of dims a b → IfSome met (λ region. is_region dims region ≡ true)
meet-region dims a b None first second is = tt
meet-region dims a b (Some m) first second is = is_region-meet dims a b m first second (sym is)

pub meet-nothing : (dims : List Dimension) (a b : List ℕ) (met : Option (List ℕ)) → All IsTree dims → is_region dims a ≡ true → is_region dims b ≡ true → met ≡ meet_of dims a b → IsNone met ↔ (common_cells dims a b ≡ [])
meet-nothing dims a b None trees first second is = (λ _. common_cells-none dims a b trees first second (sym is), λ _. refl)
meet-nothing dims a b (Some m) trees first second is =
    let some : 1 ≤ length (cells_of dims m) = cells-some dims m trees (is_region-meet dims a b m first second (sym is)) in
    (λ none. absurd (true≢false none), λ none. absurd (omega (arith, some, ap length (cells_of-meet dims a b m trees first second (sym is) ∙ none))))

pub is_region-set : (dims : List Dimension) (nodes : List ℕ) (d node : ℕ) → is_region dims nodes ≡ true → d < length dims → IfSome (slice_get dims d) (λ dim. (node < length dim) × (parent dim node ≡ slice_get nodes d)) → is_region dims (slice_set nodes d node) ≡ true
is_region-set [] nodes d node names within child = absurd (omega arith)
is_region-set (dim ∷ dims) [] d node names within child = absurd (true≢false (sym names))
is_region-set (dim ∷ dims) (m ∷ nodes) zero node names within child =
    let parts = is_region-cons dim dims m nodes names in
    let inside : node < length dim = child.0 in
    grind (arith, nat_tests, parts.1, inside)
is_region-set (dim ∷ dims) (m ∷ nodes) (suc d) node names within child =
    let parts = is_region-cons dim dims m nodes names in
    rw (is_region-set dims nodes d node parts.1 (omega arith) child) (grind (arith, nat_tests, parts.0))

pub some_from_few : (made : Option (List ℕ)) (n : ℕ) → (IsNone made ↔ (MAX_DIMS < n)) → n ≤ MAX_DIMS → IsSome made
some_from_few None n refused few = absurd (omega (arith, refused.0 refl))
some_from_few (Some m) n refused few = refl

none_within : {X : Type 0} (xs : List X) (i : ℕ) → i < length xs → slice_get xs i ≡ None → ⊥
none_within [] i within is = omega arith
none_within (x ∷ xs) zero within is = grind arith
none_within (x ∷ xs) (suc i) within is = none_within xs i (omega arith) is

some-within : {X : Type 0} (found : Option X) (xs : List X) (i : ℕ) → found ≡ slice_get xs i → IsSome found ↔ (i < length xs)
some-within None xs i is = (λ some. absurd (true≢false (sym some)), λ within. absurd (none_within xs i within (sym is)))
some-within (Some x) xs i is = (λ _. slice_get_within xs i x (sym is), λ _. refl)

pub uncode-within : (dims : List Dimension) (code : ℕ) (found : Option (List ℕ)) → found ≡ slice_get (all_regions dims) code → IsSome found ↔ (code < region_total dims)
uncode-within dims code found is = rw (← length-all_regions dims) (some-within found (all_regions dims) code is)

-- a node of the first dimension and a region over those behind it are a region
region-cons : (dim : Dimension) (dims : List Dimension) (node : ℕ) (found : Option (List ℕ)) (region : List ℕ) → node < length dim → ((t : List ℕ) → found ≡ Some t → is_region dims t ≡ true)
    → option_map (λ t. node ∷ t) found ≡ Some region → is_region (dim ∷ dims) region ≡ true
region-cons dim dims node None region within names is = absurd (grind arith)
region-cons dim dims node (Some t) [] within names is = absurd (grind arith)
region-cons dim dims node (Some t) (n ∷ rest) within names is =
    let first : node ≡ n = grind arith in
    let others : t ≡ rest = grind arith in
    let named : is_region dims rest ≡ true = names rest (ap Some others) in
    grind (arith, nat_tests, named, within, first)

region-turn : (dim : Dimension) (dims : List Dimension) (step code : ℕ) (found : Option ℕ) (region : List ℕ) → IsTree dim → step ≡ region_total dims → 0 < step → slice_get (numbers dim) (code / step) ≡ found
    → ((t : List ℕ) → slice_get (all_regions dims) (code % step) ≡ Some t → is_region dims t ≡ true) → slice_get (all_regions (dim ∷ dims)) code ≡ Some region → is_region (dim ∷ dims) region ≡ true
region-turn dim dims step code (Some node) region tree steps positive at names is =
    region-cons dim dims node (slice_get (all_regions dims) (code % step)) region (number-within dim (code / step) node tree at) names (sym (all_regions-found (dim ∷ dims) 0 1 step code node dim refl steps positive at) ∙ is)
region-turn dim dims step code None region tree steps positive at names is =
    let none : slice_get (all_regions (dim ∷ dims)) code ≡ None = all_regions-turn (dim ∷ dims) 0 1 step code dim refl steps positive ∙ rw at refl in
    absurd (grind (arith, none, is))

-- what stands in the list of all regions is one
region-named : (dims : List Dimension) (code : ℕ) (region : List ℕ) → All IsTree dims → slice_get (all_regions dims) code ≡ Some region → is_region dims region ≡ true
unfolding all_regions
region-named [] zero [] trees is = refl
region-named [] zero (n ∷ region) trees is = absurd (grind arith)
region-named [] (suc code) region trees is = absurd (grind arith)
region-named (dim ∷ dims) code region trees is =
    let behind = All-tail IsTree dim dims trees in
    region-turn dim dims (region_total dims) code (slice_get (numbers dim) (code / region_total dims)) region (All-head IsTree dim dims trees) refl (region_total-some dims behind) refl
    (λ t found. region-named dims (code % region_total dims) t behind found) is

pub uncode-region : (dims : List Dimension) (code : ℕ) (found : Option (List ℕ)) → All IsTree dims → found ≡ slice_get (all_regions dims) code → IfSome found (λ region. is_region dims region ≡ true)
uncode-region dims code None trees is = tt
uncode-region dims code (Some region) trees is = region-named dims code region trees (sym is)

-- a region's cells are among all
pub cells-within : (dims : List Dimension) (region : List ℕ) → All (λ cell. cell < length (all_cells dims)) (cells_of dims region)
cells-within dims region = rw (length-all_cells dims) (cells-below dims region)

first-within : (cells : List ℕ) (n cell : ℕ) → All (λ c. c < n) cells → slice_get cells 0 ≡ Some cell → cell < n
first-within [] n cell within is = absurd (grind arith)
first-within (c ∷ cells) n cell within is =
    let same : c ≡ cell = grind arith in
    omega (arith, All-head (λ k. k < n) c cells within, same)

pub first_cell-within : (dims : List Dimension) (region : List ℕ) (cell : ℕ) → slice_get (cells_of dims region) 0 ≡ Some cell → cell < length (all_cells dims)
first_cell-within dims region cell is = first-within (cells_of dims region) (length (all_cells dims)) cell (cells-within dims region) is
