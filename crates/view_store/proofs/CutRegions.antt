-- The regions of a product of cuts: each cell is in one of them.
use Rattle.std.proofs.Common.{◌≡◌, ℕ, zero, suc, ◌+◌, ◌*◌, ◌/◌, ◌%◌, ◌<◌, ◌≢◌, Bool, true, false, List, [], ◌∷◌, length, refl, sym, ap, ◌∙◌, inl, inr, true≢false, eq-eqb, ne_eqb, arith}
use Rattle.std.specs.Prelude.{All, Option, Some, None, nat_lt, slice_get}
use Rattle.std.specs.Option.{option_and_then, option_map, option_map_or}
use Rattle.std.proofs.lemmas.Bool.{cases_eq}
use Rattle.std.proofs.lemmas.Bool.Decides.{nat_tests}
use Rattle.std.proofs.lemmas.List.Elements.{All-head, All-tail}
use Rattle.std.proofs.lemmas.Nat.{div-add-mod', mod_below}
use Rattle.std.proofs.lemmas.Option.{get_or_from_slice_get, same_Some, slice_get-get_or, slice_get_within}
use Rattle.cube_model.specs.Cells.{all_cells, cells_of, is_among, is_inside}
use Rattle.cube_model.specs.Cut.{cut}
use Rattle.cube_model.specs.Tree.{Dimension, IsTree, is_leaf, is_under, numbers, place_of}
use Rattle.dim_tree.proofs.Climbing.{both, together}
use Rattle.dim_tree.proofs.Renumbering.{are_numbers, length-numbers, number_at, number_at-read, place_of-number_at}
use Rattle.region_algebra.specs.Space.{all_regions, code_of, is_region, region_total}
use Rattle.region_algebra.proofs.Codes.{length-all_regions, slice_get-blocks}
use Rattle.region_algebra.proofs.Numbers.{found-passes, number-at}
use Rattle.region_algebra.proofs.LeafTuples.{are_leaves, cells-are, is_among-inside, is_node_leaf}
use Rattle.region_algebra.proofs.Spaces.{uncode-region}
use Rattle.region_algebra.proofs.Turns.{region_total-some}
use Rattle.view_store.specs.Cuts.{HoldsCells, HoldsRegion, IsCodeOver, IsCutNode}
use Rattle.view_store.specs.Views.{is_in_cuts, region_at}
use Rattle.view_store.proofs.CutNodes.{above-first, in_cut-from, one_in_cut, under-under}

-- A region of nodes, in each dimension one of the cut there that the leaf is under: it is one of the product of the cuts, and the cell
-- of the leaves is in it.
pub record IsLifted (dims : List Dimension) (depths leaves nodes : List ℕ) : Type 0 where
  pub region : is_region dims nodes ≡ true
  pub cuts : is_in_cuts dims depths nodes ≡ true
  pub inside : is_inside dims nodes leaves ≡ true

pub lifted-cons : (dim : Dimension) (dims : List Dimension) (depth : ℕ) (depths : List ℕ) (leaf node : ℕ) (leaves nodes : List ℕ) → IsCutNode dim depth leaf node → IsLifted dims depths leaves nodes → IsLifted (dim ∷ dims) (depth ∷ depths) (leaf ∷ leaves) (node ∷ nodes)
unfolding is_inside
lifted-cons dim dims depth depths leaf node leaves nodes here rest = record {
  region = together (grind (arith, nat_tests, here.within)) rest.region;
  cuts = together here.in_cut rest.cuts;
  inside = together here.over rest.inside;
}

pub lifted-none : IsLifted [] [] [] []
unfolding is_inside
lifted-none = record { region = refl; cuts = refl; inside = refl }

-- two regions of the product of the cuts that a cell is in are one
one_lifted : (dims : List Dimension) (depths leaves a b : List ℕ) → All IsTree dims → are_leaves dims leaves ≡ true → is_in_cuts dims depths a ≡ true → is_in_cuts dims depths b ≡ true → is_inside dims a leaves ≡ true → is_inside dims b leaves ≡ true → a ≡ b
unfolding is_inside
one_lifted [] depths leaves [] [] trees are first second above_a above_b = refl
one_lifted [] depths leaves (x ∷ a) b trees are first second above_a above_b = absurd (true≢false (sym above_a))
one_lifted [] depths leaves [] (y ∷ b) trees are first second above_a above_b = absurd (true≢false (sym above_b))
one_lifted (dim ∷ dims) depths leaves [] b trees are first second above_a above_b = absurd (true≢false (sym above_a))
one_lifted (dim ∷ dims) depths leaves (x ∷ a) [] trees are first second above_a above_b = absurd (true≢false (sym above_b))
one_lifted (dim ∷ dims) depths [] (x ∷ a) (y ∷ b) trees are first second above_a above_b = absurd (true≢false (sym above_a))
one_lifted (dim ∷ dims) [] (z ∷ leaves) (x ∷ a) (y ∷ b) trees are first second above_a above_b = absurd (true≢false (sym first))
one_lifted (dim ∷ dims) (depth ∷ depths) (z ∷ leaves) (x ∷ a) (y ∷ b) trees are first second above_a above_b =
    let tree = All-head IsTree dim dims trees in
    let leaf = both (is_node_leaf dim z) (are_leaves dims leaves) are in
    let within = (both (is_leaf dim z) (nat_lt z (length dim)) leaf.0).1 in
    let in_a = both (is_among (cut dim depth) x) (is_in_cuts dims depths a) first in
    let in_b = both (is_among (cut dim depth) y) (is_in_cuts dims depths b) second in
    let under_a = both (is_under dim z x) (is_inside dims a leaves) above_a in
    let under_b = both (is_under dim z y) (is_inside dims b leaves) above_b in
    let same = one_in_cut dim tree depth x y z (grind (arith, nat_tests, within)) (in_cut-from dim tree depth x in_a.0) (in_cut-from dim tree depth y in_b.0) under_a.0 under_b.0 in
    rw (same, one_lifted dims depths leaves a b (All-tail IsTree dim dims trees) leaf.1 in_a.1 in_b.1 under_a.1 under_b.1) refl

-- a number that stands at a place is that of the node there
place_of-at : (dim : Dimension) (i x : ℕ) → IsTree dim → slice_get (numbers dim) i ≡ Some x → place_of dim x ≡ Some i
place_of-at dim i x tree at =
    let within : i < length dim = omega (arith, slice_get_within (numbers dim) i x at, length-numbers dim) in
    let read : slice_get (numbers dim) i ≡ Some (number_at dim i) = number-at dim i (number_at dim i) (number_at-read dim i within) in
    let same : x ≡ number_at dim i = same_Some x (number_at dim i) (sym at ∙ read) in
    ap (place_of dim) same ∙ place_of-number_at dim (are_numbers dim tree) i within

-- the region of a code has the code
pub code_of-region : (dims : List Dimension) (code : ℕ) (nodes : List ℕ) → All IsTree dims → slice_get (all_regions dims) code ≡ Some nodes → code_of dims nodes ≡ code
unfolding all_regions
code_of-region [] zero nodes trees is = refl
code_of-region [] (suc code) nodes trees is = absurd (grind arith)
code_of-region (dim ∷ dims) code nodes trees is =
    let n = region_total dims in
    let rest_trees = All-tail IsTree dim dims trees in
    let some : 0 < n = region_total-some dims rest_trees in
    let room : length (all_regions dims) ≡ n = length-all_regions dims in
    let split : code ≡ (code / n) * length (all_regions dims) + code % n = rw room (sym (div-add-mod' code n)) in
    let below : code % n < length (all_regions dims) = rw room (mod_below code n some) in
    let found = sym (slice_get-blocks (numbers dim) (all_regions dims) (code / n) (code % n) code split below) ∙ is in
    go (slice_get (numbers dim) (code / n)) refl (slice_get (all_regions dims) (code % n)) (λ t behind. code_of-region dims (code % n) t rest_trees behind) refl found
  where
    go : (x : Option ℕ) → slice_get (numbers dim) (code / region_total dims) ≡ x → (t : Option (List ℕ)) → ((r : List ℕ) → slice_get (all_regions dims) (code % region_total dims) ≡ Some r → code_of dims r ≡ code % region_total dims)
        → slice_get (all_regions dims) (code % region_total dims) ≡ t
        → option_and_then (λ x. option_map (λ t. x ∷ t) t) x ≡ Some nodes → code_of (dim ∷ dims) nodes ≡ code
    go None at t rest behind found = absurd (grind arith)
    go (Some x) at None rest behind found = absurd (grind arith)
    go (Some x) at (Some t) rest behind found =
        let whole : x ∷ t ≡ nodes = grind arith in
        let tree = All-head IsTree dim dims trees in
        let numbered : place_of dim x ≡ Some (code / region_total dims) = place_of-at dim (code / region_total dims) x tree at in
        rw (← whole, numbered, rest t behind) (div-add-mod' code (region_total dims))

-- what is read at a code of a region
pub region_at-is : (dims : List Dimension) (code : ℕ) (nodes : List ℕ) → slice_get (all_regions dims) code ≡ Some nodes → region_at dims code ≡ nodes
region_at-is dims code nodes is = get_or_from_slice_get (all_regions dims) code nodes [] is

-- below the number of regions there is one
pub record IsRegionAt (dims : List Dimension) (code : ℕ) : Type 0 where
  pub found : slice_get (all_regions dims) code ≡ Some (region_at dims code)
  pub region : is_region dims (region_at dims code) ≡ true
  pub coded : code_of dims (region_at dims code) ≡ code

pub region_at-below : (dims : List Dimension) (code : ℕ) → All IsTree dims → code < region_total dims → IsRegionAt dims code
region_at-below dims code trees below =
    let found = slice_get-get_or (all_regions dims) code [] (omega (arith, length-all_regions dims)) in
    let named = uncode-region dims code (slice_get (all_regions dims) code) trees refl in
    record {
      found = found;
      region = rw found at named;
      coded = code_of-region dims code (region_at dims code) trees found;
    }

-- The code of the region of such nodes is that of the one region over the cell.
pub over_cell : (dims : List Dimension) (depths leaves nodes : List ℕ) (cell code : ℕ) → All IsTree dims → slice_get (all_cells dims) cell ≡ Some leaves → slice_get (all_regions dims) code ≡ Some nodes → code < region_total dims
    → IsLifted dims depths leaves nodes → IsCodeOver dims depths cell code
over_cell dims depths leaves nodes cell code trees at is_at below lifts =
    let its = region_at-is dims code nodes is_at in
    let are = found-passes (are_leaves dims) (all_cells dims) cell leaves (cells-are dims trees) at in
    let inside : (region : List ℕ) → is_among (cells_of dims region) cell ≡ is_inside dims region leaves =
    λ region. is_among-inside dims region cell ∙ ap (λ o. option_map_or (is_inside dims region) o false) at in
    record {
      in_view = together (grind (arith, nat_tests, below)) (ap (is_in_cuts dims depths) its ∙ lifts.cuts);
      only = λ other in_view.
          let parts = both (nat_lt other (region_total dims)) (is_in_cuts dims depths (region_at dims other)) in_view in
          let there = region_at-below dims other trees (grind (arith, nat_tests, parts.0)) in
          inside (region_at dims other) ∙ elim (cases_eq other code) [
            | inl same ↦ ap (λ k. is_inside dims (region_at dims k) leaves) same ∙ ap (λ r. is_inside dims r leaves) its ∙ lifts.inside ∙ sym (eq-eqb other code same)
            | inr differs ↦
                by (is_inside dims (region_at dims other) leaves) other refl differs parts.1 there ∙ sym (ne_eqb other code differs)
          ];
    }
  where
    by : (b : Bool) (other : ℕ) → is_inside dims (region_at dims other) leaves ≡ b → other ≢ code → is_in_cuts dims depths (region_at dims other) ≡ true → IsRegionAt dims other → b ≡ false
    by false other is differs cuts there = refl
    by true other is differs cuts there =
        let are = found-passes (are_leaves dims) (all_cells dims) cell leaves (cells-are dims trees) at in
        let same : region_at dims other ≡ nodes = one_lifted dims depths leaves (region_at dims other) nodes trees are cuts lifts.cuts is lifts.inside in
        absurd (differs (sym there.coded ∙ ap (code_of dims) same ∙ code_of-region dims code nodes trees is_at))

-- the region of such nodes holds the region that they were climbed from
pub lifted-holds : (dims : List Dimension) (depths region nodes : List ℕ) (code : ℕ) → slice_get (all_regions dims) code ≡ Some nodes → code < region_total dims → IsLifted dims depths region nodes → HoldsRegion dims depths region code
lifted-holds dims depths region nodes code is_at below lifts =
    let its = region_at-is dims code nodes is_at in
    record {
      in_view = together (grind (arith, nat_tests, below)) (ap (is_in_cuts dims depths) its ∙ lifts.cuts);
      under = ap (λ r. is_inside dims r region) its ∙ lifts.inside;
    }

-- what is inside a region that is inside another is inside that
pub inside-inside : (dims : List Dimension) (a b c : List ℕ) → All IsTree dims → is_region dims a ≡ true → is_region dims b ≡ true → is_inside dims a b ≡ true → is_inside dims b c ≡ true → is_inside dims a c ≡ true
unfolding is_inside
inside-inside [] [] [] [] trees named_a named_b upper lower = refl
inside-inside [] [] [] (z ∷ c) trees named_a named_b upper lower = absurd (true≢false (sym lower))
inside-inside [] [] (y ∷ b) c trees named_a named_b upper lower = absurd (true≢false (sym named_b))
inside-inside [] (x ∷ a) b c trees named_a named_b upper lower = absurd (true≢false (sym named_a))
inside-inside (dim ∷ dims) [] b c trees named_a named_b upper lower = absurd (true≢false (sym named_a))
inside-inside (dim ∷ dims) (x ∷ a) [] c trees named_a named_b upper lower = absurd (true≢false (sym named_b))
inside-inside (dim ∷ dims) (x ∷ a) (y ∷ b) [] trees named_a named_b upper lower = absurd (true≢false (sym lower))
inside-inside (dim ∷ dims) (x ∷ a) (y ∷ b) (z ∷ c) trees named_a named_b upper lower =
    let tree = All-head IsTree dim dims trees in
    let first = both (nat_lt x (length dim)) (is_region dims a) named_a in
    let second = both (nat_lt y (length dim)) (is_region dims b) named_b in
    let high = both (is_under dim y x) (is_inside dims a b) upper in
    let low = both (is_under dim z y) (is_inside dims b c) lower in
    together (under-under dim tree z y x (grind (arith, nat_tests, second.0)) (grind (arith, nat_tests, first.0)) low.0 high.0)
    (inside-inside dims a b c (All-tail IsTree dim dims trees) first.1 second.1 high.1 low.1)

module _ (dims : List Dimension) (depths region : List ℕ) (code : ℕ) (trees : All IsTree dims) (named : is_region dims region ≡ true) (holds : HoldsRegion dims depths region code) where
  -- a cell of a region is in the region of the cuts that holds this
  pub holds-cell : (leaves : List ℕ) (cell : ℕ) → slice_get (all_cells dims) cell ≡ Some leaves → is_inside dims region leaves ≡ true → IsCodeOver dims depths cell code
  holds-cell leaves cell at inside =
      let parts = both (nat_lt code (region_total dims)) (is_in_cuts dims depths (region_at dims code)) holds.in_view in
      let below : code < region_total dims = grind (arith, nat_tests, parts.0) in
      let there = region_at-below dims code trees below in
      over_cell dims depths leaves (region_at dims code) cell code trees at there.found below (record {
        region = there.region;
        cuts = parts.1;
        inside = inside-inside dims (region_at dims code) region leaves trees there.region named holds.under inside;
      })

  pub holds-cells : HoldsCells dims depths region code
  holds-cells = record { in_view = holds.in_view; each = λ cell among. by cell (slice_get (all_cells dims) cell) refl (sym (is_among-inside dims region cell) ∙ among) }
    where
      by : (cell : ℕ) (o : Option (List ℕ)) → slice_get (all_cells dims) cell ≡ o → option_map_or (is_inside dims region) o false ≡ true → IsCodeOver dims depths cell code
      by cell None at inside = absurd (true≢false (sym inside))
      by cell (Some leaves) at inside = holds-cell leaves cell at inside

-- a region is inside itself
pub inside-self : (dims : List Dimension) (nodes : List ℕ) → All IsTree dims → is_region dims nodes ≡ true → is_inside dims nodes nodes ≡ true
unfolding is_inside
inside-self [] [] trees named = refl
inside-self [] (x ∷ nodes) trees named = absurd (true≢false (sym named))
inside-self (dim ∷ dims) [] trees named = absurd (true≢false (sym named))
inside-self (dim ∷ dims) (x ∷ nodes) trees named =
    let first = both (nat_lt x (length dim)) (is_region dims nodes) named in
    together (above-first dim (All-head IsTree dim dims trees) 0 x (grind (arith, nat_tests, first.0))).over (inside-self dims nodes (All-tail IsTree dim dims trees) first.1)

-- what holds each cell of the region of a cell's leaves holds that cell
pub holds-own_cell : (dims : List Dimension) (depths leaves : List ℕ) (cell code : ℕ) → All IsTree dims → is_region dims leaves ≡ true → slice_get (all_cells dims) cell ≡ Some leaves → HoldsCells dims depths leaves code → IsCodeOver dims depths cell code
holds-own_cell dims depths leaves cell code trees named at holds =
    holds.each cell (is_among-inside dims leaves cell ∙ ap (λ o. option_map_or (is_inside dims leaves) o false) at ∙ inside-self dims leaves trees named)
