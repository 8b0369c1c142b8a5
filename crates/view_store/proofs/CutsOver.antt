-- Over each cell there is a region of the product of the cuts, and it is under a region that the cuts serve where the cell is.
use Rattle.std.proofs.Common.{◌≡◌, ℕ, ◌<◌, ◌≤◌, true, false, List, [], ◌∷◌, length, refl, sym, ap, ◌∙◌, true≢false, arith}
use Rattle.std.specs.Prelude.{All, Option, Some, None, ◌&&◌, nat_le, nat_lt, slice_get}
use Rattle.std.specs.Option.{option_map, option_map_or}
use Rattle.std.proofs.lemmas.Bool.Decides.{nat_tests}
use Rattle.std.proofs.lemmas.List.Elements.{All-head, All-tail}
use Rattle.std.proofs.lemmas.Option.{slice_get_within}
use Rattle.cube_model.specs.Cells.{all_cells, cells_of, is_among, is_inside}
use Rattle.cube_model.specs.Tree.{Dimension, Entry, IsTree, entry_of, is_leaf, is_under}
use Rattle.dim_tree.proofs.Climbing.{both, together}
use Rattle.region_algebra.specs.Space.{all_regions, code_of, is_region, region_total}
use Rattle.region_algebra.proofs.Codes.{length-all_regions}
use Rattle.region_algebra.proofs.Numbers.{found-passes}
use Rattle.region_algebra.proofs.Tuples.{region-at_code}
use Rattle.view_store.specs.Cuts.{IsCodeOver}
use Rattle.view_store.specs.Rolling.{is_below, serves}
use Rattle.view_store.proofs.CutNodes.{depth_is, depth_of, some_in_cut, under-from_cut}
use Rattle.view_store.proofs.CutRegions.{IsLifted, over_cell, region_at-is}
use Rattle.region_algebra.proofs.LeafTuples.{are_leaves, cells-are, is_among-inside, is_node_leaf}

-- the node of a region that is served lies no deeper than the cut
served-depth : (found : Option Entry) (deep depth : ℕ) → option_map (λ e. e.depth) found ≡ Some deep → option_map_or (λ e. nat_le e.depth depth) found false ≡ true → deep ≤ depth
served-depth None deep depth is test = absurd (grind arith)
served-depth (Some e) deep depth is test = grind (arith, nat_tests, is, test)

-- Nodes of the cuts over the leaves, which are under a region where the leaves are.
record HasRegion (dims : List Dimension) (depths leaves region : List ℕ) : Type 0 where
  pub nodes : List ℕ
  pub lifts : IsLifted dims depths leaves nodes
  pub same : is_inside dims region leaves ≡ is_inside dims region nodes

has_region : (dims : List Dimension) (depths leaves region : List ℕ) → All IsTree dims → are_leaves dims leaves ≡ true → is_region dims region ≡ true → serves dims depths region ≡ true → HasRegion dims depths leaves region
unfolding is_inside
has_region [] [] [] [] trees are named served = record { nodes = []; lifts = record { region = refl; cuts = refl; inside = refl }; same = refl }
has_region [] depths (leaf ∷ leaves) region trees are named served = absurd (true≢false (sym are))
has_region [] depths [] (node ∷ region) trees are named served = absurd (true≢false (sym named))
has_region [] (depth ∷ depths) [] [] trees are named served = absurd (true≢false (sym served))
has_region (dim ∷ dims) depths [] region trees are named served = absurd (true≢false (sym are))
has_region (dim ∷ dims) depths (leaf ∷ leaves) [] trees are named served = absurd (true≢false (sym named))
has_region (dim ∷ dims) [] (leaf ∷ leaves) (over ∷ region) trees are named served = absurd (true≢false (sym served))
has_region (dim ∷ dims) (depth ∷ depths) (leaf ∷ leaves) (over ∷ region) trees are named served =
    let tree = All-head IsTree dim dims trees in
    let leafs = both (is_node_leaf dim leaf) (are_leaves dims leaves) are in
    let its = both (is_leaf dim leaf) (nat_lt leaf (length dim)) leafs.0 in
    let names = both (nat_lt over (length dim)) (is_region dims region) named in
    let tests = both (option_map_or (λ (e : Entry). nat_le e.depth depth) (entry_of dim over) false) (serves dims depths region) served in
    let within : leaf < length dim = grind (arith, nat_tests, its.1) in
    let room : over < length dim = grind (arith, nat_tests, names.0) in
    let most : depth_of dim over ≤ depth = served-depth (entry_of dim over) (depth_of dim over) depth (depth_is dim tree over room) tests.0 in
    let here = some_in_cut dim tree depth leaf within its.0 in
    let rest = has_region dims depths leaves region (All-tail IsTree dim dims trees) leafs.1 names.1 tests.1 in
    let under = under-from_cut dim tree depth leaf here.node over within room most here.is_cut_node in
    record {
      nodes = here.node ∷ rest.nodes;
      lifts = record {
        region = together (grind (arith, nat_tests, here.is_cut_node.within)) rest.lifts.region;
        cuts = together here.is_cut_node.in_cut rest.lifts.cuts;
        inside = together here.is_cut_node.over rest.lifts.inside;
      };
      same = ap (λ b. b && is_inside dims region leaves) under ∙ ap (λ b. is_under dim here.node over && b) rest.same;
    }

-- The code of the region of the product of the cuts over a cell, which is under a region where the cell is in it.
pub record HasCodeOver (dims : List Dimension) (depths region : List ℕ) (cell : ℕ) : Type 0 where
  pub code : ℕ
  pub within : code < region_total dims
  pub is_over : IsCodeOver dims depths cell code
  pub same : is_among (cells_of dims region) cell ≡ is_below dims region code

pub code-over : (dims : List Dimension) (depths region leaves : List ℕ) (cell : ℕ) → All IsTree dims → slice_get (all_cells dims) cell ≡ Some leaves → is_region dims region ≡ true → serves dims depths region ≡ true → HasCodeOver dims depths region cell
code-over dims depths region leaves cell trees at named served =
    let are = found-passes (are_leaves dims) (all_cells dims) cell leaves (cells-are dims trees) at in
    let it = has_region dims depths leaves region trees are named served in
    let code = code_of dims it.nodes in
    let found = region-at_code dims it.nodes trees it.lifts.region in
    let below : code < region_total dims = omega (arith, slice_get_within (all_regions dims) code it.nodes found, length-all_regions dims) in
    record {
      code = code;
      within = below;
      is_over = over_cell dims depths leaves it.nodes cell code trees at found below it.lifts;
      same = is_among-inside dims region cell ∙ ap (λ o. option_map_or (is_inside dims region) o false) at ∙ it.same ∙ ap (is_inside dims region) (sym (region_at-is dims code it.nodes found));
    }
