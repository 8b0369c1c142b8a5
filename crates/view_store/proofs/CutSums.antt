-- Sums of what the nodes of a region add are codes of the regions of the cuts over it.
use Rattle.std.proofs.Common.{◌≡◌, ℕ, ◌+◌, ◌*◌, ◌<◌, ◌≤◌, Bool, true, false, List, [], ◌∷◌, length, drop, get_or, refl, sym, ap, ◌∙◌, arith, Option, Some, None, is_some}
use Rattle.std.specs.Prelude.{All, IfSome, nat_lt, slice_get}
use Rattle.std.specs.Option.{option_and_then, option_map}
use Rattle.std.proofs.Math.Nat.{mul-le-mul}
use Rattle.std.proofs.lemmas.Bool.Decides.{nat_tests}
use Rattle.std.proofs.lemmas.List.{drop_all}
use Rattle.std.proofs.lemmas.List.Elements.{All-drop}
use Rattle.std.proofs.lemmas.Option.{slice_get-get_or}
use Rattle.cube_model.specs.Cells.{all_cells}
use Rattle.cube_model.specs.Limits.{SPACE_LIMIT}
use Rattle.cube_model.specs.Tree.{Dimension, IsTree}
use Rattle.dim_tree.proofs.Climbing.{both}
use Rattle.region_algebra.specs.Fault.{space_fault}
use Rattle.region_algebra.specs.Space.{all_regions, code_of, is_region, region_total}
use Rattle.region_algebra.proofs.Numbers.{place_of-number}
use Rattle.region_algebra.proofs.Spaces.{accepted-limits}
use Rattle.region_algebra.proofs.Tuples.{region-at_code, region-below}
use Rattle.region_algebra.proofs.Turns.{drop-at, is_region-length, region_total-drop}
use Rattle.view_store.specs.Cuts.{HoldsCells, HoldsRegion, IsCodeOver, IsShareOf, reaches_cuts}
use Rattle.view_store.specs.Views.{is_in_cuts, region_at}
use Rattle.view_store.proofs.CutRegions.{IsLifted, holds-cells, holds-own_cell, lifted-cons, lifted-holds, lifted-none}
use Rattle.view_store.proofs.Reaching.{reaches-at}

-- over nodes, one in each dimension, there is a region of the cuts, and this is its code
pub record IsSumOver (dims : List Dimension) (depths low : List ℕ) (over : ℕ) : Type 0 where
  pub nodes : List ℕ
  pub lifted : IsLifted dims depths low nodes
  pub coded : over ≡ code_of dims nodes

-- that is told exactly where they reach the cuts
pub record IsSumOf (dims : List Dimension) (depths low : List ℕ) (sum : Option ℕ) : Type 0 where
  pub reached : is_some sum ≡ reaches_cuts dims depths low
  pub over : IfSome sum (IsSumOver dims depths low)

-- the shares of one dimension and of those behind it
pub sum-cons : (dim : Dimension) (dims : List Dimension) (depth : ℕ) (depths : List ℕ) (x : ℕ) (low : List ℕ) (share sum : Option ℕ) → IsShareOf dim depth (region_total dims) x share → IsSumOf dims depths low sum
    → IsSumOf (dim ∷ dims) (depth ∷ depths) (x ∷ low) (option_and_then (λ s. option_map (λ more. s + more) sum) share)
sum-cons dim dims depth depths x low None sum here rest = record { reached = grind (arith, here.reached); over = tt }
sum-cons dim dims depth depths x low (Some s) None here rest = record { reached = rw (sym here.reached) rest.reached; over = tt }
sum-cons dim dims depth depths x low (Some s) (Some more) here rest = record {
  reached = rw (sym here.reached) rest.reached;
  over =
      let first = here.over in
      let last = rest.over in
      record {
        nodes = first.node ∷ last.nodes;
        lifted = lifted-cons dim dims depth depths x first.node low last.nodes first.over last.lifted;
        coded = rw first.placed (rw (← last.coded, ← first.is) refl);
      };
}

-- A sum over the nodes of a region is the code of a region of the cuts that holds it, and one over the leaves of a cell that of the one over it.
module _ (dims : List Dimension) (depths : List ℕ) (trees : All IsTree dims) where
  sum-holds : (low : List ℕ) (over : ℕ) → IsSumOver dims depths low over → HoldsRegion dims depths low over
  sum-holds low over is =
      let found : slice_get (all_regions dims) over ≡ Some is.nodes = ap (slice_get (all_regions dims)) is.coded ∙ region-at_code dims is.nodes trees is.lifted.region in
      lifted-holds dims depths low is.nodes over found (region-below dims over is.nodes found) is.lifted

  pub sum-over_region : (region : List ℕ) (sum : Option ℕ) → is_region dims region ≡ true → IsSumOf dims depths region sum → IfSome sum (HoldsCells dims depths region)
  sum-over_region region None named is = tt
  sum-over_region region (Some over) named is = holds-cells dims depths region over trees named (sum-holds region over is.over)

  pub sum-over_cell : (leaves : List ℕ) (cell : ℕ) (sum : Option ℕ) → is_region dims leaves ≡ true → slice_get (all_cells dims) cell ≡ Some leaves → IsSumOf dims depths leaves sum → IfSome sum (IsCodeOver dims depths cell)
  sum-over_cell leaves cell None named at is = tt
  sum-over_cell leaves cell (Some over) named at is = holds-own_cell dims depths leaves cell over trees named at (sum-over_region leaves (Some over) named is)

-- what a node adds leaves room for what is behind it
pub share-room : (dim : Dimension) (depth step low : ℕ) (share : Option ℕ) → IsShareOf dim depth step low share → IfSome share (λ s. s + step ≤ length dim * step)
share-room dim depth step low None is = tt
share-room dim depth step low (Some s) is =
    let over = is.over in
    let within : over.place < length dim = (place_of-number dim over.node over.place over.placed).0 in
    let least : (over.place + 1) * step ≤ length dim * step = mul-le-mul (omega (arith, within)) (omega arith) in
    let apart : (over.place + 1) * step ≡ over.place * step + step = omega arith in
    omega (arith, over.is, least, apart)

-- all nodes of a dimension are few beside what is behind it
pub shares-small : (dims : List Dimension) (d step : ℕ) (dim : Dimension) → All IsTree dims → space_fault dims ≡ None → slice_get dims d ≡ Some dim → step ≡ region_total (drop (d + 1) dims) → length dim * step < SPACE_LIMIT
shares-small dims d step dim trees accepted at is =
    let here : drop d dims ≡ dim ∷ drop (d + 1) dims = drop-at dims d dim at in
    let whole : region_total (drop d dims) ≡ length dim * step = ap region_total here ∙ ap (λ n. length dim * n) (sym is) in
    omega (arith, whole, region_total-drop dims d trees, (accepted-limits dims accepted).regions)

-- the sum over the nodes of the dimensions from this one on
pub record IsSumFrom (dims : List Dimension) (depths region : List ℕ) (d sum : ℕ) : Type 0 where
  pub within : d ≤ length dims
  pub is : IsSumOf (drop d dims) (drop d depths) (drop d region) (Some sum)

pub sum-last : (dims : List Dimension) (depths region : List ℕ) (d : ℕ) → length depths ≡ length dims → is_region dims region ≡ true → d ≡ length dims → IsSumFrom dims depths region d 0
sum-last dims depths region d deep named all =
    let none_dims : drop d dims ≡ [] = drop_all d dims (omega (arith, all)) in
    let none_depths : drop d depths ≡ [] = drop_all d depths (omega (arith, all, deep)) in
    let none_nodes : drop d region ≡ [] = drop_all d region (omega (arith, all, is_region-length dims region named)) in
    record {
      within = omega (arith, all);
      is = rw (none_dims, none_depths, none_nodes) (record { reached = refl; over = record { nodes = []; lifted = lifted-none; coded = refl } });
    }

-- The node of a dimension, and what it adds.
module _ (dims : List Dimension) (depths region : List ℕ) (d : ℕ) (dim : Dimension) (node step : ℕ) (is : slice_get dims d ≡ Some dim) (deep : d < length depths) (at : slice_get region d ≡ Some node) where
  -- where it adds nothing, not all nodes reach the cuts
  pub sum-not : (told : Option ℕ) → told ≡ None → IsShareOf dim (get_or depths d 0) step node None → is_some told ≡ reaches_cuts dims depths region
  sum-not told is_none adds = ap is_some is_none ∙ by (reaches_cuts dims depths region) refl
    where
      by : (b : Bool) → reaches_cuts dims depths region ≡ b → false ≡ b
      by false reach = refl
      by true reach = adds.reached ∙ reaches-at dims depths region d dim node reach is at

  -- and else it is added
  pub sum-before : (e share sum : ℕ) → e ≡ d + 1 → IsShareOf dim (get_or depths d 0) step node (Some share) → step ≡ region_total (drop (d + 1) dims) → IsSumFrom dims depths region e sum → IsSumFrom dims depths region d (sum + share)
  sum-before e share sum next adds apart rest =
      let behind : IsSumFrom dims depths region (d + 1) sum = rw next at rest in
      let first : IsShareOf dim (get_or depths d 0) (region_total (drop (d + 1) dims)) node (Some share) = rw (← apart) adds in
      let turned = sum-cons dim (drop (d + 1) dims) (get_or depths d 0) (drop (d + 1) depths) node (drop (d + 1) region) (Some share) (Some sum) first behind.is in
      let same : share + sum ≡ sum + share = omega arith in
      record {
        within = omega (arith, behind.within);
        is = rw (drop-at dims d dim is, drop-at depths d (get_or depths d 0) (slice_get-get_or depths d 0 deep), drop-at region d node at, ← same) turned;
      }

-- The sum is a code of the dimensions from there on, and these codes are below the limit.
pub sum-small : (dims : List Dimension) (depths region : List ℕ) (d sum : ℕ) → All IsTree dims → space_fault dims ≡ None → IsSumFrom dims depths region d sum → sum < SPACE_LIMIT
sum-small dims depths region d sum trees accepted from =
    let held = sum-holds (drop d dims) (drop d depths) (All-drop IsTree d dims trees) (drop d region) sum from.is.over in
    let parts = both (nat_lt sum (region_total (drop d dims))) (is_in_cuts (drop d dims) (drop d depths) (region_at (drop d dims) sum)) held.in_view in
    let below : sum < region_total (drop d dims) = grind (arith, nat_tests, parts.0) in
    omega (arith, below, region_total-drop dims d trees, (accepted-limits dims accepted).regions)

-- From the first dimension on it is told of the region.
pub sum-whole : (dims : List Dimension) (depths region : List ℕ) (d sum : ℕ) → All IsTree dims → is_region dims region ≡ true → d ≡ 0 → IsSumFrom dims depths region d sum
    → (true ≡ reaches_cuts dims depths region) × HoldsCells dims depths region sum
sum-whole dims depths region d sum trees named start from =
    let whole : IsSumOf dims depths region (Some sum) = rw start at from.is in
    (whole.reached, sum-over_region dims depths trees region (Some sum) named whole)
