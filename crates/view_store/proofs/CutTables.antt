-- Sums of shares are codes of the regions over those that were asked.
use Rattle.std.proofs.Common.{◌≡◌, ℕ, zero, suc, ◌+◌, ◌*◌, ◌/◌, ◌%◌, ◌<◌, ◌≤◌, true, List, [], ◌∷◌, ◌++◌, length, drop, get_or, refl, sym, ap, ◌∙◌, inl, inr, arith, Option, Some, None, is_some, true≢false}
use Rattle.std.specs.Prelude.{All, IfSome, slice_get, nat_lt}
use Rattle.std.specs.Option.{option_and_then, option_map}
use Rattle.std.proofs.lemmas.Bool.{cases_eq}
use Rattle.std.proofs.lemmas.List.{drop_all, length-append}
use Rattle.std.proofs.lemmas.List.Elements.{All-tail}
use Rattle.std.proofs.lemmas.Nat.{div-add-mod', div_below, mod_below}
use Rattle.std.proofs.lemmas.Option.{same_Some, slice_get-get_or, slice_get_within}
use Rattle.cube_model.specs.Cells.{all_cells}
use Rattle.cube_model.specs.Limits.{SPACE_LIMIT}
use Rattle.cube_model.specs.Tree.{Dimension, IsTree, is_leaf, leaves, numbers}
use Rattle.dim_tree.proofs.Climbing.{both, together}
use Rattle.dim_tree.proofs.Renumbering.{length-numbers}
use Rattle.region_algebra.specs.Fault.{space_fault}
use Rattle.region_algebra.specs.Space.{all_regions, cell_total, is_region, region_total}
use Rattle.region_algebra.proofs.Codes.{blocks, length-all_cells, length-all_regions, length-blocks, slice_get-back, slice_get-blocks, slice_get-front}
use Rattle.region_algebra.proofs.LeafTuples.{are_leaves, cells-are, is_node_leaf}
use Rattle.region_algebra.proofs.Numbers.{found-passes}
use Rattle.region_algebra.proofs.Spaces.{accepted-limits}
use Rattle.region_algebra.proofs.Turns.{drop-at, region_total-drop}
use Rattle.view_store.specs.Cuts.{HoldsCells, IsCodeOver, IsShareOf, reaches_cuts}
use Rattle.view_store.specs.CutTables.{AreDigits, AreDigitsOf, AreShares, IsDigit, IsTable, share_sum}
use Rattle.view_store.specs.declared.cut_table.CutDigit.{CutDigit}
use Rattle.view_store.specs.declared.cut_table.CutTable.{CutTable}
use Rattle.view_store.specs.Views.{region_at}
use Rattle.view_store.proofs.CutRegions.{lifted-none, region_at-below}
use Rattle.view_store.proofs.CutSums.{IsSumOf, share-room, sum-cons, sum-over_cell, sum-over_region}
use Rattle.view_store.proofs.Reaching.{leaves-reach}

-- the digits behind the first
digits-behind : (nodes : Dimension → List ℕ) (total : List Dimension → ℕ) (dim : Dimension) (dims : List Dimension) (depth : ℕ) (depths : List ℕ) (digit : CutDigit) (digits : List CutDigit)
    → AreDigits nodes total (dim ∷ dims) (depth ∷ depths) (length (dim ∷ dims)) (digit ∷ digits) → AreDigits nodes total dims depths (length dims) digits
digits-behind nodes total dim dims depth depths digit digits are = record {
  count = omega (arith, are.count);
  each = λ d lt.
      let past : suc d + 1 ≡ suc (d + 1) = omega arith in
      rw past at (are.each (suc d) (omega (arith, lt)));
}

-- Of codes that go through tuples of nodes, the first dimension slowest.
module _ (nodes : Dimension → List ℕ) (total : List Dimension → ℕ) (tuples : List Dimension → List (List ℕ)) (none : tuples [] ≡ [] ∷ []) (turn : (dim : Dimension) (dims : List Dimension) → tuples (dim ∷ dims) ≡ blocks (nodes dim) (tuples dims))
    (sized : (dims : List Dimension) → length (tuples dims) ≡ total dims) where
  pub sum-over : (dims : List Dimension) (depths : List ℕ) (digits : List CutDigit) (code : ℕ) (low : List ℕ) → length depths ≡ length dims → AreDigits nodes total dims depths (length dims) digits → slice_get (tuples dims) code ≡ Some low
      → IsSumOf dims depths low (share_sum digits code)
  sum-over [] (depth ∷ depths) digits code low deep are at = absurd (omega (arith, deep))
  sum-over [] [] (digit ∷ digits) code low deep are at = absurd (omega (arith, are.count))
  sum-over [] [] [] (suc code) low deep are at = absurd (grind (arith, rw none at at))
  sum-over [] [] [] zero low deep are at =
      let empty : [] ≡ low = grind (arith, rw none at at) in
      rw (← empty) (record { reached = refl; over = record { nodes = []; lifted = lifted-none; coded = refl } })
  sum-over (dim ∷ dims) [] digits code low deep are at = absurd (omega (arith, deep))
  sum-over (dim ∷ dims) (depth ∷ depths) [] code low deep are at = absurd (omega (arith, are.count))
  sum-over (dim ∷ dims) (depth ∷ depths) (digit ∷ digits) code low deep are at =
      let first : IsDigit dim depth (region_total dims) (nodes dim) (total dims) digit = are.each 0 (omega arith) in
      let n = total dims in
      let room : length (tuples dims) ≡ n = sized dims in
      let some : 0 < n = some_behind dim dims code low at in
      let split : code ≡ (code / n) * length (tuples dims) + code % n = rw room (sym (div-add-mod' code n)) in
      let below : code % n < length (tuples dims) = rw room (mod_below code n some) in
      let found = sym (slice_get-blocks (nodes dim) (tuples dims) (code / n) (code % n) code split below) ∙ rw (turn dim dims) at at in
      go first (slice_get (nodes dim) (code / n)) (slice_get (tuples dims) (code % n)) refl refl (sum-over dims depths digits (code % n)) found
    where
      some_behind : (dim : Dimension) (dims : List Dimension) (code : ℕ) (low : List ℕ) → slice_get (tuples (dim ∷ dims)) code ≡ Some low → 0 < total dims
      some_behind dim dims code low at = elim (cases_eq (total dims) 0) [
        | inl zero_total ↦
            let whole : length (tuples (dim ∷ dims)) ≡ length (nodes dim) * total dims = ap length (turn dim dims) ∙ length-blocks (nodes dim) (tuples dims) ∙ ap (λ n. length (nodes dim) * n) (sized dims) in
            let nothing : length (nodes dim) * total dims ≡ 0 = rw zero_total (omega arith) in
            absurd (omega (arith, slice_get_within (tuples (dim ∷ dims)) code low at, whole, nothing))
        | inr some ↦ omega (arith, some)
      ]

      go : IsDigit dim depth (region_total dims) (nodes dim) (total dims) digit → (x : Option ℕ) (t : Option (List ℕ)) → slice_get (nodes dim) (code / total dims) ≡ x → slice_get (tuples dims) (code % total dims) ≡ t
          → ((rest : List ℕ) → length depths ≡ length dims → AreDigits nodes total dims depths (length dims) digits → slice_get (tuples dims) (code % total dims) ≡ Some rest → IsSumOf dims depths rest (share_sum digits (code % total dims)))
          → option_and_then (λ y. option_map (λ u. y ∷ u) t) x ≡ Some low → IsSumOf (dim ∷ dims) (depth ∷ depths) low (share_sum (digit ∷ digits) code)
      go first None t here behind each is = absurd (grind (arith, is))
      go first (Some x) None here behind each is = absurd (grind (arith, is))
      go first (Some x) (Some t) here behind each is =
          let same : x ∷ t ≡ low = grind (arith, is) in
          let inside = slice_get_within (nodes dim) (code / total dims) x here in
          rw (← same, first.apart_is) (sum-cons dim dims depth depths x t (get_or digit.shares (code / total dims) None) (share_sum digits (code % total dims)) (first.shares.each (code / total dims) x inside here)
          (each t (omega (arith, deep)) (digits-behind nodes total dim dims depth depths digit digits are) behind))

-- What the digits of a code add together is a sum over the nodes of its region, or over the leaves of a cell.
module _ (dims : List Dimension) (depths : List ℕ) (trees : All IsTree dims) where
  pub regions-summed : (digits : List CutDigit) (code : ℕ) (region : List ℕ) → length depths ≡ length dims → AreDigits numbers region_total dims depths (length dims) digits → slice_get (all_regions dims) code ≡ Some region → IsSumOf dims depths region (share_sum digits code)
  unfolding all_regions
  regions-summed digits code region deep are at = sum-over numbers region_total all_regions refl (λ dim dims. refl) length-all_regions dims depths digits code region deep are at

  pub cells-summed : (digits : List CutDigit) (cell : ℕ) (low : List ℕ) → length depths ≡ length dims → AreDigits leaves cell_total dims depths (length dims) digits → slice_get (all_cells dims) cell ≡ Some low → IsSumOf dims depths low (share_sum digits cell)
  unfolding all_cells
  cells-summed digits cell low deep are at = sum-over leaves cell_total all_cells refl (λ dim dims. refl) length-all_cells dims depths digits cell low deep are at

-- The digits of a code, the first of them taken: it has a share there, and the rest is a code of those behind it.
pub record IsNext (digit : CutDigit) (digits : List CutDigit) (code total : ℕ) : Type 0 where
  pub apart : 0 < digit.step
  pub place : code / digit.step < length digit.shares
  pub of : AreDigitsOf digits (code % digit.step)
  pub room : IfSome (get_or digit.shares (code / digit.step) None) (λ share. share + region_total of.dims ≤ total)

digits-next : (nodes : Dimension → List ℕ) (total : List Dimension → ℕ) → ((dim : Dimension) (dims : List Dimension) → total (dim ∷ dims) ≡ length (nodes dim) * total dims) → (dims : List Dimension) (depths : List ℕ) (digit : CutDigit) (digits : List CutDigit) (code : ℕ)
    → length depths ≡ length dims → AreDigits nodes total dims depths (length dims) (digit ∷ digits) → code < total dims → All IsTree dims → region_total dims < SPACE_LIMIT → IsNext digit digits code (region_total dims)
digits-next nodes total turns [] depths digit digits code deep are below trees small = absurd (omega (arith, are.count))
digits-next nodes total turns (dim ∷ dims) [] digit digits code deep are below trees small = absurd (omega (arith, deep))
digits-next nodes total turns (dim ∷ dims) (depth ∷ depths) digit digits code deep are below trees small =
    let first : IsDigit dim depth (region_total dims) (nodes dim) (total dims) digit = are.each 0 (omega arith) in
    let whole : code < length (nodes dim) * total dims = rw (← turns dim dims) below in
    let some : 0 < total dims = elim (cases_eq (total dims) 0) [
      | inl zero_total ↦
          let nothing : length (nodes dim) * total dims ≡ 0 = rw zero_total (omega arith) in
          absurd (omega (arith, whole, nothing))
      | inr some ↦ omega (arith, some)
    ] in
    let place : code / total dims < length (nodes dim) = div_below code (total dims) (length (nodes dim)) some whole in
    let low = get_or (nodes dim) (code / total dims) 0 in
    let share = first.shares.each (code / total dims) low place (slice_get-get_or (nodes dim) (code / total dims) 0 place) in
    rw first.apart_is (record {
      apart = some;
      place = omega (arith, place, first.shares.count);
      of = record {
        nodes = nodes;
        total = total;
        turns = turns;
        dims = dims;
        depths = depths;
        deep = omega (arith, deep);
        are = digits-behind nodes total dim dims depth depths digit digits are;
        below = mod_below code (total dims) some;
        trees = All-tail IsTree dim dims trees;
        small = omega (arith, small, region_total-drop (dim ∷ dims) 1 trees);
      };
      room = share-room dim depth (region_total dims) low (get_or digit.shares (code / total dims) None) share;
    })

-- What was added of the first digits.
pub record HasSum (digits : List CutDigit) (code d rest sum : ℕ) : Type 0 where
  pub of : AreDigitsOf (drop d digits) rest
  pub room : sum + region_total of.dims ≤ SPACE_LIMIT
  pub adds : option_map (λ more. sum + more) (share_sum (drop d digits) rest) ≡ share_sum digits code

pub sum-start : (digits : List CutDigit) (code : ℕ) → AreDigitsOf digits code → HasSum digits code 0 code 0
sum-start digits code of = record { of = of; room = omega (arith, of.small); adds = by (share_sum digits code) }
  where
    by : (o : Option ℕ) → option_map (λ more. 0 + more) o ≡ o
    by None = refl
    by (Some n) = ap Some (omega arith)

module _ (digits : List CutDigit) (code d rest sum : ℕ) (digit : CutDigit) (within : d < length digits) (is : digit ≡ get_or digits d digit) (before : HasSum digits code d rest sum) where
  here : drop d digits ≡ digit ∷ drop (d + 1) digits
  here = drop-at digits d digit (slice_get-get_or digits d digit within ∙ ap Some (sym is))

  of : AreDigitsOf (digit ∷ drop (d + 1) digits) rest
  of = rw here at before.of

  pub next : IsNext digit (drop (d + 1) digits) rest (region_total before.of.dims)
  next = digits-next before.of.nodes before.of.total before.of.turns before.of.dims before.of.depths digit (drop (d + 1) digits) rest before.of.deep (rw here at before.of.are) before.of.below before.of.trees before.of.small

  adds : option_map (λ more. sum + more) (share_sum (digit ∷ drop (d + 1) digits) rest) ≡ share_sum digits code
  adds = rw here at before.adds

  -- where a digit adds nothing, there is no sum
  pub sum-none : get_or digit.shares (rest / digit.step) None ≡ None → None ≡ share_sum digits code
  sum-none none = rw none at adds

  -- and else it is added
  pub sum-room : (share : ℕ) → get_or digit.shares (rest / digit.step) None ≡ Some share → sum + share + region_total next.of.dims ≤ SPACE_LIMIT
  sum-room share some =
      let room : share + region_total next.of.dims ≤ region_total before.of.dims = rw some at next.room in
      omega (arith, room, before.room)

  pub sum-next : (share : ℕ) → get_or digit.shares (rest / digit.step) None ≡ Some share → HasSum digits code (d + 1) (rest % digit.step) (sum + share)
  sum-next share some = record {
    of = next.of;
    room = sum-room share some;
    adds = by (share_sum (drop (d + 1) digits) (rest % digit.step)) (share_sum digits code) (rw some at adds);
  }
    where
      by : (o whole : Option ℕ) → option_map (λ more. sum + more) (option_map (λ more. share + more) o) ≡ whole → option_map (λ more. sum + share + more) o ≡ whole
      by None whole is = is
      by (Some n) whole is = ap Some (omega arith) ∙ is

pub sum-end : (digits : List CutDigit) (code d rest sum : ℕ) → length digits ≤ d → HasSum digits code d rest sum → Some sum ≡ share_sum digits code
sum-end digits code d rest sum past before =
    let none : drop d digits ≡ [] = drop_all d digits past in
    ap Some (omega arith) ∙ rw none at before.adds

-- what is put behind others
get_or-front : {X : Type 0} (xs ys : List X) (i : ℕ) (x : X) → i < length xs → get_or (xs ++ ys) i x ≡ get_or xs i x
get_or-front [] ys i x within = absurd (omega arith)
get_or-front (z ∷ xs) ys zero x within = refl
get_or-front (z ∷ xs) ys (suc i) x within = get_or-front xs ys i x (omega arith)

get_or-last : {X : Type 0} (xs : List X) (y : X) (i : ℕ) (x : X) → i ≡ length xs → get_or (xs ++ y ∷ []) i x ≡ y
get_or-last [] y i x is = rw is refl
get_or-last (z ∷ xs) y zero x is = absurd (omega (arith, is))
get_or-last (z ∷ xs) y (suc i) x is = get_or-last xs y i x (omega (arith, is))

-- the shares of no nodes, and those of one node more
pub shares-none : (dim : Dimension) (depth step : ℕ) (nodes : List ℕ) → AreShares dim depth step nodes 0 []
shares-none dim depth step nodes = record { count = refl; each = λ i low lt at. absurd (omega (arith, lt)) }

pub shares-next : (dim : Dimension) (depth step : ℕ) (nodes : List ℕ) (n low : ℕ) (shares : List (Option ℕ)) (share : Option ℕ) → AreShares dim depth step nodes n shares → slice_get nodes n ≡ Some low → IsShareOf dim depth step low share
    → AreShares dim depth step nodes (n + 1) (shares ++ share ∷ [])
shares-next dim depth step nodes n low shares share are at is = record {
  count = length-append shares (share ∷ []) ∙ omega (arith, are.count);
  each = λ i other lt there. elim (cases_eq i n) [
    | inl same ↦
        let node : low ≡ other = same_Some low other (sym at ∙ ap (slice_get nodes) (sym same) ∙ there) in
        let read : get_or (shares ++ share ∷ []) i None ≡ share = get_or-last shares share i None (omega (arith, same, are.count)) in
        rw (read, ← node) is
    | inr differs ↦
        let read : get_or (shares ++ share ∷ []) i None ≡ get_or shares i None = get_or-front shares (share ∷ []) i None (omega (arith, differs, are.count)) in
        rw read (are.each i other (omega (arith, differs)) there)
  ];
}

pub shares-at_end : (dim : Dimension) (depth step : ℕ) (nodes : List ℕ) (n : ℕ) (shares : List (Option ℕ)) → AreShares dim depth step nodes n shares → n ≡ length nodes → AreShares dim depth step nodes (length nodes) shares
shares-at_end dim depth step nodes n shares are all = rw all at are

-- the digits of no dimension, and those of one more
pub digits-none : (nodes : Dimension → List ℕ) (total : List Dimension → ℕ) (dims : List Dimension) (depths : List ℕ) → AreDigits nodes total dims depths 0 []
digits-none nodes total dims depths = record { count = refl; each = λ d lt. absurd (omega (arith, lt)) }

pub digits-more : (nodes : Dimension → List ℕ) (total : List Dimension → ℕ) (dims : List Dimension) (depths : List ℕ) (n : ℕ) (dim : Dimension) (digits : List CutDigit) (digit : CutDigit) → AreDigits nodes total dims depths n digits → slice_get dims n ≡ Some dim
    → IsDigit dim (get_or depths n 0) (region_total (drop (n + 1) dims)) (nodes dim) (total (drop (n + 1) dims)) digit → AreDigits nodes total dims depths (n + 1) (digits ++ digit ∷ [])
digits-more nodes total dims depths n dim digits digit are at is = record {
  count = length-append digits (digit ∷ []) ∙ omega (arith, are.count);
  each = λ d lt. elim (cases_eq d n) [
    | inl same ↦
        let read : slice_get (digits ++ digit ∷ []) n ≡ Some digit = slice_get-back digits (digit ∷ []) 0 n (omega (arith, are.count)) in
        rw (same, at, read) is
    | inr differs ↦
        let read : slice_get (digits ++ digit ∷ []) d ≡ slice_get digits d = slice_get-front digits (digit ∷ []) d (omega (arith, differs, are.count)) in
        rw read (are.each d (omega (arith, differs)))
  ];
}

-- The digits of a table are those of codes.
module _ (dims : List Dimension) (depths : List ℕ) (deep : length depths ≡ length dims) (trees : All IsTree dims) (accepted : space_fault dims ≡ None) (table : CutTable) (is : IsTable dims depths table) where
  pub region-digits : (code : ℕ) → code < region_total dims → AreDigitsOf table.regions code
  region-digits code below = record {
    nodes = numbers;
    total = region_total;
    turns = λ dim dims. ap (λ n. n * region_total dims) (sym (length-numbers dim));
    dims = dims;
    depths = depths;
    deep = deep;
    are = is.regions;
    below = below;
    trees = trees;
    small = (accepted-limits dims accepted).regions;
  }

  pub cell-digits : (cell : ℕ) → cell < length (all_cells dims) → AreDigitsOf table.cells cell
  cell-digits cell below = record {
    nodes = leaves;
    total = cell_total;
    turns = λ dim dims. refl;
    dims = dims;
    depths = depths;
    deep = deep;
    are = is.cells;
    below = omega (arith, below, length-all_cells dims);
    trees = trees;
    small = (accepted-limits dims accepted).regions;
  }

  -- what they add together is what is told of the region of a code
  pub region-told : (code : ℕ) (sum : Option ℕ) → code < region_total dims → sum ≡ share_sum table.regions code
      → (is_some sum ≡ reaches_cuts dims depths (region_at dims code)) × IfSome sum (HoldsCells dims depths (region_at dims code))
  region-told code sum below is_sum =
      let there = region_at-below dims code trees below in
      let summed = regions-summed dims depths trees table.regions code (region_at dims code) deep is.regions there.found in
      rw is_sum (summed.reached, sum-over_region dims depths trees (region_at dims code) (share_sum table.regions code) there.region summed)

  -- and of a cell, whose leaves reach all cuts
  pub cell-told : (cell : ℕ) (sum : Option ℕ) → cell < length (all_cells dims) → sum ≡ share_sum table.cells cell → (is_some sum ≡ true) × IfSome sum (IsCodeOver dims depths cell)
  cell-told cell sum below is_sum =
      let low = get_or (all_cells dims) cell [] in
      let at : slice_get (all_cells dims) cell ≡ Some low = slice_get-get_or (all_cells dims) cell [] below in
      let are = found-passes (are_leaves dims) (all_cells dims) cell low (cells-are dims trees) at in
      let summed = cells-summed dims depths trees table.cells cell low deep is.cells at in
      rw is_sum (summed.reached ∙ leaves-reach dims depths low deep are, sum-over_cell dims depths trees low cell (share_sum table.cells cell) (leaves-region dims low are) at summed)
    where
      leaves-region : (dims : List Dimension) (low : List ℕ) → are_leaves dims low ≡ true → is_region dims low ≡ true
      leaves-region [] [] are = refl
      leaves-region [] (z ∷ low) are = absurd (true≢false (sym are))
      leaves-region (dim ∷ dims) [] are = absurd (true≢false (sym are))
      leaves-region (dim ∷ dims) (z ∷ low) are =
          let parts = both (is_node_leaf dim z) (are_leaves dims low) are in
          together (both (is_leaf dim z) (nat_lt z (length dim)) parts.0).1 (leaves-region dims low parts.1)
