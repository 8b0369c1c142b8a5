-- The regions that have a cell in common with a region are those in line with it, and their codes come dimension by dimension.
use Rattle.std.proofs.Common.{◌≡◌, ℕ, zero, suc, ◌+◌, ◌*◌, ◌<◌, ◌≤◌, Bool, true, false, List, [], ◌∷◌, drop, length, refl, sym, ap, ◌∙◌, true≢false, arith}
use Rattle.std.specs.Prelude.{if◌then◌else◌, ◌&&◌, ◌||◌, nat_lt, All, filter, Option, Some, None, is_some, slice_get}
use Rattle.std.specs.List.{list_any}
use Rattle.std.specs.Option.{option_and_then, option_map}
use Rattle.std.proofs.lemmas.Bool.Decides.{nat_tests}
use Rattle.std.proofs.lemmas.List.{drop_all}
use Rattle.std.proofs.lemmas.List.Elements.{All-head, All-tail}
use Rattle.std.proofs.lemmas.Nat.{mul-le}
use Rattle.cube_model.specs.Cells.{cells_of, is_among, places_from}
use Rattle.cube_model.specs.Limits.{SPACE_LIMIT}
use Rattle.cube_model.specs.Tree.{Dimension, IsTree, is_under, numbers}
use Rattle.dim_tree.proofs.Renumbering.{are_numbers, place_at, place_of-place_at}
use Rattle.region_algebra.specs.Space.{IsRegion, all_regions, common_cells, is_region, meet_of, region_total}
use Rattle.region_algebra.proofs.Codes.{length-all_regions, length-shifted, places_from-blocks}
use Rattle.region_algebra.proofs.Meets.{cells_of-meet, common_cells-none, is_region-cons, is_region-meet}
use Rattle.region_algebra.proofs.Spaces.{uncode-region}
use Rattle.region_algebra.proofs.Turns.{Here, cells-some, drop-at, is_region-length, node-within, region_total-drop}
use Rattle.region_index.specs.Touching.{are_all_in_line, are_in_line, codes_behind_places, codes_in_line, codes_touching, places_in_line}
use Rattle.region_index.proofs.NodesInLine.{places-below, places_in_line-some}

-- some item passes exactly where some are kept
any-kept : (p : ℕ → Bool) (xs : List ℕ) → list_any p xs ≡ nat_lt 0 (length (filter p xs))
any-kept p [] = grind (arith, nat_tests)
any-kept p (x ∷ xs) = either (p x) (any-kept p xs)
  where
    either : (b : Bool) → list_any p xs ≡ nat_lt 0 (length (filter p xs)) → (b || list_any p xs) ≡ nat_lt 0 (length (if b then x ∷ filter p xs else filter p xs))
    either true rest = grind (arith, nat_tests)
    either false rest = rest

-- two regions are in line exactly where they have a meet
some-met : (a b : Bool) (x y : ℕ) (others : Option (List ℕ)) → ((a || b) && is_some others) ≡ is_some (option_and_then (λ node. option_map (λ nodes. node ∷ nodes) others) (if a then Some x else (if b then Some y else None)))
some-met true b x y None = refl
some-met true b x y (Some nodes) = refl
some-met false true x y None = refl
some-met false true x y (Some nodes) = refl
some-met false false x y others = refl

in_line-met : (dims : List Dimension) (a b : List ℕ) → are_all_in_line dims a b ≡ is_some (meet_of dims a b)
in_line-met [] [] [] = refl
in_line-met [] [] (y ∷ ys) = refl
in_line-met [] (x ∷ xs) [] = refl
in_line-met [] (x ∷ xs) (y ∷ ys) = refl
in_line-met (dim ∷ dims) [] [] = refl
in_line-met (dim ∷ dims) [] (y ∷ ys) = refl
in_line-met (dim ∷ dims) (x ∷ xs) [] = refl
in_line-met (dim ∷ dims) (x ∷ xs) (y ∷ ys) =
    ap (λ c. are_in_line dim x y && c) (in_line-met dims xs ys) ∙ some-met (is_under dim x y) (is_under dim y x) x y (meet_of dims xs ys)

-- and there they have a cell in common
touching-met : (dims : List Dimension) (a b : List ℕ) → All IsTree dims → IsRegion dims a → IsRegion dims b → list_any (is_among (cells_of dims b)) (cells_of dims a) ≡ is_some (meet_of dims a b)
touching-met dims a b trees first second = any-kept (is_among (cells_of dims b)) (cells_of dims a) ∙ by (meet_of dims a b) refl
  where
    by : (met : Option (List ℕ)) → meet_of dims a b ≡ met → nat_lt 0 (length (common_cells dims a b)) ≡ is_some met
    by None is = rw (common_cells-none dims a b trees first second is) (grind (arith, nat_tests))
    by (Some m) is =
        let some : 1 ≤ length (cells_of dims m) = cells-some dims m trees (is_region-meet dims a b m first second is) in
        let same = ap length (cells_of-meet dims a b m trees first second is) in
        grind (arith, nat_tests, some, same)

if-alike : (b c : Bool) (k : ℕ) (xs ys : List ℕ) → b ≡ c → xs ≡ ys → (if b then k ∷ xs else xs) ≡ (if c then k ∷ ys else ys)
if-alike b c k xs ys same rest = rw (same, rest) refl

-- tests that agree on each item give the same places
places-alike : {X : Type 0} (p q : X → Bool) (k : ℕ) (xs : List X) → ((j : ℕ) (x : X) → slice_get xs j ≡ Some x → p x ≡ q x) → places_from p k xs ≡ places_from q k xs
places-alike p q k [] each = refl
places-alike p q k (x ∷ xs) each = if-alike (p x) (q x) k (places_from p (k + 1) xs) (places_from q (k + 1) xs) (each 0 x refl) (places-alike p q (k + 1) xs (λ j y there. each (suc j) y there))

pub touching-in_line : (dims : List Dimension) (region : List ℕ) → All IsTree dims → IsRegion dims region → codes_touching dims region ≡ codes_in_line dims region
unfolding codes_touching codes_in_line
touching-in_line dims region trees named =
    places-alike (λ other. list_any (is_among (cells_of dims other)) (cells_of dims region)) (are_all_in_line dims region) 0 (all_regions dims)
    (λ code other there. touching-met dims region other trees named (uncode-region dims code (Some other) trees (sym there)) ∙ sym (in_line-met dims region other))

-- the codes over one more dimension
pub codes_in_line-cons : (dim : Dimension) (dims : List Dimension) (x : ℕ) (xs : List ℕ) → codes_in_line (dim ∷ dims) (x ∷ xs) ≡ codes_behind_places (places_in_line dim x) (region_total dims) (codes_in_line dims xs)
unfolding codes_in_line places_in_line all_regions
codes_in_line-cons dim dims x xs =
    rw (← length-all_regions dims)
    (places_from-blocks (are_all_in_line (dim ∷ dims) (x ∷ xs)) (are_in_line dim x) (are_all_in_line dims xs) 0 0 (numbers dim) (all_regions dims) (λ node region. refl) (omega arith))

-- over no dimension there is one code
codes_in_line-nil : codes_in_line [] [] ≡ 0 ∷ []
unfolding codes_in_line all_regions
codes_in_line-nil = refl

codes-below : (dims : List Dimension) (region : List ℕ) → All (λ code. code < region_total dims) (codes_in_line dims region)
unfolding codes_in_line
codes-below dims region = places-below (are_all_in_line dims region) 0 (region_total dims) (all_regions dims) (omega (arith, length-all_regions dims))

length-cons : (dim : Dimension) (dims : List Dimension) (x : ℕ) (xs : List ℕ) → length (codes_in_line (dim ∷ dims) (x ∷ xs)) ≡ length (places_in_line dim x) * length (codes_in_line dims xs)
length-cons dim dims x xs = ap length (codes_in_line-cons dim dims x xs) ∙ length-shifted (region_total dims) (codes_in_line dims xs) (places_in_line dim x)

pub some-places : (dim : Dimension) (x : ℕ) → IsTree dim → x < length dim → 1 ≤ length (places_in_line dim x)
some-places dim x tree within = places_in_line-some dim tree x (place_at dim x) within (place_of-place_at dim (are_numbers dim tree) x within)

-- a region is in line with one
codes-some : (dims : List Dimension) (region : List ℕ) → All IsTree dims → is_region dims region ≡ true → 1 ≤ length (codes_in_line dims region)
codes-some [] [] trees named = omega (arith, ap length codes_in_line-nil)
codes-some [] (x ∷ xs) trees named = absurd (true≢false (sym named))
codes-some (dim ∷ dims) [] trees named = absurd (true≢false (sym named))
codes-some (dim ∷ dims) (x ∷ xs) trees named =
    let parts = is_region-cons dim dims x xs named in
    let here = some-places dim x (All-head IsTree dim dims trees) parts.0 in
    let others = codes-some dims xs (All-tail IsTree dim dims trees) parts.1 in
    omega (arith, length-cons dim dims x xs, mul-le 1 1 (length (places_in_line dim x)) (length (codes_in_line dims xs)) here others)

-- over fewer dimensions there are no more
codes-fewer : (dims : List Dimension) (region : List ℕ) (d : ℕ) → All IsTree dims → is_region dims region ≡ true → length (codes_in_line (drop d dims) (drop d region)) ≤ length (codes_in_line dims region)
codes-fewer dims region zero trees named = omega arith
codes-fewer [] [] (suc d) trees named = omega arith
codes-fewer [] (x ∷ xs) (suc d) trees named = absurd (true≢false (sym named))
codes-fewer (dim ∷ dims) [] (suc d) trees named = absurd (true≢false (sym named))
codes-fewer (dim ∷ dims) (x ∷ xs) (suc d) trees named =
    let parts = is_region-cons dim dims x xs named in
    let here = some-places dim x (All-head IsTree dim dims trees) parts.0 in
    let others = codes-fewer dims xs d (All-tail IsTree dim dims trees) parts.1 in
    omega (arith, others, length-cons dim dims x xs, mul-le 1 (length (codes_in_line dims xs)) (length (places_in_line dim x)) (length (codes_in_line dims xs)) here (omega arith))

-- What has been found from the last dimension down to one: the codes over these dimensions, and how many regions are over them.
pub record AreFrom (dims : List Dimension) (region : List ℕ) (d step : ℕ) (codes : List ℕ) : Type 0 where
  pub within : d ≤ length dims
  pub step_is : step ≡ region_total (drop d dims)
  pub codes_are : codes ≡ codes_in_line (drop d dims) (drop d region)

pub from-last : (dims : List Dimension) (region : List ℕ) (d : ℕ) → IsRegion dims region → d ≡ length dims → AreFrom dims region d 1 (0 ∷ [])
from-last dims region d named end =
    let no_dims : drop d dims ≡ [] = drop_all d dims (omega (arith, end)) in
    let no_nodes : drop d region ≡ [] = drop_all d region (omega (arith, end, is_region-length dims region named)) in
    record { within = omega (arith, end); step_is = rw no_dims refl; codes_are = rw (no_dims, no_nodes) (sym codes_in_line-nil) }

pub from-first : (dims : List Dimension) (region : List ℕ) (step : ℕ) (codes : List ℕ) → AreFrom dims region 0 step codes → codes ≡ codes_in_line dims region
from-first dims region step codes from = from.codes_are

-- a dimension that was read, with the region's node there
pub here-at : (dims : List Dimension) (region : List ℕ) (d e : ℕ) (dim : Dimension) (node : ℕ) → IsRegion dims region → d + 1 ≡ e → slice_get dims d ≡ Some dim → slice_get region d ≡ Some node → Here dims region d e dim node
here-at dims region d e dim node named next is has =
    rw (← next) (record { dims_are = drop-at dims d dim is; nodes_are = drop-at region d node has; within = node-within dims region d dim node named is has })

-- one dimension more
module _ (dims : List Dimension) (region : List ℕ) (d e step : ℕ) (codes : List ℕ) (trees : All IsTree dims) (named : IsRegion dims region) (limit : region_total dims < SPACE_LIMIT)
    (from : AreFrom dims region e step codes) (dim : Dimension) (node : ℕ) (here : Here dims region d e dim node) (next : d + 1 ≡ e) where
  total-here : length dim * step ≡ region_total (drop d dims)
  total-here = rw (here.dims_are, from.step_is) refl

  pub from-below : All (λ code. code < step) codes
  from-below = rw (from.step_is, from.codes_are) (codes-below (drop e dims) (drop e region))

  pub from-small : length dim * step < SPACE_LIMIT
  from-small = omega (arith, total-here, region_total-drop dims d trees, limit)

  codes-here : codes_behind_places (places_in_line dim node) step codes ≡ codes_in_line (drop d dims) (drop d region)
  codes-here = rw (here.dims_are, here.nodes_are, from.step_is, from.codes_are) (sym (codes_in_line-cons dim (drop e dims) node (drop e region)))

  pub from-many : (most : ℕ) → most < length (codes_behind_places (places_in_line dim node) step codes) → most < length (codes_in_line dims region)
  from-many most more = omega (arith, more, ap length codes-here, codes-fewer dims region d trees named)

  pub from-next : (total : ℕ) (more : List ℕ) → total ≡ step * length dim → more ≡ codes_behind_places (places_in_line dim node) step codes → AreFrom dims region d total more
  from-next total more multiplied are = record {
    within = omega (arith, next, from.within);
    step_is = omega (arith, multiplied, total-here);
    codes_are = are ∙ codes-here;
  }

-- there is a code over some of the dimensions
pub from-some : (dims : List Dimension) (region : List ℕ) (e step : ℕ) (codes : List ℕ) → All IsTree dims → IsRegion dims region → AreFrom dims region e step codes → 1 ≤ length codes
from-some dims region e step codes trees named from = rw from.codes_are (some-from e dims region trees named)
  where
    some-from : (e : ℕ) (dims : List Dimension) (region : List ℕ) → All IsTree dims → is_region dims region ≡ true → 1 ≤ length (codes_in_line (drop e dims) (drop e region))
    some-from zero dims region trees named = codes-some dims region trees named
    some-from (suc e) [] [] trees named = omega (arith, ap length codes_in_line-nil)
    some-from (suc e) [] (x ∷ xs) trees named = absurd (true≢false (sym named))
    some-from (suc e) (dim ∷ dims) [] trees named = absurd (true≢false (sym named))
    some-from (suc e) (dim ∷ dims) (x ∷ xs) trees named = some-from e dims xs (All-tail IsTree dim dims trees) (is_region-cons dim dims x xs named).1
