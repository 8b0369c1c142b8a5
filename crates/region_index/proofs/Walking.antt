-- The codes of the regions over a cell, dimension by dimension, and what probes of them do.
use Rattle.std.proofs.Common.{◌≡◌, ℕ, ◌+◌, ◌*◌, ◌<◌, ◌≤◌, Bool, true, false, List, [], ◌∷◌, ◌++◌, length, map, drop, get_or, refl, sym, ap, subst, ◌∙◌, append_assoc, length-append, arith}
use Rattle.std.specs.Prelude.{if◌then◌else◌, nat_lt, All, IfSome, OnErr, OnOk, Option, Some, None, Result, Ok, Err, slice_get, ◌||◌, ◌==◌}
use Rattle.std.specs.List.{flat_map, list_any}
use Rattle.std.specs.Option.{option_map_or}
use Rattle.std.proofs.Math.Nat.{mul-le-mul_left}
use Rattle.std.proofs.lemmas.List.Elements.{All-drop, filter-append}
use Rattle.std.proofs.lemmas.Grind.{flat_map-append}
use Rattle.std.proofs.lemmas.List.{append-nil, drop_all, map-append}
use Rattle.std.proofs.lemmas.Nat.{mul-le}
use Rattle.std.proofs.lemmas.Option.{get_or_from_slice_get, slice_get-get_or, slice_get_within}
use Rattle.cube_model.specs.Cells.{all_cells, cells_of, is_among, is_inside}
use Rattle.cube_model.specs.Limits.{SPACE_LIMIT}
use Rattle.cube_model.specs.Tree.{Dimension, IsTree, is_under, numbers, parent, place_of}
use Rattle.cube_model.proofs.Ascending.{ascends_filter, ascends_places}
use Rattle.std.proofs.lemmas.Bool.Decides.{nat_tests}
use Rattle.region_algebra.specs.Space.{IsRegion, all_regions, region_total}
use Rattle.region_algebra.proofs.Codes.{length-all_regions, places_from-blocks}
use Rattle.region_algebra.proofs.Spaces.{accepted-limits}
use Rattle.region_algebra.specs.Fault.{space_fault}
use Rattle.std.proofs.lemmas.List.Folds.{list_any-append}
use Rattle.region_algebra.proofs.Meets.{places_from-same}
use Rattle.region_algebra.proofs.Turns.{drop-at, is_region-length, node-within, region_total-some}
use Rattle.region_algebra.proofs.Numbers.{place_of-number}
use Rattle.dim_tree.proofs.Renumbering.{are_numbers, place_of-place_at}
use Rattle.region_index.specs.Content.{AreAscending, AreIdsAt, Content, held_codes, holds_ids, ids_at}
use Rattle.region_index.specs.Over.{codes_over}
use Rattle.region_index.specs.Walk.{IsOnTheWay, Probes, codes_above, codes_behind, codes_higher, codes_of_leaves, places_over}
use Rattle.region_index.proofs.Places.{among-places, places_over-child, places_over-root}

-- the codes over one more dimension: for each place over the leaf there those over the others, as far on
pub codes_of_leaves-cons : (dim : Dimension) (dims : List Dimension) (leaf : ℕ) (leaves : List ℕ)
    → codes_of_leaves (dim ∷ dims) (leaf ∷ leaves) ≡ flat_map (λ place. map (λ c. place * region_total dims + c) (codes_of_leaves dims leaves)) (places_over dim leaf)
unfolding codes_of_leaves places_over all_regions is_inside
codes_of_leaves-cons dim dims leaf leaves =
    rw (← length-all_regions dims)
    (places_from-blocks (λ region. is_inside (dim ∷ dims) region (leaf ∷ leaves)) (is_under dim leaf) (λ region. is_inside dims region leaves) 0 0 (numbers dim) (all_regions dims) (λ node region. refl) (omega arith))

-- what lies behind a code and a place lies behind the code
behind-place : (code size total place : ℕ) (codes : List ℕ) → map (λ c. code * (size * total) + c) (map (λ c. place * total + c) codes) ≡ map (λ c. (code * size + place) * total + c) codes
behind-place code size total place [] = refl
behind-place code size total place (c ∷ codes) =
    let here : code * (size * total) + (place * total + c) ≡ (code * size + place) * total + c = grind arith in
    rw (here, behind-place code size total place codes) refl

pub behind-places : (code size total : ℕ) (codes places : List ℕ)
    → map (λ c. code * (size * total) + c) (flat_map (λ place. map (λ c. place * total + c) codes) places) ≡ flat_map (λ place. map (λ c. (code * size + place) * total + c) codes) places
behind-places code size total codes [] = refl
behind-places code size total codes (place ∷ places) =
    map-append (λ c. code * (size * total) + c) (map (λ c. place * total + c) codes) (flat_map (λ place. map (λ c. place * total + c) codes) places)
    ∙ rw (behind-place code size total place codes, behind-places code size total codes places) refl

codes_behind-cons : (dim : Dimension) (dims : List Dimension) (leaf : ℕ) (leaves : List ℕ) (code : ℕ) → codes_behind (dim ∷ dims) (leaf ∷ leaves) code ≡ codes_above (dim ∷ dims) leaves leaf code
codes_behind-cons dim dims leaf leaves code =
    ap (map (λ c. code * region_total (dim ∷ dims) + c)) (codes_of_leaves-cons dim dims leaf leaves)
    ∙ behind-places code (length dim) (region_total dims) (codes_of_leaves dims leaves) (places_over dim leaf)

-- behind the last dimension there is the code alone
codes_behind-nil : (code : ℕ) → codes_behind [] [] code ≡ code ∷ []
unfolding codes_of_leaves all_regions is_inside
codes_behind-nil code =
    let here : code * 1 + 0 ≡ code = omega arith in
    ap (λ c. c ∷ []) here

module _ (dims : List Dimension) (leaves : List ℕ) (named : IsRegion dims leaves) (d code : ℕ) where
  pub codes_behind-end : d ≡ length dims → codes_behind (drop d dims) (drop d leaves) code ≡ code ∷ []
  codes_behind-end end =
      let no_dims : drop d dims ≡ [] = drop_all d dims (omega (arith, end)) in
      let no_leaves : drop d leaves ≡ [] = drop_all d leaves (omega (arith, end, is_region-length dims leaves named)) in
      rw (no_dims, no_leaves) (codes_behind-nil code)

  pub codes_behind-here : (dim : Dimension) (leaf : ℕ) → slice_get dims d ≡ Some dim → slice_get leaves d ≡ Some leaf
      → codes_behind (drop d dims) (drop d leaves) code ≡ codes_above (drop d dims) (drop (d + 1) leaves) leaf code
  codes_behind-here dim leaf is has =
      rw (drop-at dims d dim is, drop-at leaves d leaf has) (codes_behind-cons dim (drop (d + 1) dims) leaf (drop (d + 1) leaves) code)

-- the regions that hold a cell are those that its leaves are inside
pub codes_over-leaves : (dims : List Dimension) (cell : ℕ) (leaves : List ℕ) → slice_get (all_cells dims) cell ≡ Some leaves → codes_behind dims leaves 0 ≡ codes_over dims cell
unfolding codes_over codes_of_leaves cells_of
codes_over-leaves dims cell leaves found =
    map-zero (codes_of_leaves dims leaves)
    ∙ places_from-same (λ region. is_inside dims region leaves) (λ region. is_among (cells_of dims region) cell) 0 (all_regions dims)
    (λ region. sym (among-places (is_inside dims region) 0 cell cell (all_cells dims) leaves (omega arith) found))
  where
    map-zero : (codes : List ℕ) → map (λ c. 0 * region_total dims + c) codes ≡ codes
    map-zero [] = refl
    map-zero (c ∷ codes) =
        let here : 0 * region_total dims + c ≡ c = omega arith in
        rw (here, map-zero codes) refl

-- one way of probes and then another
pub Probes-append : (content : Content) (xs ys a b c : List ℕ) (m n o : ℕ) → Probes content xs a b m n → Probes content ys b c n o → Probes content (xs ++ ys) a c m o
Probes-append content xs ys a b c m n o first second = record {
  found = second.found ∙ ap (λ zs. zs ++ held_codes content ys) first.found ∙ append_assoc a (held_codes content xs) (held_codes content ys) ∙ ap (λ zs. a ++ zs) (sym (filter-append (holds_ids content) xs ys));
  steps = second.steps ∙ rw first.steps (grind (arith, length-append xs ys));
}

-- probes of the same codes
pub Probes-of : (content : Content) (xs ys a b : List ℕ) (m n : ℕ) → xs ≡ ys → Probes content xs a b m n → Probes content ys a b m n
Probes-of content xs ys a b m n same probes = subst (λ codes. Probes content codes a b m n) same probes

pub steps-of : (xs ys : List ℕ) (m n : ℕ) → xs ≡ ys → n ≤ m + length xs → n ≤ m + length ys
steps-of xs ys m n same most = subst (λ codes. n ≤ m + length codes) same most

-- no probe
pub Probes-none : (content : Content) (codes a : List ℕ) (m : ℕ) → codes ≡ [] → Probes content codes a a m m
Probes-none content codes a m none = rw none (record { found = sym (append-nil a); steps = omega arith })

pub IfSome-at : {X : Type 0} (P : X → Type 0) (o : Option X) (x : X) → o ≡ Some x → IfSome o P → P x
IfSome-at P o x is holds = subst (λ o. IfSome o P) is holds

pub IfSome-from : {X : Type 0} (P : X → Type 0) (o : Option X) (x : X) → o ≡ Some x → P x → IfSome o P
IfSome-from P o x is holds = subst (λ o. IfSome o P) (sym is) holds

-- a dimension at a place below their number
pub dim-at : (dims : List Dimension) (d : ℕ) → d < length dims → (dim : Dimension) × (slice_get dims d ≡ Some dim)
dim-at dims d within = (get_or dims d [], slice_get-get_or dims d [] within)

-- The walk at a dimension that is not behind the last: the leaf there.
module _ (dims : List Dimension) (leaves : List ℕ) (d code : ℕ) (way : IsOnTheWay dims leaves d code) (differs : d ≡ length dims → ⊥) where
  pub d-within : d < length dims
  d-within = omega (arith, way.within, differs)

  pub leaf-there : d < length leaves
  leaf-there = omega (arith, d-within, is_region-length dims leaves way.named)

  pub leaf-within : (leaf : ℕ) → slice_get leaves d ≡ Some leaf → IfSome (slice_get dims d) (λ dim. leaf < length dim)
  leaf-within leaf has =
      let there = dim-at dims d d-within in
      IfSome-from (λ dim. leaf < length dim) (slice_get dims d) there.0 there.1 (node-within dims leaves d there.0 leaf way.named there.1 has)

  pub codes_behind-leaf : (leaf : ℕ) → slice_get leaves d ≡ Some leaf → codes_above (drop d dims) (drop (d + 1) leaves) leaf code ≡ codes_behind (drop d dims) (drop d leaves) code
  codes_behind-leaf leaf has =
      let there = dim-at dims d d-within in
      sym (codes_behind-here dims leaves way.named d code there.0 leaf there.1 has)

-- The walk at a dimension, and a place there.
module _ (dims : List Dimension) (leaves : List ℕ) (d code : ℕ) (way : IsOnTheWay dims leaves d code) (dim : Dimension) (is : slice_get dims d ≡ Some dim) (place : ℕ) (within : place < length dim) where
  -- the digits of the dimension and of those behind it
  room : (code + 1) * (length dim * region_total (drop (d + 1) dims)) ≤ region_total dims
  room = rw (drop-at dims d dim is) at way.fits

  behind-some : 1 ≤ region_total (drop (d + 1) dims)
  behind-some = region_total-some (drop (d + 1) dims) (All-drop IsTree (d + 1) dims way.trees)

  pub place-small : (code + 1) * length dim < SPACE_LIMIT
  place-small =
      let more : (code + 1) * length dim * 1 ≤ (code + 1) * length dim * region_total (drop (d + 1) dims) = mul-le-mul_left ((code + 1) * length dim) behind-some in
      omega (arith, more, room, way.limit)

  pub way-place : IsOnTheWay dims leaves (d + 1) (code * length dim + place)
  way-place = record {
    named = way.named;
    trees = way.trees;
    few = way.few;
    limit = way.limit;
    within = omega (arith, slice_get_within dims d dim is);
    fits =
        let below : code * length dim + place + 1 ≤ (code + 1) * length dim = grind (arith, within) in
        let more : (code * length dim + place + 1) * region_total (drop (d + 1) dims) ≤ (code + 1) * length dim * region_total (drop (d + 1) dims) = mul-le (code * length dim + place + 1) (region_total (drop (d + 1) dims)) ((code + 1) * length dim) (region_total (drop (d + 1) dims)) below (omega arith) in
        omega (arith, more, room);
  }

-- The walk at a node of a dimension.
module _ (dims : List Dimension) (leaves : List ℕ) (d code : ℕ) (way : IsOnTheWay dims leaves d code) (dim : Dimension) (is : slice_get dims d ≡ Some dim) (node : ℕ) (inside : IfSome (slice_get dims d) (λ dim. node < length dim)) where
  -- the node's place, as a digit
  abbrev pub digit : ℕ
  digit = option_map_or (λ place. place) (place_of dim node) 0

  tree : IsTree dim
  tree = subst IsTree (get_or_from_slice_get dims d dim [] is) (way.trees d [] (slice_get_within dims d dim is))

  pub node-there : node < length dim
  node-there = IfSome-at (λ dim. node < length dim) (slice_get dims d) dim is inside

  placed : place_of dim node ≡ Some digit
  placed =
      let found = place_of-place_at dim (are_numbers dim tree) node node-there in
      rw found refl

  digit-within : digit < length dim
  digit-within = (place_of-number dim node digit placed).0

  pub code-small : (code + 1) * length dim < SPACE_LIMIT
  code-small = place-small dims leaves d code way dim is digit digit-within

  pub way-next : IsOnTheWay dims leaves (d + 1) (code * length dim + digit)
  way-next = way-place dims leaves d code way dim is digit digit-within

  -- the regions that count the node are those of the nodes above it, and then those behind its place
  split : (p : Option ℕ) → parent dim node ≡ p
      → codes_above (dim ∷ drop (d + 1) dims) (drop (d + 1) leaves) node code ≡ option_map_or (λ p. codes_above (dim ∷ drop (d + 1) dims) (drop (d + 1) leaves) p code) p [] ++ codes_behind (drop (d + 1) dims) (drop (d + 1) leaves) (code * length dim + digit)
  split None root = rw (places_over-root dim tree node digit node-there placed root) (append-nil (codes_behind (drop (d + 1) dims) (drop (d + 1) leaves) (code * length dim + digit)))
  split (Some p) child =
      let f : ℕ → List ℕ = λ place. codes_behind (drop (d + 1) dims) (drop (d + 1) leaves) (code * length dim + place) in
      rw (places_over-child dim tree node digit node-there placed p child) (flat_map-append f (places_over dim p) (digit ∷ []) ∙ ap (λ codes. flat_map f (places_over dim p) ++ codes) (append-nil (f digit)))

  pub codes_above-split : codes_above (drop d dims) (drop (d + 1) leaves) node code ≡ codes_higher (drop d dims) (drop (d + 1) leaves) node code ++ codes_behind (drop (d + 1) dims) (drop (d + 1) leaves) (code * length dim + digit)
  codes_above-split = rw (drop-at dims d dim is) (split (parent dim node) refl)

  pub codes_higher-parent : (p : ℕ) → Some p ≡ parent dim node → codes_above (drop d dims) (drop (d + 1) leaves) p code ≡ codes_higher (drop d dims) (drop (d + 1) leaves) node code
  codes_higher-parent p child = rw (drop-at dims d dim is, ← child) refl

  pub codes_higher-root : None ≡ parent dim node → codes_higher (drop d dims) (drop (d + 1) leaves) node code ≡ []
  codes_higher-root root = rw (drop-at dims d dim is, ← root) refl

  pub parent-there : (p : ℕ) → p < node → IfSome (slice_get dims d) (λ dim. p < length dim)
  parent-there p below = IfSome-from (λ dim. p < length dim) (slice_get dims d) dim is (omega (arith, below, node-there))

-- probes of the regions above, and then of those behind the node
pub higher-within : (dims : List Dimension) (leaves : List ℕ) (d code : ℕ) → IsOnTheWay dims leaves d code → d < length dims → (node : ℕ) → IfSome (slice_get dims d) (λ dim. node < length dim)
    → (m n : ℕ) → n ≤ m + length (codes_higher (drop d dims) (drop (d + 1) leaves) node code) → n ≤ m + length (codes_above (drop d dims) (drop (d + 1) leaves) node code)
higher-within dims leaves d code way within node inside m n most =
    let there = dim-at dims d within in
    let parts = ap length (codes_above-split dims leaves d code way there.0 there.1 node inside) in
    let sum = length-append (codes_higher (drop d dims) (drop (d + 1) leaves) node code) (codes_behind (drop (d + 1) dims) (drop (d + 1) leaves) (code * length there.0 + digit dims leaves d code way there.0 there.1 node inside)) in
    omega (arith, parts, sum, most)

module _ (dims : List Dimension) (leaves : List ℕ) (d code : ℕ) (way : IsOnTheWay dims leaves d code) (dim : Dimension) (is : slice_get dims d ≡ Some dim) (node : ℕ) (inside : IfSome (slice_get dims d) (λ dim. node < length dim)) (next : ℕ)
    (coded : next ≡ code * length dim + digit dims leaves d code way dim is node inside) where
  both_codes : codes_higher (drop d dims) (drop (d + 1) leaves) node code ++ codes_behind (drop (d + 1) dims) (drop (d + 1) leaves) next ≡ codes_above (drop d dims) (drop (d + 1) leaves) node code
  both_codes = rw coded (sym (codes_above-split dims leaves d code way dim is node inside))

  pub way-coded : IsOnTheWay dims leaves (d + 1) next
  way-coded = rw coded (way-next dims leaves d code way dim is node inside)

  pub Probes-both : (content : Content) (a b c : List ℕ) (m n o : ℕ) → Probes content (codes_higher (drop d dims) (drop (d + 1) leaves) node code) a b m n
      → Probes content (codes_behind (drop (d + 1) dims) (drop (d + 1) leaves) next) b c n o → Probes content (codes_above (drop d dims) (drop (d + 1) leaves) node code) a c m o
  Probes-both content a b c m n o first second = Probes-of content _ _ a c m o both_codes (Probes-append content _ _ a b c m n o first second)

  pub steps-both : (content : Content) (a b : List ℕ) (m n o : ℕ) → Probes content (codes_higher (drop d dims) (drop (d + 1) leaves) node code) a b m n
      → o ≤ n + length (codes_behind (drop (d + 1) dims) (drop (d + 1) leaves) next) → o ≤ m + length (codes_above (drop d dims) (drop (d + 1) leaves) node code)
  steps-both content a b m n o first most =
      let sum = length-append (codes_higher (drop d dims) (drop (d + 1) leaves) node code) (codes_behind (drop (d + 1) dims) (drop (d + 1) leaves) next) in
      omega (arith, first.steps, most, sum, ap length both_codes)

-- what holds anyhow holds at an error
pub on_err : {T E P : Type 0} (r : Result T E) → P → OnErr r P
on_err (Ok x) holds = tt
on_err (Err e) holds = holds

-- whether probes ran out of memory or not, they were no more than the codes
pub steps-either : {T E : Type 0} (r : Result T E) (content : Content) (codes a b : List ℕ) (m n : ℕ) → OnOk r (Probes content codes a b m n) → OnErr r (n ≤ m + length codes) → n ≤ m + length codes
steps-either (Ok x) content codes a b m n probes most = omega (arith, probes.steps)
steps-either (Err e) content codes a b m n probes most = most

-- the walk's start
pub way-start : (dims : List Dimension) (leaves : List ℕ) → IsRegion dims leaves → All IsTree dims → space_fault dims ≡ None → IsOnTheWay dims leaves 0 0
way-start dims leaves named trees accepted =
    let limited = accepted-limits dims accepted in
    record { named = named; trees = trees; few = limited.few; limit = limited.regions; within = omega arith; fits = omega arith }

-- all the regions over the cell are probed
pub Probes-over : (content inside : Content) (dims : List Dimension) (cell : ℕ) (leaves : List ℕ) (a b : List ℕ) (m n : ℕ) → inside ≡ content → slice_get (all_cells dims) cell ≡ Some leaves → a ≡ []
    → Probes inside (codes_behind dims leaves 0) a b m n → Probes content (codes_over dims cell) [] b m n
Probes-over content inside dims cell leaves a b m n same found none probes =
    let over : Probes inside (codes_over dims cell) a b m n = Probes-of inside _ _ a b m n (codes_over-leaves dims cell leaves found) probes in
    rw (same, none) at over

pub steps-over : (dims : List Dimension) (cell : ℕ) (leaves : List ℕ) (m n : ℕ) → slice_get (all_cells dims) cell ≡ Some leaves → n ≤ m + length (codes_behind dims leaves 0) → n ≤ m + length (codes_over dims cell)
steps-over dims cell leaves m n found most = steps-of _ _ m n (codes_over-leaves dims cell leaves found) most

pub any-flat_map : {X : Type 0} (p : ℕ → Bool) (f : X → List ℕ) (xs : List X) → list_any p (flat_map f xs) ≡ list_any (λ x. list_any p (f x)) xs
any-flat_map p f [] = refl
any-flat_map p f (x ∷ xs) = list_any-append p (f x) (flat_map f xs) ∙ ap (λ b. list_any p (f x) || b) (any-flat_map p f xs)

-- where no id is held at a code, it adds none
either-held : (some : Bool) (code : ℕ) (codes : List ℕ) (content : Content) → holds_ids content code ≡ some
    → flat_map (ids_at content) (if some then code ∷ codes else codes) ≡ ids_at content code ++ flat_map (ids_at content) codes
either-held true code codes content is = refl
either-held false code codes content is =
    let none : ids_at content code ≡ [] = no-ids (ids_at content code) is in
    rw none refl
  where
    no-ids : (ids : List ℕ) → nat_lt 0 (length ids) ≡ false → ids ≡ []
    no-ids [] none = refl
    no-ids (id ∷ ids) none = absurd (grind (arith, nat_tests, none))

-- so the ids at codes are those at the codes at which some are held
flat_map-held : (content : Content) (codes : List ℕ) → flat_map (ids_at content) (held_codes content codes) ≡ flat_map (ids_at content) codes
flat_map-held content [] = refl
flat_map-held content (code ∷ codes) =
    either-held (holds_ids content code) code (held_codes content codes) content refl
    ∙ ap (λ ids. ids_at content code ++ ids) (flat_map-held content codes)

-- the ids at the codes that were found, ascending, are those at all the codes
pub AreIdsAt-found : (content : Content) (codes found gathered ids : List ℕ) → found ≡ held_codes content codes → gathered ≡ flat_map (ids_at content) found
    → AreAscending ids → ((id : ℕ) → is_among ids id ≡ is_among gathered id) → AreIdsAt content codes ids
AreIdsAt-found content codes found gathered ids are all ascending same = record {
  ascending = ascending;
  exact = λ id.
      same id
      ∙ ap (λ xs. is_among xs id) (all ∙ ap (flat_map (ids_at content)) are ∙ flat_map-held content codes)
      ∙ any-flat_map (λ i. i == id) (ids_at content) codes;
}

-- the codes over a cell at which ids are held ascend
pub AreAscending-held : (content : Content) (dims : List Dimension) (cell : ℕ) → AreAscending (held_codes content (codes_over dims cell))
unfolding codes_over
AreAscending-held content dims cell =
    ascends_filter (λ code. code) (holds_ids content) 0 (codes_over dims cell)
    (ascends_places (λ region. is_among (cells_of dims region) cell) 0 (all_regions dims))
