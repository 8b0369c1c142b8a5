-- A table of places over leaves: how its rows are made, and what is read from it.
use Rattle.std.proofs.Common.{◌≡◌, ◌≢◌, ℕ, ◌+◌, ◌*◌, ◌/◌, ◌%◌, ◌<◌, ◌≤◌, Bool, true, false, List, [], ◌∷◌, length, length-set, drop, get_or, set, get_or-set_other, get_or-set_same, refl, sym, ap, subst, ◌∙◌, arith}
use Rattle.std.specs.Prelude.{◌==◌, Some, None, slice_get}
use Rattle.std.specs.Option.{option_map_or}
use Rattle.std.proofs.lemmas.Bool.Decides.{nat_tests}
use Rattle.std.proofs.lemmas.Option.{slice_get-get_or, slice_get_within}
use Rattle.cube_model.specs.Limits.{MAX_DEPTH, MAX_DIMS, SPACE_LIMIT}
use Rattle.cube_model.specs.Tree.{Dimension, IsTree, parent, place_of}
use Rattle.region_algebra.proofs.Turns.{is_region-length}
use Rattle.region_index.specs.declared.climb.TheConstants.{NO_PLACE}
use Rattle.region_index.specs.Patterns.{codes_of_pattern, depth_of, pattern_behind, places_at_depth}
use Rattle.region_index.specs.PlaceTable.{IsNoted, IsRow, IsTable}
use Rattle.region_index.specs.Walk.{IsOnTheWay}
use Rattle.region_index.proofs.Depths.{depth-parent, places_at_depth-deeper, places_at_depth-own, places_at_depth-parent, places_at_depth-root}
use Rattle.region_index.proofs.PatternCodes.{pattern_behind-end, pattern_behind-left, pattern_behind-next, pattern_behind-none, pattern_behind-start}
use Rattle.region_index.proofs.Walking.{place-small, way-place}

-- A node's place is written at its depth.
module _ (dim : Dimension) (tree : IsTree dim) (node : ℕ) (within : node < length dim) (own place : ℕ) (depth_is : depth_of dim node ≡ own) (place_is : place_of dim node ≡ Some place) (inside : place < length dim)
    (old : List ℕ) (room : own < length old) where
  own-places : places_at_depth dim node own ≡ place ∷ []
  own-places = places_at_depth-own dim tree node within own depth_is ∙ ap (λ p. option_map_or (λ place. place) p 0 ∷ []) place_is

  -- above the root there is nothing more
  pub IsRow-root : parent dim node ≡ None → IsRow dim node (λ depth. get_or old depth 0) (set old own place)
  IsRow-root root = record { each = λ depth most. here depth (own == depth) refl }
    where
      here : (depth : ℕ) (b : Bool) → (own == depth) ≡ b → IsNoted (places_at_depth dim node depth) (length dim) (get_or old depth 0) (get_or (set old own place) depth 0)
      here depth true is =
          let same : own ≡ depth = grind (arith, nat_tests, is) in
          subst (λ k. IsNoted (places_at_depth dim node k) (length dim) (get_or old k 0) (get_or (set old own place) k 0)) same
          (subst (λ places. IsNoted places (length dim) (get_or old own 0) (get_or (set old own place) own 0)) (sym own-places) (get_or-set_same old own place 0 room, inside))
      here depth false is =
          let apart : depth ≢ own = grind (arith, nat_tests, is) in
          let none = places_at_depth-root dim tree node within depth root (λ same. apart (sym same ∙ depth_is)) in
          subst (λ places. IsNoted places (length dim) (get_or old depth 0) (get_or (set old own place) depth 0)) (sym none) (get_or-set_other old own depth place 0 apart)

  -- else there are the places over the parent
  pub IsRow-parent : (p : ℕ) → p < length dim → p < node → parent dim node ≡ Some p → (new : List ℕ) → IsRow dim p (λ depth. get_or (set old own place) depth 0) new → IsRow dim node (λ depth. get_or old depth 0) new
  IsRow-parent p there below child new row = record { each = λ depth most. here depth (own == depth) refl (row.each depth most) }
    where
      here : (depth : ℕ) (b : Bool) → (own == depth) ≡ b → IsNoted (places_at_depth dim p depth) (length dim) (get_or (set old own place) depth 0) (get_or new depth 0)
          → IsNoted (places_at_depth dim node depth) (length dim) (get_or old depth 0) (get_or new depth 0)
      here depth true is noted =
          let same : own ≡ depth = grind (arith, nat_tests, is) in
          let less : depth_of dim p < depth = omega (arith, depth-parent dim tree node p there child below, depth_is, same) in
          let none = places_at_depth-deeper dim tree p there depth less in
          let kept : get_or new depth 0 ≡ get_or (set old own place) depth 0 = subst (λ places. IsNoted places (length dim) (get_or (set old own place) depth 0) (get_or new depth 0)) none noted in
          let written : get_or (set old own place) depth 0 ≡ place = subst (λ k. get_or (set old own place) k 0 ≡ place) same (get_or-set_same old own place 0 room) in
          let one : places_at_depth dim node depth ≡ place ∷ [] = subst (λ k. places_at_depth dim node k ≡ place ∷ []) same own-places in
          subst (λ places. IsNoted places (length dim) (get_or old depth 0) (get_or new depth 0)) (sym one) (kept ∙ written, inside)
      here depth false is noted =
          let apart : depth ≢ own = grind (arith, nat_tests, is) in
          let others = places_at_depth-parent dim tree node within p depth child (λ same. apart (sym same ∙ depth_is)) in
          subst (λ places. IsNoted places (length dim) (get_or old depth 0) (get_or new depth 0)) (sym others)
          (subst (λ before. IsNoted (places_at_depth dim p depth) (length dim) before (get_or new depth 0)) (get_or-set_other old own depth place 0 apart) noted)

-- the mark stands where there is no place
noted-none : (places : List ℕ) (size entry : ℕ) → size ≤ NO_PLACE → IsNoted places size NO_PLACE entry → entry ≡ NO_PLACE → places ≡ []
noted-none [] size entry most noted is = refl
noted-none (place ∷ []) size entry most noted is = absurd (omega (arith, most, noted.0, noted.1, is))
noted-none (place ∷ other ∷ places) size entry most noted is = absurd noted

-- and what is no mark is the place
noted-one : (places : List ℕ) (size entry : ℕ) → IsNoted places size NO_PLACE entry → (entry ≡ NO_PLACE → ⊥) → (places ≡ entry ∷ []) × (entry < size)
noted-one [] size entry noted some = absurd (some noted)
noted-one (place ∷ []) size entry noted some = (ap (λ p. p ∷ []) (sym noted.0), omega (arith, noted.0, noted.1))
noted-one (place ∷ other ∷ places) size entry noted some = absurd noted

-- The pattern's region from a dimension on, after nodes of its depths that make a code.
pub record IsPart (dims : List Dimension) (leaves : List ℕ) (pattern d rest code : ℕ) : Type 0 where
  pub way : IsOnTheWay dims leaves d code
  pub same : pattern_behind (drop d dims) (drop d leaves) rest code ≡ codes_of_pattern dims leaves pattern

pub IsPart-start : (dims : List Dimension) (leaves : List ℕ) (pattern : ℕ) → IsOnTheWay dims leaves 0 0 → IsPart dims leaves pattern 0 pattern 0
IsPart-start dims leaves pattern way = record { way = way; same = pattern_behind-start dims leaves pattern }

module _ (dims : List Dimension) (leaves : List ℕ) (pattern d rest code : ℕ) (part : IsPart dims leaves pattern d rest code) where
  -- behind the last dimension
  pub IsPart-end : d ≡ length dims → rest ≡ 0 → code ∷ [] ≡ codes_of_pattern dims leaves pattern
  IsPart-end end none = sym (pattern_behind-end dims leaves d code part.way rest end none) ∙ part.same

  pub IsPart-left : d ≡ length dims → (rest ≡ 0 → ⊥) → [] ≡ codes_of_pattern dims leaves pattern
  IsPart-left end some = sym (pattern_behind-left dims leaves d code part.way rest end some) ∙ part.same

  module _ (table : List (List ℕ)) (is_table : IsTable dims leaves (length dims) table) (dim : Dimension) (is : slice_get dims d ≡ Some dim) where
    -- what is read for the dimension
    abbrev entry : ℕ
    entry = get_or (get_or table d []) (rest % 9) 0

    abbrev leaf : ℕ
    leaf = get_or leaves d 0

    inside : d < length dims
    inside = slice_get_within dims d dim is

    has : slice_get leaves d ≡ Some leaf
    has = slice_get-get_or leaves d 0 (omega (arith, inside, is_region-length dims leaves part.way.named))

    noted : IsNoted (places_at_depth dim leaf (rest % 9)) (length dim) NO_PLACE entry
    noted = (is_table.rows d dim leaf inside is has).each (rest % 9) (omega arith)

    -- where there is no node of the depth, there is no region
    pub IsPart-none : length dim ≤ NO_PLACE → entry ≡ NO_PLACE → [] ≡ codes_of_pattern dims leaves pattern
    IsPart-none most mark =
        sym (pattern_behind-none dims leaves d code part.way rest dim is leaf has (noted-none (places_at_depth dim leaf (rest % 9)) (length dim) entry most noted mark)) ∙ part.same

    module _ (some : entry ≡ NO_PLACE → ⊥) (size place : ℕ) (size_is : size ≡ length dim) (place_is : place ≡ entry) where
      one : (places_at_depth dim leaf (rest % 9) ≡ entry ∷ []) × (entry < length dim)
      one = noted-one (places_at_depth dim leaf (rest % 9)) (length dim) entry noted some

      -- the code stays small
      pub part-small : (code * size < SPACE_LIMIT) × (code * size + place < SPACE_LIMIT)
      part-small =
          let room = place-small dims leaves d code part.way dim is entry one.1 in
          let sum : (code + 1) * length dim ≡ code * length dim + length dim = omega arith in
          rw (size_is, place_is) (omega (arith, room, sum), omega (arith, room, sum, one.1))

      -- else the region lies behind the node
      pub IsPart-next : IsPart dims leaves pattern (d + 1) (rest / 9) (code * size + place)
      IsPart-next = rw (size_is, place_is) (record {
        way = way-place dims leaves d code part.way dim is entry one.1;
        same = sym (pattern_behind-next dims leaves d code part.way rest dim is leaf has entry one.0) ∙ part.same;
      })

-- The first so many dimensions have their rows, and those of the others are blank.
pub record IsBegun (dims : List Dimension) (leaves : List ℕ) (n : ℕ) (table : List (List ℕ)) : Type 0 where
  pub table_is : IsTable dims leaves n table
  pub blank : (k depth : ℕ) → n ≤ k → k < MAX_DIMS → depth ≤ MAX_DEPTH → get_or (get_or table k []) depth 0 ≡ NO_PLACE

-- one dimension more gets its row
module _ (dims : List Dimension) (leaves : List ℕ) (n : ℕ) (table : List (List ℕ)) (room : n < MAX_DIMS) (begun : IsBegun dims leaves n table) (dim : Dimension) (is : slice_get dims n ≡ Some dim) (leaf : ℕ) (has : slice_get leaves n ≡ Some leaf)
    (row : List ℕ) (noted : IsRow dim leaf (λ depth. get_or (get_or table n []) depth 0) row) where
  over-blank : IsRow dim leaf (λ depth. NO_PLACE) row
  over-blank = record {
    each = λ depth most. subst (λ before. IsNoted (places_at_depth dim leaf depth) (length dim) before (get_or row depth 0)) (begun.blank n depth (omega arith) room most) (noted.each depth most);
  }

  with-row : (d : ℕ) (other : Dimension) (node : ℕ) → d < n + 1 → slice_get dims d ≡ Some other → slice_get leaves d ≡ Some node → (b : Bool) → (d == n) ≡ b
      → IsRow other node (λ depth. NO_PLACE) (get_or (set table n row) d [])
  with-row d other node below there at true same =
      let it : d ≡ n = grind (arith, nat_tests, same) in
      let dim_is : Some other ≡ Some dim = sym there ∙ ap (slice_get dims) it ∙ is in
      let leaf_is : Some node ≡ Some leaf = sym at ∙ ap (slice_get leaves) it ∙ has in
      let one : other ≡ dim = grind (arith, dim_is) in
      let two : node ≡ leaf = grind (arith, leaf_is) in
      let written : get_or (set table n row) d [] ≡ row = ap (λ k. get_or (set table n row) k []) it ∙ get_or-set_same table n row [] (omega (arith, room, begun.table_is.room)) in
      rw (one, two, written) over-blank
  with-row d other node below there at false apart =
      let differs : d ≢ n = grind (arith, nat_tests, apart) in
      rw (get_or-set_other table n d row [] differs) (begun.table_is.rows d other node (omega (arith, below, differs)) there at)

  pub IsBegun-next : IsBegun dims leaves (n + 1) (set table n row)
  IsBegun-next = record {
    table_is = record {
      room = length-set table n row ∙ begun.table_is.room;
      rows = λ d other node below there at. with-row d other node below there at (d == n) refl;
    };
    blank = λ k depth past there most.
        let differs : k ≢ n = omega (arith, past) in
        rw (get_or-set_other table n k row [] differs) (begun.blank k depth (omega (arith, past)) there most);
  }
