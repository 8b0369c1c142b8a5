-- The code of the region of a pattern over a cell, dimension by dimension.
use Rattle.std.proofs.Common.{◌≡◌, ℕ, ◌+◌, ◌*◌, ◌/◌, ◌%◌, ◌≤◌, Bool, true, false, List, [], ◌∷◌, length, map, drop, refl, ap, ◌∙◌, arith}
use Rattle.std.specs.Prelude.{if◌then◌else◌, ◌&&◌, ◌==◌, Some, slice_get}
use Rattle.std.specs.List.{flat_map}
use Rattle.std.proofs.lemmas.Bool.Decides.{nat_tests}
use Rattle.std.proofs.lemmas.List.{append-nil, drop_all}
use Rattle.std.proofs.lemmas.Option.{get_or_from_slice_get, slice_get_within}
use Rattle.cube_model.specs.Cells.{is_inside}
use Rattle.cube_model.specs.Limits.{MAX_DEPTH}
use Rattle.cube_model.specs.Tree.{Dimension, IsTree, is_under, numbers}
use Rattle.region_algebra.specs.Space.{all_regions, region_total}
use Rattle.region_algebra.proofs.Codes.{length-all_regions, places_from-blocks}
use Rattle.region_algebra.proofs.Turns.{drop-at, is_region-length}
use Rattle.region_index.specs.Patterns.{codes_of_pattern, depth_of, pattern_behind, pattern_of, places_at_depth}
use Rattle.region_index.specs.Walk.{IsOnTheWay}
use Rattle.region_index.proofs.Depths.{depth-most}
use Rattle.region_index.proofs.Walking.{behind-places}

-- a number of a last digit and others is a number exactly where they are its
digits : (digit rest number : ℕ) → digit ≤ MAX_DEPTH → (digit + 9 * rest == number) ≡ (digit == number % 9 && rest == number / 9)
digits digit rest number small = grind (arith, nat_tests)

-- the codes of a pattern over one more dimension: behind the place at its depth there those of the other depths
codes_of_pattern-cons : (dim : Dimension) (dims : List Dimension) (leaf : ℕ) (leaves : List ℕ) (pattern : ℕ) → IsTree dim
    → codes_of_pattern (dim ∷ dims) (leaf ∷ leaves) pattern ≡ flat_map (λ place. map (λ c. place * region_total dims + c) (codes_of_pattern dims leaves (pattern / 9))) (places_at_depth dim leaf (pattern % 9))
unfolding codes_of_pattern places_at_depth all_regions is_inside
codes_of_pattern-cons dim dims leaf leaves pattern tree =
    rw (← length-all_regions dims)
    (places_from-blocks (λ region. is_inside (dim ∷ dims) region (leaf ∷ leaves) && pattern_of (dim ∷ dims) region == pattern) (λ y. is_under dim leaf y && depth_of dim y == pattern % 9) (λ region. is_inside dims region leaves && pattern_of dims region == pattern / 9) 0 0 (numbers dim) (all_regions dims)
    (λ node region. parts (is_under dim leaf node) (is_inside dims region leaves) (depth_of dim node) (pattern_of dims region) (depth-most dim node tree)) (omega arith))
  where
    parts : (under inside : Bool) (depth rest : ℕ) → depth ≤ MAX_DEPTH → ((under && inside) && depth + 9 * rest == pattern) ≡ ((under && depth == pattern % 9) && (inside && rest == pattern / 9))
    parts under inside depth rest small = rw (digits depth rest pattern small) (four under inside (depth == pattern % 9) (rest == pattern / 9))
      where
        four : (a b c d : Bool) → ((a && b) && (c && d)) ≡ ((a && c) && (b && d))
        four a b c d = grind arith

pattern_behind-cons : (dim : Dimension) (dims : List Dimension) (leaf : ℕ) (leaves : List ℕ) (pattern code : ℕ) → IsTree dim
    → pattern_behind (dim ∷ dims) (leaf ∷ leaves) pattern code ≡ flat_map (λ place. pattern_behind dims leaves (pattern / 9) (code * length dim + place)) (places_at_depth dim leaf (pattern % 9))
pattern_behind-cons dim dims leaf leaves pattern code tree =
    ap (map (λ c. code * region_total (dim ∷ dims) + c)) (codes_of_pattern-cons dim dims leaf leaves pattern tree)
    ∙ behind-places code (length dim) (region_total dims) (codes_of_pattern dims leaves (pattern / 9)) (places_at_depth dim leaf (pattern % 9))

-- behind the last dimension there is the code alone, where no depth is left
pattern_behind-nil : (pattern code : ℕ) → pattern_behind [] [] pattern code ≡ (if pattern == 0 then code ∷ [] else [])
unfolding codes_of_pattern all_regions is_inside
pattern_behind-nil pattern code =
    let flip : (0 == pattern) ≡ (pattern == 0) = grind (arith, nat_tests) in
    rw flip (either (pattern == 0))
  where
    either : (b : Bool) → map (λ c. code * 1 + c) (if b then 0 ∷ [] else []) ≡ (if b then code ∷ [] else [])
    either true =
        let here : code * 1 + 0 ≡ code = omega arith in
        ap (λ c. c ∷ []) here
    either false = refl

module _ (dims : List Dimension) (leaves : List ℕ) (d code : ℕ) (way : IsOnTheWay dims leaves d code) (pattern : ℕ) where
  end-is : d ≡ length dims → pattern_behind (drop d dims) (drop d leaves) pattern code ≡ (if pattern == 0 then code ∷ [] else [])
  end-is end =
      let no_dims : drop d dims ≡ [] = drop_all d dims (omega (arith, end)) in
      let no_leaves : drop d leaves ≡ [] = drop_all d leaves (omega (arith, end, is_region-length dims leaves way.named)) in
      rw (no_dims, no_leaves) (pattern_behind-nil pattern code)

  pub pattern_behind-end : d ≡ length dims → pattern ≡ 0 → pattern_behind (drop d dims) (drop d leaves) pattern code ≡ code ∷ []
  pattern_behind-end end none =
      let passes : (pattern == 0) ≡ true = grind (arith, nat_tests, none) in
      end-is end ∙ ap (λ b. if b then code ∷ [] else []) passes

  pub pattern_behind-left : d ≡ length dims → (pattern ≡ 0 → ⊥) → pattern_behind (drop d dims) (drop d leaves) pattern code ≡ []
  pattern_behind-left end some =
      let fails : (pattern == 0) ≡ false = grind (arith, nat_tests, some) in
      end-is end ∙ ap (λ b. if b then code ∷ [] else []) fails

  module _ (dim : Dimension) (is : slice_get dims d ≡ Some dim) (leaf : ℕ) (has : slice_get leaves d ≡ Some leaf) where
    here : pattern_behind (drop d dims) (drop d leaves) pattern code ≡ flat_map (λ place. pattern_behind (drop (d + 1) dims) (drop (d + 1) leaves) (pattern / 9) (code * length dim + place)) (places_at_depth dim leaf (pattern % 9))
    here =
        let tree : IsTree dim = rw (← get_or_from_slice_get dims d dim [] is) (way.trees d [] (slice_get_within dims d dim is)) in
        rw (drop-at dims d dim is, drop-at leaves d leaf has) (pattern_behind-cons dim (drop (d + 1) dims) leaf (drop (d + 1) leaves) pattern code tree)

    -- where there is no node of the depth, there is no region of the pattern
    pub pattern_behind-none : places_at_depth dim leaf (pattern % 9) ≡ [] → pattern_behind (drop d dims) (drop d leaves) pattern code ≡ []
    pattern_behind-none none = here ∙ ap (flat_map (λ place. pattern_behind (drop (d + 1) dims) (drop (d + 1) leaves) (pattern / 9) (code * length dim + place))) none

    -- else it lies behind that node
    pub pattern_behind-next : (place : ℕ) → places_at_depth dim leaf (pattern % 9) ≡ place ∷ []
        → pattern_behind (drop d dims) (drop d leaves) pattern code ≡ pattern_behind (drop (d + 1) dims) (drop (d + 1) leaves) (pattern / 9) (code * length dim + place)
    pattern_behind-next place one =
        here ∙ ap (flat_map (λ place. pattern_behind (drop (d + 1) dims) (drop (d + 1) leaves) (pattern / 9) (code * length dim + place))) one
        ∙ append-nil (pattern_behind (drop (d + 1) dims) (drop (d + 1) leaves) (pattern / 9) (code * length dim + place))

-- behind no node there are the codes of the pattern themselves
pub pattern_behind-start : (dims : List Dimension) (leaves : List ℕ) (pattern : ℕ) → pattern_behind dims leaves pattern 0 ≡ codes_of_pattern dims leaves pattern
pattern_behind-start dims leaves pattern = map-zero (codes_of_pattern dims leaves pattern)
  where
    map-zero : (codes : List ℕ) → map (λ c. 0 * region_total dims + c) codes ≡ codes
    map-zero [] = refl
    map-zero (c ∷ codes) =
        let here : 0 * region_total dims + c ≡ c = omega arith in
        rw (here, map-zero codes) refl
