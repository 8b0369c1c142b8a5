-- The codes over a cell at which ids are held, found by listed patterns that are known.
use Rattle.std.proofs.Common.{◌≡◌, ℕ, suc, zero, ◌+◌, ◌*◌, ◌<◌, ◌≤◌, Bool, true, false, List, [], ◌∷◌, eqb, length, length-append, map, refl, sym, ap, ◌∙◌, arith}
use Rattle.std.specs.Prelude.{if◌then◌else◌, ◌&&◌, ◌||◌, ◌==◌, Option, Some, None, slice_get}
use Rattle.std.specs.List.{AllByRecursion, IsDistinct, flat_map, list_any}
use Rattle.std.proofs.lemmas.Bool.Decides.{nat_tests}
use Rattle.std.proofs.lemmas.Map.Keys.{IsDistinct-head, IsDistinct-tail}
use Rattle.cube_model.specs.Cells.{all_cells, is_among, is_inside, places_from}
use Rattle.cube_model.specs.Tree.{Dimension}
use Rattle.region_algebra.specs.Space.{all_regions, region_total}
use Rattle.region_index.specs.Content.{Content, held_codes, holds_ids}
use Rattle.region_index.specs.Over.{codes_over}
use Rattle.region_index.specs.Patterns.{HasPatterns, codes_of_pattern, codes_of_patterns, pattern_of}
use Rattle.region_index.specs.Walk.{Probes, codes_behind, codes_of_leaves}
use Rattle.region_index.proofs.Changing.{among-append, among-filter}
use Rattle.region_index.proofs.Places.{among-places}
use Rattle.region_index.proofs.Walking.{any-flat_map, codes_over-leaves}

-- items that pass one of two tests, where none passes both
length-apart : {X : Type 0} (p q : X → Bool) (k : ℕ) (xs : List X) → ((x : X) → (p x && q x) ≡ false) → length (places_from (λ x. p x || q x) k xs) ≡ length (places_from p k xs) + length (places_from q k xs)
length-apart p q k [] apart = refl
length-apart p q k (x ∷ xs) apart = grind (arith, apart x, length-apart p q (k + 1) xs apart)

-- where what passes one test passes another, no more pass it
length-fewer : {X : Type 0} (p q : X → Bool) (k : ℕ) (xs : List X) → ((x : X) → p x ≡ true → q x ≡ true) → length (places_from p k xs) ≤ length (places_from q k xs)
length-fewer p q k [] follows = omega arith
length-fewer p q k (x ∷ xs) follows = grind (arith, follows x, length-fewer p q (k + 1) xs follows)

-- a key that is apart from others is none of them
not_key : (key : ℕ) (keys : List ℕ) → AllByRecursion (λ k. eqb key k ≡ false) keys → is_among keys key ≡ false
not_key key [] apart = refl
not_key key (k ∷ keys) apart = grind (arith, nat_tests, apart.0, not_key key keys apart.1)

module _ {X : Type 0} (p : X → Bool) (f : X → ℕ) (k : ℕ) (xs : List X) where
  -- the items that pass, by keys that differ, are no more than those that pass
  length-keys : (keys : List ℕ) → IsDistinct eqb keys → length (flat_map (λ key. places_from (λ x. p x && f x == key) k xs) keys) ≤ length (places_from (λ x. p x && is_among keys (f x)) k xs)
  length-keys [] distinct = omega arith
  length-keys (key ∷ keys) distinct =
      let others = length-keys keys (IsDistinct-tail eqb key keys distinct) in
      let both = length-apart (λ x. p x && f x == key) (λ x. p x && is_among keys (f x)) k xs (λ x. apart (p x) (f x) (not_key key keys (IsDistinct-head eqb key keys distinct))) in
      let more = length-fewer (λ x. (p x && f x == key) || (p x && is_among keys (f x))) (λ x. p x && is_among (key ∷ keys) (f x)) k xs (λ x. joined (p x) (f x)) in
      omega (arith, others, both, more, length-append (places_from (λ x. p x && f x == key) k xs) (flat_map (λ key. places_from (λ x. p x && f x == key) k xs) keys))
    where
      apart : (passes : Bool) (at : ℕ) → is_among keys key ≡ false → ((passes && at == key) && (passes && is_among keys at)) ≡ false
      apart passes at none = here (at == key) refl
        where
          here : (b : Bool) → (at == key) ≡ b → ((passes && at == key) && (passes && is_among keys at)) ≡ false
          here true is =
              let same : at ≡ key = grind (arith, nat_tests, is) in
              let absent : is_among keys at ≡ false = rw same none in
              grind (arith, absent)
          here false is = grind (arith, is)

      joined : (passes : Bool) (at : ℕ) → ((passes && at == key) || (passes && is_among keys at)) ≡ true → (passes && ((key == at) || is_among keys at)) ≡ true
      joined passes at either = grind (arith, nat_tests, either)

-- the regions over leaves that have one of the patterns are no more than those over the leaves
patterns-fewer : (dims : List Dimension) (leaves keys : List ℕ) → IsDistinct eqb keys → length (codes_of_patterns dims leaves keys) ≤ length (codes_of_leaves dims leaves)
unfolding codes_of_pattern codes_of_leaves
patterns-fewer dims leaves keys distinct =
    let by_keys = length-keys (λ region. is_inside dims region leaves) (pattern_of dims) 0 (all_regions dims) keys distinct in
    let all = length-fewer (λ region. is_inside dims region leaves && is_among keys (pattern_of dims region)) (λ region. is_inside dims region leaves) 0 (all_regions dims) (λ region both. grind (arith, both)) in
    omega (arith, by_keys, all)

module _ (dims : List Dimension) (cell : ℕ) (leaves : List ℕ) (found : slice_get (all_cells dims) cell ≡ Some leaves) where
  -- the codes over the cell are those over its leaves
  over-leaves : codes_of_leaves dims leaves ≡ codes_over dims cell
  over-leaves = sym (map-zero (codes_of_leaves dims leaves)) ∙ codes_over-leaves dims cell leaves found
    where
      map-zero : (codes : List ℕ) → map (λ c. 0 * region_total dims + c) codes ≡ codes
      map-zero [] = refl
      map-zero (c ∷ codes) =
          let here : 0 * region_total dims + c ≡ c = omega arith in
          rw (here, map-zero codes) refl

  pub steps-fewer : (keys : List ℕ) (before after : ℕ) → IsDistinct eqb keys → after ≤ before + length (codes_of_patterns dims leaves keys) → after ≤ before + length (codes_over dims cell)
  steps-fewer keys before after distinct most = omega (arith, most, patterns-fewer dims leaves keys distinct, ap length over-leaves)

-- behind the last item there is no place
among-beyond : {X : Type 0} (p : X → Bool) (k at : ℕ) (xs : List X) → k + length xs ≤ at → is_among (places_from p k xs) at ≡ false
among-beyond p k at [] beyond = refl
among-beyond p k at (x ∷ xs) beyond = here (p x) (among-beyond p (k + 1) at xs (omega (arith, beyond)))
  where
    here : (b : Bool) → is_among (places_from p (k + 1) xs) at ≡ false → is_among (if b then k ∷ places_from p (k + 1) xs else places_from p (k + 1) xs) at ≡ false
    here true none =
        let before : k < at = omega (arith, beyond) in
        grind (arith, nat_tests, before, none)
    here false none = none

no-item : {X : Type 0} (xs : List X) (i : ℕ) → slice_get xs i ≡ None → length xs ≤ i
no-item [] i none = omega arith
no-item (x ∷ xs) zero none = absurd (grind (arith, none))
no-item (x ∷ xs) (suc i) none = omega (arith, no-item xs i none)

never : (keys : List ℕ) → list_any (λ key. false) keys ≡ false
never [] = refl
never (key ∷ keys) = never keys

any-same : (p q : ℕ → Bool) (xs : List ℕ) → ((x : ℕ) → p x ≡ q x) → list_any p xs ≡ list_any q xs
any-same p q [] each = refl
any-same p q (x ∷ xs) each = rw (each x, any-same p q xs each) refl

-- a fact of an item together with one of the keys
any-and : (b : Bool) (at : ℕ) (keys : List ℕ) → list_any (λ key. b && at == key) keys ≡ (b && is_among keys at)
any-and b at [] = grind arith
any-and b at (key ∷ keys) = grind (arith, nat_tests, any-and b at keys)

-- what is there after probes was there before, or ids are held at it
among-probed : (content inside : Content) (codes before found : List ℕ) (m n : ℕ) → inside ≡ content → Probes inside codes before found m n
    → (code : ℕ) → is_among found code ≡ (is_among before code || is_among (held_codes content codes) code)
among-probed content inside codes before found m n same probes code =
    ap (λ xs. is_among xs code) probes.found
    ∙ among-append before (held_codes inside codes) code
    ∙ ap (λ held. is_among before code || is_among (held_codes held codes) code) same

module _ (content : Content) (dims : List Dimension) (leaves listed : List ℕ) (has : HasPatterns dims content (Some listed)) where
  -- where ids are held, a code is one of those of the patterns where it is one over the leaves
  among-patterns : (code : ℕ) (region : Option (List ℕ)) → slice_get (all_regions dims) code ≡ region
      → (holds_ids content code && is_among (codes_of_patterns dims leaves listed) code) ≡ (holds_ids content code && is_among (codes_of_leaves dims leaves) code)
  unfolding codes_of_pattern codes_of_leaves
  among-patterns code None none =
      let beyond : 0 + length (all_regions dims) ≤ code = omega (arith, no-item (all_regions dims) code none) in
      let over = among-beyond (λ region. is_inside dims region leaves) 0 code (all_regions dims) beyond in
      let by_patterns = any-flat_map (λ c. c == code) (codes_of_pattern dims leaves) listed
      ∙ any-same (λ key. is_among (codes_of_pattern dims leaves key) code) (λ key. false) listed (λ key. among-beyond (λ region. is_inside dims region leaves && pattern_of dims region == key) 0 code (all_regions dims) beyond)
      ∙ never listed in
      rw (over, by_patterns) refl
  among-patterns code (Some region) is =
      let over = among-places (λ region. is_inside dims region leaves) 0 code code (all_regions dims) region (omega arith) is in
      let by_patterns = any-flat_map (λ c. c == code) (codes_of_pattern dims leaves) listed
      ∙ any-same (λ key. is_among (codes_of_pattern dims leaves key) code) (λ key. is_inside dims region leaves && pattern_of dims region == key) listed
      (λ key. among-places (λ region. is_inside dims region leaves && pattern_of dims region == key) 0 code code (all_regions dims) region (omega arith) is)
      ∙ any-and (is_inside dims region leaves) (pattern_of dims region) listed in
      rw (over, by_patterns) (known (holds_ids content code) (is_inside dims region leaves) (is_among listed (pattern_of dims region)) (has.each code region is))
    where
      known : (held inside is_known : Bool) → (held ≡ true → is_known ≡ true) → (held && (inside && is_known)) ≡ (held && inside)
      known held inside is_known follows = grind (arith, follows)

  -- so by the patterns the codes over the cell are found at which ids are held
  pub found-by_pattern : (inside : Content) (cell : ℕ) (before found : List ℕ) (m n : ℕ) → inside ≡ content → slice_get (all_cells dims) cell ≡ Some leaves
      → Probes inside (codes_of_patterns dims leaves listed) before found m n → (code : ℕ) → is_among found code ≡ (is_among before code || is_among (held_codes content (codes_over dims cell)) code)
  found-by_pattern inside cell before found m n same at probes code =
      among-probed content inside (codes_of_patterns dims leaves listed) before found m n same probes code
      ∙ ap (λ b. is_among before code || b)
      (among-filter (holds_ids content) (codes_of_patterns dims leaves listed) code
      ∙ among-patterns code (slice_get (all_regions dims) code) refl
      ∙ ap (λ xs. holds_ids content code && is_among xs code) (over-leaves dims cell leaves at)
      ∙ sym (among-filter (holds_ids content) (codes_over dims cell) code))

-- and so they are by the whole walk
pub found-by_walk : (content inside : Content) (dims : List Dimension) (cell : ℕ) (leaves before found : List ℕ) (m n : ℕ) → inside ≡ content → slice_get (all_cells dims) cell ≡ Some leaves
    → Probes inside (codes_behind dims leaves 0) before found m n → (code : ℕ) → is_among found code ≡ (is_among before code || is_among (held_codes content (codes_over dims cell)) code)
found-by_walk content inside dims cell leaves before found m n same at probes code =
    among-probed content inside (codes_behind dims leaves 0) before found m n same probes code
    ∙ ap (λ codes. is_among before code || is_among (held_codes content codes) code) (codes_over-leaves dims cell leaves at)
