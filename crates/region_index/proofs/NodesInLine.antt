-- The places of the nodes in line with a node: those of the nodes above it, and then one run.
use Rattle.std.proofs.Common.{◌≡◌, ℕ, zero, suc, ◌+◌, ◌-◌, ◌*◌, ◌<◌, ◌≤◌, Bool, true, false, List, [], ◌∷◌, ◌++◌, append_assoc, drop, get_or, length, length-append, map, refl, subst, sym, ap, take, ◌∙◌, arith}
use Rattle.std.specs.Prelude.{if◌then◌else◌, ◌&&◌, ◌||◌, nat_le, nat_lt, All, MatchOption, Option, Some, None, slice_get}
use Rattle.std.specs.List.{flat_map, range_with_len}
use Rattle.std.proofs.lemmas.Grind.{flat_map-append}
use Rattle.std.proofs.lemmas.Bool.Decides.{nat_tests}
use Rattle.std.proofs.lemmas.List.{append-nil, length-drop, length-map, take_more}
use Rattle.std.proofs.lemmas.List.Elements.{All-cons}
use Rattle.std.proofs.lemmas.List.FromFn.{length-range_with_len}
use Rattle.std.proofs.lemmas.Nat.{mul-le}
use Rattle.std.proofs.lemmas.Option.{same_Some}
use Rattle.cube_model.specs.Cells.{is_among, places_from}
use Rattle.cube_model.specs.Limits.{SPACE_LIMIT}
use Rattle.cube_model.specs.declared.tree.NodeLine.{NodeLine}
use Rattle.cube_model.specs.Tree.{Dimension, IsTree, is_under, node_lines, numbers, parent, place_of}
use Rattle.dim_tree.proofs.Climbing.{depths_of}
use Rattle.dim_tree.proofs.Entries.{length-node_lines}
use Rattle.dim_tree.proofs.Nodes.{ends_from-within}
use Rattle.dim_tree.proofs.Renumbering.{length-numbers}
use Rattle.region_algebra.proofs.Codes.{length-shifted}
use Rattle.region_algebra.proofs.Intervals.{end_of, end_of-above, is_under-interval}
use Rattle.region_algebra.proofs.Numbers.{place_of-number}
use Rattle.region_index.specs.Touching.{AreUnderUpTo, are_in_line, codes_behind_places, places_in_line}
use Rattle.region_index.specs.Walk.{places_over}
use Rattle.region_index.proofs.Places.{AgreeBefore, FailsFrom, among-places, place-found, places-none, places_over-child, places_over-root}

slice_get-drop : (n j : ℕ) (xs : List ℕ) → slice_get (drop n xs) j ≡ slice_get xs (n + j)
slice_get-drop zero j xs = ap (slice_get xs) (omega arith)
slice_get-drop (suc n) j [] = refl
slice_get-drop (suc n) j (x ∷ xs) =
    let behind : suc n + j ≡ suc (n + j) = omega arith in
    slice_get-drop n j xs ∙ ap (slice_get (x ∷ xs)) (sym behind)

either-joined : (b c : Bool) (k : ℕ) (xs ys zs : List ℕ) → b ≡ c → xs ≡ ys ++ zs → (if b then k ∷ xs else xs) ≡ (if c then k ∷ ys else ys) ++ zs
either-joined true c k xs ys zs same rest = rw (← same, rest) refl
either-joined false c k xs ys zs same rest = rw (← same, rest) refl

-- Where two tests agree before a place, and the second passes nothing from there on, the places of the first are those of the
-- second and then its own from there on.
places-joined : (f g : ℕ → Bool) (k m at : ℕ) (xs : List ℕ) → at ≡ k + m → AgreeBefore f g xs m → FailsFrom g xs m → places_from f k xs ≡ places_from g k xs ++ places_from f at (drop m xs)
places-joined f g k zero at xs is agree fails =
    let here : k ≡ at = omega (arith, is) in
    ap (λ n. places_from f n xs) here ∙ ap (λ zs. zs ++ places_from f at xs) (sym (places-none g k xs fails))
places-joined f g k (suc m) at [] is agree fails = refl
places-joined f g k (suc m) at (x ∷ xs) is agree fails =
    either-joined (f x) (g x) k (places_from f (k + 1) xs) (places_from g (k + 1) xs) (places_from f at (drop m xs)) (agree 0 x (omega arith) refl)
    (places-joined f g (k + 1) m at xs (omega (arith, is)) (λ j y before there. agree (suc j) y (omega arith) there) (λ j y from there. fails (suc j) y (omega arith) there))

-- where just the first ones pass, the places are a run
places-run : (f : ℕ → Bool) (first end m : ℕ) (xs : List ℕ) → ((j y : ℕ) → slice_get xs j ≡ Some y → f y ≡ nat_lt (first + j) end) → first + m ≡ end → m ≤ length xs → places_from f first xs ≡ range_with_len first m
places-run f first end zero xs passes is few = places-none f first xs (λ j y from there. passes j y there ∙ grind (arith, nat_tests, is))
places-run f first end (suc m) [] passes is few = absurd (omega (arith, few))
places-run f first end (suc m) (x ∷ xs) passes is few =
    let here : f x ≡ true = passes 0 x refl ∙ grind (arith, nat_tests, is) in
    let next : (j : ℕ) → first + suc j ≡ first + 1 + j = λ j. omega arith in
    let rest : places_from f (first + 1) xs ≡ range_with_len (first + 1) m =
    places-run f (first + 1) end m xs (λ j y there. passes (suc j) y there ∙ ap (λ n. nat_lt n end) (next j)) (omega (arith, is)) (omega (arith, few)) in
    rw (here, rest) refl

or-left : (u v : Bool) → (v ≡ true → u ≡ true) → (u || v) ≡ u
or-left true v implied = refl
or-left false true implied = sym (implied refl)
or-left false false implied = refl

module _ (dim : Dimension) (tree : IsTree dim) (x i : ℕ) (within : x < length dim) (placed : place_of dim x ≡ Some i) where
  found : slice_get (numbers dim) i ≡ Some x
  found = (place_of-number dim x i placed).1

  -- a node behind another has it not under itself
  not_above : (j y : ℕ) → i + 1 ≤ j → slice_get (numbers dim) j ≡ Some y → is_under dim x y ≡ false
  not_above j y from there =
      let at = place-found dim tree j y there in
      let its = (place-found dim tree i x found).1 in
      is_under-interval dim tree x y at.0 ∙ rw (at.1, its) (grind (arith, nat_tests, from))

  module _ (end : ℕ) (run : AreUnderUpTo dim x i end) where
    under_itself : is_under dim x x ≡ true
    under_itself = run.each i x found ∙ grind (arith, nat_tests, run.some)

    agree : (j y : ℕ) → j < i + 1 → slice_get (numbers dim) j ≡ Some y → are_in_line dim x y ≡ is_under dim x y
    agree j y before there = or-left (is_under dim x y) (is_under dim y x) (λ under.
        let held : (nat_le i j && nat_lt j end) ≡ true = sym (run.each j y there) ∙ under in
        let here : i ≡ j = grind (arith, nat_tests, held, before) in
        let same : x ≡ y = same_Some x y (sym found ∙ ap (slice_get (numbers dim)) here ∙ there) in
        ap (is_under dim x) (sym same) ∙ under_itself)

    passes : (j y : ℕ) → slice_get (drop (i + 1) (numbers dim)) j ≡ Some y → are_in_line dim x y ≡ nat_lt (i + 1 + j) end
    passes j y there =
        let stands : slice_get (numbers dim) (i + 1 + j) ≡ Some y = sym (slice_get-drop (i + 1) j (numbers dim)) ∙ there in
        let above : is_under dim x y ≡ false = not_above (i + 1 + j) y (omega arith) stands in
        let under : is_under dim y x ≡ (nat_le i (i + 1 + j) && nat_lt (i + 1 + j) end) = run.each (i + 1 + j) y stands in
        let behind : nat_le i (i + 1 + j) ≡ true = grind (arith, nat_tests) in
        rw (above, under, behind) refl

    pub places_in_line-are : places_in_line dim x ≡ places_over dim x ++ range_with_len (i + 1) (end - (i + 1))
    unfolding places_in_line places_over
    places_in_line-are =
        places-joined (are_in_line dim x) (is_under dim x) 0 (i + 1) (i + 1) (numbers dim) (omega arith) agree not_above
        ∙ ap (λ zs. places_from (is_under dim x) 0 (numbers dim) ++ zs)
        (places-run (are_in_line dim x) (i + 1) end (end - (i + 1)) (drop (i + 1) (numbers dim)) passes (omega (arith, run.some)) (omega (arith, run.within, length-drop (i + 1) (numbers dim), length-numbers dim)))

  stands : i < length dim
  stands = (place_of-number dim x i placed).0

  some_behind : i < end_of dim i
  some_behind = end_of-above dim i stands

  pub end_of-within : end_of dim i ≤ length dim
  end_of-within =
      let depths : length (depths_of (node_lines dim)) ≡ length dim = length-map (node_lines dim) (λ (line : NodeLine). line.depth) ∙ length-node_lines dim in
      omega (arith, depths, ends_from-within 0 (depths_of (node_lines dim)) i (omega (arith, depths, stands)))

  pub end_of-behind : i + 1 ≤ end_of dim i
  end_of-behind = omega (arith, some_behind)

  held : (j y : ℕ) → slice_get (numbers dim) j ≡ Some y → is_under dim y x ≡ (nat_le i j && nat_lt j (end_of dim i))
  held j y there =
      let at = place-found dim tree j y there in
      let its = (place-found dim tree i x found).1 in
      is_under-interval dim tree y x within ∙ rw (at.1, its) refl

  -- the end is behind a node that is under this one, and not behind a later one that is not
  pub end_of-under : (j y : ℕ) → slice_get (numbers dim) j ≡ Some y → is_under dim y x ≡ true → j + 1 ≤ end_of dim i
  end_of-under j y there under = let inside = sym (held j y there) ∙ under in grind (arith, nat_tests, inside)

  pub end_of-apart : (j y : ℕ) → slice_get (numbers dim) j ≡ Some y → i ≤ j → is_under dim y x ≡ false → end_of dim i ≤ j
  end_of-apart j y there behind apart = let outside = sym (held j y there) ∙ apart in grind (arith, nat_tests, outside, behind)

  pub under-up_to : (end : ℕ) → end ≡ end_of dim i → AreUnderUpTo dim x i end
  under-up_to end is = record {
    each = λ j y there. held j y there ∙ ap (λ n. nat_le i j && nat_lt j n) (sym is);
    some = omega (arith, is, some_behind);
    within = omega (arith, is, end_of-within);
  }

  -- a node is in line with itself
  in_line_itself : are_in_line dim x x ≡ true
  in_line_itself =
      let under : is_under dim x x ≡ true = held i x found ∙ grind (arith, nat_tests, some_behind) in
      rw under refl

  pub places_in_line-some : 1 ≤ length (places_in_line dim x)
  unfolding places_in_line
  places_in_line-some = some-among (places_in_line dim x) i (among-places (are_in_line dim x) 0 i i (numbers dim) x (omega arith) found ∙ in_line_itself)
    where
      some-among : (xs : List ℕ) (k : ℕ) → is_among xs k ≡ true → 1 ≤ length xs
      some-among [] k among = absurd (grind (arith, nat_tests, among))
      some-among (y ∷ ys) k among = omega arith

-- the places are those of nodes
All-if : (b : Bool) (P : ℕ → Type 0) (k : ℕ) (xs : List ℕ) → P k → All P xs → All P (if b then k ∷ xs else xs)
All-if true P k xs first rest = All-cons P k xs first rest
All-if false P k xs first rest = rest

pub places-below : {X : Type 0} (p : X → Bool) (k n : ℕ) (xs : List X) → k + length xs ≤ n → All (λ c. c < n) (places_from p k xs)
places-below p k n [] few = λ i d inside. absurd (omega arith)
places-below p k n (x ∷ xs) few = All-if (p x) (λ c. c < n) k (places_from p (k + 1) xs) (omega arith) (places-below p (k + 1) n xs (omega arith))

length-if : (b : Bool) (k n : ℕ) (xs : List ℕ) → length xs ≤ n → length (if b then k ∷ xs else xs) ≤ suc n
length-if true k n xs few = omega arith
length-if false k n xs few = omega arith

places-few : {X : Type 0} (p : X → Bool) (k : ℕ) (xs : List X) → length (places_from p k xs) ≤ length xs
places-few p k [] = omega arith
places-few p k (x ∷ xs) = length-if (p x) k (length xs) (places_from p (k + 1) xs) (places-few p (k + 1) xs)

pub places_over-few : (dim : Dimension) (x : ℕ) → length (places_over dim x) ≤ length dim
unfolding places_over
places_over-few dim x = omega (arith, places-few (is_under dim x) 0 (numbers dim), length-numbers dim)

-- so as many codes as a step says fit behind each
pub places_in_line-small : (dim : Dimension) (x step : ℕ) → length dim * step < SPACE_LIMIT → All (λ place. (place + 1) * step < SPACE_LIMIT) (places_in_line dim x)
unfolding places_in_line
places_in_line-small dim x step small k d inside =
    let below = places-below (are_in_line dim x) 0 (length dim) (numbers dim) (omega (arith, length-numbers dim)) k d inside in
    let more = mul-le (get_or (places_in_line dim x) k d + 1) step (length dim) step (omega (arith, below)) (omega arith) in
    omega (arith, more, small)

-- What is pushed where the places above a node are.
module _ (dim : Dimension) (tree : IsTree dim) (x i : ℕ) (within : x < length dim) (placed : place_of dim x ≡ Some i) (before between after : List ℕ) (pushed : after ≡ between ++ i ∷ []) where
  pub pushed-child : (p : ℕ) → between ≡ before ++ places_over dim p → parent dim x ≡ Some p → after ≡ before ++ places_over dim x
  pushed-child p are is =
      pushed ∙ ap (λ zs. zs ++ i ∷ []) are ∙ append_assoc before (places_over dim p) (i ∷ []) ∙ ap (λ zs. before ++ zs) (sym (places_over-child dim tree x i within placed p is))

  pub pushed-root : between ≡ before → parent dim x ≡ None → after ≡ before ++ places_over dim x
  pushed-root are is = pushed ∙ ap (λ zs. zs ++ i ∷ []) are ∙ ap (λ zs. before ++ zs) (sym (places_over-root dim tree x i within placed is))

range-more : (a n at : ℕ) → a + n ≡ at → range_with_len a (suc n) ≡ range_with_len a n ++ at ∷ []
range-more a zero at is = let here : a ≡ at = omega (arith, is) in ap (λ n. n ∷ []) here
range-more a (suc n) at is = ap (λ zs. a ∷ zs) (range-more (a + 1) n at (omega (arith, is)))

-- a place more of a run
pub run-next : (first place : ℕ) (before old new : List ℕ) → first ≤ place → old ≡ before ++ range_with_len first (place - first) → new ≡ old ++ place ∷ [] → new ≡ before ++ range_with_len first (place + 1 - first)
run-next first place before old new from are pushed =
    let next : suc (place - first) ≡ place + 1 - first = omega (arith, from) in
    pushed ∙ ap (λ zs. zs ++ place ∷ []) are ∙ append_assoc before (range_with_len first (place - first)) (place ∷ [])
    ∙ ap (λ zs. before ++ zs) (sym (range-more first (place - first) place (omega (arith, from)))) ∙ ap (λ n. before ++ range_with_len first n) next

-- a place more with the codes behind it
pub behind-next : (places : List ℕ) (i d step first : ℕ) (codes old new : List ℕ) → i < length places → first ≡ get_or places i d * step → old ≡ codes_behind_places (take i places) step codes
    → new ≡ old ++ map (λ code. first + code) codes → new ≡ codes_behind_places (take (i + 1) places) step codes
behind-next places i d step first codes old new within is are pushed =
    let behind : ℕ → List ℕ = λ place. map (λ code. place * step + code) codes in
    pushed
    ∙ ap (λ zs. zs ++ map (λ code. first + code) codes) are
    ∙ ap (λ n. flat_map behind (take i places) ++ map (λ code. n + code) codes) is
    ∙ ap (λ zs. flat_map behind (take i places) ++ zs) (sym (append-nil (behind (get_or places i d))))
    ∙ sym (flat_map-append behind (take i places) (get_or places i d ∷ []))
    ∙ ap (flat_map behind) (sym (take_more places i d within))

-- how many nodes are in line with one
module _ (dim : Dimension) (tree : IsTree dim) (x i : ℕ) (within : x < length dim) (placed : place_of dim x ≡ Some i) (end : ℕ) (run : AreUnderUpTo dim x i end) (above : List ℕ) (are : above ≡ places_over dim x) where
  pub in_line-many : (n m most : ℕ) → n ≡ length above → m ≡ end - i - 1 → most < n + m → most < length (places_in_line dim x)
  in_line-many n m most counted more many =
      omega (
        arith,
        many,
        counted,
        more,
        ap length are,
        ap length (places_in_line-are dim tree x i within placed end run),
        length-append (places_over dim x) (range_with_len (i + 1) (end - (i + 1))),
        length-range_with_len (i + 1) (end - (i + 1)),
      )

  pub in_line-whole : (all : List ℕ) → all ≡ above ++ range_with_len (i + 1) (end - (i + 1)) → all ≡ places_in_line dim x
  in_line-whole all whole = whole ∙ ap (λ zs. zs ++ range_with_len (i + 1) (end - (i + 1))) are ∙ sym (places_in_line-are dim tree x i within placed end run)

pub behind-many : (places : List ℕ) (step : ℕ) (codes : List ℕ) (most : ℕ) → most < length places → 1 ≤ length codes → most < length (codes_behind_places places step codes)
behind-many places step codes most many some =
    omega (arith, many, length-shifted step codes places, mul-le (length places) 1 (length places) (length codes) (omega arith) some)

pub behind-above : (places : List ℕ) (step : ℕ) (codes : List ℕ) (most n : ℕ) → n ≡ length places → true ≡ nat_lt most (n * length codes) → most < length (codes_behind_places places step codes)
behind-above places step codes most n counted above =
    let product : n * length codes ≡ length (codes_behind_places places step codes) = ap (λ m. m * length codes) counted ∙ sym (length-shifted step codes places) in
    let test : nat_lt most (length (codes_behind_places places step codes)) ≡ true = ap (nat_lt most) (sym product) ∙ sym above in
    grind (arith, nat_tests, test)

-- what is found where something is, and what is known where nothing is
pub matched-some : {A : Type 0} (o : Option A) (P : Type 0) (Q : A → Type 0) (x : A) → o ≡ Some x → MatchOption o P Q → Q x
matched-some o P Q x is matched = subst (λ o. MatchOption o P Q) is matched

pub matched-none : {A : Type 0} (o : Option A) (P : Type 0) (Q : A → Type 0) → o ≡ None → MatchOption o P Q → P
matched-none o P Q is matched = subst (λ o. MatchOption o P Q) is matched
