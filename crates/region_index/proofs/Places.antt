-- The places of the nodes that a node is under.
use Rattle.std.proofs.Common.{◌≡◌, ℕ, zero, suc, ◌+◌, ◌<◌, ◌≤◌, Bool, true, false, List, [], ◌∷◌, ◌++◌, length, refl, sym, ap, ◌∙◌, ne_eqb, arith}
use Rattle.std.specs.Prelude.{if◌then◌else◌, ◌&&◌, ◌||◌, ◌==◌, nat_le, nat_lt, IfSome, Option, Some, None, slice_get}
use Rattle.std.proofs.lemmas.Bool.Decides.{nat_tests}
use Rattle.std.proofs.lemmas.Option.{get_or_from_slice_get, slice_get-map, slice_get_within}
use Rattle.cube_model.specs.Cells.{is_among, places_from}
use Rattle.std.specs.List.{list_all}
use Rattle.std.specs.Option.{option_map, option_map_or}
use Rattle.cube_model.specs.Tree.{Dimension, Entry, IsTree, are_distinct, is_above_parent, is_numbered, is_under, numbers, parent, place_of}
use Rattle.dim_tree.proofs.Climbing.{both}
use Rattle.dim_tree.proofs.Numbers.{at_within}
use Rattle.dim_tree.proofs.Renumbering.{are_numbers, number_at, place_at, place_at-number_at, place_at-within, number_at-place_at}
use Rattle.region_algebra.proofs.Intervals.{end_of, end_of-above, is_under-interval}
use Rattle.region_algebra.proofs.Meets.{among-here, not_among}
use Rattle.region_algebra.proofs.Numbers.{found-passes, number-within, place_of-number}
use Rattle.region_index.specs.Walk.{places_over}
use Rattle.region_index.proofs.Chains.{has, is_under-alone, is_under-parent}

among-later : (b : Bool) (k at : ℕ) (cells : List ℕ) → k < at → is_among (if b then k ∷ cells else cells) at ≡ is_among cells at
among-later true k at cells before = grind (arith, nat_tests)
among-later false k at cells before = refl

-- an item's place is among those of the items that pass where it passes
pub among-places : {X : Type 0} (p : X → Bool) (k i at : ℕ) (xs : List X) (x : X) → at ≡ k + i → slice_get xs i ≡ Some x → is_among (places_from p k xs) at ≡ p x
among-places p k i at [] x is found = absurd (grind arith)
among-places p k zero at (y ∷ xs) x is found =
    let it : y ≡ x = grind (arith, found) in
    let here : k ≡ at = omega (arith, is) in
    rw (← it, ← here) (among-here (p y) k (places_from p (k + 1) xs) (not_among p k (k + 1) xs (omega arith)))
among-places p k (suc i) at (y ∷ xs) x is found =
    among-later (p y) k at (places_from p (k + 1) xs) (omega (arith, is)) ∙ among-places p (k + 1) i at xs x (omega (arith, is)) found

-- the tests agree on what is found at these places
abbrev pub AgreeBefore : (f g : ℕ → Bool) → List ℕ → ℕ → Type 0
AgreeBefore f g xs i = (j y : ℕ) → j < i → slice_get xs j ≡ Some y → f y ≡ g y

abbrev pub FailsFrom : (f : ℕ → Bool) → List ℕ → ℕ → Type 0
FailsFrom f xs i = (j y : ℕ) → i ≤ j → slice_get xs j ≡ Some y → f y ≡ false

-- where none passes, there is no place
pub places-none : (f : ℕ → Bool) (k : ℕ) (xs : List ℕ) → FailsFrom f xs 0 → places_from f k xs ≡ []
places-none f k [] fails = refl
places-none f k (x ∷ xs) fails =
    rw (fails 0 x (omega arith) refl) (places-none f (k + 1) xs (λ j y from found. fails (suc j) y (omega arith) found))

either-append : (b c : Bool) (k m : ℕ) (xs ys : List ℕ) → b ≡ c → xs ≡ ys ++ m ∷ [] → (if b then k ∷ xs else xs) ≡ (if c then k ∷ ys else ys) ++ m ∷ []
either-append true c k m xs ys same rest = rw (← same, rest) refl
either-append false c k m xs ys same rest = rw (← same, rest) refl

-- where an item passes that the others' test does not, and no later one passes either, its place is the last
places-one_more : (f g : ℕ → Bool) (k i at x : ℕ) (xs : List ℕ) → at ≡ k + i → slice_get xs i ≡ Some x → f x ≡ true
    → AgreeBefore f g xs i → FailsFrom f xs (i + 1) → FailsFrom g xs i → places_from f k xs ≡ places_from g k xs ++ at ∷ []
places-one_more f g k i at x [] is found passes agree fails none = absurd (grind arith)
places-one_more f g k zero at x (y ∷ xs) is found passes agree fails none =
    let it : y ≡ x = grind (arith, found) in
    let here : k ≡ at = omega (arith, is) in
    let passes_here : f y ≡ true = ap f it ∙ passes in
    let others : places_from f (k + 1) xs ≡ [] = places-none f (k + 1) xs (λ j z from there. fails (suc j) z (omega arith) there) in
    let gone : places_from g (k + 1) xs ≡ [] = places-none g (k + 1) xs (λ j z from there. none (suc j) z (omega arith) there) in
    rw (passes_here, none 0 y (omega arith) refl, others, gone, here) refl
places-one_more f g k (suc i) at x (y ∷ xs) is found passes agree fails none =
    either-append (f y) (g y) k at (places_from f (k + 1) xs) (places_from g (k + 1) xs) (agree 0 y (omega arith) refl)
    (places-one_more f g (k + 1) i at x xs (omega (arith, is)) found passes
    (λ j z before there. agree (suc j) z (omega arith) there)
    (λ j z from there. fails (suc j) z (omega arith) there)
    (λ j z from there. none (suc j) z (omega arith) there))

-- where one item alone passes, there is its place alone
pub places-single : (f : ℕ → Bool) (i x : ℕ) (xs : List ℕ) → slice_get xs i ≡ Some x → f x ≡ true → ((j y : ℕ) → (j ≡ i → ⊥) → slice_get xs j ≡ Some y → f y ≡ false)
    → places_from f 0 xs ≡ i ∷ []
places-single f i x xs found passes differs =
    places-one_more f (λ y. false) 0 i i x xs (omega arith) found passes
    (λ j y before there. differs j y (λ same. absurd (omega (arith, same))) there)
    (λ j y from there. differs j y (λ same. absurd (omega (arith, same))) there)
    (λ j y from there. refl)
    ∙ ap (λ front. front ++ i ∷ []) (places-none (λ y. false) 0 xs (λ j y from there. refl))

-- a number that stands at a place is among the numbers
pub has-at : (xs : List ℕ) (i x : ℕ) → slice_get xs i ≡ Some x → has xs x ≡ true
has-at [] i x found = absurd (grind arith)
has-at (y ∷ xs) zero x found = grind (arith, nat_tests, found)
has-at (y ∷ xs) (suc i) x found = grind (arith, nat_tests, has-at xs i x found)

module _ (dim : Dimension) (tree : IsTree dim) where
  -- where a number stands is its node's place
  pub place-found : (j y : ℕ) → slice_get (numbers dim) j ≡ Some y → (y < length dim) × (place_at dim y ≡ j)
  place-found j y found =
      let within : j < length (numbers dim) = slice_get_within (numbers dim) j y found in
      let it : number_at dim j ≡ y = at_within (numbers dim) j within ∙ get_or_from_slice_get (numbers dim) j y 0 found in
      (number-within dim j y tree found, ap (place_at dim) (sym it) ∙ place_at-number_at dim (are_numbers dim tree) j)

  -- a node's end is behind it
  behind : (y : ℕ) → y < length dim → place_at dim y < end_of dim (place_at dim y)
  behind y within = end_of-above dim (place_at dim y) (place_at-within dim (are_numbers dim tree) y within)

  -- a parent's number is below those of its children
  above_parent : (x p : ℕ) (e : Option Entry) → option_map (λ e. e.number) e ≡ Some x → IfSome e (λ e. is_above_parent dim e ≡ true) → parent dim x ≡ Some p → p < x
  above_parent x p None named above is = absurd (grind arith)
  above_parent x p (Some e) named above is =
      let it : e.number ≡ x = grind (arith, named) in
      let passes : option_map_or (λ p. nat_lt p x) (parent dim x) true ≡ true = rw it at above in
      let below : nat_lt p x ≡ true = rw is at passes in
      grind (arith, nat_tests, below)

  parents_below : list_all (is_above_parent dim) dim ≡ true
  unfolding is_numbered
  parents_below = (both (are_distinct (numbers dim) && list_all (λ n. nat_lt n (length dim)) (numbers dim)) (list_all (is_above_parent dim) dim) tree.numbered).1

  IfSome-passes : (i : ℕ) (e : Option Entry) → slice_get dim i ≡ e → IfSome e (λ e. is_above_parent dim e ≡ true)
  IfSome-passes i None is = tt
  IfSome-passes i (Some e) is = found-passes (is_above_parent dim) dim i e parents_below is

  pub parent-below : (x p i : ℕ) → place_of dim x ≡ Some i → parent dim x ≡ Some p → p < x
  parent-below x p i placed is =
      above_parent x p (slice_get dim i) (sym (slice_get-map (λ (e : Entry). e.number) dim i) ∙ (place_of-number dim x i placed).1) (IfSome-passes i (slice_get dim i) refl) is

  module _ (x i : ℕ) (within : x < length dim) (placed : place_of dim x ≡ Some i) where
    pub found : slice_get (numbers dim) i ≡ Some x
    found = (place_of-number dim x i placed).1

    -- of two nodes at different places the numbers differ
    pub other : (j y : ℕ) → (j ≡ i → ⊥) → slice_get (numbers dim) j ≡ Some y → (x == y) ≡ false
    other j y differs there = ne_eqb x y (λ same. differs (sym (place-found j y there).1 ∙ ap (place_at dim) (sym same) ∙ (place-found i x found).1))

    -- a root is under itself alone
    pub places_over-root : parent dim x ≡ None → places_over dim x ≡ i ∷ []
    unfolding places_over
    places_over-root root =
        let alone : (y : ℕ) → is_under dim x y ≡ (x == y) = λ y. is_under-alone dim x y (has-at (numbers dim) i x found) root in
        places-single (is_under dim x) i x (numbers dim) found (alone x ∙ grind (arith, nat_tests)) (λ j y apart there. alone y ∙ other j y apart there)

    -- another node is under itself, and it stands behind those that its parent is under
    pub places_over-child : (p : ℕ) → parent dim x ≡ Some p → places_over dim x ≡ places_over dim p ++ i ∷ []
    unfolding places_over
    places_over-child p is =
        let below : p < x = parent-below x p i placed is in
        let above : (y : ℕ) → is_under dim x y ≡ ((x == y) || is_under dim p y) = λ y. is_under-parent dim x p y (are_numbers dim tree).distinct is in
        let parent_place : place_at dim p < i =
        let under : is_under dim p p ≡ true = is_under-interval dim tree p p (omega arith) ∙ grind (arith, nat_tests, behind p (omega arith)) in
        let held : (nat_le (place_at dim p) (place_at dim x) && nat_lt (place_at dim x) (end_of dim (place_at dim p))) ≡ true =
        sym (is_under-interval dim tree x p (omega arith)) ∙ above p ∙ grind (arith, nat_tests, under) in
        let before : place_at dim p ≤ place_at dim x = grind (arith, nat_tests, held) in
        let apart : place_at dim p ≡ place_at dim x → ⊥ = λ same.
        let one : p ≡ x = sym (number_at-place_at dim (are_numbers dim tree) p) ∙ ap (number_at dim) same ∙ number_at-place_at dim (are_numbers dim tree) x in
        absurd (omega (arith, one)) in
        let its : place_at dim x ≡ i = (place-found i x found).1 in
        omega (arith, before, apart, its) in
        let none : (j y : ℕ) → i ≤ j → slice_get (numbers dim) j ≡ Some y → is_under dim p y ≡ false = λ j y from there.
        let at = place-found j y there in
        let held = is_under-interval dim tree p y at.0 in
        let place : place_at dim y ≡ j = at.1 in
        grind (arith, nat_tests, held, place, parent_place) in
        places-one_more (is_under dim x) (is_under dim p) 0 i i x (numbers dim) (omega arith) found (above x ∙ grind (arith, nat_tests))
        (λ j y before there. above y ∙ ap (λ b. b || is_under dim p y) (other j y (λ same. absurd (omega (arith, same))) there))
        (λ j y from there. above y ∙ rw (other j y (λ same. absurd (omega (arith, same))) there) (none j y (omega arith) there))
        none
