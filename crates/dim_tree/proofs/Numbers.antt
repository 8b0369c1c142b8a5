-- Numbers that are distinct and below their count: each number below the count stands at one place.
use Rattle.std.proofs.Common.{◌≡◌, ℕ, ◌+◌, ◌<◌, ◌≤◌, Bool, true, false, List, [], ◌∷◌, length, get_or, Option, Some, None, position, not, ◌||◌, ◌&&◌, ◌==◌, nat_lt, cond, zero, suc, refl, sym, ap, ◌∙◌, inl, inr, eq-eqb, ne_eqb, true≢false, arith}
use Rattle.std.specs.List.{AllByRecursion, IsDistinct, list_any, list_all, position_from}
use Rattle.std.specs.Option.{unwrap_or}
use Rattle.std.proofs.lemmas.Bool.{cases_eq, cases_lt}
use Rattle.std.proofs.lemmas.Bool.Decides.{nat_tests}
use Rattle.std.proofs.lemmas.Iterator.Adapters.{position_from-zero}
use Rattle.std.proofs.lemmas.List.{get_or_default}
use Rattle.std.proofs.lemmas.Map.Steps.{length-le_from_distinct_below}
use Rattle.cube_model.specs.Tree.{are_distinct}
use Rattle.dim_tree.proofs.Climbing.{both}

-- a test that fails where its opposite passes
failed : (b : Bool) → not b ≡ true → b ≡ false
failed true h = absurd (true≢false (sym h))
failed false h = refl

-- the first is none of the others, and they are distinct
pub distinct_parts : (n : ℕ) (ns : List ℕ) → are_distinct (n ∷ ns) ≡ true → (list_any (λ m. m == n) ns ≡ false) × (are_distinct ns ≡ true)
distinct_parts n ns h = let parts = both (not (list_any (λ m. m == n) ns)) (are_distinct ns) h in (failed _ parts.0, parts.1)

-- a number that is none of these differs from each
pub differs_at : (x : ℕ) (ns : List ℕ) (i : ℕ) → list_any (λ m. m == x) ns ≡ false → i < length ns → get_or ns i 0 ≡ x → ⊥
differs_at x [] i none within same = omega arith
differs_at x (n ∷ ns) zero none within same = grind (arith, nat_tests)
differs_at x (n ∷ ns) (suc i) none within same = differs_at x ns i (grind (arith, nat_tests)) (omega arith) same

-- distinct numbers that are equal stand at one place
pub distinct_apart : (ns : List ℕ) (i j : ℕ) → are_distinct ns ≡ true → i < length ns → j < length ns → get_or ns i 0 ≡ get_or ns j 0 → i ≡ j
distinct_apart [] i j distinct left right same = absurd (omega arith)
distinct_apart (n ∷ ns) zero zero distinct left right same = refl
distinct_apart (n ∷ ns) zero (suc j) distinct left right same = absurd (differs_at n ns j (distinct_parts n ns distinct).0 (omega arith) (sym same))
distinct_apart (n ∷ ns) (suc i) zero distinct left right same = absurd (differs_at n ns i (distinct_parts n ns distinct).0 (omega arith) same)
distinct_apart (n ∷ ns) (suc i) (suc j) distinct left right same = ap suc (distinct_apart ns i j (distinct_parts n ns distinct).1 (omega arith) (omega arith) same)

-- each of those that are all below a bound is
pub below_at : (b : ℕ) (ns : List ℕ) (i : ℕ) → list_all (λ n. nat_lt n b) ns ≡ true → i < length ns → get_or ns i 0 < b
below_at b [] i all within = absurd (omega arith)
below_at b (n ∷ ns) zero all within = grind (arith, nat_tests)
below_at b (n ∷ ns) (suc i) all within = below_at b ns i (both (nat_lt n b) (list_all (λ m. nat_lt m b) ns) all).1 (omega arith)

-- and so is a number that is one of them
below_among : (b x : ℕ) (ns : List ℕ) → list_all (λ n. nat_lt n b) ns ≡ true → list_any (λ m. m == x) ns ≡ true → x < b
below_among b x [] all among = absurd (true≢false (sym among))
below_among b x (n ∷ ns) all among = grind (arith, nat_tests, below_among b x ns (both (nat_lt n b) (list_all (λ m. nat_lt m b) ns) all).1)

-- the same two facts in the words of the library
apart_all : (n : ℕ) (ns : List ℕ) → list_any (λ m. m == n) ns ≡ false → AllByRecursion (λ m. (n == m) ≡ false) ns
apart_all n [] none = tt
apart_all n (m ∷ ns) none = (grind (arith, nat_tests), apart_all n ns (grind (arith, nat_tests)))

distinct_all : (ns : List ℕ) → are_distinct ns ≡ true → IsDistinct (λ n m. n == m) ns
unfolding IsDistinct
distinct_all [] distinct = tt
distinct_all (n ∷ ns) distinct = let parts = distinct_parts n ns distinct in (apart_all n ns parts.0, distinct_all ns parts.1)

among_turned : (x : ℕ) (ns : List ℕ) → list_any (λ m. x == m) ns ≡ true → list_any (λ m. m == x) ns ≡ true
among_turned x [] among = among
among_turned x (n ∷ ns) among = grind (arith, nat_tests, among_turned x ns)

-- as many distinct numbers as the bound that they are below leave no number below it out
full : (ns : List ℕ) (x : ℕ) → are_distinct ns ≡ true → list_all (λ n. nat_lt n (length ns)) ns ≡ true → x < length ns → list_any (λ m. m == x) ns ≡ false → ⊥
full ns x distinct below within none =
    let longer : are_distinct (x ∷ ns) ≡ true = ap (λ b. not b && are_distinct ns) none ∙ distinct in
    let few : length (x ∷ ns) ≤ length ns = length-le_from_distinct_below (x ∷ ns) (length ns) (distinct_all (x ∷ ns) longer) (λ q among. elim (cases_eq q x) [
      | inl here ↦ omega arith
      | inr there ↦ below_among (length ns) q ns below (among_turned q ns (ap (λ b. b || list_any (λ m. q == m) ns) (sym (ne_eqb q x there)) ∙ among))
    ]) in
    omega arith

-- so each is among them
pub all_among : (ns : List ℕ) (x : ℕ) → are_distinct ns ≡ true → list_all (λ n. nat_lt n (length ns)) ns ≡ true → x < length ns → list_any (λ m. m == x) ns ≡ true
all_among ns x distinct below within = elim (list_any (λ m. m == x) ns) as (λ b. (b ≡ false → ⊥) → b ≡ true) [ true ↦ λ _. refl | false ↦ λ no. absurd (no refl) ] (full ns x distinct below within)

-- a number that is among numbers, stands at a place
pub record StandsAt (x k : ℕ) (ns : List ℕ) (o : Option ℕ) : Type 0 where
  pub place : ℕ
  pub found : o ≡ Some (k + place)
  pub within : place < length ns
  pub stands : get_or ns place 0 ≡ x

stands_next : (x k n : ℕ) (ns : List ℕ) → (n ≡ x → ⊥) → StandsAt x (k + 1) ns (position_from (λ m. m == x) (k + 1) ns) → StandsAt x k (n ∷ ns) (position_from (λ m. m == x) k (n ∷ ns))
stands_next x k n ns differs at = record {
  place = suc at.place;
  found = ap (λ b. cond b (Some k) (position_from (λ m. m == x) (k + 1) ns)) (ne_eqb n x differs) ∙ at.found ∙ ap Some (omega arith);
  within = omega (arith, at.within);
  stands = at.stands;
}

pub stands_at : (x k : ℕ) (ns : List ℕ) → list_any (λ m. m == x) ns ≡ true → StandsAt x k ns (position_from (λ m. m == x) k ns)
stands_at x k [] among = absurd (true≢false (sym among))
stands_at x k (n ∷ ns) among = elim (cases_eq n x) [
  | inl here ↦ record { place = 0; found = ap (λ b. cond b (Some k) (position_from (λ m. m == x) (k + 1) ns)) (eq-eqb n x here) ∙ ap Some (omega arith); within = omega arith; stands = here }
  | inr there ↦ stands_next x k n ns there (stands_at x (k + 1) ns (ap (λ b. b || list_any (λ m. m == x) ns) (sym (ne_eqb n x there)) ∙ among))
]

-- one that is not, at none
pub stands_nowhere : (x k : ℕ) (ns : List ℕ) → list_any (λ m. m == x) ns ≡ false → position_from (λ m. m == x) k ns ≡ None
stands_nowhere x k [] none = refl
stands_nowhere x k (n ∷ ns) none = grind (arith, nat_tests, stands_nowhere x (k + 1) ns)

-- a number above all is not among them
pub above_all : (b x : ℕ) (ns : List ℕ) → list_all (λ n. nat_lt n b) ns ≡ true → b ≤ x → list_any (λ m. m == x) ns ≡ false
above_all b x [] all above = refl
above_all b x (n ∷ ns) all above = grind (arith, nat_tests, above_all b x ns)

-- distinct numbers below their count
pub record AreNumbers (ns : List ℕ) : Type 0 where
  pub distinct : are_distinct ns ≡ true
  pub below : list_all (λ n. nat_lt n (length ns)) ns ≡ true

-- the number at a place; past the last place, the place itself
unfoldable pub at : List ℕ → ℕ → ℕ
at ns i = get_or ns i i

-- the place of a number; of one that is too large, the number itself
unfoldable pub place : List ℕ → ℕ → ℕ
place ns x = unwrap_or (position (λ n. n == x) ns) x

pub at_within : (ns : List ℕ) (i : ℕ) → i < length ns → at ns i ≡ get_or ns i 0
unfolding at
at_within ns i within = get_or_default ns i i 0 within

-- a place past the last has none
past_all : (ns : List ℕ) (i d : ℕ) → length ns ≤ i → get_or ns i d ≡ d
past_all [] i d past = refl
past_all (n ∷ ns) zero d past = absurd (omega arith)
past_all (n ∷ ns) (suc i) d past = past_all ns i d (omega arith)

pub at_past : (ns : List ℕ) (i : ℕ) → length ns ≤ i → at ns i ≡ i
unfolding at
at_past ns i past = past_all ns i i past

-- the place that is found
place-found : (ns : List ℕ) (x : ℕ) (o : Option ℕ) → position_from (λ n. n == x) 0 ns ≡ o → place ns x ≡ unwrap_or o x
unfolding place
place-found ns x o is = ap (λ p. unwrap_or p x) (position_from-zero (λ n. n == x) ns ∙ is)

module _ (ns : List ℕ) (numbers : AreNumbers ns) where
  pub at-below : (i : ℕ) → i < length ns → at ns i < length ns
  at-below i within = omega (arith, at_within ns i within, below_at (length ns) ns i numbers.below within)

  -- each number below the count has a place
  stands_below : (x : ℕ) → x < length ns → StandsAt x 0 ns (position_from (λ m. m == x) 0 ns)
  stands_below x within = stands_at x 0 ns (all_among ns x numbers.distinct numbers.below within)

  -- the place of a number that is not too large
  place-stands : (x : ℕ) (h : x < length ns) → place ns x ≡ (stands_below x h).place
  place-stands x h = place-found ns x _ (stands_below x h).found ∙ omega arith

  pub place-below : (x : ℕ) → x < length ns → place ns x < length ns
  place-below x h = omega (arith, place-stands x h, (stands_below x h).within)

  pub position-place : (x : ℕ) → x < length ns → position (λ n. n == x) ns ≡ Some (place ns x)
  position-place x h = position_from-zero (λ n. n == x) ns ∙ (stands_below x h).found ∙ ap Some (omega (arith, place-stands x h))

  place-above : (x : ℕ) → length ns ≤ x → place ns x ≡ x
  place-above x past = place-found ns x None (stands_nowhere x 0 ns (above_all (length ns) x ns numbers.below past))

  -- at the place of a number stands the number
  pub at-place : (x : ℕ) → at ns (place ns x) ≡ x
  at-place x = elim (cases_lt x (length ns)) [
    | inl h ↦ ap (at ns) (place-stands x h) ∙ at_within ns (stands_below x h).place (stands_below x h).within ∙ (stands_below x h).stands
    | inr past ↦ ap (at ns) (place-above x past) ∙ at_past ns x past
  ]

  -- numbers at different places differ
  pub at-same : (i j : ℕ) → at ns i ≡ at ns j → i ≡ j
  at-same i j same = elim (cases_lt i (length ns)) [
    | inl left ↦ elim (cases_lt j (length ns)) [
      | inl right ↦ distinct_apart ns i j numbers.distinct left right (sym (at_within ns i left) ∙ same ∙ at_within ns j right)
      | inr right ↦ absurd (omega (arith, at-below i left, at_past ns j right))
    ]
    | inr left ↦ elim (cases_lt j (length ns)) [
      | inl right ↦ absurd (omega (arith, at-below j right, at_past ns i left))
      | inr right ↦ sym (at_past ns i left) ∙ same ∙ at_past ns j right
    ]
  ]

  -- and the test tells
  pub at-eqb : (i j : ℕ) → (at ns i == at ns j) ≡ (i == j)
  at-eqb i j = elim (cases_eq i j) [
    | inl same ↦ eq-eqb (at ns i) (at ns j) (ap (at ns) same) ∙ sym (eq-eqb i j same)
    | inr differ ↦ ne_eqb (at ns i) (at ns j) (λ same. differ (at-same i j same)) ∙ sym (ne_eqb i j differ)
  ]

  -- the place of the number at a place
  pub place-at : (i : ℕ) → place ns (at ns i) ≡ i
  place-at i = at-same (place ns (at ns i)) i (at-place (at ns i))

  -- what stands where a number is found
  pub position-at : (x i : ℕ) → position (λ n. n == x) ns ≡ Some i → (at ns i ≡ x) × (i < length ns)
  position-at x i found = elim (cases_lt x (length ns)) [
    | inl h ↦
        let same : place ns x ≡ i = cc (position-place x h) in
        (ap (at ns) (sym same) ∙ at-place x, omega (arith, same, place-below x h))
    | inr past ↦
        let none : position (λ n. n == x) ns ≡ None = position_from-zero (λ n. n == x) ns ∙ stands_nowhere x 0 ns (above_all (length ns) x ns numbers.below past) in
        absurd (cc none)
  ]
