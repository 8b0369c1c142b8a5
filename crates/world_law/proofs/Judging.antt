-- Products of numbers, one by one, against a limit.
use Rattle.std.proofs.Common.{◌≡◌, ℕ, ◌+◌, ◌*◌, ◌<◌, ◌≤◌, true, false, List, [], ◌∷◌, length, get_or, drop, map, Option, Some, None, ap, sym, subst, ◌∙◌, inl, inr, arith}
use Rattle.std.specs.List.{drop-map}
use Rattle.std.specs.Prelude.{All, nat_lt}
use Rattle.std.proofs.lemmas.Bool.{cases_lt}
use Rattle.std.proofs.lemmas.Bool.Decides.{nat_tests}
use Rattle.std.proofs.lemmas.List.{drop_all, drop_more, get_or-map, length-map}
use Rattle.std.proofs.lemmas.List.Elements.{All-head, All-tail, All-drop}
use Rattle.std.proofs.Math.Nat.{mul-pos, mul-le-mul_left}
use Rattle.region_algebra.specs.Space.{product}
use Rattle.world_law.specs.Placed.{product_above}

-- what holds of all holds of one that was read
pub of_read : {X : Type 0} (P : X → Type 0) (xs : List X) (i : ℕ) (x : X) → All P xs → i < length xs → x ≡ get_or xs i x → P x
of_read P xs i x all inside is = subst P (sym is) (all i x inside)

pub product_some : {X : Type 0} (f : X → ℕ) (xs : List X) → All (λ x. 1 ≤ f x) xs → 1 ≤ product (map f xs)
product_some f [] some = omega arith
product_some f (x ∷ xs) some = mul-pos (All-head (λ x. 1 ≤ f x) x xs some) (product_some f xs (All-tail (λ x. 1 ≤ f x) x xs some))

-- where no product is above the limit, that of all is not
pub product_within : (most p : ℕ) (ns : List ℕ) → p ≤ most → product_above most p ns ≡ None → p * product ns ≤ most
product_within most p [] le none = omega arith
product_within most p (n ∷ ns) le none = elim (cases_lt most (p * n)) [
  | inl above ↦
      let is_above : nat_lt most (p * n) ≡ true = grind (arith, nat_tests) in
      let told : Some (p * n) ≡ None = rw is_above at none in
      absurd cc
  | inr within ↦
      let not : nat_lt most (p * n) ≡ false = grind (arith, nat_tests) in
      let others = product_within most (p * n) ns within (rw not at none) in
      omega (arith, others)
]

module _ {X : Type 0} (f : X → ℕ) (xs : List X) (i : ℕ) where
  -- one number more
  module _ (x : X) (n p : ℕ) (inside : i < length xs) (is : x ≡ get_or xs i x) (at : n ≡ f x) where
    drop_next : drop i (map f xs) ≡ n ∷ drop (i + 1) (map f xs)
    drop_next =
        drop_more (map f xs) i (f x) (omega (arith, length-map xs f))
        ∙ ap (λ k. k ∷ drop (i + 1) (map f xs)) (get_or-map f xs i x (f x) inside ∙ ap f (sym is) ∙ sym at)

    pub above_else : (most : ℕ) (told : Option ℕ) → p * n ≤ most → product_above most p (drop i (map f xs)) ≡ told → product_above most (p * n) (drop (i + 1) (map f xs)) ≡ told
    above_else most told le before =
        let not : nat_lt most (p * n) ≡ false = grind (arith, nat_tests) in
        let next : product_above most p (n ∷ drop (i + 1) (map f xs)) ≡ told = ap (product_above most p) (sym drop_next) ∙ before in
        rw not at next

    pub above_then : (most : ℕ) (told : Option ℕ) → most < p * n → product_above most p (drop i (map f xs)) ≡ told → Some (p * n) ≡ told
    above_then most told lt before =
        let is_above : nat_lt most (p * n) ≡ true = grind (arith, nat_tests) in
        let next : product_above most p (n ∷ drop (i + 1) (map f xs)) ≡ told = ap (product_above most p) (sym drop_next) ∙ before in
        rw is_above at next

    pub wide_else : (all : ℕ) → p * product (drop i (map f xs)) ≡ all → p * n * product (drop (i + 1) (map f xs)) ≡ all
    wide_else all before = omega (arith, before, ap (λ (ns : List ℕ). p * product ns) drop_next)

  pub above_end : (most p : ℕ) (told : Option ℕ) → length xs ≤ i → product_above most p (drop i (map f xs)) ≡ told → None ≡ told
  above_end most p told end before = sym (ap (product_above most p) (drop_all i (map f xs) (omega (arith, length-map xs f)))) ∙ before

  pub wide_then : (most p all : ℕ) → All (λ x. 1 ≤ f x) xs → most < p → p * product (drop i (map f xs)) ≡ all → true ≡ nat_lt most all
  wide_then most p all some lt is =
      let others : 1 ≤ product (drop i (map f xs)) = rw (drop-map f i xs) (product_some f (drop i xs) (All-drop (λ x. 1 ≤ f x) i xs some)) in
      let above : most < all = omega (arith, is, lt, mul-le-mul_left p others) in
      grind (arith, nat_tests)

  pub wide_end : (most p all : ℕ) → p ≤ most → length xs ≤ i → p * product (drop i (map f xs)) ≡ all → false ≡ nat_lt most all
  wide_end most p all le end is =
      let none = drop_all i (map f xs) (omega (arith, length-map xs f)) in
      let within : all ≤ most = omega (arith, is, ap (λ (ns : List ℕ). p * product ns) none) in
      grind (arith, nat_tests)
