-- What is left of lists by filters.
use Rattle.std.proofs.Common.{◌≡◌, ℕ, ◌≤◌, Bool, true, false, List, [], ◌∷◌, refl, ap, arith}
use Rattle.std.specs.Prelude.{filter, not}
use Rattle.std.specs.List.{sum_by}
use Rattle.std.proofs.lemmas.List.Filters.{sum_by-filter_both}

-- what passes a test passes a weaker one first
pub filter-within : {X : Type 0} (p q : X → Bool) (xs : List X) → ((x : X) → p x ≡ true → q x ≡ true) → filter p (filter q xs) ≡ filter p xs
filter-within p q [] weaker = refl
filter-within {X} p q (x ∷ xs) weaker = either (p x) (q x) refl refl (filter-within p q xs weaker)
  where
    either : (a b : Bool) → p x ≡ a → q x ≡ b → filter p (filter q xs) ≡ filter p xs → filter p (filter q (x ∷ xs)) ≡ filter p (x ∷ xs)
    either true true is also rest = rw (also, is) (ap (λ (ys : List X). x ∷ ys) rest)
    either true false is also rest = absurd (grind (arith, weaker x is))
    either false true is also rest = rw (also, is) rest
    either false false is also rest = rw (also, is) rest

-- no sum over what is left is greater
pub sum_by-filter-le : {X : Type 0} (p : X → Bool) (f : X → ℕ) (xs : List X) → sum_by f (filter p xs) ≤ sum_by f xs
sum_by-filter-le p f xs = omega (arith, sum_by-filter_both p (λ x. not (p x)) (λ x. refl) f xs)
