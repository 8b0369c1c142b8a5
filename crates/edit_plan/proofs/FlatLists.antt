-- Lists that are made of a list for each of some items, one behind the other.
use Rattle.std.proofs.Common.{◌≡◌, ℕ, ◌+◌, ◌<◌, Bool, List, [], ◌∷◌, ◌++◌, get_or, length, take, refl, ap, ◌∙◌, append-nil, arith}
use Rattle.std.specs.Prelude.{All, ◌||◌}
use Rattle.std.specs.List.{flat_map, list_any, sum_by}
use Rattle.std.proofs.lemmas.Grind.{flat_map-append}
use Rattle.std.proofs.lemmas.List.{take_more}
use Rattle.std.proofs.lemmas.List.Elements.{All-append, All-head, All-nil, All-tail}
use Rattle.std.proofs.lemmas.List.Folds.{list_any-append}
use Rattle.std.proofs.lemmas.List.Sums.{sum_by-append, sum_by-cons}

-- some item in them passes where one does in the list of some
pub any-flat : {X Y : Type 0} (p : Y → Bool) (h : X → List Y) (xs : List X) → list_any p (flat_map h xs) ≡ list_any (λ x. list_any p (h x)) xs
any-flat p h [] = refl
any-flat p h (x ∷ xs) = list_any-append p (h x) (flat_map h xs) ∙ ap (λ b. list_any p (h x) || b) (any-flat p h xs)

-- a sum over them is the sum of those over the lists
pub sum_by-flat : {X Y : Type 0} (f : Y → ℕ) (h : X → List Y) (xs : List X) → sum_by f (flat_map h xs) ≡ sum_by (λ x. sum_by f (h x)) xs
sum_by-flat f h [] = refl
sum_by-flat f h (x ∷ xs) = omega (arith, sum_by-append f (h x) (flat_map h xs), sum_by-flat f h xs, sum_by-cons (λ x. sum_by f (h x)) x xs)

-- what holds in each list holds in them
pub All-flat : {X Y : Type 0} (P : Y → Type 0) (h : X → List Y) (xs : List X) → All (λ x. All P (h x)) xs → All P (flat_map h xs)
All-flat P h [] each = All-nil P
All-flat P h (x ∷ xs) each = All-append P (h x) (flat_map h xs) (All-head (λ x. All P (h x)) x xs each) (All-flat P h xs (All-tail (λ x. All P (h x)) x xs each))

-- tests that agree pass in the same lists
pub any-alike : {X : Type 0} (p q : X → Bool) (xs : List X) → ((x : X) → p x ≡ q x) → list_any p xs ≡ list_any q xs
any-alike p q [] each = refl
any-alike p q (x ∷ xs) each = ap (λ b. b || list_any p xs) (each x) ∙ ap (λ b. q x || b) (any-alike p q xs each)

-- the lists of one item more
pub flat-more : {X Y : Type 0} (h : X → List Y) (xs : List X) (i : ℕ) (d : X) → i < length xs → flat_map h (take (i + 1) xs) ≡ flat_map h (take i xs) ++ h (get_or xs i d)
flat-more h xs i d within =
    ap (flat_map h) (take_more xs i d within) ∙ flat_map-append h (take i xs) (get_or xs i d ∷ []) ∙ ap (λ ys. flat_map h (take i xs) ++ ys) (append-nil (h (get_or xs i d)))
