-- Laws of the sum of a whole number of each item.
use Rattle.std.proofs.Common.{◌≡◌, ℕ, Bool, true, false, List, [], ◌∷◌, ◌++◌, refl, ap, sym, ◌∙◌, arith, ℤ, pos, ◌+ℤ◌, ◌*ℤ◌}
use Rattle.std.specs.List.{flat_map, sum_by}
use Rattle.std.specs.Prelude.{if◌then◌else◌}
use Rattle.std.proofs.lemmas.Int.{ints}
use Rattle.std.proofs.lemmas.List.Sums.{sum_by-append, sum_by-cons}
use Rattle.cube_model.specs.Answer.{total_by}
use Rattle.cube_model.proofs.Totals.{total_by-append}
use Rattle.world_law.proofs.Products.{scaled-none, sum-scaled}

pub total_by-flat_map : {X Y : Type 0} (f : Y → ℤ) (g : X → List Y) (xs : List X) → total_by f (flat_map g xs) ≡ total_by (λ x. total_by f (g x)) xs
total_by-flat_map f g [] = refl
total_by-flat_map f g (x ∷ xs) = total_by-append f (g x) (flat_map g xs) ∙ ap (λ z. total_by f (g x) +ℤ z) (total_by-flat_map f g xs)

-- numbers that agree have one sum
pub total_by-alike : {X : Type 0} (f g : X → ℤ) (xs : List X) → ((x : X) → f x ≡ g x) → total_by f xs ≡ total_by g xs
total_by-alike f g [] each = refl
total_by-alike f g (x ∷ xs) each = rw (each x, total_by-alike f g xs each) refl

pub total_by-scaled : {X : Type 0} (f : X → ℤ) (n : ℕ) (xs : List X) → total_by (λ x. f x *ℤ pos n) xs ≡ total_by f xs *ℤ pos n
total_by-scaled f n [] = sym (scaled-none n)
total_by-scaled f n (x ∷ xs) = ap (λ z. f x *ℤ pos n +ℤ z) (total_by-scaled f n xs) ∙ sym (sum-scaled (f x) (total_by f xs) n)

pub sum_by-flat_map : {X Y : Type 0} (f : Y → ℕ) (g : X → List Y) (xs : List X) → sum_by f (flat_map g xs) ≡ sum_by (λ x. sum_by f (g x)) xs
sum_by-flat_map f g [] = refl
sum_by-flat_map f g (x ∷ xs) =
    omega (arith, sum_by-append f (g x) (flat_map g xs), sum_by-flat_map f g xs, sum_by-cons (λ y. sum_by f (g y)) x xs)
