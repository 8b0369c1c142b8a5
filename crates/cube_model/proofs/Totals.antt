-- Laws of the sum of a whole number of each item.
use Rattle.std.proofs.Common.{◌≡◌, ℕ, Bool, true, false, List, [], ◌∷◌, ◌++◌, refl, sym, ap, ◌∙◌, arith, ℤ, pos, ◌+ℤ◌, ◌*ℤ◌}
use Rattle.std.specs.Prelude.{All, if◌then◌else◌}
use Rattle.std.proofs.lemmas.Int.{ints}
use Rattle.std.proofs.lemmas.List.Elements.{All-head, All-tail}
use Rattle.cube_model.specs.Answer.{total_by}
use Rattle.cube_model.proofs.Products.{times-sum}

-- sums over two lists in a row
pub total_by-append : {X : Type 0} (f : X → ℤ) (xs ys : List X) → total_by f (xs ++ ys) ≡ total_by f xs +ℤ total_by f ys
total_by-append f [] ys = omega (arith, ints)
total_by-append f (x ∷ xs) ys = let others = total_by-append f xs ys in omega (arith, ints, others)

-- with an item more where a test passes
pub total_by-either : {X : Type 0} (b : Bool) (f : X → ℤ) (x : X) (xs : List X) → total_by f (if b then x ∷ xs else xs) ≡ (if b then f x else pos 0) +ℤ total_by f xs
total_by-either true f x xs = refl
total_by-either false f x xs = omega (arith, ints)

-- equal numbers have equal sums
pub total_by-same : {X : Type 0} (f g : X → ℤ) (xs : List X) → All (λ x. f x ≡ g x) xs → total_by f xs ≡ total_by g xs
total_by-same f g [] same = omega (arith, ints)
total_by-same {X} f g (x ∷ xs) same =
    let P : X → Type 0 = λ x. f x ≡ g x in
    ap (λ z. z +ℤ total_by f xs) (All-head P x xs same) ∙ ap (λ z. g x +ℤ z) (total_by-same f g xs (All-tail P x xs same))

-- two numbers of each item
total_by-plus : {X : Type 0} (f g : X → ℤ) (xs : List X) → total_by f xs +ℤ total_by g xs ≡ total_by (λ x. f x +ℤ g x) xs
total_by-plus f g [] = omega (arith, ints)
total_by-plus f g (x ∷ xs) = turned (f x) (g x) (total_by f xs) (total_by g xs) ∙ ap (λ z. f x +ℤ g x +ℤ z) (total_by-plus f g xs)
  where
    turned : (a b c d : ℤ) → (a +ℤ c) +ℤ (b +ℤ d) ≡ (a +ℤ b) +ℤ (c +ℤ d)
    turned a b c d = omega (arith, ints)

-- a natural number of times the sum
pub total_by-times : {X : Type 0} (f : X → ℤ) (n : ℕ) (xs : List X) → total_by f xs *ℤ pos n ≡ total_by (λ x. f x *ℤ pos n) xs
total_by-times f n [] = ap pos (omega arith)
total_by-times f n (x ∷ xs) = times-sum (f x) (total_by f xs) n ∙ ap (λ z. f x *ℤ pos n +ℤ z) (total_by-times f n xs)

-- sums of nothing
pub total_by-nothing : {X : Type 0} (xs : List X) → total_by (λ x. pos 0) xs ≡ pos 0
total_by-nothing [] = refl
total_by-nothing (x ∷ xs) = let others = total_by-nothing xs in omega (arith, ints, others)

-- sums over two lists, in either order
pub total_by-total_by : {X Y : Type 0} (f : X → Y → ℤ) (xs : List X) (ys : List Y) → total_by (λ x. total_by (f x) ys) xs ≡ total_by (λ y. total_by (λ x. f x y) xs) ys
total_by-total_by f [] ys = sym (total_by-nothing ys)
total_by-total_by f (x ∷ xs) ys =
    ap (λ z. total_by (f x) ys +ℤ z) (total_by-total_by f xs ys) ∙ total_by-plus (f x) (λ y. total_by (λ x. f x y) xs) ys
