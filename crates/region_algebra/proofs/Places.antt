-- Reads and writes at the next place of a list.
use Rattle.std.proofs.Common.{◌≡◌, ℕ, zero, suc, ◌+◌, ◌*◌, ◌<◌, ◌≤◌, List, [], ◌∷◌, ◌++◌, length, map, take, drop, get_or, set, sym, ap, ◌∙◌, arith}
use Rattle.std.specs.Prelude.{All}
use Rattle.std.proofs.lemmas.List.{map-append, take_more, take_more_set, drop_more}
use Rattle.std.proofs.lemmas.Grind.{elements}
use Rattle.std.proofs.lemmas.Nat.{mul-le}
use Rattle.cube_model.specs.Limits.{SPACE_LIMIT}
use Rattle.region_algebra.specs.Space.{product}

-- what is written at the next place is of the item read there
pub map_next : {X : Type 0} (f : X → ℕ) (xs : List X) (ys : List ℕ) (d n : ℕ) (x : X) (y : ℕ) → length ys ≡ n → d < n → d < length xs → x ≡ get_or xs d x → y ≡ f x → take d ys ≡ map f (take d xs) → take (d + 1) (set ys d y) ≡ map f (take (d + 1) xs)
map_next f xs ys d n x y room few within read is before =
    let wrote : take (d + 1) (set ys d y) ≡ take d ys ++ y ∷ [] = take_more_set ys d y (omega arith) in
    let taken : take (d + 1) xs ≡ take d xs ++ x ∷ [] = take_more xs d x within ∙ ap (λ z. take d xs ++ z ∷ []) (sym read) in
    wrote ∙ rw (before, is, taken) (sym (map-append f (take d xs) (x ∷ [])))

pub all_next : {X : Type 0} (P : X → Type 0) (xs : List X) (d : ℕ) (x : X) → d < length xs → x ≡ get_or xs d x → P x → All P (take d xs) → All P (take (d + 1) xs)
all_next P xs d x within read holds before = λ k e h. grind (arith, elements, before k e)

pub product-drop : (sizes : List ℕ) (d : ℕ) → All (λ size. 1 ≤ size) sizes → product (drop d sizes) ≤ product sizes
product-drop sizes zero some = omega arith
product-drop [] (suc d) some = omega arith
product-drop (size ∷ sizes) (suc d) some =
    let rest : product (drop d sizes) ≤ product sizes = product-drop sizes d (λ k e h. some (suc k) e (omega arith)) in
    let first : 1 ≤ size = some 0 0 (omega arith) in
    omega (arith, rest, mul-le 1 (product sizes) size (product sizes) first (omega arith))

pub product_more : (sizes : List ℕ) (d e : ℕ) (default : ℕ) → d < length sizes → e ≡ d + 1 → product (drop d sizes) ≡ get_or sizes d default * product (drop e sizes)
product_more sizes d e default within is = rw is (ap product (drop_more sizes d default within))

-- a product over the last numbers that reaches the limit takes that over all there
pub product_over : (sizes : List ℕ) (d e : ℕ) (default n : ℕ) → All (λ size. 1 ≤ size) sizes → d < length sizes → e ≡ d + 1 → n ≡ product (drop e sizes) → SPACE_LIMIT ≤ get_or sizes d default * n → SPACE_LIMIT ≤ product sizes
product_over sizes d e default n some within is total over =
    let more : product (drop d sizes) ≡ get_or sizes d default * n = product_more sizes d e default within is ∙ ap (λ m. get_or sizes d default * m) (sym total) in
    omega (arith, product-drop sizes d some, more, over)
