-- The numbers of a dimension's nodes: each is below their count and stands at its node's place, and what is said of numbers is said of places.
use Rattle.std.proofs.Common.{◌≡◌, ℕ, zero, suc, ◌<◌, Bool, true, false, List, [], ◌∷◌, length, map, get_or, refl, sym, ap, ◌∙◌, arith}
use Rattle.std.specs.Prelude.{filter, ◌&&◌, ◌==◌, Some, nat_lt, slice_get, if◌then◌else◌}
use Rattle.std.specs.Option.{option_map}
use Rattle.std.specs.List.{list_all}
use Rattle.std.proofs.lemmas.Bool.Decides.{nat_tests}
use Rattle.std.proofs.lemmas.List.{length-map}
use Rattle.std.proofs.lemmas.List.Quantifiers.{position-Some}
use Rattle.std.proofs.lemmas.Option.{slice_get-get_or, slice_get-map}
use Rattle.cube_model.specs.Tree.{Dimension, Entry, IsTree, is_under, leaves, numbers, place_of}
use Rattle.cube_model.specs.Cells.{leaf_places}
use Rattle.cube_model.specs.Cut.{children}
use Rattle.dim_tree.proofs.Climbing.{both}
use Rattle.dim_tree.proofs.Renumbering.{are_numbers, children-number_at, is_under-number_at, leaf_places-number_at, leaves-number_at, length-numbers, number_at, number_at-place_at, place_at, plain}

-- what is found among items that pass, passes
pub found-passes : {X : Type 0} (p : X → Bool) (xs : List X) (i : ℕ) (x : X) → list_all p xs ≡ true → slice_get xs i ≡ Some x → p x ≡ true
found-passes p [] i x each is = absurd (grind arith)
found-passes p (y ∷ ys) zero x each is =
    let same : y ≡ x = grind arith in
    ap p (sym same) ∙ (both (p y) (list_all p ys) each).0
found-passes p (y ∷ ys) (suc i) x each is = found-passes p ys i x (both (p y) (list_all p ys) each).1 is

all-if : (b : Bool) (f q : ℕ → Bool) (x : ℕ) (xs : List ℕ) → f x ≡ b → q x ≡ true → list_all (λ x. f x && q x) xs ≡ true → list_all (λ x. f x && q x) (if b then x ∷ xs else xs) ≡ true
all-if true f q x xs keeps passes rest = grind (arith, keeps, passes, rest)
all-if false f q x xs keeps passes rest = rest

-- those kept of items that pass one test pass both
pub all-filter : (f q : ℕ → Bool) (xs : List ℕ) → list_all q xs ≡ true → list_all (λ x. f x && q x) (filter f xs) ≡ true
all-filter f q [] each = refl
all-filter f q (x ∷ xs) each =
    let parts = both (q x) (list_all q xs) each in
    all-if (f x) f q x (filter f xs) refl parts.0 (all-filter f q xs parts.1)

abbrev pub is_below : ℕ → ℕ → Bool
is_below n x = nat_lt x n

-- the numbers of a dimension are below their count
pub numbers-below : (dim : Dimension) → IsTree dim → list_all (is_below (length dim)) (numbers dim) ≡ true
numbers-below dim tree = ap (λ n. list_all (is_below n) (numbers dim)) (sym (length-numbers dim)) ∙ (are_numbers dim tree).below

-- what stands among the numbers is a node's
pub number-within : (dim : Dimension) (i x : ℕ) → IsTree dim → slice_get (numbers dim) i ≡ Some x → x < length dim
number-within dim i x tree is =
    let below : is_below (length dim) x ≡ true = found-passes (is_below (length dim)) (numbers dim) i x (numbers-below dim tree) is in
    grind (arith, nat_tests, below)

-- the place of a number is where it stands
pub place_of-number : (dim : Dimension) (n i : ℕ) → place_of dim n ≡ Some i → (i < length dim) × (slice_get (numbers dim) i ≡ Some n)
place_of-number dim n i is =
    let entry : Entry = record { depth = 0; name = []; number = 0 } in
    let found = position-Some (λ (e : Entry). e.number == n) dim i entry is in
    let same : (get_or dim i entry).number ≡ n = grind (arith, nat_tests, found.1) in
    (found.0, slice_get-map (λ (e : Entry). e.number) dim i ∙ ap (option_map (λ (e : Entry). e.number)) (slice_get-get_or dim i entry found.0) ∙ ap Some same)

-- the number of the node at a place stands there
pub number-at : (dim : Dimension) (i x : ℕ) → option_map (λ e. e.number) (slice_get dim i) ≡ Some x → slice_get (numbers dim) i ≡ Some x
number-at dim i x is = slice_get-map (λ (e : Entry). e.number) dim i ∙ is

-- What is said of numbers, by the places of their nodes among the same nodes with their places as numbers.
module _ (dim : Dimension) (tree : IsTree dim) where
  pub is_under-plain : (x y : ℕ) → is_under dim x y ≡ is_under (plain dim) (place_at dim x) (place_at dim y)
  is_under-plain x y =
      let named = number_at-place_at dim (are_numbers dim tree) in
      ap (λ n. is_under dim n y) (sym (named x)) ∙ ap (is_under dim (number_at dim (place_at dim x))) (sym (named y)) ∙ is_under-number_at dim (are_numbers dim tree) (place_at dim x) (place_at dim y)

  pub length-leaves_plain : length (leaves dim) ≡ length (leaves (plain dim))
  length-leaves_plain = ap length (leaves-number_at dim (are_numbers dim tree)) ∙ length-map (leaves (plain dim)) (number_at dim)

  pub leaf_places-plain : (x : ℕ) → leaf_places dim x ≡ leaf_places (plain dim) (place_at dim x)
  leaf_places-plain x = ap (leaf_places dim) (sym (number_at-place_at dim (are_numbers dim tree) x)) ∙ leaf_places-number_at dim (are_numbers dim tree) (place_at dim x)

  pub children-plain : (x : ℕ) → children dim x ≡ map (number_at dim) (children (plain dim) (place_at dim x))
  children-plain x = ap (children dim) (sym (number_at-place_at dim (are_numbers dim tree) x)) ∙ children-number_at dim (are_numbers dim tree) (place_at dim x)
