-- What is counted over two lists, of what passes by one of either.
use Rattle.std.proofs.Common.{◌≡◌, ◌+◌, ◌≤◌, Bool, true, false, List, [], ◌∷◌, refl, arith}
use Rattle.std.specs.Prelude.{All, ◌||◌, if◌then◌else◌}
use Rattle.std.specs.List.{count_by, list_any, sum_by}
use Rattle.std.proofs.lemmas.List.Elements.{All-head, All-tail}
use Rattle.std.proofs.lemmas.List.Sums.{sum_by-cons}

-- where none passes none is counted, and where some does one is at least
pub none-counted : {X : Type 0} (p : X → Bool) (xs : List X) → list_any p xs ≡ false → count_by p xs ≤ 0
none-counted p [] none = omega arith
none-counted {X} p (x ∷ xs) none = either (p x) none (none-counted p xs) (sum_by-cons (λ (x : X). if p x then 1 else 0) x xs)
  where
    either : (b : Bool) → (b || list_any p xs) ≡ false → (list_any p xs ≡ false → count_by p xs ≤ 0) → count_by p (x ∷ xs) ≡ (if b then 1 else 0) + count_by p xs → count_by p (x ∷ xs) ≤ 0
    either true none rest step = cc
    either false none rest step = omega (arith, rest none, step)

pub some-counted : {X : Type 0} (p : X → Bool) (xs : List X) → list_any p xs ≡ true → 1 ≤ count_by p xs
some-counted p [] some = cc
some-counted {X} p (x ∷ xs) some = either (p x) some (some-counted p xs) (sum_by-cons (λ (x : X). if p x then 1 else 0) x xs)
  where
    either : (b : Bool) → (b || list_any p xs) ≡ true → (list_any p xs ≡ true → 1 ≤ count_by p xs) → count_by p (x ∷ xs) ≡ (if b then 1 else 0) + count_by p xs → 1 ≤ count_by p (x ∷ xs)
    either true some rest step = omega (arith, step)
    either false some rest step = omega (arith, rest some, step)

-- what follows from each item that passes follows where some does
pub from-some : {X : Type 0} (Q : X → Type 0) (B : Type 0) (p : X → Bool) (xs : List X) → All Q xs → list_any p xs ≡ true → ((x : X) → Q x → p x ≡ true → B) → B
from-some Q B p [] each some gives = absurd (never some)
  where
    never : false ≡ true → ⊥
    never is = cc
from-some Q B p (x ∷ xs) each some gives = either (p x) refl some (λ any. from-some Q B p xs (All-tail Q x xs each) any gives)
  where
    either : (b : Bool) → p x ≡ b → (b || list_any p xs) ≡ true → (list_any p xs ≡ true → B) → B
    either true is any rest = gives x (All-head Q x xs each) is
    either false is any rest = rest any

module _ {K L X : Type 0} (p : K → X → Bool) (q : L → X → Bool) (keys : List K) (others : List L) where
  -- one item more
  one_more : {M : Type 0} (r : M → X → Bool) (ms : List M) (x : X) (xs : List X)
      → sum_by (λ m. count_by (r m) (x ∷ xs)) ms ≡ count_by (λ m. r m x) ms + sum_by (λ m. count_by (r m) xs) ms
  one_more r [] x xs = omega arith
  one_more {M} r (m ∷ ms) x xs =
      omega (
        arith,
        sum_by-cons (λ (m : M). count_by (r m) (x ∷ xs)) m ms,
        sum_by-cons (λ (m : M). if r m x then 1 else 0) m ms,
        sum_by-cons (λ (m : M). count_by (r m) xs) m ms,
        sum_by-cons (λ (x : X). if r m x then 1 else 0) x xs,
        one_more r ms x xs,
      )

  nothing : (ks : List K) → sum_by (λ k. 0) ks ≤ 0
  nothing [] = omega arith
  nothing (k ∷ ks) = omega (arith, nothing ks, sum_by-cons (λ (k : K). 0) k ks)

  -- where no item passes by more of the one than of the other, neither do they all
  pub sums-le : (xs : List X) → All (λ x. count_by (λ k. p k x) keys ≤ count_by (λ l. q l x) others) xs → sum_by (λ k. count_by (p k) xs) keys ≤ sum_by (λ l. count_by (q l) xs) others
  sums-le [] each = omega (arith, nothing keys)
  sums-le (x ∷ xs) each =
      omega (
        arith,
        one_more p keys x xs,
        one_more q others x xs,
        All-head (λ x. count_by (λ k. p k x) keys ≤ count_by (λ l. q l x) others) x xs each,
        sums-le xs (All-tail (λ x. count_by (λ k. p k x) keys ≤ count_by (λ l. q l x) others) x xs each),
      )
