-- Where each item is held by exactly one of the keys, sums over items are sums over keys.
use Rattle.std.proofs.Common.{◌≡◌, ℕ, ◌+◌, ◌*◌, Bool, true, false, List, [], ◌∷◌, ◌++◌, get_or, length, refl, ap, sym, ◌∙◌, arith, ℤ, pos, ◌+ℤ◌, ◌*ℤ◌}
use Rattle.std.specs.Prelude.{All, filter, if◌then◌else◌}
use Rattle.std.specs.List.{count_by, sum_by}
use Rattle.std.proofs.lemmas.Int.{ints}
use Rattle.std.proofs.lemmas.List.Elements.{All-head, All-tail}
use Rattle.std.proofs.lemmas.List.Sums.{sum_by-cons}
use Rattle.cube_model.specs.Answer.{total_by}
use Rattle.cube_model.proofs.Products.{times-sum}
use Rattle.cube_model.proofs.Totals.{total_by-either, total_by-nothing, total_by-same}
use Rattle.fact_groups.specs.Partition.{IsPartition, held_by}

-- of what passes a test, the sum has each number once
pub sum_by-either : {X : Type 0} (b : Bool) (f : X → ℕ) (x : X) (xs : List X) → sum_by f (if b then x ∷ xs else xs) ≡ (if b then f x else 0) + sum_by f xs
sum_by-either true f x xs = sum_by-cons f x xs
sum_by-either false f x xs = omega arith

pub sum_by-filter : {X : Type 0} (p : X → Bool) (f : X → ℕ) (xs : List X) → sum_by f (filter p xs) ≡ sum_by (λ x. if p x then f x else 0) xs
sum_by-filter p f [] = refl
sum_by-filter p f (x ∷ xs) = omega (arith, sum_by-either (p x) f x (filter p xs), sum_by-filter p f xs, sum_by-cons (λ x. if p x then f x else 0) x xs)

pub total_by-filter : {X : Type 0} (p : X → Bool) (f : X → ℤ) (xs : List X) → total_by f (filter p xs) ≡ total_by (λ x. if p x then f x else pos 0) xs
total_by-filter p f [] = refl
total_by-filter p f (x ∷ xs) = total_by-either (p x) f x (filter p xs) ∙ ap (λ z. (if p x then f x else pos 0) +ℤ z) (total_by-filter p f xs)

-- sums of nothing
sum_by-nothing : {X : Type 0} (xs : List X) → sum_by (λ x. 0) xs ≡ 0
sum_by-nothing [] = refl
sum_by-nothing (x ∷ xs) = omega (arith, sum_by-cons (λ x. 0) x xs, sum_by-nothing xs)

-- a number as often as a test passes, and once where it passes once
scaled-if : (b : Bool) (v n : ℕ) → (if b then v else 0) + n * v ≡ ((if b then 1 else 0) + n) * v
scaled-if true v n = omega arith
scaled-if false v n = omega arith

sum_by-if : {K : Type 0} (q : K → Bool) (v : ℕ) (keys : List K) → sum_by (λ k. if q k then v else 0) keys ≡ count_by q keys * v
sum_by-if q v [] = omega arith
sum_by-if q v (k ∷ keys) =
    sum_by-cons (λ k. if q k then v else 0) k keys ∙ ap (λ n. (if q k then v else 0) + n) (sum_by-if q v keys) ∙ scaled-if (q k) v (count_by q keys)
    ∙ ap (λ n. n * v) (sym (sum_by-cons (λ k. if q k then 1 else 0) k keys))

sum_by-once : {K : Type 0} (q : K → Bool) (v : ℕ) (keys : List K) → count_by q keys ≡ 1 → sum_by (λ k. if q k then v else 0) keys ≡ v
sum_by-once q v keys once = sum_by-if q v keys ∙ ap (λ n. n * v) once ∙ omega arith

total_by-never : {K : Type 0} (q : K → Bool) (z : ℤ) (keys : List K) → count_by q keys ≡ 0 → total_by (λ k. if q k then z else pos 0) keys ≡ pos 0
total_by-never q z [] never = refl
total_by-never q z (k ∷ keys) never = either (q k) (sym (sum_by-cons (λ k. if q k then 1 else 0) k keys) ∙ never) (total_by-never q z keys)
  where
    either : (b : Bool) → (if b then 1 else 0) + count_by q keys ≡ 0 → (count_by q keys ≡ 0 → total_by (λ k. if q k then z else pos 0) keys ≡ pos 0)
        → (if b then z else pos 0) +ℤ total_by (λ k. if q k then z else pos 0) keys ≡ pos 0
    either true none rest = absurd (omega (arith, none))
    either false none rest = let others = rest (omega (arith, none)) in omega (arith, ints, others)

total_by-once : {K : Type 0} (q : K → Bool) (z : ℤ) (keys : List K) → count_by q keys ≡ 1 → total_by (λ k. if q k then z else pos 0) keys ≡ z
total_by-once q z [] once = absurd (omega (arith, once))
total_by-once q z (k ∷ keys) once = either (q k) (sym (sum_by-cons (λ k. if q k then 1 else 0) k keys) ∙ once) (total_by-once q z keys)
  where
    either : (b : Bool) → (if b then 1 else 0) + count_by q keys ≡ 1 → (count_by q keys ≡ 1 → total_by (λ k. if q k then z else pos 0) keys ≡ z)
        → (if b then z else pos 0) +ℤ total_by (λ k. if q k then z else pos 0) keys ≡ z
    either true one rest = let others = total_by-never q z keys (omega (arith, one)) in omega (arith, ints, others)
    either false one rest = let others = rest (omega (arith, one)) in omega (arith, ints, others)

-- sums of equal numbers, and of ones
pub sum_by-alike : {X : Type 0} (f g : X → ℕ) (xs : List X) → ((x : X) → f x ≡ g x) → sum_by f xs ≡ sum_by g xs
sum_by-alike f g [] each = refl
sum_by-alike f g (x ∷ xs) each = omega (arith, sum_by-cons f x xs, sum_by-cons g x xs, each x, sum_by-alike f g xs each)

pub sum_by-ones : {X : Type 0} (xs : List X) → length xs ≡ sum_by (λ x. 1) xs
sum_by-ones [] = refl
sum_by-ones (x ∷ xs) = omega (arith, sum_by-cons (λ x. 1) x xs, sum_by-ones xs)

module _ {K X : Type 0} (holds : K → X → Bool) (keys : List K) where
  -- what the keys hold of one item more
  sum-held : (f : X → ℕ) (x : X) (xs : List X) (ks : List K)
      → sum_by (λ k. sum_by f (held_by holds k (x ∷ xs))) ks ≡ sum_by (λ k. if holds k x then f x else 0) ks + sum_by (λ k. sum_by f (held_by holds k xs)) ks
  sum-held f x xs [] = omega arith
  sum-held f x xs (k ∷ ks) =
      omega (
        arith,
        sum_by-cons (λ k. sum_by f (held_by holds k (x ∷ xs))) k ks,
        sum_by-cons (λ k. if holds k x then f x else 0) k ks,
        sum_by-cons (λ k. sum_by f (held_by holds k xs)) k ks,
        sum_by-either (holds k x) f x (held_by holds k xs),
        sum-held f x xs ks,
      )

  total-held : (f : X → ℤ) (x : X) (xs : List X) (ks : List K)
      → total_by (λ k. total_by f (held_by holds k (x ∷ xs))) ks ≡ total_by (λ k. if holds k x then f x else pos 0) ks +ℤ total_by (λ k. total_by f (held_by holds k xs)) ks
  total-held f x xs [] = refl
  total-held f x xs (k ∷ ks) =
      let here = total_by-either (holds k x) f x (held_by holds k xs) in
      let others = total-held f x xs ks in
      omega (arith, ints, here, others)

  pub sums_over_keys : (f : X → ℕ) (items : List X) → IsPartition holds keys items → sum_by f items ≡ sum_by (λ k. sum_by f (held_by holds k items)) keys
  sums_over_keys f [] each = sym (sum_by-nothing keys)
  sums_over_keys f (x ∷ items) each =
      omega (
        arith,
        sum_by-cons f x items,
        sum-held f x items keys,
        sum_by-once (λ k. holds k x) (f x) keys (All-head (λ x. count_by (λ k. holds k x) keys ≡ 1) x items each),
        sums_over_keys f items (All-tail (λ x. count_by (λ k. holds k x) keys ≡ 1) x items each),
      )

  pub totals_over_keys : (f : X → ℤ) (items : List X) → IsPartition holds keys items → total_by f items ≡ total_by (λ k. total_by f (held_by holds k items)) keys
  totals_over_keys f [] each = sym (total_by-nothing keys)
  totals_over_keys f (x ∷ items) each =
      let all = total-held f x items keys in
      let here = total_by-once (λ k. holds k x) (f x) keys (All-head (λ x. count_by (λ k. holds k x) keys ≡ 1) x items each) in
      let others = totals_over_keys f items (All-tail (λ x. count_by (λ k. holds k x) keys ≡ 1) x items each) in
      omega (arith, ints, all, here, others)

  -- the items of a key, where what is summed depends on the key alone
  value-held : (f : X → ℕ) (value : ℕ) (k : K) (items : List X) → All (λ x. holds k x ≡ true → f x ≡ value) items → sum_by f (held_by holds k items) ≡ length (held_by holds k items) * value
  value-held f value k [] each = omega arith
  value-held f value k (x ∷ items) each =
      either (holds k x) (All-head (λ x. holds k x ≡ true → f x ≡ value) x items each) (value-held f value k items (All-tail (λ x. holds k x ≡ true → f x ≡ value) x items each))
    where
      either : (b : Bool) → (b ≡ true → f x ≡ value) → sum_by f (held_by holds k items) ≡ length (held_by holds k items) * value
          → sum_by f (if b then x ∷ held_by holds k items else held_by holds k items) ≡ length (if b then x ∷ held_by holds k items else held_by holds k items) * value
      either true here rest = omega (arith, sum_by-cons f x (held_by holds k items), here refl, rest)
      either false here rest = rest

  -- or is a number of that key times one of the item
  shares-held : (f h : X → ℤ) (share : ℕ) (k : K) (items : List X) → All (λ x. holds k x ≡ true → f x ≡ h x *ℤ pos share) items
      → total_by f (held_by holds k items) ≡ total_by h (held_by holds k items) *ℤ pos share
  shares-held f h share k [] each = ap pos (omega arith)
  shares-held f h share k (x ∷ items) each =
      either (holds k x) (All-head (λ x. holds k x ≡ true → f x ≡ h x *ℤ pos share) x items each) (shares-held f h share k items (All-tail (λ x. holds k x ≡ true → f x ≡ h x *ℤ pos share) x items each))
    where
      either : (b : Bool) → (b ≡ true → f x ≡ h x *ℤ pos share) → total_by f (held_by holds k items) ≡ total_by h (held_by holds k items) *ℤ pos share
          → total_by f (if b then x ∷ held_by holds k items else held_by holds k items) ≡ total_by h (if b then x ∷ held_by holds k items else held_by holds k items) *ℤ pos share
      either true here rest = ap (λ z. z +ℤ total_by f (held_by holds k items)) (here refl) ∙ ap (λ z. h x *ℤ pos share +ℤ z) rest ∙ sym (times-sum (h x) (total_by h (held_by holds k items)) share)
      either false here rest = rest

  pub values_over_keys : (f : X → ℕ) (value : K → ℕ) (items : List X) → IsPartition holds keys items → All (λ x. (k : K) → holds k x ≡ true → f x ≡ value k) items
      → sum_by f items ≡ sum_by (λ k. length (held_by holds k items) * value k) keys
  values_over_keys f value items each alike =
      sums_over_keys f items each
      ∙ sum_by-alike (λ k. sum_by f (held_by holds k items)) (λ k. length (held_by holds k items) * value k) keys (λ k. value-held f (value k) k items (λ i d within. alike i d within k))

  pub shares_over_keys : (f h : X → ℤ) (share : K → ℕ) (items : List X) → IsPartition holds keys items → All (λ x. (k : K) → holds k x ≡ true → f x ≡ h x *ℤ pos (share k)) items
      → total_by f items ≡ total_by (λ k. total_by h (held_by holds k items) *ℤ pos (share k)) keys
  shares_over_keys f h share items each alike =
      totals_over_keys f items each
      ∙ total_by-same (λ k. total_by f (held_by holds k items)) (λ k. total_by h (held_by holds k items) *ℤ pos (share k)) keys (λ j e in_keys. shares-held f h (share (get_or keys j e)) (get_or keys j e) items (λ i d within. alike i d within (get_or keys j e)))

  pub counts_over_keys : (p : X → Bool) (items : List X) → IsPartition holds keys items → count_by p items ≡ sum_by (λ k. count_by p (held_by holds k items)) keys
  counts_over_keys p items each = sums_over_keys (λ x. if p x then 1 else 0) items each

  pub lengths_over_keys : (items : List X) → IsPartition holds keys items → length items ≡ sum_by (λ k. length (held_by holds k items)) keys
  lengths_over_keys items each =
      sum_by-ones items ∙ sums_over_keys (λ x. 1) items each ∙ sum_by-alike (λ k. sum_by (λ x. 1) (held_by holds k items)) (λ k. length (held_by holds k items)) keys (λ k. sym (sum_by-ones (held_by holds k items)))
