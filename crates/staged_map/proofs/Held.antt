-- The keys that have a value, as a walk over the places meets them.
use Rattle.std.proofs.Common.{◌≡◌, ℕ, zero, suc, false, List, [], ◌∷◌, ◌++◌, ◌+◌, take, Option, Some, None, eqb, ap, refl, sym, ◌∙◌, arith}
use Rattle.std.proofs.lemmas.Grind.{common_steps}
use Rattle.std.proofs.lemmas.Bool.Decides.{nat_tests}
use Rattle.std.proofs.lemmas.Map.Keys.{IsDistinct-cons, IsDistinct-head, IsDistinct-tail}
use Rattle.std.specs.List.{AllByRecursion, IsDistinct, cons_option, filter_map, slice_get}
use Rattle.std.specs.Map.{keys_of, lookup}
use Rattle.std.specs.Option.{option_and_then, option_to_list}
use Rattle.staged_map.specs.Staged.{Places, held, held_of, key_place, value_at}

module _ {X Y : Type 0} (h : X → Option Y) where
  -- what one element more adds to those that a rule picks
  picked-suc : (xs : List X) (i : ℕ) → filter_map h (take (suc i) xs) ≡ filter_map h (take i xs) ++ option_to_list (option_and_then h (slice_get xs i))
  picked-suc [] zero = refl
  picked-suc [] (suc i) = refl
  picked-suc (x ∷ xs) zero = first (h x)
    where
      first : (y : Option Y) → cons_option y [] ≡ option_to_list y
      first None = refl
      first (Some y) = refl
  picked-suc (x ∷ xs) (suc i) = ap (cons_option (h x)) (picked-suc xs i) ∙ onto (h x) _ _
    where
      onto : (y : Option Y) (front back : List Y) → cons_option y (front ++ back) ≡ cons_option y front ++ back
      onto None front back = refl
      onto (Some y) front back = refl

-- what one place more adds to the keys that a walk met
pub held-next : {V : Type 0} (places : Places V) (i : ℕ) (entry : Option (ℕ × V)) → entry ≡ option_and_then held_of (slice_get places i)
    → held (take (i + 1) places) ≡ held (take i places) ++ option_to_list entry
held-next places i entry is =
    let on : i + 1 ≡ suc i = omega arith in
    ap (λ n. held (take n places)) on ∙ picked-suc held_of places i ∙ ap (λ e. held (take i places) ++ option_to_list e) (sym is)

-- a key that all places have apart from it is apart from those that have a value
apart-held : {V : Type 0} (key : ℕ) (places : Places V) → AllByRecursion (λ k. eqb key k ≡ false) (keys_of places) → AllByRecursion (λ k. eqb key k ≡ false) (keys_of (held places))
apart-held key [] apart = apart
apart-held key ((k, None) ∷ places) apart = apart-held key places apart.1
apart-held key ((k, Some value) ∷ places) apart = (apart.0, apart-held key places apart.1)

-- no key is met twice
pub IsDistinct-held : {V : Type 0} (places : Places V) → IsDistinct eqb (keys_of places) → IsDistinct eqb (keys_of (held places))
IsDistinct-held [] distinct = distinct
IsDistinct-held ((k, None) ∷ places) distinct = IsDistinct-held places (IsDistinct-tail eqb k (keys_of places) distinct)
IsDistinct-held ((k, Some value) ∷ places) distinct =
    IsDistinct-cons eqb k (keys_of (held places))
    (apart-held k places (IsDistinct-head eqb k (keys_of places) distinct))
    (IsDistinct-held places (IsDistinct-tail eqb k (keys_of places) distinct))

-- a key that is apart from those of all places has no value
value_at-apart : {V : Type 0} (key : ℕ) (places : Places V) → AllByRecursion (λ k. eqb key k ≡ false) (keys_of places) → key_place places key ≡ None
value_at-apart key [] apart = refl
value_at-apart key (place ∷ places) apart = grind (arith, common_steps, apart.0, value_at-apart key places apart.1)

-- and each that has a value is met with it
pub lookup-held : {V : Type 0} (places : Places V) (key : ℕ) → IsDistinct eqb (keys_of places) → lookup (λ k. eqb key k) (held places) ≡ value_at places key
lookup-held [] key distinct = refl
lookup-held ((k, Some value) ∷ places) key distinct =
    grind (arith, common_steps, lookup-held places key (IsDistinct-tail eqb k (keys_of places) distinct))
lookup-held ((k, None) ∷ places) key distinct =
    let gone : key_place places k ≡ None = value_at-apart k places (IsDistinct-head eqb k (keys_of places) distinct) in
    grind (arith, common_steps, nat_tests, gone, lookup-held places key (IsDistinct-tail eqb k (keys_of places) distinct))
