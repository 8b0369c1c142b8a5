-- The places of keys by their numbers.
use Rattle.std.proofs.Common.{◌≡◌, ℕ, zero, suc, true, [], ◌∷◌, ◌<◌, length, get_or, Option, Some, None, is_some, unwrap_or, eqb, ap, refl, sym, subst, ◌∙◌, arith, true≢false}
use Rattle.std.proofs.lemmas.Bool.Decides.{nat_tests}
use Rattle.std.proofs.lemmas.Map.Entries.{lookup_from_place}
use Rattle.std.proofs.lemmas.Map.Made.{lookup_key_passes}
use Rattle.std.proofs.lemmas.Option.{slice_get_within}
use Rattle.std.specs.Prelude.{IfSome}
use Rattle.std.specs.Cmp.{nat_eq_equiv}
use Rattle.std.specs.List.{IsDistinct, slice_get}
use Rattle.std.specs.Map.{keys_of, lookup_key, values_of}
use Rattle.std.specs.Option.{option_and_then, option_flatten, option_map}
use Rattle.staged_map.specs.Staged.{Entries, Places, has_place, key_of_place, key_place, held_of, place_of, value_at}

module _ {V : Type 0} where
  -- the key of a place
  key_of-slice : (places : Places V) (i : ℕ) → unwrap_or (option_map (λ place. place.0) (slice_get places i)) 0 ≡ key_of_place places i
  key_of-slice [] zero = refl
  key_of-slice [] (suc i) = refl
  key_of-slice (place ∷ places) zero = refl
  key_of-slice (place ∷ places) (suc i) = key_of-slice places i

  -- a place that has a value in the list of values has it with its key
  pub slice-place : (places : Places V) (i : ℕ) (value : Option V) → slice_get (values_of places) i ≡ Some value → slice_get places i ≡ Some (key_of_place places i, value)
  slice-place [] zero value is = absurd (grind (arith, is))
  slice-place [] (suc i) value is = absurd (grind (arith, is))
  slice-place (place ∷ places) zero value is = ap (option_map (λ held. (place.0, held))) is
  slice-place (place ∷ places) (suc i) value is = slice-place places i value is

  -- and its key has it
  pub key_place-at : (places : Places V) (i : ℕ) (value : Option V) → IsDistinct eqb (keys_of places) → slice_get (values_of places) i ≡ Some value → key_place places (key_of_place places i) ≡ Some value
  key_place-at places i value distinct is = lookup_from_place nat_eq_equiv places i (key_of_place places i) value distinct (slice-place places i value is)

  -- the place that a search found is the key's
  pub place-searched : (places : Places V) (key i k : ℕ) (value : Option V) → slice_get places i ≡ Some (k, value) → Some k ≡ lookup_key (eqb key) places → Some value ≡ key_place places key
      → slice_get places i ≡ place_of places key
  place-searched places key i k value at found holds =
      let same : eqb key k ≡ true = lookup_key_passes (eqb key) places k (sym found) in
      let is : k ≡ key = grind (arith, nat_tests, same) in
      at ∙ ap (λ n. Some (n, value)) is ∙ ap (option_map (λ held. (key, held))) holds

  -- a key that has a place has it at its number
  pub found-at : (places : Places V) (key i : ℕ) (value : Option V) → key_place places key ≡ Some value → slice_get places i ≡ place_of places key → slice_get places i ≡ Some (key, value)
  found-at places key i value there at = at ∙ ap (option_map (λ held. (key, held))) there

  pub found-key : (places : Places V) (key i : ℕ) → has_place places key ≡ true → slice_get places i ≡ place_of places key → key_of_place places i ≡ key
  found-key places key i there at = by (key_place places key) refl
    where
      by : (place : Option (Option V)) → key_place places key ≡ place → key_of_place places i ≡ key
      by None is = absurd (true≢false (sym there ∙ ap is_some is))
      by (Some value) is = sym (key_of-slice places i) ∙ ap (λ place. unwrap_or (option_map (λ entry. entry.0) place) 0) (found-at places key i value is at)

  pub found-key-some : (places : Places V) (key i : ℕ) (found : Option ℕ) → found ≡ Some i → IfSome found (λ n. slice_get places n ≡ place_of places key) → has_place places key ≡ true → key_of_place places i ≡ key
  found-key-some places key i found is at there = found-key places key i there (subst (λ n. IfSome n (λ m. slice_get places m ≡ place_of places key)) is at)

  pub found-within : (places : Places V) (key i : ℕ) → has_place places key ≡ true → slice_get places i ≡ place_of places key → i < length places
  found-within places key i there at = by (key_place places key) refl
    where
      by : (place : Option (Option V)) → key_place places key ≡ place → i < length places
      by None is = absurd (true≢false (sym there ∙ ap is_some is))
      by (Some value) is = slice_get_within places i (key, value) (found-at places key i value is at)

  -- the key of an entry in a list of them
  pub key-of-item : (entries : Entries V) (i : ℕ) (item : ℕ × Option V) → item ≡ get_or entries i item → i < length entries → get_or (keys_of entries) i 0 ≡ item.0
  key-of-item [] i item is within = absurd (omega (arith, within))
  key-of-item (entry ∷ entries) zero item is within = ap (λ (e : ℕ × Option V). e.0) (sym is)
  key-of-item (entry ∷ entries) (suc i) item is within = key-of-item entries i item is (omega (arith, within))

module _ {V : Type 0} (code : ℕ) (value : V) where
  -- what a walk meets is a place that has a value
  held-place : (place : Option (ℕ × Option V)) → Some (code, value) ≡ option_and_then held_of place → place ≡ Some (code, Some value)
  held-place None is = absurd (grind (arith, is))
  held-place (Some (k, None)) is = absurd (grind (arith, is))
  held-place (Some (k, Some held)) is = ap (λ (entry : Option (ℕ × V)). option_map (λ e. (e.0, Some e.1)) entry) (sym is)

  module _ (places : Places V) (i : ℕ) (is : Some (code, value) ≡ option_and_then held_of (slice_get places i)) where
    -- its key is that of the place
    pub key-met : key_of_place places i ≡ code
    key-met = sym (key_of-slice places i) ∙ ap (λ (place : Option (ℕ × Option V)). unwrap_or (option_map (λ entry. entry.0) place) 0) (held-place (slice_get places i) is)

    -- and has the value
    pub value-met : IsDistinct eqb (keys_of places) → value_at places code ≡ Some value
    value-met distinct = ap option_flatten (lookup_from_place nat_eq_equiv places i code (Some value) distinct (held-place (slice_get places i) is))

-- where a walk meets nothing the place's key has no value
pub nothing-met : {V : Type 0} (places : Places V) (i : ℕ) → i < length places → IsDistinct eqb (keys_of places) → None ≡ option_and_then held_of (slice_get places i)
    → value_at places (key_of_place places i) ≡ None
nothing-met {V} places i within distinct is = by (slice_get places i) refl is
  where
    some : (places : Places V) (i : ℕ) → i < length places → slice_get places i ≡ None → ⊥
    some [] i within none = omega (arith, within)
    some (place ∷ places) zero within none = grind (arith, none)
    some (place ∷ places) (suc i) within none = some places i (omega (arith, within)) none

    by : (place : Option (ℕ × Option V)) → slice_get places i ≡ place → None ≡ option_and_then held_of place → value_at places (key_of_place places i) ≡ None
    by None at is = absurd (some places i within at)
    by (Some (k, Some held)) at is = absurd (grind (arith, is))
    by (Some (k, None)) at is =
        let key : key_of_place places i ≡ k = sym (key_of-slice places i) ∙ ap (λ (place : Option (ℕ × Option V)). unwrap_or (option_map (λ entry. entry.0) place) 0) at in
        ap (value_at places) key ∙ ap option_flatten (lookup_from_place nat_eq_equiv places i k None distinct at)
