-- That each key that has a place has a note, as places and notes change.
use Rattle.std.proofs.Common.{◌≡◌, ℕ, zero, suc, Bool, true, false, cond, List, [], ◌∷◌, ◌||◌, ◌+◌, take, length, slice_get, Option, Some, None, is_some, eqb, ap, refl, sym, subst, ◌∙◌, arith, true≢false}
use Rattle.std.proofs.lemmas.Bool.Decides.{nat_tests}
use Rattle.std.proofs.lemmas.Grind.{common_steps}
use Rattle.std.proofs.lemmas.Map.Made.{is_some-lookup}
use Rattle.std.specs.List.{list_any}
use Rattle.std.specs.Map.{keys_of}
use Rattle.staged_map.specs.Hints.{AreNoted, KeepsNotes, may_have}
use Rattle.staged_map.specs.Staged.{Places, has_place, key_place}

module _ {V : Type 0} (slots : List ℕ) (old new : Places V) where
  -- places of the same keys
  pub AreNoted-keys : keys_of new ≡ keys_of old → AreNoted slots old → AreNoted slots new
  AreNoted-keys same noted key there =
      noted key (is_some-lookup (eqb key) old ∙ ap (list_any (eqb key)) (sym same) ∙ sym (is_some-lookup (eqb key) new) ∙ there)

  -- without one of the keys
  pub AreNoted-removed : (gone : ℕ) → ((k : ℕ) → key_place new k ≡ cond (eqb gone k) None (key_place old k)) → AreNoted slots old → AreNoted slots new
  AreNoted-removed gone removes noted key there = noted key (fewer (eqb gone key) refl)
    where
      fewer : (same : Bool) → eqb gone key ≡ same → has_place old key ≡ true
      fewer true is = absurd (grind (arith, common_steps, is, there, removes key))
      fewer false is = grind (arith, common_steps, is, there, removes key)

or_false : (a b : Bool) → b ≡ false → (a || b) ≡ true → a ≡ true
or_false true b is holds = refl
or_false false b is holds = absurd (true≢false (sym holds ∙ is))

module _ {V : Type 0} where
  -- after more notes
  pub AreNoted-kept : (before after : List ℕ) (places : Places V) → KeepsNotes before after → AreNoted before places → AreNoted after places
  AreNoted-kept before after places keeps noted key there = keeps key (noted key there)

  -- with a key more, of which there is a note
  pub AreNoted-added : (before after : List ℕ) (old new : Places V) (added : ℕ) (value : Option V) → ((k : ℕ) → key_place new k ≡ cond (eqb added k) (Some value) (key_place old k))
      → KeepsNotes before after → may_have after added ≡ true → AreNoted before old → AreNoted after new
  AreNoted-added before after old new added value adds keeps own noted key there = by (eqb added key) refl
    where
      by : (same : Bool) → eqb added key ≡ same → may_have after key ≡ true
      by true is = subst (λ k. may_have after k ≡ true) (grind (arith, nat_tests, is)) own
      by false is = keeps key (noted key (grind (arith, common_steps, is, there, adds key)))

  -- the places before one, with it
  has_place-more : (places : Places V) (i k key : ℕ) (value : Option V) → slice_get places i ≡ Some (key, value) → has_place (take (suc i) places) k ≡ (has_place (take i places) k || eqb k key)
  has_place-more [] i k key value is = absurd (grind (arith, is))
  has_place-more (place ∷ places) zero k key value is = grind (arith, common_steps, is)
  has_place-more (place ∷ places) (suc i) k key value is = grind (arith, common_steps, has_place-more places i k key value is)

  pub AreNoted-more : (before after : List ℕ) (places : Places V) (i key : ℕ) (value : Option V) → slice_get places i ≡ Some (key, value)
      → KeepsNotes before after → may_have after key ≡ true → AreNoted before (take i places) → AreNoted after (take (suc i) places)
  AreNoted-more before after places i key value is keeps own noted k there = by (eqb k key) refl
    where
      by : (same : Bool) → eqb k key ≡ same → may_have after k ≡ true
      by true same =
          let is : k ≡ key = grind (arith, nat_tests, same) in
          subst (λ n. may_have after n ≡ true) (sym is) own
      by false same = keeps k (noted k (or_false (has_place (take i places) k) (eqb k key) same (sym (has_place-more places i k key value is) ∙ there)))
