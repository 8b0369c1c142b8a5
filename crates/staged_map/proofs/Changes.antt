-- What a write at a key does to a map in which keys have places.
use Rattle.std.proofs.Common.{◌≡◌, ℕ, true, false, cond, List, [], ◌∷◌, ◌||◌, ◌+◌, ◌<◌, take, drop, get_or, length, Option, Some, None, is_some, eqb, ap, sym, subst, ◌∙◌, arith}
use Rattle.std.proofs.lemmas.Bool.{or_left}
use Rattle.std.proofs.lemmas.Grind.{common_steps}
use Rattle.std.proofs.lemmas.List.{take-append-drop, take_more}
use Rattle.std.proofs.lemmas.List.Folds.{list_any-append}
use Rattle.std.specs.Cmp.{nat_eq_equiv}
use Rattle.std.specs.List.{All, list_any}
use Rattle.staged_map.specs.Lends.{Stays}
use Rattle.staged_map.specs.Staged.{Places, Reserves, ReservesSome, Sets, has_place, key_of_place, key_place}

module _ {V : Type 0} (old new : Places V) (key : ℕ) where
  -- a key that has a place gets a value
  pub Sets-written : (value : V) → has_place old key ≡ true
      → ((k : ℕ) → key_place new k ≡ cond (eqb key k) (Some (Some value)) (key_place old k))
      → Sets old new key value
  Sets-written value there writes = record {
    values = λ k. grind (arith, common_steps, writes k);
    places = λ k. grind (arith, common_steps, there, writes k);
  }

  -- what is written at a key that has a place is its own value again, and all stays
  pub Stays-written : (value : Option V) → key_place old key ≡ Some value
      → ((k : ℕ) → key_place new k ≡ cond (eqb key k) (Some value) (key_place old k))
      → Stays old new
  Stays-written value there writes k = grind (arith, common_steps, there, writes k)

  -- a key that has no place gets one
  pub Reserves-new : has_place old key ≡ false
      → ((k : ℕ) → key_place new k ≡ cond (eqb key k) (Some None) (key_place old k))
      → Reserves old new (key ∷ [])
  Reserves-new absent writes = record {
    values = λ k. grind (arith, common_steps, absent, writes k);
    places = λ k. grind (arith, common_steps, absent, writes k, nat_eq_equiv.symm key k);
  }

module _ {V : Type 0} where
  -- the key of a place gets a value
  pub Sets-at : (places inside new : Places V) (i : ℕ) (held : Option V) (written : Option V) (value : V) → inside ≡ places → written ≡ Some value → key_place inside (key_of_place inside i) ≡ Some held
      → ((k : ℕ) → key_place new k ≡ cond (eqb (key_of_place inside i) k) (Some written) (key_place inside k)) → Sets places new (key_of_place places i) value
  Sets-at places inside new i held written value same is there writes =
      let sets : Sets inside new (key_of_place inside i) value = Sets-written inside new (key_of_place inside i) value (ap is_some there) (λ k. writes k ∙ ap (λ w. cond (eqb (key_of_place inside i) k) (Some w) (key_place inside k)) is) in
      subst (λ old. Sets old new (key_of_place old i) value) same sets

  -- a key that has no place gets one
  pub Reserves-added : (places inside new : Places V) (key : ℕ) → inside ≡ places → has_place places key ≡ false
      → ((k : ℕ) → key_place new k ≡ cond (eqb key k) (Some None) (key_place inside k)) → Reserves places new (key ∷ [])
  Reserves-added places inside new key same absent writes =
      Reserves-new places new key absent (λ k. writes k ∙ ap (λ old. cond (eqb key k) (Some None) (key_place old k)) same)

module _ {V : Type 0} (old new : Places V) where
  -- the next of the keys, behind those before it
  pub Reserves-next : (between : Places V) (keys : List ℕ) (i : ℕ) → i < length keys
      → Reserves old between (take i keys) → Reserves between new (get_or keys i 0 ∷ []) → Reserves old new (take (i + 1) keys)
  Reserves-next between keys i below before last = record {
    values = λ k. last.values k ∙ before.values k;
    places = λ k. grind (arith, common_steps, last.places k, before.places k, one_more k);
  }
    where
      one_more : (k : ℕ) → list_any (eqb k) (take (i + 1) keys) ≡ (list_any (eqb k) (take i keys) || list_any (eqb k) (get_or keys i 0 ∷ []))
      one_more k = ap (list_any (eqb k)) (take_more keys i 0 below) ∙ list_any-append (eqb k) (take i keys) (get_or keys i 0 ∷ [])

  -- where each of the keys had a place, none of them is without one when some have got theirs
  pub placed-absent : (keys before : List ℕ) (i : ℕ) → i < length keys → Reserves old new before → has_place new (get_or keys i 0) ≡ false
      → All (λ key. has_place old key ≡ true) keys → ⊥
  placed-absent keys before i below given absent placed = grind (arith, common_steps, given.places (get_or keys i 0), absent, placed i 0 below)

  -- a part of the keys is some of them
  pub ReservesSome-part : (keys : List ℕ) (count : ℕ) → Reserves old new (take count keys) → ReservesSome old new keys
  ReservesSome-part keys count part = record {
    values = part.values;
    kept = λ k there. part.places k ∙ or_left _ _ there;
    among = λ k there. among k (sym (part.places k) ∙ there);
  }
    where
      whole : (k : ℕ) → list_any (eqb k) keys ≡ (list_any (eqb k) (take count keys) || list_any (eqb k) (drop count keys))
      whole k = sym (ap (list_any (eqb k)) (take-append-drop count keys)) ∙ list_any-append (eqb k) (take count keys) (drop count keys)

      among : (k : ℕ) → (has_place old k || list_any (eqb k) (take count keys)) ≡ true → (has_place old k || list_any (eqb k) keys) ≡ true
      among k part_has = grind (arith, common_steps, part_has, whole k)
