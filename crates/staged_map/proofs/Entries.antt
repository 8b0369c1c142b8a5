-- What is staged, and what putting it into the map does.
use Rattle.std.proofs.Common.{◌≡◌, ℕ, true, false, cond, List, [], ◌∷◌, ◌++◌, Option, Some, None, is_some, eqb, map, ap, refl, sym, ◌∙◌, arith, unwrap_or}
use Rattle.std.proofs.lemmas.Bool.Decides.{nat_tests}
use Rattle.std.proofs.lemmas.Grind.{common_steps}
use Rattle.std.proofs.lemmas.Map.Keys.{IsDistinct-cons, IsDistinct-head, IsDistinct-tail}
use Rattle.std.specs.List.{AllByRecursion, list_any}
use Rattle.std.specs.Map.{keys_of}
use Rattle.std.specs.Option.{option_map_or, option_or}
use Rattle.staged_map.specs.Staged.{AreOfDifferentKeys, Entries, Places, PutsAll, Reserves, has_place, have_places, staged_entry, value_at}

-- what is staged for a key, with one entry more behind the others
pub staged_entry-push : {V : Type 0} (entries : Entries V) (entry : ℕ × Option V) (k : ℕ)
    → staged_entry (entries ++ entry ∷ []) k ≡ option_or (staged_entry entries k) (cond (eqb k entry.0) (Some entry.1) None)
staged_entry-push [] entry k = refl
staged_entry-push (first ∷ entries) entry k = grind (arith, common_steps, staged_entry-push entries entry k)

-- a key that is apart from those of all entries is so from those before the last, and from the last
apart-push : {V : Type 0} (k : ℕ) (entries : Entries V) (entry : ℕ × Option V)
    → AllByRecursion (λ key. eqb k key ≡ false) (keys_of (entries ++ entry ∷ []))
    → AllByRecursion (λ key. eqb k key ≡ false) (keys_of entries) × (eqb k entry.0 ≡ false)
apart-push k [] entry apart = (tt, apart.0)
apart-push k (first ∷ entries) entry apart =
    let rest = apart-push k entries entry apart.1 in
    ((apart.0, rest.0), rest.1)

-- entries of different keys are so without the last
AreOfDifferentKeys-front : {V : Type 0} (entries : Entries V) (entry : ℕ × Option V)
    → AreOfDifferentKeys (entries ++ entry ∷ []) → AreOfDifferentKeys entries
AreOfDifferentKeys-front [] entry distinct = IsDistinct-tail eqb entry.0 [] distinct
AreOfDifferentKeys-front (first ∷ entries) entry distinct =
    IsDistinct-cons eqb first.0 (keys_of entries)
    (apart-push first.0 entries entry (IsDistinct-head eqb first.0 (keys_of (entries ++ entry ∷ [])) distinct)).0
    (AreOfDifferentKeys-front entries entry (IsDistinct-tail eqb first.0 (keys_of (entries ++ entry ∷ [])) distinct))

-- once the last entry is put, the others still have places
have_places-front : {V : Type 0} (old new : Places V) (entries : Entries V) (entry : ℕ × Option V)
    → AreOfDifferentKeys (entries ++ entry ∷ []) → PutsAll old new (entry ∷ [])
    → have_places old (entries ++ entry ∷ []) ≡ true → have_places new entries ≡ true
have_places-front old new [] entry distinct puts placed = refl
have_places-front old new (first ∷ entries) entry distinct puts placed =
    let apart : eqb first.0 entry.0 ≡ false =
    (apart-push first.0 entries entry (IsDistinct-head eqb first.0 (keys_of (entries ++ entry ∷ [])) distinct)).1 in
    let rest : have_places old (entries ++ entry ∷ []) ≡ true → have_places new entries ≡ true =
    have_places-front old new entries entry (IsDistinct-tail eqb first.0 (keys_of (entries ++ entry ∷ [])) distinct) puts in
    grind (arith, common_steps, apart, puts.places first.0, rest, placed)

-- the last of the entries has a place, if it shall have a value
have_places-last : {V : Type 0} (places : Places V) (entries : Entries V) (entry : ℕ × Option V)
    → have_places places (entries ++ entry ∷ []) ≡ true → have_places places (entry ∷ []) ≡ true
have_places-last places [] entry placed = placed
have_places-last places (first ∷ entries) entry placed =
    have_places-last places entries entry (grind (arith, common_steps, placed))

-- The entries that are left are of different keys, with places, and put over what the map holds they make what all the
-- entries make of what it held.
pub record PutsLeft {V : Type 0} (old new : Places V) (entries left : Entries V) : Type 0 where
  pub distinct : AreOfDifferentKeys left
  pub placed : have_places new left ≡ true
  pub values : (k : ℕ) → unwrap_or (staged_entry left k) (value_at new k) ≡ unwrap_or (staged_entry entries k) (value_at old k)
  pub places : (k : ℕ) → option_map_or is_some (staged_entry left k) (has_place new k) ≡ option_map_or is_some (staged_entry entries k) (has_place old k)

module _ {V : Type 0} (old between new : Places V) (entries all left : Entries V) (entry : ℕ × Option V) where
  -- the last of those that are left has a place
  pub have_places-next : all ≡ left ++ entry ∷ [] → PutsLeft old between entries all → have_places between (entry ∷ []) ≡ true
  have_places-next cut before =
      let placed : have_places between (left ++ entry ∷ []) ≡ true = sym (ap (have_places between) cut) ∙ before.placed in
      have_places-last between left entry placed

  -- and is put
  pub PutsLeft-next : all ≡ left ++ entry ∷ [] → PutsLeft old between entries all → PutsAll between new (entry ∷ []) → PutsLeft old new entries left
  PutsLeft-next cut before puts = record {
    distinct = AreOfDifferentKeys-front left entry distinct;
    placed = have_places-front between new left entry distinct puts (sym (ap (have_places between) cut) ∙ before.placed);
    values = λ k. grind (arith, common_steps, puts.values k, before.values k, staged_entry-push left entry k, ap (λ es. staged_entry es k) cut);
    places = λ k. grind (arith, common_steps, puts.places k, before.places k, staged_entry-push left entry k, ap (λ es. staged_entry es k) cut);
  }
    where
      distinct : AreOfDifferentKeys (left ++ entry ∷ [])
      distinct = rw (← cut) before.distinct

module _ {V : Type 0} (places : Places V) where
  -- where each key has a place, each that shall have a value has one
  pub have_places-from : (entries : Entries V) → ((k : ℕ) → list_any (eqb k) (keys_of entries) ≡ true → has_place places k ≡ true) → have_places places entries ≡ true
  have_places-from [] has = refl
  have_places-from (entry ∷ entries) has =
      let first : has_place places entry.0 ≡ true = has entry.0 (grind (arith, common_steps, nat_tests)) in
      let rest : have_places places entries ≡ true = have_places-from entries (λ k among. has k (grind (arith, common_steps, among))) in
      grind (arith, common_steps, first, rest)

  -- as they do once their keys got places
  pub have_places-reserved : (old : Places V) (entries : Entries V) → Reserves old places (keys_of entries) → have_places places entries ≡ true
  have_places-reserved old entries reserves =
      have_places-from entries (λ k among. grind (arith, common_steps, reserves.places k, among))

-- where no place goes, the entries still have places
pub have_places-kept : {V : Type 0} (old new : Places V) (entries : Entries V) → ((k : ℕ) → has_place old k ≡ true → has_place new k ≡ true)
    → have_places old entries ≡ true → have_places new entries ≡ true
have_places-kept old new [] kept placed = refl
have_places-kept old new (entry ∷ entries) kept placed =
    let rest : have_places old entries ≡ true → have_places new entries ≡ true = have_places-kept old new entries kept in
    grind (arith, common_steps, kept entry.0, rest, placed)

module _ {V : Type 0} (value : ℕ → Option V) where
  -- entries that a rule makes of keys are of these keys
  pub keys_of-made : (keys : List ℕ) → keys_of (map (λ key. (key, value key)) keys) ≡ keys
  keys_of-made [] = refl
  keys_of-made (key ∷ keys) = ap (λ rest. key ∷ rest) (keys_of-made keys)

  -- and what is staged for one of these keys is what the rule says
  pub staged_entry-made : (keys : List ℕ) (k : ℕ) → staged_entry (map (λ key. (key, value key)) keys) k ≡ cond (list_any (eqb k) keys) (Some (value k)) None
  staged_entry-made [] k = refl
  staged_entry-made (key ∷ keys) k = grind (arith, common_steps, nat_tests, staged_entry-made keys k)

  -- putting them gives each of the keys what the rule says
  pub PutsAll-made : (old new : Places V) (keys : List ℕ) → PutsAll old new (map (λ key. (key, value key)) keys) → (k : ℕ)
      → value_at new k ≡ cond (list_any (eqb k) keys) (value k) (value_at old k)
  PutsAll-made old new keys puts k = grind (arith, common_steps, puts.values k, staged_entry-made keys k)
