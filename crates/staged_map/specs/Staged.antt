-- A map in which keys have places, with or without a value.
use Rattle.std.specs.Prelude.{◌≡◌, ℕ, ◌+◌, ◌<◌, Bool, true, List, length, not, ◌&&◌, ◌||◌, ◌==◌, if◌then◌else◌, Option, Some, None, is_some, nat_eq, get_or, slice_index, unwrap_or, option_map, filter_map}
use Rattle.std.specs.Borrow.{Bor}
use Rattle.std.specs.Option.{option_flatten, option_map_or}
use Rattle.std.specs.List.{IsDistinct, list_all, list_any}
use Rattle.std.specs.Map.{keys_of, lookup}

-- each key that has a place, with its value if it has one
abbrev pub Places : Type 0 → Type 0
Places V = List (ℕ × Option V)

-- the place of a key, if it has one: what it holds is the key's value, if it has one
abbrev pub key_place : {V : Type 0} → Places V → ℕ → Option (Option V)
key_place places key = lookup (λ k. key == k) places

-- the value at a key
abbrev pub value_at : {V : Type 0} → Places V → ℕ → Option V
value_at places key = option_flatten (key_place places key)

-- the key has a place
abbrev pub has_place : {V : Type 0} → Places V → ℕ → Bool
has_place places key = is_some (key_place places key)

-- a key's place itself, if it has one
abbrev pub place_of : {V : Type 0} → Places V → ℕ → Option (ℕ × Option V)
place_of places key = option_map (λ value. (key, value)) (key_place places key)

-- the key of the place of a number
abbrev pub key_of_place : {V : Type 0} → Places V → ℕ → ℕ
key_of_place places i = get_or (keys_of places) i 0

-- the key and the value of a place, if it has one
abbrev pub held_of : {V : Type 0} → ℕ × Option V → Option (ℕ × V)
held_of place = option_map (λ value. (place.0, value)) place.1

-- the keys that have a value, each with it, in the order of their places
abbrev pub held : {V : Type 0} → Places V → List (ℕ × V)
held places = filter_map held_of places

-- a key and the value behind a reference, if they are there
abbrev pub held_copied : {V : Type 0} → Option (ℕ × Bor V) → Option (ℕ × V)
held_copied entry = option_map (λ e. (e.0, e.1.now)) entry

-- the key has this value, and every other key what it had; all places stay
pub record Sets {V : Type 0} (old new : Places V) (key : ℕ) (value : V) : Type 0 where
  pub values : (k : ℕ) → value_at new k ≡ (if key == k then Some value else value_at old k)
  pub places : (k : ℕ) → has_place new k ≡ has_place old k

-- the key has neither value nor place, and every other key has what it had
pub record Removes {V : Type 0} (old new : Places V) (key : ℕ) : Type 0 where
  pub values : (k : ℕ) → value_at new k ≡ (if key == k then None else value_at old k)
  pub places : (k : ℕ) → has_place new k ≡ (not (key == k) && has_place old k)

-- these keys have places too, and all values stay
pub record Reserves {V : Type 0} (old new : Places V) (keys : List ℕ) : Type 0 where
  pub values : (k : ℕ) → value_at new k ≡ value_at old k
  pub places : (k : ℕ) → has_place new k ≡ (has_place old k || list_any (λ key. k == key) keys)

-- some of these keys may have got a place; all places and all values stay
pub record ReservesSome {V : Type 0} (old new : Places V) (keys : List ℕ) : Type 0 where
  pub values : (k : ℕ) → value_at new k ≡ value_at old k
  pub kept : (k : ℕ) → has_place old k ≡ true → has_place new k ≡ true
  pub among : (k : ℕ) → has_place new k ≡ true → (has_place old k || list_any (λ key. k == key) keys) ≡ true

-- the keys that have a value, ascending
pub record AreKeys {V : Type 0} (places : Places V) (keys : List ℕ) : Type 0 where
  pub ascending : (i : ℕ) → i + 1 < length keys → slice_index keys i < slice_index keys (i + 1)
  pub among : (k : ℕ) → list_any (λ key. k == key) keys ≡ is_some (value_at places k)

-- what is staged: keys, each with the value that it shall have, or None where it shall have neither value nor place
abbrev pub Entries : Type 0 → Type 0
Entries V = List (ℕ × Option V)

-- what is staged for a key, if something is
abbrev pub staged_entry : {V : Type 0} → Entries V → ℕ → Option (Option V)
staged_entry entries key = lookup (λ k. key == k) entries

-- no key is staged twice
abbrev pub AreOfDifferentKeys : {V : Type 0} → Entries V → Type 0
AreOfDifferentKeys entries = IsDistinct nat_eq (keys_of entries)

-- each key that shall have a value has a place
abbrev pub have_places : {V : Type 0} → Places V → Entries V → Bool
have_places places entries = list_all (λ entry. not (is_some entry.1) || has_place places entry.0) entries

-- Each key that has an entry has what the entry says, and every other key what it had. A key that has an entry has a
-- place exactly where it has a value.
pub record PutsAll {V : Type 0} (old new : Places V) (entries : Entries V) : Type 0 where
  pub values : (k : ℕ) → value_at new k ≡ unwrap_or (staged_entry entries k) (value_at old k)
  pub places : (k : ℕ) → has_place new k ≡ option_map_or is_some (staged_entry entries k) (has_place old k)
