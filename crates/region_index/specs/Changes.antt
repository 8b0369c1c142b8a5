-- What changes of the facts' regions make of the ids at a code.
use Rattle.std.specs.Prelude.{◌≡◌, ℕ, ◌<◌, Bool, true, List, [], ◌∷◌, ◌++◌, filter, length, map, not, nat_lt, ◌&&◌, ◌==◌, if◌then◌else◌, IfSome, Option, Some, None, is_some, unwrap_or}
use Rattle.std.specs.List.{list_any}
use Rattle.std.specs.Option.{option_flatten, option_map_or}
use Rattle.staged_map.specs.Staged.{AreOfDifferentKeys, Entries, Places, has_place, have_places, staged_entry, value_at}
use Rattle.region_index.specs.Content.{Content, holds_ids, ids_at}

-- a change: an id that is put at a code, or taken away there
abbrev pub Pair : Type 0
Pair = ℕ × ℕ

-- the id is one that these changes name at the code
abbrev pub is_named : List Pair → ℕ → ℕ → Bool
is_named pairs code id = list_any (λ pair. pair.0 == code && pair.1 == id) pairs

-- the ids but for those that are dropped at the code
abbrev pub without : List Pair → ℕ → List ℕ → List ℕ
without drops code ids = filter (λ id. not (is_named drops code id)) ids

-- the ids with one more, ascending
abbrev pub with_id : ℕ → List ℕ → List ℕ
with_id id ids = filter (λ i. nat_lt i id) ids ++ id ∷ filter (λ i. nat_lt id i) ids

-- the ids with those that are put at the code
abbrev pub with_puts : List Pair → ℕ → List ℕ → List ℕ
with_puts [] code ids = ids
with_puts (put ∷ puts) code ids = with_puts puts code (if put.0 == code then with_id put.1 ids else ids)

-- the ids after the changes: drops are taken away first, then puts are added
abbrev pub ids_after : List Pair → List Pair → ℕ → List ℕ → List ℕ
ids_after puts drops code ids = with_puts puts code (without drops code ids)

-- the changes that a stage carries out, and the ids that it sets at the codes that they name
pub record Staging : Type 0 where
  pub puts : List Pair
  pub drops : List Pair
  pub entries : Entries (List ℕ)

-- the ids, where there are some
abbrev pub some_ids : List ℕ → Option (List ℕ)
some_ids [] = None
some_ids (id ∷ ids) = Some (id ∷ ids)

-- the entry that changes make at a code
abbrev pub changed_entry : Content → List Pair → List Pair → ℕ → ℕ × Option (List ℕ)
changed_entry content puts drops code = (code, some_ids (ids_after puts drops code (ids_at content code)))

-- the changes, with what they make of the content at these codes
abbrev pub staging : Content → List ℕ → List Pair → List Pair → Staging
staging content codes puts drops = record {
  puts = puts;
  drops = drops;
  entries = map (changed_entry content puts drops) codes;
}

-- at each code the ids that these changes name there, in the order of the changes
pub record AreByCode (groups : Content) (pairs : List Pair) : Type 0 where
  pub ids : (code : ℕ) → ids_at groups code ≡ map (λ pair. pair.1) (filter (λ pair. pair.0 == code) pairs)

-- a change names the code
abbrev pub names : List Pair → ℕ → Bool
names pairs code = list_any (λ pair. pair.0 == code) pairs

-- There is an entry for each code that the changes name, and an entry sets no list without ids.
pub record IsStaging (stage : Staging) : Type 0 where
  pub named : (code : ℕ) → names (stage.puts ++ stage.drops) code ≡ true → is_some (staged_entry stage.entries code) ≡ true
  pub some : (code : ℕ) → IfSome (option_flatten (staged_entry stage.entries code)) (λ ids. 0 < length ids)

-- what an entry leaves at its code
abbrev pub entry_ids : Option (List ℕ) → List ℕ
entry_ids entry = unwrap_or entry []

-- The entries are what the changes make of the content, and their codes have places there.
pub record IsStagedFor (content : Content) (stage : Staging) : Type 0 where
  pub different : AreOfDifferentKeys stage.entries
  pub makes : (code : ℕ) → option_map_or entry_ids (staged_entry stage.entries code) (ids_at content code) ≡ ids_after stage.puts stage.drops code (ids_at content code)
  pub placed : have_places content stage.entries ≡ true

-- nothing is held that was not, or the other way round; places stay
pub record IsUnchanged {V : Type 0} (old new : Places V) : Type 0 where
  pub values : (code : ℕ) → value_at new code ≡ value_at old code
  pub places : (code : ℕ) → has_place old code ≡ true → has_place new code ≡ true

-- a code that the changes name has a place exactly where ids are held there
abbrev pub HavePlacesForIds : Content → List Pair → Type 0
HavePlacesForIds content changes = (code : ℕ) → names changes code ≡ true → has_place content code ≡ holds_ids content code

-- each code has what the changes make of what it had
pub record Applies (old new : Content) (puts drops : List Pair) : Type 0 where
  pub ids : (code : ℕ) → ids_at new code ≡ ids_after puts drops code (ids_at old code)
