-- The ids that an index holds, by the code of a region.
use Rattle.std.specs.Prelude.{◌≡◌, ℕ, ◌<◌, Bool, true, List, [], IfSome, filter, length, nat_lt, unwrap_or}
use Rattle.std.specs.List.{list_any}
use Rattle.cube_model.specs.Ascending.{ascends_from}
use Rattle.cube_model.specs.Cells.{is_among}
use Rattle.staged_map.specs.Staged.{Places, value_at}

-- the codes that have a place, with the ids there
abbrev pub Content : Type 0
Content = Places (List ℕ)

-- the ids at a code: none where nothing is held
abbrev pub ids_at : Content → ℕ → List ℕ
ids_at content code = unwrap_or (value_at content code) []

-- some id is held at a code
abbrev pub holds_ids : Content → ℕ → Bool
holds_ids content code = nat_lt 0 (length (ids_at content code))

-- those of the codes at which some id is held
abbrev pub held_codes : Content → List ℕ → List ℕ
held_codes content codes = filter (holds_ids content) codes

-- ids that ascend, each once
abbrev pub AreAscending : List ℕ → Type 0
AreAscending ids = ascends_from (λ id. id) 0 ids ≡ true

-- the ids at each code ascend, and a list that is kept at a code has an id
pub record IsContent (content : Content) : Type 0 where
  pub ascending : (code : ℕ) → AreAscending (ids_at content code)
  pub some : (code : ℕ) → IfSome (value_at content code) (λ ids. 0 < length ids)

-- an id stands at one of these codes
abbrev pub is_at_one : Content → List ℕ → ℕ → Bool
is_at_one content codes id = list_any (λ code. is_among (ids_at content code) id) codes

-- exactly the ids that stand at these codes, ascending, each once
pub record AreIdsAt (content : Content) (codes ids : List ℕ) : Type 0 where
  pub ascending : AreAscending ids
  pub exact : (id : ℕ) → is_among ids id ≡ is_at_one content codes id
