-- What slots tell of keys.
use Rattle.std.specs.Prelude.{◌≡◌, ℕ, ◌-◌, Bool, true, List, length, not, ◌==◌, bit_and, slice_get}
use Rattle.std.specs.Option.{option_map_or}
use Rattle.staged_map.specs.Staged.{Places, has_place}

-- the slot of a key: its last bits
abbrev pub slot_of : List ℕ → ℕ → ℕ
slot_of slots key = bit_and key (length slots - 1)

-- a key may have a place: its slot is not empty, or there are no slots
abbrev pub may_have : List ℕ → ℕ → Bool
may_have slots key = option_map_or (λ noted. not (noted == 0)) (slice_get slots (slot_of slots key)) true

-- what had a note has one
abbrev pub KeepsNotes : List ℕ → List ℕ → Type 0
KeepsNotes old new = (key : ℕ) → may_have old key ≡ true → may_have new key ≡ true

-- each key that has a place has a note
abbrev pub AreNoted : {V : Type 0} → List ℕ → Places V → Type 0
AreNoted slots places = (key : ℕ) → has_place places key ≡ true → may_have slots key ≡ true
