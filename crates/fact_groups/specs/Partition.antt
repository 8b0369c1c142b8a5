-- Items that keys hold.
use Rattle.std.specs.Prelude.{◌≡◌, Bool, List, All, filter}
use Rattle.std.specs.List.{count_by}

-- the items that a key holds
abbrev pub held_by : {K X : Type 0} → (K → X → Bool) → K → List X → List X
held_by holds key items = filter (holds key) items

-- each of the items is held by exactly one of the keys
abbrev pub IsPartition : {K X : Type 0} → (K → X → Bool) → List K → List X → Type 0
IsPartition holds keys items = All (λ item. count_by (λ key. holds key item) keys ≡ 1) items
