-- A dimension with a leaf more.
use Rattle.std.specs.Prelude.{ℕ, ◌+◌, Bool, List, [], ◌∷◌, suc, length, insert, if◌then◌else◌}
use Rattle.std.specs.Option.{option_map_or}
use Rattle.std.specs.List.{list_any}
use Rattle.cube_model.specs.Tree.{Dimension, Entry, entry_of, is_under}

-- how many items there are up to and with the last that passes
abbrev pub up_to_last : {X : Type 0} → (X → Bool) → List X → ℕ
up_to_last p [] = 0
up_to_last p (x ∷ xs) = if list_any p (x ∷ xs) then suc (up_to_last p xs) else 0

-- a node to be put under another: one deeper, and numbered by how many there are
abbrev pub new_child : Dimension → ℕ → List ℕ → Entry
new_child dim parent name = record { depth = option_map_or (λ e. e.depth + 1) (entry_of dim parent) 0; name = name; number = length dim }

-- the dimension with a new leaf of this name after the last node under a node, which makes it that node's last child
unfoldable pub grown : Dimension → ℕ → List ℕ → Dimension
grown dim parent name = insert dim (up_to_last (λ e. is_under dim e.number parent) dim) (new_child dim parent name)
