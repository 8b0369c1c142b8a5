-- Small trees, with names of one letter.
use Rattle.std.specs.Prelude.{ℕ, ◌+◌, List, [], ◌∷◌, map}
use Rattle.std.specs.List.{range_with_len}
use Rattle.cube_model.specs.declared.tree.NodeLine.{NodeLine}
use Rattle.cube_model.specs.Tree.{Dimension, Entry, numbered}

abbrev pub line : ℕ → ℕ → NodeLine
line depth letter = record { depth = depth; name = letter ∷ [] }

-- a over b, e and g; b over c and d; e over f
abbrev pub family_lines : List NodeLine
family_lines = line 0 97 ∷ line 1 98 ∷ line 2 99 ∷ line 2 100 ∷ line 1 101 ∷ line 2 102 ∷ line 1 103 ∷ []

abbrev pub family : Dimension
family = numbered family_lines

-- so many nodes, each under the one before
abbrev pub chain : ℕ → List NodeLine
chain n = map (λ depth. line depth (97 + depth)) (range_with_len 0 n)

abbrev pub node : ℕ → ℕ → ℕ → Entry
node depth letter number = record { depth = depth; name = letter ∷ []; number = number }

-- the same family, of which e was made before b, and d before c
abbrev pub made_in_turn : Dimension
made_in_turn = node 0 97 0 ∷ node 1 98 2 ∷ node 2 99 4 ∷ node 2 100 3 ∷ node 1 101 1 ∷ node 2 102 5 ∷ node 1 103 6 ∷ []
