-- Lists that ascend by a key.
use Rattle.std.specs.Prelude.{ℕ, ◌+◌, Bool, true, List, [], ◌∷◌, nat_le, ◌&&◌}

-- the keys ascend strictly, from at least this one on
abbrev pub ascends_from : {X : Type 0} → (X → ℕ) → ℕ → List X → Bool
ascends_from key least [] = true
ascends_from key least (x ∷ xs) = nat_le least (key x) && ascends_from key (key x + 1) xs
