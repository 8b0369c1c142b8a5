-- What a map ends as, once a `&mut` to one of its values has ended.
use Rattle.std.specs.Prelude.{◌≡◌, ℕ, Option}
use Rattle.std.specs.Option.{OnSome}
use Rattle.std.specs.Borrow.{Fml, RattleType, MutBor, LendsSo}
use Rattle.staged_map.specs.Staged.{Places, Sets, key_place}
use Rattle.staged_map.specs.contracts.staged.Staged.{the_row}

-- all keys have the places and the values that they had
abbrev pub Stays : {V : Type 0} → Places V → Places V → Type 0
Stays old new = (k : ℕ) → key_place new k ≡ key_place old k

-- the key has the last value written through r, and every other key what it had; at `None` all keys have what they had
abbrev pub lends_value : (V : RattleType) → MutBor (Places V.Denot) → ℕ → Option (MutBor V.Denot) → Fml
lends_value V m key r = LendsSo (the_row V) V m r (λ n w. OnSome r (Sets m.now n key w)) (λ n. Stays m.now n)
