-- The limits on the worlds that are listed.
use Rattle.std.specs.Prelude.{ℕ, ◌^◌}

-- the most worlds
abbrev pub MAX_WORLDS : ℕ
MAX_WORLDS = 65536

-- the most that their weights may add up to
abbrev pub MAX_MASS : ℕ
MAX_MASS = 2 ^ 60
