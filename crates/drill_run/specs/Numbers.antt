-- The numbers that a seed draws, one after the other.
use Rattle.std.specs.Prelude.{ℕ, zero, suc, ◌+◌, ◌*◌, ◌/◌, ◌%◌}

-- states are below it
abbrev pub MODULUS : ℕ
MODULUS = 2147483648

-- the state after a state
abbrev pub next_state : ℕ → ℕ
next_state state = (state * 1103515245 + 12345) % MODULUS

-- the number that a state gives
abbrev pub drawn_number : ℕ → ℕ
drawn_number state = state / 65536

-- the state after so many draws
abbrev pub drawn_state : ℕ → ℕ → ℕ
drawn_state seed zero = seed
drawn_state seed (suc k) = next_state (drawn_state seed k)

-- the draw of this number, counted from 1
abbrev pub drawn : ℕ → ℕ → ℕ
drawn seed k = drawn_number (drawn_state seed k)
