-- Greatest common divisors, least common multiples and the width of 120 bits.
use Rattle.std.specs.Prelude.{ℕ, zero, suc, ◌*◌, ◌%◌, Bool, ◌==◌, ◌&&◌, if◌then◌else◌, nat_lt, Option, Some, None, unwrap_or}
use Rattle.std.specs.List.{find, range_with_len}
use Rattle.cube_model.specs.Limits.{WIDE}

-- the greatest number from 1 to n that passes, 0 where none does
unfoldable pub greatest_to : (ℕ → Bool) → ℕ → ℕ
greatest_to passes zero = 0
greatest_to passes (suc n) = if passes (suc n) then suc n else greatest_to passes n

-- the least number from 1 to n that passes, 0 where none does
abbrev pub least_to : (ℕ → Bool) → ℕ → ℕ
least_to passes n = unwrap_or (find passes (range_with_len 1 n)) 0

-- d divides n
abbrev pub divides : ℕ → ℕ → Bool
divides d n = n % d == 0

-- the greatest number that divides both; the second is at least 1
unfoldable pub gcd : ℕ → ℕ → ℕ
gcd a b = greatest_to (λ d. divides d a && divides d b) b

-- the least number above 0 that both divide, at most their product; 0 where one of them is 0
unfoldable pub lcm : ℕ → ℕ → ℕ
lcm a b = least_to (λ m. divides a m && divides b m) (a * b)

-- a number that does not pass WIDE
abbrev pub within : ℕ → Option ℕ
within n = if nat_lt WIDE n then None else Some n
