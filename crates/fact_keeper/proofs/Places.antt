-- The place where an entry is put.
use Rattle.std.proofs.Common.{◌≡◌, List, Bool, length, arith}
use Rattle.std.proofs.lemmas.Bool.Decides.{nat_tests}
use Rattle.std.proofs.lemmas.List.Sums.{prefix_len-le-length}
use Rattle.std.specs.List.{position_or_len}
use Rattle.std.specs.Prelude.{not, position, unwrap_or}

-- the first place that passes, or the place behind the last
pub position-or_len : {X : Type 0} (p : X → Bool) (xs : List X) → unwrap_or (position p xs) (length xs) ≡ position_or_len p xs
position-or_len p xs = grind (arith, nat_tests, prefix_len-le-length (λ x. not (p x)) xs)
