-- Terms that so many facts can have, whose sums and quotients can be given within 128 bits.
use Rattle.std.specs.Prelude.{◌*◌, ◌≤◌, List, All, length, nat_abs}
use Rattle.cube_model.specs.declared.term.Term.{Term}
use Rattle.cube_model.specs.Limits.{MAX_FACTS, MAX_VALUE}

-- the count is at most MAX_FACTS, and no sum passes MAX_VALUE times the count
pub record IsModerateTerm (t : Term) : Type 0 where
  pub count : t.count ≤ MAX_FACTS * t.den
  pub sums : All (λ sum. nat_abs sum ≤ MAX_VALUE * t.count) t.sums

-- at most MAX_FACTS terms, and each a moderate one
pub record IsModerate (terms : List Term) : Type 0 where
  pub few : length terms ≤ MAX_FACTS
  pub each : All IsModerateTerm terms
