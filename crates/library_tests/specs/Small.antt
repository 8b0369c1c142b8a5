-- Terms whose numerators are far below WIDE, as those of tests are.
use Rattle.std.specs.Prelude.{◌≡◌, ℕ, ◌+◌, ◌*◌, ◌^◌, ◌<◌, ◌≤◌, nat_abs}
use Rattle.cube_model.specs.Answer.{count_of, numerator_of}
use Rattle.group_sum.specs.Terms.{TermList}

-- of two columns, with no numerator above so many times 2^32
pub record AreSmallLists (times : ℕ) (list : TermList) : Type 0 where
  pub columns : list.columns ≡ 2
  pub counts : (d : ℕ) → count_of list.terms d ≤ times * 2 ^ 32
  pub sums : (d k : ℕ) → k < 1 → nat_abs (numerator_of list.terms d (k + 1)) ≤ times * 2 ^ 32
