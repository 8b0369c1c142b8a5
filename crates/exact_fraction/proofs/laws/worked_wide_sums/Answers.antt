use Rattle.std.proofs.Common.{refl, arith}
use Rattle.exact_fraction.specs.One.{one_of}
use Rattle.exact_fraction.proofs.Divisors.{by_steps, gcd_by, lcm_by}
use Rattle.exact_fraction.proofs.laws.worked_wide_sums.Goals as goal

-- with the divisors that Euclid's steps find, the definitions compute each of them
pub returns-clause-multiple : goal.returns-clause-multiple
unfolding by_steps one_of
returns-clause-multiple c =
    simp (
      gcd_by 1 150094635296999121 1 (omega arith) refl,
      gcd_by 1 9223372036854775808 1 (omega arith) refl,
      lcm_by 9223372036854775808 1 1 (omega arith) refl,
      lcm_by 150094635296999121 9223372036854775808 1 (omega arith) refl,
    )

pub returns-clause-sum : goal.returns-clause-sum
unfolding by_steps one_of
returns-clause-sum c =
    simp (
      gcd_by 33917384686121377 150094635296999121 1 (omega arith) refl,
      gcd_by 7172300231876587012 7450580596923828125 1 (omega arith) refl,
      lcm_by 7450580596923828125 1 1 (omega arith) refl,
      lcm_by 150094635296999121 7450580596923828125 1 (omega arith) refl,
    )
