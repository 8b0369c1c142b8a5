use Rattle.std.proofs.Common.{refl, arith}
use Rattle.exact_fraction.specs.One.{one_of}
use Rattle.exact_fraction.specs.Ratio.{ratio_of}
use Rattle.exact_fraction.proofs.Divisors.{by_steps, gcd_by, lcm_by}
use Rattle.exact_fraction.proofs.laws.worked_wide_quotients.Goals as goal

-- with the divisors that Euclid's steps find, the definitions compute each of them
pub returns-clause-multiple : goal.returns-clause-multiple
unfolding by_steps one_of ratio_of
returns-clause-multiple c =
    simp (
      gcd_by 4 1 1 (omega arith) refl,
      gcd_by 5 150094635296999121 1 (omega arith) refl,
      gcd_by 3 9223372036854775808 1 (omega arith) refl,
      gcd_by 1 1 1 (omega arith) refl,
      gcd_by 1 150094635296999121 1 (omega arith) refl,
      gcd_by 1 9223372036854775808 1 (omega arith) refl,
      lcm_by 9223372036854775808 1 1 (omega arith) refl,
      lcm_by 150094635296999121 9223372036854775808 1 (omega arith) refl,
      lcm_by 1 1384378662080257510510438099628064768 1 (omega arith) refl,
      lcm_by 9223372036854775808 1384378662080257510510438099628064768 9223372036854775808 (omega arith) refl,
      lcm_by 150094635296999121 1384378662080257510510438099628064768 150094635296999121 (omega arith) refl,
    )

pub returns-clause-negative : goal.returns-clause-negative
unfolding by_steps one_of ratio_of
returns-clause-negative c =
    simp (
      gcd_by 4 1 1 (omega arith) refl,
      gcd_by 5 150094635296999121 1 (omega arith) refl,
      gcd_by 3 9223372036854775808 1 (omega arith) refl,
      gcd_by 1 1 1 (omega arith) refl,
      gcd_by 1 150094635296999121 1 (omega arith) refl,
      gcd_by 1 9223372036854775808 1 (omega arith) refl,
      lcm_by 9223372036854775808 1 1 (omega arith) refl,
      lcm_by 150094635296999121 9223372036854775808 1 (omega arith) refl,
      lcm_by 1 1384378662080257510510438099628064768 1 (omega arith) refl,
      lcm_by 9223372036854775808 1384378662080257510510438099628064768 9223372036854775808 (omega arith) refl,
      lcm_by 150094635296999121 1384378662080257510510438099628064768 150094635296999121 (omega arith) refl,
    )

pub returns-clause-sum : goal.returns-clause-sum
unfolding by_steps one_of ratio_of
returns-clause-sum c =
    simp (
      gcd_by 1000000000000000000 150094635296999121 1 (omega arith) refl,
      gcd_by 0 7450580596923828125 7450580596923828125 (omega arith) refl,
      gcd_by 1000000000 150094635296999121 1 (omega arith) refl,
      gcd_by 1 7450580596923828125 1 (omega arith) refl,
      lcm_by 7450580596923828125 1 1 (omega arith) refl,
      lcm_by 150094635296999121 7450580596923828125 1 (omega arith) refl,
      lcm_by 1 1118292177446179993450641632080078125 1 (omega arith) refl,
      lcm_by 150094635296999121 1118292177446179993450641632080078125 150094635296999121 (omega arith) refl,
      lcm_by 1 1 1 (omega arith) refl,
      lcm_by 150094635296999121 1 1 (omega arith) refl,
      gcd_by 7450580597073922760296999121 1118292177446179993450641632080078125 1 (omega arith) refl,
    )

pub returns-clause-count : goal.returns-clause-count
unfolding by_steps one_of ratio_of
returns-clause-count c =
    simp (
      gcd_by 16958692343060689 150094635296999121 1 (omega arith) refl,
      gcd_by 3586150115938293511 7450580596923828125 1 (omega arith) refl,
      gcd_by 33917384686121378 150094635296999121 1 (omega arith) refl,
      gcd_by 7172300231876587022 7450580596923828125 1 (omega arith) refl,
      lcm_by 7450580596923828125 1 1 (omega arith) refl,
      lcm_by 150094635296999121 7450580596923828125 1 (omega arith) refl,
      lcm_by 7450580596923828125 1118292177446179993450641632080078125 7450580596923828125 (omega arith) refl,
      lcm_by 150094635296999121 1118292177446179993450641632080078125 150094635296999121 (omega arith) refl,
      gcd_by 664613997892457940927667005087081956 1118292177446179993450641632080078125 1 (omega arith) refl,
    )

pub returns-clause-divisor : goal.returns-clause-divisor
unfolding by_steps one_of ratio_of
returns-clause-divisor c =
    simp (
      gcd_by 146352968563866812 150094635296999121 1 (omega arith) refl,
      gcd_by 0 7450580596923828125 7450580596923828125 (omega arith) refl,
      gcd_by 1591085566970570356 7450580596923828125 1 (omega arith) refl,
      lcm_by 7450580596923828125 1 1 (omega arith) refl,
      lcm_by 150094635296999121 7450580596923828125 1 (omega arith) refl,
      lcm_by 1 1118292177446179993450641632080078125 1 (omega arith) refl,
      lcm_by 150094635296999121 1118292177446179993450641632080078125 150094635296999121 (omega arith) refl,
      gcd_by 1090414587884149044752120971679687500 9304595970494411110326649421962412032 4 (omega arith) refl,
      lcm_by 1 1 1 (omega arith) refl,
      lcm_by 150094635296999121 1 1 (omega arith) refl,
      gcd_by 1329227995784915872903807060280344576 1118292177446179993450641632080078125 1 (omega arith) refl,
    )

pub returns-clause-unbounded : goal.returns-clause-unbounded
unfolding by_steps one_of ratio_of
returns-clause-unbounded c =
    simp (
      gcd_by 5 4611686018427387847 1 (omega arith) refl,
      gcd_by 3 9223372036854775783 1 (omega arith) refl,
      gcd_by 1 4611686018427387847 1 (omega arith) refl,
      gcd_by 1 9223372036854775783 1 (omega arith) refl,
      lcm_by 9223372036854775783 1 1 (omega arith) refl,
      lcm_by 4611686018427387847 9223372036854775783 1 (omega arith) refl,
      lcm_by 9223372036854775783 42535295865117307291897469367564109201 9223372036854775783 (omega arith) refl,
      lcm_by 4611686018427387847 42535295865117307291897469367564109201 4611686018427387847 (omega arith) refl,
    )
