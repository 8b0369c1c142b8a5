use Rattle.std.proofs.Common.{arith}
use Rattle.exact_fraction.proofs.Divisors.{gcd_some, cofactor_some}
use Rattle.exact_fraction.proofs.fraction.reduce.Goals as goal

pub quotient-requires : goal.quotient-requires
quotient-requires c = omega (arith, c.gcd-common.ensures, gcd_some c.args.p.size c.args.p.den c.requires)

pub quotient-requires-2 : goal.quotient-requires-2
quotient-requires-2 c = omega (arith, c.gcd-common.ensures, gcd_some c.args.p.size c.args.p.den c.requires)

-- a divisor of the denominator does not pass it
pub returns-clause-some : goal.returns-clause-some
returns-clause-some c = rw (c.quotient-2.ensures, c.gcd-common.ensures) (cofactor_some c.args.p.size c.args.p.den c.requires)
