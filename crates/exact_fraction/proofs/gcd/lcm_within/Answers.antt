use Rattle.std.proofs.Common.{◌*◌, ◌/◌, sym, ap, ◌∙◌, arith}
use Rattle.exact_fraction.specs.Number.{within}
use Rattle.exact_fraction.proofs.Divisors.{gcd_some, lcm-product}
use Rattle.exact_fraction.proofs.gcd.lcm_within.Goals as goal

pub quotient-requires : goal.quotient-requires
quotient-requires c = omega (arith, c.gcd.ensures, gcd_some c.args.a c.args.b c.requires)

pub returns : goal.returns
returns c =
    c.product_within.ensures ∙ ap (λ q. within (c.args.a * q)) c.quotient.ensures ∙ ap (λ g. within (c.args.a * (c.args.b / g))) c.gcd.ensures ∙ ap within (sym (lcm-product c.args.a c.args.b c.requires))
