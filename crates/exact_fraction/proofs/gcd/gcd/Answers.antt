use Rattle.std.proofs.Common.{sym}
use Rattle.std.proofs.lemmas.Nat.Gcd.{IsGcd-from_zero, IsGcd-from_mod}
use Rattle.exact_fraction.proofs.Divisors.{gcd-one, gcd_unique}
use Rattle.exact_fraction.proofs.gcd.gcd.Goals as goal

pub returns-then-b-eq1 : goal.returns-then-b-eq1
returns-then-b-eq1 c = sym (gcd-one _ _ c.if-b-eq1.true)

pub loop-y-preserved : goal.loop-y-preserved
loop-y-preserved c = λ g is. c.loop-y.invariant g (IsGcd-from_mod _ _ g is)

pub returns-then-y-eq0 : goal.returns-then-y-eq0
returns-then-y-eq0 c = sym (gcd_unique _ _ _ c.requires (c.loop-y.invariant _ (IsGcd-from_zero _ _ c.if-y-eq0.true)))

pub returns : goal.returns
returns c = sym (gcd_unique _ _ _ c.requires (c.loop-y.invariant _ (IsGcd-from_mod _ _ _ (rw (sym c.remainder.ensures) c.narrow_gcd.ensures))))
