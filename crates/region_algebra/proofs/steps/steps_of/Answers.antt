use Rattle.std.proofs.Common.{◌-◌, refl, arith}
use Rattle.region_algebra.proofs.Places.{product_over}
use Rattle.region_algebra.proofs.steps.steps_of.Goals as goal

pub returns-in_err-total-clause-refused : goal.returns-in_err-total-clause-refused
returns-in_err-total-clause-refused c =
    let over = product_over c.args.sizes.now (c.loop-d.d - 1) c.loop-d.d 0 c.loop-d.total c.requires.some (omega (arith, c.loop-d.invariant.within)) (omega arith) c.loop-d.invariant.total_is (c.in_err-total.ensures.refused.0 refl) in
    rw c.from_residual.ensures (λ _. over, λ _. refl)
