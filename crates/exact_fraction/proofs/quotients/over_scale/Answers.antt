use Rattle.std.proofs.Common.{◌*◌, ◌≤◌, arith}
use Rattle.std.proofs.Math.Nat.{le-mul_of_pos_right}
use Rattle.exact_fraction.specs.Signed.{MOST_WHOLE}
use Rattle.exact_fraction.proofs.Scaling.{scaled_wide, scaled_told}
use Rattle.exact_fraction.proofs.quotients.over_scale.Goals as goal

pub returns-in_err-den : goal.returns-in_err-den
returns-in_err-den c =
    rw c.from_residual.ensures (scaled_wide c.args.p _ _ c.args.scale c.requires.some c.requires.scale.0 c.reduce-first.ensures.parts c.reduce-second.ensures.parts c.in_err-den.ensures)

pub returns : goal.returns
returns c =
    let size : c.args.p.size ≤ MOST_WHOLE * (c.args.p.den * c.args.scale) = omega (arith, c.requires.size, le-mul_of_pos_right c.args.p.den c.requires.scale.0) in
    scaled_told c.args.p _ _ c.args.scale c.requires.some c.requires.scale.0 c.reduce-first.ensures.parts c.reduce-second.ensures.parts _ c.in_ok-den.ensures c.requires.within size
