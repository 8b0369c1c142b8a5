use Rattle.std.proofs.Common.{rules, arith}
use Rattle.std.specs.Int.{w128}
use mir.Val.{SFits}
use Rattle.std.proofs.lemmas.Int.{to_z-of_z}
use Rattle.exact_fraction.proofs.Dividing.{narrow_divisors, hi_size, lo_size, wide_told}
use Rattle.exact_fraction.proofs.quotients.wide_quotient.Goals as goal

pub bounds_by_sign-below-requires-clause-narrow : goal.bounds_by_sign-below-requires-clause-narrow
bounds_by_sign-below-requires-clause-narrow c =
    let fits_least : SFits w128 c.args.count.lo = search rules in
    let fits_most : SFits w128 c.args.count.hi = search rules in
    let least = simp to_z-of_z at c.unsigned_abs-least.ensures.value in
    let most = simp to_z-of_z at c.unsigned_abs-most.ensures.value in
    rw c.from.ensures (narrow_divisors c.args.scale c.args.sum c.args.count _ _ least most (omega arith) c.requires.divide)

pub bounds_by_sign-below-requires-clause-size : goal.bounds_by_sign-below-requires-clause-size
bounds_by_sign-below-requires-clause-size c =
    let fits_least : SFits w128 c.args.count.lo = search rules in
    let fits_most : SFits w128 c.args.count.hi = search rules in
    let fits : SFits w128 c.args.sum.lo = search rules in
    let least = simp to_z-of_z at c.unsigned_abs-least.ensures.value in
    let most = simp to_z-of_z at c.unsigned_abs-most.ensures.value in
    simp to_z-of_z (lo_size c.args.scale c.args.sum c.args.count _ _ least most (omega arith) c.requires.divide)

pub bounds_by_sign-above-requires-clause-narrow : goal.bounds_by_sign-above-requires-clause-narrow
bounds_by_sign-above-requires-clause-narrow c =
    let fits_least : SFits w128 c.args.count.lo = search rules in
    let fits_most : SFits w128 c.args.count.hi = search rules in
    let least = simp to_z-of_z at c.unsigned_abs-least.ensures.value in
    let most = simp to_z-of_z at c.unsigned_abs-most.ensures.value in
    let both = narrow_divisors c.args.scale c.args.sum c.args.count _ _ least most (omega arith) c.requires.divide in
    rw c.from-2.ensures (both.1, both.0)

pub bounds_by_sign-above-requires-clause-size : goal.bounds_by_sign-above-requires-clause-size
bounds_by_sign-above-requires-clause-size c =
    let fits_least : SFits w128 c.args.count.lo = search rules in
    let fits_most : SFits w128 c.args.count.hi = search rules in
    let fits : SFits w128 c.args.sum.hi = search rules in
    let least = simp to_z-of_z at c.unsigned_abs-least.ensures.value in
    let most = simp to_z-of_z at c.unsigned_abs-most.ensures.value in
    let both = hi_size c.args.scale c.args.sum c.args.count _ _ least most (omega arith) c.requires.divide in
    simp to_z-of_z (both.1, both.0)

pub returns : goal.returns
returns c =
    let fits_least : SFits w128 c.args.count.lo = search rules in
    let fits_most : SFits w128 c.args.count.hi = search rules in
    let fits_lo : SFits w128 c.args.sum.lo = search rules in
    let fits_hi : SFits w128 c.args.sum.hi = search rules in
    let fits_below : SFits w128 c.bounds_by_sign-below.result.lo = search rules in
    let fits_above : SFits w128 c.bounds_by_sign-above.result.hi = search rules in
    let least = simp to_z-of_z at c.unsigned_abs-least.ensures.value in
    let most = simp to_z-of_z at c.unsigned_abs-most.ensures.value in
    let lo = simp (to_z-of_z, c.from.ensures) at c.bounds_by_sign-below.ensures.lo in
    let hi = simp (to_z-of_z, c.from-2.ensures) at c.bounds_by_sign-above.ensures.hi in
    simp to_z-of_z (wide_told c.args.scale c.args.sum c.args.count _ _ least most (omega arith) _ _ lo hi)
