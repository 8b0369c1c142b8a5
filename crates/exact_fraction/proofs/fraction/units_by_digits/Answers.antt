use Rattle.std.proofs.Common.{arith}
use Rattle.exact_fraction.proofs.Places.{digit_next, whole_below}
use Rattle.exact_fraction.proofs.fraction.units_by_digits.Goals as goal

pub overflow_mul-whole : goal.overflow_mul-whole
overflow_mul-whole c =
    omega (arith, whole_below c.args.size c.args.den c.loop-place.whole c.loop-place.rest c.loop-place.place c.loop-place.invariant.parts c.requires.some c.requires.size (omega arith))

pub overflow_add-whole : goal.overflow_add-whole
overflow_add-whole c =
    let digit = digit_next c.args.size c.args.den c.loop-place.whole c.loop-place.rest c.loop-place.place c.loop-place.invariant.parts c.requires.some in
    omega (arith, whole_below _ _ _ _ _ digit c.requires.some c.requires.size (omega arith))

pub loop-place-preserved : goal.loop-place-preserved
loop-place-preserved c = record {
  parts = digit_next _ _ _ _ _ c.loop-place.invariant.parts c.requires.some;
  rest = omega arith;
}

pub returns-clause-within : goal.returns-clause-within
returns-clause-within c = whole_below _ _ _ _ _ c.loop-place.invariant.parts c.requires.some c.requires.size (omega arith)
