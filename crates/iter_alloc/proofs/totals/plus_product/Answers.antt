-- The product of a sum and a weight fits, and so does the total with it.
use Rattle.std.proofs.Common.{◌≡◌, ℕ, ◌*◌, ◌<◌, ◌≤◌, ◌∙◌, arith, ℤ, pos, negsuc, ◌*ℤ◌, SFits, of_z, to_z, to_z-of_z}
use Rattle.std.specs.Prelude.{nat_abs}
use Rattle.std.specs.Int.{w64, w128}
use Rattle.std.specs.Int.Signed.{nat_abs-le}
use Rattle.std.proofs.Math.Nat.{mul-le-mul}
use Rattle.std.proofs.lemmas.Int.{unsigned_abs-mul}
use Rattle.iter_alloc.proofs.totals.plus_product.Goals as goal

small-fits : (z : ℤ) → nat_abs z < 170141183460469231731687303715884105728 → SFits w128 z
small-fits (pos n) small = record { sfits = omega (arith, small) }
small-fits (negsuc n) small = record { sfits = omega (arith, small) }

product-fits : (s : ℤ) (w : ℕ) → SFits w64 s → w < 18446744073709551616 → SFits w128 (s *ℤ pos w)
product-fits s w fits small =
    let least : w ≤ 18446744073709551615 = omega (arith, small) in
    let most : nat_abs s * w ≤ 9223372036854775808 * 18446744073709551615 = mul-le-mul (nat_abs-le s fits.sfits) least in
    small-fits (s *ℤ pos w) (omega (arith, unsigned_abs-mul s (pos w), most))

sum-read : (c : goal.After-from-2) → to_z w128 (of_z w128 c.from.result) ≡ c.args.value
sum-read c = to_z-of_z {w = w128} (record { sfits = c.from.type_inv }) ∙ c.from.ensures ∙ to_z-of_z c.ranges.value

weight-read : (c : goal.After-from-2) → to_z w128 (of_z w128 c.from-2.result) ≡ pos c.args.portion
weight-read c = to_z-of_z {w = w128} (record { sfits = c.from-2.type_inv }) ∙ c.from-2.ensures

product-read : (c : goal.After-from-2) → to_z w128 (of_z w128 (c.args.value *ℤ pos c.args.portion)) ≡ c.args.value *ℤ pos c.args.portion
product-read c = to_z-of_z (product-fits c.args.value c.args.portion c.ranges.value c.ranges.portion.fits)

pub overflow_mul-result : goal.overflow_mul-result
overflow_mul-result c = rw (sum-read c, weight-read c) (product-fits c.args.value c.args.portion c.ranges.value c.ranges.portion.fits)

pub overflow_add-result : goal.overflow_add-result
overflow_add-result c = rw (sum-read c, weight-read c, product-read c, to_z-of_z c.ranges.total) (small-fits _ (omega (arith, c.requires)))

pub returns : goal.returns
returns c = rw (sum-read c, weight-read c, product-read c, to_z-of_z c.ranges.total) (to_z-of_z (small-fits _ (omega (arith, c.requires))))
