use Rattle.std.proofs.Common.{◌≡◌, ◌+ℤ◌, ◌*ℤ◌, ◌≤◌, nat_abs, arith, ◌∙◌, refl}
use Rattle.std.specs.Int.{w64, w128}
use Rattle.std.specs.Int.RustNames.{unsigned_abs}
use mir.Val.{SFits}
use Rattle.std.proofs.lemmas.Int.{fits_signed_from_abs, fits_signed_mul, ints, to_z-of_z}
use Rattle.cube_model.specs.Limits.{WIDE}
use Rattle.group_sum.proofs.row.plus_product.Goals as goal

-- what is widened is the value
value_is : (c : goal.After-from-2) → c.from-2.result ≡ c.args.value
value_is c = c.from-2.ensures ∙ to_z-of_z w64 c.args.value c.ranges.value

-- the product fits
product_fits : (c : goal.After-from-2) → SFits w128 (c.from.result *ℤ c.from-2.result)
product_fits c =
    let weight_most : unsigned_abs c.from.result ≤ 18446744073709551615 = rw c.from.ensures (omega arith) in
    let value_most : unsigned_abs c.from-2.result ≤ 9223372036854775808 = rw (value_is c) (omega (arith, ints)) in
    fits_signed_mul w128 c.from.result c.from-2.result 18446744073709551615 9223372036854775808 weight_most value_most (omega arith)

-- and so does the sum with it
total_fits : (c : goal.After-from-2) → SFits w128 (c.args.sum +ℤ c.from.result *ℤ c.from-2.result)
total_fits c =
    let within : nat_abs (c.args.sum +ℤ c.from.result *ℤ c.from-2.result) ≤ WIDE = rw (c.from.ensures, value_is c) c.requires in
    fits_signed_from_abs w128 _ (omega (arith, within))

pub overflow_mul-result : goal.overflow_mul-result
overflow_mul-result c =
    let weight_fits : SFits w128 c.from.result = record { sfits = c.from.type_inv } in
    let value_fits : SFits w128 c.from-2.result = record { sfits = c.from-2.type_inv } in
    simp to_z-of_z (product_fits c)

pub overflow_add-result : goal.overflow_add-result
overflow_add-result c =
    let sum_fits = c.ranges.sum in
    let weight_fits : SFits w128 c.from.result = record { sfits = c.from.type_inv } in
    let value_fits : SFits w128 c.from-2.result = record { sfits = c.from-2.type_inv } in
    let product = product_fits c in
    simp to_z-of_z (total_fits c)

pub returns : goal.returns
returns c =
    let sum_fits = c.ranges.sum in
    let weight_fits : SFits w128 c.from.result = record { sfits = c.from.type_inv } in
    let value_fits : SFits w128 c.from-2.result = record { sfits = c.from-2.type_inv } in
    let product = product_fits c in
    let total = total_fits c in
    simp to_z-of_z (rw (c.from.ensures, value_is c) refl)
