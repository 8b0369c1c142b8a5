use Rattle.std.proofs.Common.{get_or, pos, arith, rules, ◌∙◌}
use Rattle.std.specs.Int.{w64, w128}
use mir.Val.{SFits}
use Rattle.std.proofs.lemmas.Int.{to_z-of_z}
use Rattle.group_sum.proofs.Scaled.{scaled_here, scaled_more}
use Rattle.group_sum.proofs.row.add_scaled.Goals as goal

-- the place is as it was, so the sum there has room for the product
pub plus_product-requires : goal.plus_product-requires
plus_product-requires c =
    let sum_fits : SFits w128 (get_or c.loop-k.sums c.loop-k.k (pos 0)) = search rules in
    let value_fits : SFits w64 c.get.result = search rules in
    let here = scaled_here _ _ _ _ _ c.loop-k.invariant _ c.get.ensures in
    simp to_z-of_z (rw here (c.requires.each _ (omega arith)))

-- what is written is the sum that this place should have
pub loop-k-preserved : goal.loop-k-preserved
loop-k-preserved c =
    let sum_fits : SFits w128 (get_or c.loop-k.sums c.loop-k.k (pos 0)) = search rules in
    let value_fits : SFits w64 c.get.result = search rules in
    let new_fits : SFits w128 c.plus_product.result = search rules in
    let here = scaled_here _ _ _ _ _ c.loop-k.invariant _ c.get.ensures in
    scaled_more _ _ _ _ _ c.loop-k.invariant _ (omega arith) (simp to_z-of_z ((simp to_z-of_z at c.plus_product.ensures) ∙ here))
