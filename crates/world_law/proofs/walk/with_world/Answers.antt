use Rattle.std.proofs.Common.{◌≡◌, ℕ, ◌+◌, ◌≤◌, rules, arith, ap, ◌∙◌, ℤ, pos, ◌+ℤ◌, ◌*ℤ◌, of_z, to_z}
use Rattle.std.specs.Int.{w64, w128}
use mir.Val.{SFits}
use Rattle.std.proofs.Math.Nat.{mul-le-mul_right}
use Rattle.std.proofs.lemmas.Int.{ints, to_z-of_z}
use Rattle.world_law.specs.Limits.{MAX_MASS}
use Rattle.world_law.proofs.Choices.{within_more}
use Rattle.world_law.proofs.walk.with_world.Goals as goal

-- what is read as the total and as the sum is these
total-read : (c : goal.After-struct_told-1) → to_z w128 (of_z w128 c.args.found.total) ≡ c.args.found.total
total-read c = let fits : SFits w128 c.args.found.total = search rules in to_z-of_z w128 c.args.found.total fits

sum-read : (c : goal.After-struct_told-1) → to_z w64 (of_z w64 c.args.sum) ≡ c.args.sum
sum-read c = to_z-of_z w64 c.args.sum c.ranges.sum

pub plus_product-requires : goal.plus_product-requires
plus_product-requires c =
    let more = within_more c.args.found.total c.args.sum c.args.found.mass c.args.weight MAX_MASS c.requires.within (omega (arith, c.requires.small)) in
    let room : c.args.found.mass + c.args.weight ≤ MAX_MASS = omega (arith, c.requires.mass) in
    rw (total-read c, sum-read c) (omega (arith, more, mul-le-mul_right MAX_MASS room))

-- no choice is left
once : (s : ℤ) (w : ℕ) → s *ℤ pos w ≡ (s *ℤ pos 1 +ℤ pos 0) *ℤ pos w
once s w = let same : s ≡ s *ℤ pos 1 +ℤ pos 0 = omega (arith, ints) in ap (λ (z : ℤ). z *ℤ pos w) same

pub returns-clause-added : goal.returns-clause-added
returns-clause-added c =
    let fits : SFits w128 c.args.found.total = search rules in
    let total = to_z-of_z w128 c.args.found.total fits in
    let sum = to_z-of_z w64 c.args.sum c.ranges.sum in
    let read = to_z-of_z w128 c.plus_product.result (record { sfits = c.plus_product.type_inv }) in
    record {
      worlds = omega arith;
      mass = omega arith;
      total = read ∙ rw (total, sum) at c.plus_product.ensures ∙ ap (λ (z : ℤ). c.args.found.total +ℤ z) (once c.args.sum c.args.weight);
    }

-- the sum of a world is no larger than the limit
pub returns-clause-within : goal.returns-clause-within
returns-clause-within c =
    let total_fits : SFits w128 c.args.found.total = search rules in
    let sum_fits : SFits w64 c.args.sum = search rules in
    let new_fits : SFits w128 c.plus_product.result = search rules in
    simp to_z-of_z (rw (simp to_z-of_z at c.plus_product.ensures) (within_more c.args.found.total c.args.sum c.args.found.mass c.args.weight MAX_MASS c.requires.within (omega (arith, c.requires.small))))
