use Rattle.std.proofs.Common.{arith, rules}
use Rattle.std.specs.Int.{w64}
use mir.Val.{SFits}
use Rattle.std.proofs.lemmas.Int.{to_z-of_z}
use Rattle.world_law.specs.Placed.{choices_of}
use Rattle.world_law.proofs.Placing.{all_settled, all_small, one_settled, one_sum_fits, one_weight_fits, several_settled}
use Rattle.world_law.proofs.Settling.{settling_none}
use Rattle.world_law.proofs.settle.settle.Goals as goal

pub loop-item-init : goal.loop-item-init
loop-item-init c = rw c.new-several.ensures (settling_none (choices_of c.args.space.now c.args.r c.args.column c.args.placed.now))

-- the weight and the sum have room for a fact of one row
pub overflow_mul-weight : goal.overflow_mul-weight
overflow_mul-weight c =
    let fits =
    one_weight_fits c.args.space.now c.args.r c.args.column c.args.placed.now _ _ c.requires.placed c.loop-item-test.true c.item-item.is _ _ _ c.loop-item.invariant _ c.as_slice-rows.ensures c.if-rows-eq1.true c.requires.light in
    omega (arith, fits)

pub plus-sum-requires : goal.plus-sum-requires
plus-sum-requires c =
    let own_fits : SFits w64 c.own.result = search rules in
    simp to_z-of_z
    (one_sum_fits c.args.space.now c.args.r c.args.column c.args.placed.now _ _ c.requires.placed c.loop-item-test.true c.item-item.is _ _ _ c.loop-item.invariant _ c.as_slice-rows.ensures c.if-rows-eq1.true _ c.own.ensures
    c.requires.few)

pub loop-item-preserved-then-rows-eq1 : goal.loop-item-preserved-then-rows-eq1
loop-item-preserved-then-rows-eq1 c =
    let own_fits : SFits w64 c.own.result = search rules in
    let sum_fits : SFits w64 c.plus-sum.result = search rules in
    simp to_z-of_z
    (one_settled c.args.space.now c.args.r c.args.column c.args.placed.now _ _ c.requires.placed c.loop-item-test.true c.item-item.is _ _ _ c.loop-item.invariant _ c.as_slice-rows.ensures c.if-rows-eq1.true _ c.own.ensures
    _ (simp to_z-of_z at c.plus-sum.ensures))

-- a fact of several has a choice
pub loop-item-preserved : goal.loop-item-preserved
loop-item-preserved c =
    several_settled c.args.space.now c.args.r c.args.column c.args.placed.now _ _ c.requires.placed c.loop-item-test.true c.item-item.is _ _ _ c.loop-item.invariant _ _ c.in_ok-choose.ensures c.in_ok-push.ensures.ok

pub returns-clause-settles : goal.returns-clause-settles
returns-clause-settles c = all_settled c.args.space.now c.args.r c.args.column c.args.placed.now _ _ _ _ c.loop-item.invariant c.loop-item-test.false

pub returns-clause-small : goal.returns-clause-small
returns-clause-small c = all_small c.args.space.now c.args.r c.args.column c.args.placed.now _ _ _ _ c.loop-item.invariant c.loop-item.auto.item-index-end c.requires.few
