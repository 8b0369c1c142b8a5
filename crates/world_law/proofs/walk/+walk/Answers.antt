use Rattle.std.proofs.Common.{◌≡◌, ℕ, List, [], ◌∷◌, get_or, ℤ, pos, rules, arith, ap, length}
use Rattle.std.specs.Int.{w64}
use mir.Val.{SFits}
use Rattle.std.proofs.lemmas.Int.{to_z-of_z}
use Rattle.world_law.specs.Choices.{Choice, HasRoom}
use Rattle.world_law.specs.declared.walk.Found.{Found}
use Rattle.world_law.proofs.Choices.{adds_all, adds_next, adds_none, room_first, room_next, sum_next, weight_next}
use Rattle.world_law.proofs.walk.+walk.Goals as goal

-- where no choice is left, there is room for one world
room-none : (choices : List Choice) (weight : ℕ) (sum : ℤ) (found : Found) → length choices ≡ 0 → HasRoom choices weight sum found → HasRoom [] weight sum found
room-none [] weight sum found none room = room
room-none (c ∷ cs) weight sum found none room = absurd (omega (arith, none))

pub with_world-requires : goal.with_world-requires
with_world-requires t c = rw (to_z-of_z w64 c.args.sum c.ranges.sum) (room-none c.args.choices.now c.args.weight c.args.sum c.args.found c.in_default.ensures.cases c.requires)

-- no row yet
pub loop-n-init : goal.loop-n-init
loop-n-init t c =
    let sum_fits : SFits w64 c.args.sum = search rules in
    simp to_z-of_z (adds_none c.in-Some.rest.now c.args.weight c.args.sum c.args.found, c.requires.within)

-- the weight and the sum of a row have room
pub overflow_mul-weight : goal.overflow_mul-weight
overflow_mul-weight t c =
    let room = room_first _ _ _ _ _ _ _ c.in-Some.ensures.cases.0 c.as_slice-n-items.ensures c.requires in
    let fits = weight_next _ _ _ _ _ _ (0, pos 0) room c.loop-n-test.true in
    omega (arith, fits)

pub plus-requires : goal.plus-requires
plus-requires t c =
    let sum_fits : SFits w64 c.args.sum = search rules in
    let value_fits : SFits w64 (get_or c.as_slice-n-items.result.now c.loop-n.n-index (0, pos 0)).1 = search rules in
    let room = room_first _ _ _ _ _ _ _ c.in-Some.ensures.cases.0 c.as_slice-n-items.ensures c.requires in
    simp to_z-of_z (sum_next _ _ _ _ _ _ (0, pos 0) room c.loop-n-test.true)

-- so have the worlds of the others
pub walk-found-requires : goal.walk-found-requires
walk-found-requires t c =
    let sum_fits : SFits w64 c.args.sum = search rules in
    let value_fits : SFits w64 (get_or c.as_slice-n-items.result.now c.loop-n.n-index (0, pos 0)).1 = search rules in
    let both_fits : SFits w64 c.plus.result = search rules in
    let room = room_first _ _ _ _ _ _ _ c.in-Some.ensures.cases.0 c.as_slice-n-items.ensures c.requires in
    let next = room_next _ _ _ _ _ _ _ (0, pos 0) room (simp to_z-of_z at c.loop-n.invariant.0) c.loop-n.invariant.1 c.loop-n-test.true in
    (omega (arith, c.decreases, ap length c.in-Some.ensures.cases.0), simp to_z-of_z (rw (simp to_z-of_z at c.plus.ensures) next))

-- and they are added
pub loop-n-preserved : goal.loop-n-preserved
loop-n-preserved t c =
    let sum_fits : SFits w64 c.args.sum = search rules in
    let value_fits : SFits w64 (get_or c.as_slice-n-items.result.now c.loop-n.n-index (0, pos 0)).1 = search rules in
    let both_fits : SFits w64 c.plus.result = search rules in
    let more = rw (simp to_z-of_z at c.plus.ensures) at (simp to_z-of_z at c.walk-found.ensures.added) in
    (simp to_z-of_z (adds_next _ _ _ _ _ _ _ _ (0, pos 0) c.loop-n-test.true (simp to_z-of_z at c.loop-n.invariant.0) more), c.walk-found.ensures.within)

-- at the end those of all rows are
pub returns : goal.returns
returns t c =
    let sum_fits : SFits w64 c.args.sum = search rules in
    record {
      added = adds_all _ _ _ _ _ _ _ _ _ c.in-Some.ensures.cases.0 c.as_slice-n-items.ensures c.loop-n-test.false (simp to_z-of_z at c.loop-n.invariant.0);
      within = c.loop-n.invariant.1;
    }
