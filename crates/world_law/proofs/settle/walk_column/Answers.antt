use Rattle.std.proofs.Common.{rules}
use Rattle.std.specs.Int.{w64}
use mir.Val.{SFits}
use Rattle.std.proofs.lemmas.Int.{to_z-of_z}
use Rattle.world_law.proofs.Placing.{few_ways, found_mass, found_total, found_worlds, light}
use Rattle.world_law.proofs.Settling.{room_left}
use Rattle.world_law.proofs.settle.walk_column.Goals as goal

-- the worlds are few and light
pub settle-requires-clause-light : goal.settle-requires-clause-light
settle-requires-clause-light c = light c.args.space.now c.args.r c.args.column c.args.placed.now c.requires.placed c.requires.accepted

pub walk-requires : goal.walk-requires
walk-requires c =
    let sum_fits : SFits w64 c.in_ok-settled.settled.sum = search rules in
    let is_light = light c.args.space.now c.args.r c.args.column c.args.placed.now c.requires.placed c.requires.accepted in
    let few = few_ways c.args.space.now c.args.r c.args.column c.args.placed.now c.requires.placed c.requires.accepted in
    simp to_z-of_z (rw c.as_slice.ensures (room_left _ _ _ _ c.in_ok-settled.ensures.settles is_light few c.in_ok-settled.ensures.small c.in_ok-settled.ensures.values))

-- and what is found of them is what they come to
pub returns-clause-worlds : goal.returns-clause-worlds
returns-clause-worlds c =
    let sum_fits : SFits w64 c.in_ok-settled.settled.sum = search rules in
    found_worlds c.args.space.now c.args.r c.args.column c.args.placed.now _ _ _ _ _ c.in_ok-settled.ensures.settles c.as_slice.ensures (simp to_z-of_z at c.walk.ensures.added)

pub returns-clause-mass : goal.returns-clause-mass
returns-clause-mass c =
    let sum_fits : SFits w64 c.in_ok-settled.settled.sum = search rules in
    found_mass c.args.space.now c.args.r c.args.column c.args.placed.now _ _ _ _ _ c.in_ok-settled.ensures.settles c.as_slice.ensures (simp to_z-of_z at c.walk.ensures.added)

pub returns-clause-total : goal.returns-clause-total
returns-clause-total c =
    let sum_fits : SFits w64 c.in_ok-settled.settled.sum = search rules in
    found_total c.args.space.now c.args.r c.args.column c.args.placed.now _ _ _ _ _ c.in_ok-settled.ensures.settles c.as_slice.ensures (simp to_z-of_z at c.walk.ensures.added)
