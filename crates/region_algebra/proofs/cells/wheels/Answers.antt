use Rattle.std.proofs.Common.{◌≡◌, ◌-◌, List, [], ◌∷◌, ◌∙◌, length, refl, arith, length-set}
use Rattle.region_algebra.specs.declared.wheel.Wheel.{Wheel}
use Rattle.region_algebra.proofs.Turns.{before, is_region-length}
use Rattle.region_algebra.proofs.Wheels.{no_wheel, wheels_next, wheels_start}
use Rattle.region_algebra.proofs.cells.wheels.Goals as goal

abbrev unused : List Wheel
unused = no_wheel ∷ no_wheel ∷ no_wheel ∷ no_wheel ∷ no_wheel ∷ no_wheel ∷ []

pub node-requires : goal.node-requires
node-requires c = omega (arith, is_region-length c.args.dims.now c.args.r c.requires.region, c.loop-d.invariant.within)

pub loop-d-init : goal.loop-d-init
loop-d-init c = record {
  within = omega arith;
  room = refl;
  wheels = wheels_start c.args.dims.now c.args.r unused (length c.args.dims.now) c.requires.region refl (omega (arith, c.requires.few));
}

pub leaf_range-first-requires : goal.leaf_range-first-requires
leaf_range-first-requires c =
    let at = before c.args.dims.now c.args.r (c.loop-d.d - 1) c.loop-d.d c.index-dims-d.result c.node.result c.requires.region c.loop-d.invariant.within c.loop-d-test.true refl c.index-dims-d.is c.node.ensures in
    at.within

pub loop-d-preserved : goal.loop-d-preserved
loop-d-preserved c =
    let at = before c.args.dims.now c.args.r (c.loop-d.d - 1) c.loop-d.d c.index-dims-d.result c.node.result c.requires.region c.loop-d.invariant.within c.loop-d-test.true refl c.index-dims-d.is c.node.ensures in
    record {
      within = omega (arith, c.loop-d.invariant.within);
      room = length-set c.loop-d.wheels (c.loop-d.d - 1) _ ∙ c.loop-d.invariant.room;
      wheels = wheels_next c.args.dims.now c.args.steps.now c.args.r c.loop-d.wheels (length c.args.dims.now) (c.loop-d.d - 1) c.loop-d.d c.leaf_range-first.result.0 c.leaf_range-first.result.1 c.index-dims-d.result c.node.result _ c.requires.steps at refl (omega (arith, c.requires.few, c.loop-d.invariant.room)) c.loop-d.invariant.within c.loop-d-test.true refl c.leaf_range-first.ensures.leaves c.leaf_range-first.ensures.some refl c.loop-d.invariant.wheels;
    }

pub returns : goal.returns
returns c =
    let start : c.loop-d.d ≡ 0 = omega (arith, c.loop-d-test.false) in
    rw start at c.loop-d.invariant.wheels
