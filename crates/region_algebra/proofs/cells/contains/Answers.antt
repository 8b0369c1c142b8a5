use Rattle.std.proofs.Common.{◌≡◌, ◌+◌, ◌∙◌, false, true, get_or, refl, sym, ap, arith}
use Rattle.std.proofs.lemmas.Bool.Decides.{nat_tests}
use Rattle.cube_model.specs.Cells.{is_among}
use Rattle.region_algebra.specs.Space.{cell_total}
use Rattle.region_algebra.proofs.Tuples.{inside-here, is_among-turn, outside-here, step-at}
use Rattle.region_algebra.proofs.Turns.{cells-at_end, cell_total-some, here, is_region-length}
use Rattle.region_algebra.proofs.cells.contains.Goals as goal

pub node-requires : goal.node-requires
node-requires c = omega (arith, is_region-length c.args.dims.now c.args.r c.requires.region, c.loop-d-test.true)

pub leaf_range-first-requires : goal.leaf_range-first-requires
leaf_range-first-requires c =
    (here c.args.dims.now c.args.r c.loop-d.d (c.loop-d.d + 1) c.index-dims-d.result c.node.result c.requires.region c.loop-d-test.true refl c.index-dims-d.is c.node.ensures).within

pub nonzero_div-rest : goal.nonzero_div-rest
nonzero_div-rest c = (step-at cell_total cell_total-some c.args.dims.now c.args.steps.now c.loop-d.d c.requires.steps c.loop-d-test.true).1

pub nonzero_rem-rest : goal.nonzero_rem-rest
nonzero_rem-rest c = (step-at cell_total cell_total-some c.args.dims.now c.args.steps.now c.loop-d.d c.requires.steps c.loop-d-test.true).1

pub returns-then-not-is_within : goal.returns-then-not-is_within
returns-then-not-is_within c =
    let step = step-at cell_total cell_total-some c.args.dims.now c.args.steps.now c.loop-d.d c.requires.steps c.loop-d-test.true in
    let at = here c.args.dims.now c.args.r c.loop-d.d (c.loop-d.d + 1) c.index-dims-d.result c.node.result c.requires.region c.loop-d-test.true refl c.index-dims-d.is c.node.ensures in
    let turned = is_among-turn c.args.dims.now c.args.r c.loop-d.d (c.loop-d.d + 1) c.leaf_range-first.result.0 c.leaf_range-first.result.1 (get_or c.args.steps.now c.loop-d.d 0) c.loop-d.rest c.index-dims-d.result c.node.result at c.leaf_range-first.ensures.leaves c.leaf_range-first.ensures.some step.0 step.1 in
    let out : c.is_within.result ≡ false = grind (arith, c.if-not-is_within.true) in
    outside-here _ _ _ c.is_within.result _ c.loop-d.invariant turned c.is_within.ensures out

pub loop-d-preserved : goal.loop-d-preserved
loop-d-preserved c =
    let step = step-at cell_total cell_total-some c.args.dims.now c.args.steps.now c.loop-d.d c.requires.steps c.loop-d-test.true in
    let at = here c.args.dims.now c.args.r c.loop-d.d (c.loop-d.d + 1) c.index-dims-d.result c.node.result c.requires.region c.loop-d-test.true refl c.index-dims-d.is c.node.ensures in
    let turned = is_among-turn c.args.dims.now c.args.r c.loop-d.d (c.loop-d.d + 1) c.leaf_range-first.result.0 c.leaf_range-first.result.1 (get_or c.args.steps.now c.loop-d.d 0) c.loop-d.rest c.index-dims-d.result c.node.result at c.leaf_range-first.ensures.leaves c.leaf_range-first.ensures.some step.0 step.1 in
    let inside : c.is_within.result ≡ true = grind (arith, c.if-not-is_within.false) in
    inside-here _ _ _ c.is_within.result _ c.loop-d.invariant turned c.is_within.ensures inside

pub returns : goal.returns
returns c =
    let one = cells-at_end c.args.dims.now c.args.r c.loop-d.d c.requires.region (omega (arith, c.loop-d-test.false)) in
    sym (c.loop-d.invariant ∙ ap (λ cells. is_among cells c.loop-d.rest) one ∙ grind (arith, nat_tests))
