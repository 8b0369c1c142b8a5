use Rattle.std.proofs.Common.{length, refl, arith}
use Rattle.region_algebra.specs.Space.{cell_total}
use Rattle.region_algebra.proofs.Tuples.{leaf-within, leaves_done, leaves_next, leaves_start, step-at}
use Rattle.region_algebra.proofs.Turns.{cell_total-some}
use Rattle.region_algebra.proofs.cells.cell_at.Goals as goal

pub loop-d-init : goal.loop-d-init
loop-d-init c = leaves_start c.args.dims.now _ c.args.cell refl c.requires.cell

pub nonzero_div-rest : goal.nonzero_div-rest
nonzero_div-rest c = (step-at cell_total cell_total-some c.args.dims.now c.args.steps.now c.loop-d.d c.requires.steps c.loop-d-test.true).1

pub overflow_cast-rest : goal.overflow_cast-rest
overflow_cast-rest c =
    let within = leaf-within c.args.dims.now c.args.steps.now c.loop-d.nodes c.loop-d.d c.loop-d.rest c.args.cell c.index-dims-d.result c.requires.steps c.loop-d-test.true c.requires.few c.index-dims-d.is c.loop-d.invariant in
    omega (arith, within.1)

pub leaf_node-requires : goal.leaf_node-requires
leaf_node-requires c =
    let within = leaf-within c.args.dims.now c.args.steps.now c.loop-d.nodes c.loop-d.d c.loop-d.rest c.args.cell c.index-dims-d.result c.requires.steps c.loop-d-test.true c.requires.few c.index-dims-d.is c.loop-d.invariant in
    within.0

pub nonzero_rem-rest : goal.nonzero_rem-rest
nonzero_rem-rest c = (step-at cell_total cell_total-some c.args.dims.now c.args.steps.now c.loop-d.d c.requires.steps c.loop-d-test.true).1

pub loop-d-preserved : goal.loop-d-preserved
loop-d-preserved c = leaves_next c.args.dims.now c.args.steps.now c.loop-d.nodes c.loop-d.d c.loop-d.rest c.args.cell c.index-dims-d.result c.requires.steps c.loop-d-test.true c.requires.few c.index-dims-d.is c.loop-d.invariant c.leaf_node.result c.leaf_node.ensures.leaf c.leaf_node.ensures.within

pub returns-clause-cell : goal.returns-clause-cell
returns-clause-cell c =
    let done = leaves_done c.args.dims.now c.loop-d.nodes c.loop-d.d (length c.args.dims.now) c.loop-d.rest c.args.cell c.loop-d-test.false c.loop-d.auto.d-end refl c.loop-d.invariant in
    rw c.first_nodes.ensures done.0

pub returns-clause-region : goal.returns-clause-region
returns-clause-region c =
    let done = leaves_done c.args.dims.now c.loop-d.nodes c.loop-d.d (length c.args.dims.now) c.loop-d.rest c.args.cell c.loop-d-test.false c.loop-d.auto.d-end refl c.loop-d.invariant in
    rw c.first_nodes.ensures done.1
