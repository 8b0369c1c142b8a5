use Rattle.std.proofs.Common.{length, refl, sym, arith}
use Rattle.region_algebra.specs.Space.{region_total}
use Rattle.region_algebra.proofs.Numbers.{number-at}
use Rattle.region_algebra.proofs.Tuples.{nodes_done, nodes_next, nodes_none, step-at}
use Rattle.region_algebra.proofs.Turns.{region_total-some}
use Rattle.region_algebra.proofs.regions.uncode.Goals as goal

pub nonzero_div-place : goal.nonzero_div-place
nonzero_div-place c = (step-at region_total region_total-some c.args.dims.now c.args.steps.now c.loop-d.d c.requires.steps c.loop-d-test.true).1

pub returns-then-place-from : goal.returns-then-place-from
returns-then-place-from c = sym (nodes_none c.args.dims.now c.args.steps.now c.loop-d.nodes c.loop-d.d c.loop-d.rest c.args.code c.index-dims-d.result c.requires.steps c.loop-d-test.true c.requires.few c.index-dims-d.is c.loop-d.invariant (omega (arith, c.if-place-from.true, c.from.ensures, c.len.ensures.count)))

pub nonzero_rem-rest : goal.nonzero_rem-rest
nonzero_rem-rest c = (step-at region_total region_total-some c.args.dims.now c.args.steps.now c.loop-d.d c.requires.steps c.loop-d-test.true).1

pub loop-d-preserved : goal.loop-d-preserved
loop-d-preserved c = nodes_next c.args.dims.now c.args.steps.now c.loop-d.nodes c.loop-d.d c.loop-d.rest c.args.code c.index-dims-d.result c.requires.steps c.loop-d-test.true c.requires.few c.index-dims-d.is c.loop-d.invariant c.at.result (number-at c.index-dims-d.result _ c.at.result c.at.ensures.number)

pub returns : goal.returns
returns c = rw c.first_nodes.ensures (nodes_done c.args.dims.now c.loop-d.nodes c.loop-d.d (length c.args.dims.now) c.loop-d.rest c.args.code c.requires.some c.loop-d-test.false c.loop-d.auto.d-end refl c.loop-d.invariant)
