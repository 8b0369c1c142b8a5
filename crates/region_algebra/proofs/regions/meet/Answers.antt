use Rattle.std.proofs.Common.{length, refl, sym, ◌∙◌, arith}
use Rattle.std.proofs.lemmas.List.{length-set}
use Rattle.region_algebra.proofs.Tuples.{meet_done, meet_next, meet_none}
use Rattle.region_algebra.proofs.Turns.{here, is_region-length}
use Rattle.region_algebra.proofs.regions.meet.Goals as goal

pub node-requires : goal.node-requires
node-requires c = omega (arith, is_region-length c.args.dims.now c.args.a c.requires.first, c.loop-d-test.true)

pub node-requires-in-loop-d : goal.node-requires-in-loop-d
node-requires-in-loop-d c = omega (arith, is_region-length c.args.dims.now c.args.b c.requires.second, c.loop-d-test.true)

pub lower-requires-clause-first : goal.lower-requires-clause-first
lower-requires-clause-first c = (here c.args.dims.now c.args.a c.loop-d.d _ c.index-dims-d.result c.node.result c.requires.first c.loop-d-test.true refl c.index-dims-d.is c.node.ensures).within

pub lower-requires-clause-second : goal.lower-requires-clause-second
lower-requires-clause-second c = (here c.args.dims.now c.args.b c.loop-d.d _ c.index-dims-d.result c.node-in-loop-d.result c.requires.second c.loop-d-test.true refl c.index-dims-d.is c.node-in-loop-d.ensures).within

pub returns-in_err-nodes : goal.returns-in_err-nodes
returns-in_err-nodes c = c.from_residual.ensures ∙ sym (meet_none c.args.dims.now c.args.a c.args.b c.loop-d.nodes c.loop-d.d c.index-dims-d.result c.node.result c.node-in-loop-d.result c.requires.first c.requires.second c.loop-d-test.true c.index-dims-d.is c.node.ensures c.node-in-loop-d.ensures c.in_err-nodes.ensures c.loop-d.invariant.behind)

pub loop-d-preserved : goal.loop-d-preserved
loop-d-preserved c = record {
  room = length-set c.loop-d.nodes c.loop-d.d c.in_ok-nodes.field-0 ∙ c.loop-d.invariant.room;
  behind = meet_next c.args.dims.now c.args.a c.args.b c.loop-d.nodes c.loop-d.d c.index-dims-d.result c.node.result c.node-in-loop-d.result c.in_ok-nodes.field-0 c.loop-d.invariant.room c.requires.few c.requires.first c.requires.second c.loop-d-test.true c.index-dims-d.is c.node.ensures c.node-in-loop-d.ensures c.in_ok-nodes.ensures c.loop-d.invariant.behind;
}

pub returns : goal.returns
returns c = rw c.first_nodes.ensures (meet_done c.args.dims.now c.args.a c.args.b c.loop-d.nodes c.loop-d.d (length c.args.dims.now) c.requires.first c.requires.second c.loop-d-test.false c.loop-d.auto.d-end refl c.loop-d.invariant.behind)
