-- The digits of the next dimension are listed.
use Rattle.cube_model.specs.Tree.{leaves, numbers}
use Rattle.region_algebra.specs.Space.{cell_total, region_total}
use Rattle.view_store.proofs.CutSums.{shares-small}
use Rattle.view_store.proofs.CutTables.{digits-more}
use Rattle.view_store.proofs.cut_table.table_of.Goals as goal

pub node_shares-requires : goal.node_shares-requires
node_shares-requires c = shares-small c.args.space.now c.loop-d.d c.region_step-step.result c.dim-dim.result.now c.dims-d-end.ensures.trees c.dims-d-end.ensures.accepted c.dim-dim.ensures c.region_step-step.ensures

pub leaf_shares-requires : goal.leaf_shares-requires
leaf_shares-requires c = shares-small c.args.space.now c.loop-d.d c.region_step-step.result c.dim-dim.result.now c.dims-d-end.ensures.trees c.dims-d-end.ensures.accepted c.dim-dim.ensures c.region_step-step.ensures

pub loop-d-preserved : goal.loop-d-preserved
loop-d-preserved c = record {
  regions = rw c.in_ok-push.ensures.ok (digits-more numbers region_total c.args.space.now c.args.depths.now c.loop-d.d c.dim-dim.result.now c.loop-d.regions _ c.loop-d.invariant.regions c.dim-dim.ensures (record {
    apart_is = c.region_step-step.ensures;
    shares = rw c.region_step-step.ensures at c.in_ok-nodes.ensures;
  }));
  cells = rw c.in_ok-push-2.ensures.ok (digits-more leaves cell_total c.args.space.now c.args.depths.now c.loop-d.d c.dim-dim.result.now c.loop-d.cells _ c.loop-d.invariant.cells c.dim-dim.ensures (record {
    apart_is = c.cell_step.ensures;
    shares = rw c.region_step-step.ensures at c.in_ok-leaves.ensures;
  }));
}
