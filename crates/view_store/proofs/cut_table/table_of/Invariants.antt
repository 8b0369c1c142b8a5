-- The digits of the dimensions before this one are listed.
use Rattle.cube_model.specs.Tree.{leaves, numbers}
use Rattle.region_algebra.specs.Space.{cell_total, region_total}
use Rattle.view_store.specs.CutTables.{AreDigits}
use Rattle.view_store.proofs.cut_table.table_of.Given as goal

abbrev pub invariant-loop-d : goal.invariant-loop-d
invariant-loop-d l = record {
  regions : AreDigits numbers region_total l.space l.depths l.d l.regions;
  cells : AreDigits leaves cell_total l.space l.depths l.d l.cells;
}
