-- The cells before this one have places; where it gets none they are some of the changed cells.
use Rattle.std.proofs.Common.{rules}
use Rattle.cell_weight.proofs.Changes.{Reserves-change, ReservesSome-change, have_stat_places-reserved}
use Rattle.cell_weight.proofs.stat_index.StatIndex.stage.Goals as goal

pub returns-in_err-reserve-clause-err : goal.returns-in_err-reserve-clause-err
returns-in_err-reserve-clause-err c =
    search (rules, ReservesSome-change _ _ _ _ _ _ c.loop-cell-test.true c.loop-cell.invariant c.in_err-reserve.ensures.err)

pub returns-clause-ready : goal.returns-clause-ready
returns-clause-ready c = have_stat_places-reserved _ _ _ _ c.loop-cell-test.false c.loop-cell.invariant

pub loop-cell-preserved : goal.loop-cell-preserved
loop-cell-preserved c = Reserves-change _ _ _ _ _ _ c.loop-cell-test.true c.loop-cell.invariant c.in_ok-reserve.ensures.ok
