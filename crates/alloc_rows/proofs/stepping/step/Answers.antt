-- The total and the rows follow the changes, and are judged once at the end.
use Rattle.std.proofs.Common.{◌≡◌, ℕ, ◌+◌, ◌-◌, ◌<◌, ◌++◌, false, get_or, refl, arith}
use Rattle.std.proofs.lemmas.Bool.Decides.{nat_tests}
use Rattle.std.specs.Prelude.{IfOk}
use Rattle.cube_model.specs.Allocation.{spread}
use Rattle.cube_model.specs.Cells.{cells_of, is_single}
use Rattle.cube_model.specs.Limits.{DEN_LIMIT}
use Rattle.cell_weight.specs.Stats.{stat_at}
use Rattle.alloc_rows.specs.Changed.{stat_after}
use Rattle.alloc_rows.proofs.Ascending.{IsAllocation-weighed}
use Rattle.alloc_rows.proofs.Changes.{stat_after-possible}
use Rattle.alloc_rows.proofs.Passing.{Passing-all, Passing-next, Passing-start}
use Rattle.alloc_rows.proofs.Stepped.{Stepped-most, Stepped-start, no_change, sum-limit}
use Rattle.alloc_rows.proofs.Spreading.{AreRows-spreads, IsSpreadOf-spread, spread-several}
use Rattle.alloc_rows.proofs.stepping.step.Given.{Over}
use Rattle.alloc_rows.proofs.stepping.step.Goals as goal

pub loop-cell-init : goal.loop-cell-init
loop-cell-init g c =
    let stats = stat_at c.args.stats.now in
    let weigh = g.P.WeightPolicy.weigh c.args.policy.now in
    let cells = cells_of c.args.space.now c.args.r in
    let limit = sum-limit weigh stats cells (g.met.P.WeightPolicy.bound c.args.policy.now) c.rows_by_weight-total.ensures.possible c.requires.few c.requires.counted in
    let stepped = Stepped-start weigh stats cells c.args.changed.now c.args.old.now _ _ c.requires.several c.requires.before limit c.rows_by_weight-total.ensures.total c.rows_by_weight-total.ensures.rows in
    Passing-start weigh stats c.args.space.now c.args.r c.args.changed.now c.rows_by_weight-total.result.0 c.in_ok-rows.rows.items c.rows_by_weight-total.result.1.now c.in_ok-rows.ensures.items stepped

-- the old statistics of a changed cell are kept ones
pub weight-requires : goal.weight-requires
weight-requires g c =
    let kept = c.requires.changes.from c.loop-cell.cell-index no_change c.loop-cell-test.true in
    rw kept (c.rows_by_weight-total.ensures.possible (get_or c.args.changed.now c.loop-cell.cell-index no_change).0)

pub overflow_sub-total : goal.overflow_sub-total
overflow_sub-total g c =
    let weigh = g.P.WeightPolicy.weigh c.args.policy.now in
    let all = c.loop-cell.rows.items ++ c.loop-cell.rest.now in
    let most = Stepped-most weigh (stat_at c.args.stats.now) c.args.space.now c.args.r c.args.changed.now c.loop-cell.cell-index c.loop-cell.total all no_change c.requires.changes c.loop-cell-test.true c.loop-cell.invariant.so_far in
    omega (arith, c.weight.ensures, most)

pub loop-cell-preserved : goal.loop-cell-preserved
loop-cell-preserved g c =
    let weigh = g.P.WeightPolicy.weigh c.args.policy.now in
    let possible = c.requires.changes.possible c.loop-cell.cell-index no_change c.loop-cell-test.true in
    let bound = g.met.P.WeightPolicy.bound c.args.policy.now (get_or c.args.changed.now c.loop-cell.cell-index no_change).2 possible in
    let small : c.weight-weight.result < DEN_LIMIT = omega (arith, c.weight-weight.ensures, bound, possible.few) in
    Passing-next weigh (stat_at c.args.stats.now) c.args.space.now c.args.r c.args.changed.now c.loop-cell.cell-index c.loop-cell.total c.loop-cell.rows.items c.loop-cell.rest.now c.requires.changes c.loop-cell-test.true c.loop-cell.invariant
    c.weight.result c.weight-weight.result (c.loop-cell.total - c.weight.result + c.weight-weight.result) c.pass_cell.new.rows.items c.in_ok-rest.rest.now c.weight.ensures c.weight-weight.ensures small refl c.in_ok-rest.ensures.passed c.in_ok-rest.ensures.left

pub settle-requires-clause-weighed : goal.settle-requires-clause-weighed
settle-requires-clause-weighed g c some =
    let stats = stat_after (stat_at c.args.stats.now) c.args.changed.now in
    let weigh = g.P.WeightPolicy.weigh c.args.policy.now in
    let cells = cells_of c.args.space.now c.args.r in
    let rows = c.extend_from_slice.new.self.items in
    let all = Passing-all weigh (stat_at c.args.stats.now) cells c.args.changed.now c.loop-cell.cell-index c.loop-cell.total c.loop-cell.rows.items c.loop-cell.rest.now rows c.loop-cell-test.false c.loop-cell.invariant c.in_ok-extend_from_slice.ensures.items in
    let possible = λ (cell : ℕ). stat_after-possible (stat_at c.args.stats.now) c.args.changed.now cell (c.rows_by_weight-total.ensures.possible cell) c.requires.changes.possible in
    let limit = sum-limit weigh stats cells (g.met.P.WeightPolicy.bound c.args.policy.now) possible c.requires.few c.requires.counted_after in
    IsAllocation-weighed (λ cell. weigh (stats cell)) c.args.space.now c.args.r c.loop-cell.total rows all.0 all.1 some (omega (arith, all.0, limit))

-- what is settled is spread
settled : (g : Over) (c : goal.After-settle g)
    → IfOk c.settle.result (λ a. a ≡ spread (λ cell. g.P.WeightPolicy.weigh c.args.policy.now (stat_after (stat_at c.args.stats.now) c.args.changed.now cell)) (cells_of c.args.space.now c.args.r))
settled g c =
    let stats = stat_after (stat_at c.args.stats.now) c.args.changed.now in
    let weigh = g.P.WeightPolicy.weigh c.args.policy.now in
    let cells = cells_of c.args.space.now c.args.r in
    let rows = c.extend_from_slice.new.self.items in
    let all = Passing-all weigh (stat_at c.args.stats.now) cells c.args.changed.now c.loop-cell.cell-index c.loop-cell.total c.loop-cell.rows.items c.loop-cell.rest.now rows c.loop-cell-test.false c.loop-cell.invariant c.in_ok-extend_from_slice.ensures.items in
    let single : is_single cells ≡ false = grind (arith, nat_tests) in
    let is = spread-several (λ cell. weigh (stats cell)) cells c.loop-cell.total rows single all.0 all.1 in
    rw (← is) c.settle.ensures

pub returns-clause-spread : goal.returns-clause-spread
returns-clause-spread = settled

pub returns-clause-of_facts : goal.returns-clause-of_facts
returns-clause-of_facts g c = IsSpreadOf-spread c.settle.result (g.P.WeightPolicy.weigh c.args.policy.now) c.args.space.now (stat_after (stat_at c.args.stats.now) c.args.changed.now) c.args.r (settled g c)

pub returns-clause-cells : goal.returns-clause-cells
returns-clause-cells g c = AreRows-spreads c.settle.result (λ cell. g.P.WeightPolicy.weigh c.args.policy.now (stat_after (stat_at c.args.stats.now) c.args.changed.now cell)) c.args.space.now c.args.r (settled g c)
