-- One cell has its row, and the rows of the weighed cells over their sum are an allocation. What is spread over a region is what each fact there has, in rows of its cells.
use Rattle.std.proofs.Common.{◌≡◌, ℕ, sym, ◌∙◌}
use Rattle.std.specs.Prelude.{IfOk, Ok}
use Rattle.cube_model.specs.Allocation.{spread}
use Rattle.cube_model.specs.Cells.{cells_of}
use Rattle.cell_weight.specs.Stats.{stat_at}
use Rattle.alloc_rows.proofs.Ascending.{IsAllocation-weighed}
use Rattle.alloc_rows.proofs.Spreading.{AreRows-spreads, IsSpreadOf-spread, several-only, spread-only, spread-several}
use Rattle.alloc_rows.proofs.spread.allocate_at.Given.{Over}
use Rattle.alloc_rows.proofs.spread.allocate_at.Goals as goal

pub settle-requires-clause-weighed : goal.settle-requires-clause-weighed
settle-requires-clause-weighed g c some = IsAllocation-weighed _ _ _ _ _ c.in_ok-total.ensures.total c.in_ok-total.ensures.rows some c.in_ok-total.ensures.limit

pub returns-in-Some-clause-of_facts : goal.returns-in-Some-clause-of_facts
returns-in-Some-clause-of_facts g c =
    let weigh = g.P.WeightPolicy.weigh c.args.policy.now in
    let is = c.of_cell.ensures ∙ sym (spread-only (λ cell. weigh (stat_at c.args.stats.now cell)) (cells_of c.args.space.now c.args.r) c.in-Some.cell (sym c.in-Some.ensures.only)) in
    IsSpreadOf-spread {E = ℕ} (Ok c.of_cell.result) weigh c.args.space.now (stat_at c.args.stats.now) c.args.r is

-- what is settled is spread
settled : (g : Over) (c : goal.After-settle g) → IfOk c.settle.result (λ a. a ≡ spread (λ cell. g.P.WeightPolicy.weigh c.args.policy.now (stat_at c.args.stats.now cell)) (cells_of c.args.space.now c.args.r))
settled g c =
    let weight = λ (cell : ℕ). g.P.WeightPolicy.weigh c.args.policy.now (stat_at c.args.stats.now cell) in
    let cells = cells_of c.args.space.now c.args.r in
    let is = spread-several weight cells c.in_ok-total.total c.in_ok-total.rows.items (several-only cells (sym c.in_default.ensures.only)) c.in_ok-total.ensures.total c.in_ok-total.ensures.rows in
    rw (← is) c.settle.ensures

pub returns-clause-spread : goal.returns-clause-spread
returns-clause-spread = settled

pub returns-clause-of_facts : goal.returns-clause-of_facts
returns-clause-of_facts g c = IsSpreadOf-spread c.settle.result (g.P.WeightPolicy.weigh c.args.policy.now) c.args.space.now (stat_at c.args.stats.now) c.args.r (settled g c)

pub returns-clause-cells : goal.returns-clause-cells
returns-clause-cells g c = AreRows-spreads c.settle.result (λ cell. g.P.WeightPolicy.weigh c.args.policy.now (stat_at c.args.stats.now cell)) c.args.space.now c.args.r (settled g c)
