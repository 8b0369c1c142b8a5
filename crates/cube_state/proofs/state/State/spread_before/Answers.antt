-- The statistics that are kept count the facts, of which there are few.
use Rattle.std.proofs.Common.{◌≡◌}
use Rattle.std.proofs.lemmas.Result.{IfOk-weaker}
use Rattle.cube_model.specs.Allocation.{spread}
use Rattle.cube_model.specs.Cells.{cells_of}
use Rattle.cell_weight.specs.Stats.{stat_at}
use Rattle.fact_groups.specs.Groups.{spread_at}
use Rattle.cube_state.specs.State.{policy_in}
use Rattle.cube_state.proofs.RegionSpreads.{before-seen, few-before}
use Rattle.cube_state.proofs.state.State.spread_before.Goals as goal

pub allocate_at-requires-clause-counted : goal.allocate_at-requires-clause-counted
allocate_at-requires-clause-counted g c = few-before g.P.WeightPolicy.weigh _ _ c.self.view_is c.self.invariant.state c.args.r

pub returns-in-None : goal.returns-in-None
returns-in-None g c =
    IfOk-weaker c.allocate_at.result (λ a. a ≡ spread (λ cell. g.P.WeightPolicy.weigh c.self.inside.policy (stat_at c.self.inside.stats cell)) (cells_of c.self.inside.space c.args.r))
    (λ a. a ≡ spread_at (policy_in g.P.WeightPolicy.weigh c.args.self.now) c.args.self.now.dims c.args.self.now.facts c.args.r)
    (λ a is. before-seen g.P.WeightPolicy.weigh _ _ c.self.view_is c.self.invariant.state a c.args.r is) c.allocate_at.ensures.spread
