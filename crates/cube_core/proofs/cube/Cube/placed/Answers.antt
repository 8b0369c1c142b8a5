use Rattle.std.proofs.Common.{◌∙◌}
use Rattle.schema_text.specs.Schema.{schema_policy}
use Rattle.cube_core.proofs.PlacedRows.{placed-all, placed-next, placed-none, placed-there}
use Rattle.cube_core.proofs.cube.Cube.placed.Goals as goal

-- at first all facts are left
pub loop-fact-init : goal.loop-fact-init
loop-fact-init g c =
    let cube = c.args.self.now in
    placed-none (schema_policy (g.P.WeightPolicy.weigh cube.policy) cube.schema) cube.schema.dims cube.facts _ _ c.facts.ensures.valid.ascending c.new-placed.ensures
    (c.into_iter-fact-iterator.ensures.into_iter_gives ∙ c.iter-fact-items.ensures ∙ c.facts.ensures.facts)

-- each has an allocation
pub unreachable-requires : goal.unreachable-requires
unreachable-requires g c = placed-there c.loop-fact.invariant c.in-Some.ensures.steps c.in_default.ensures.rows

-- and then a fact less is left
pub loop-fact-preserved : goal.loop-fact-preserved
loop-fact-preserved g c = placed-next c.loop-fact.invariant c.in-Some.ensures.steps c.in-Some-rows.ensures.rows c.in_ok-place.ensures.placed c.in_ok-place.ensures.allocation c.in_ok-push.ensures.ok

-- at the end none is
pub returns-clause-placed : goal.returns-clause-placed
returns-clause-placed g c = placed-all c.loop-fact.invariant c.in-None.ensures.steps.0

pub returns-clause-allocations : goal.returns-clause-allocations
returns-clause-allocations g c = c.loop-fact.invariant.each
