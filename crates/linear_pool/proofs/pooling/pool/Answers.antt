use Rattle.std.proofs.Common.{arith}
use Rattle.linear_pool.proofs.Outcomes.{pool_tells}
use Rattle.linear_pool.proofs.pooling.pool.Goals as goal

pub returns-clause-tells : goal.returns-clause-tells
returns-clause-tells c =
    (pool_tells c.len.ensures.terms c.requires.moderate (omega (arith, c.len.ensures.count)) c.measure-measure.ensures.measure c.requires.measure c.requires.columns c.parts-outcomes.ensures.columns c.parts-outcomes.ensures.scale c.in_ok-divide.ensures).each

pub returns-clause-some : goal.returns-clause-some
returns-clause-some c =
    (pool_tells c.len.ensures.terms c.requires.moderate (omega (arith, c.len.ensures.count)) c.measure-measure.ensures.measure c.requires.measure c.requires.columns c.parts-outcomes.ensures.columns c.parts-outcomes.ensures.scale c.in_ok-divide.ensures).some

pub returns-clause-one : goal.returns-clause-one
returns-clause-one c =
    (pool_tells c.len.ensures.terms c.requires.moderate (omega (arith, c.len.ensures.count)) c.measure-measure.ensures.measure c.requires.measure c.requires.columns c.parts-outcomes.ensures.columns c.parts-outcomes.ensures.scale c.in_ok-divide.ensures).one
