-- The terms are those of an answer over the facts.
use Rattle.std.specs.Prelude.{All}
use Rattle.exact_fraction.specs.Moderate.{IsModerate}
use Rattle.fact_records.specs.Outcomes.{AllAddUp}
use Rattle.fact_records.specs.Shape.{width_of_all}
use Rattle.world_law.specs.Additive.{AddUpOverChildren}
use Rattle.cube_core.specs.Cube.{IsBounded, cube_rows}
use Rattle.cube_core.specs.Expected.{AreExpected}
use Rattle.cube_core.proofs.Told.{answered}
use Rattle.cube_core.proofs.cube.Cube.answer.Goals as goal

pub returns-clause-moderate : goal.returns-clause-moderate
returns-clause-moderate g c =
    answered g.P.WeightPolicy.weigh c.self.inside.schema c.self.inside.state c.self.invariant c.args.self.now c.self.view_is (g.met.P.WeightPolicy.bound c.self.inside.state.policy) c.space.ensures.schema c.facts.ensures.valid
    c.args.r c.requires c.answer.result c.answer.ensures (λ terms. IsModerate terms.terms) (λ list is. is.moderate)

pub returns-clause-distributions : goal.returns-clause-distributions
returns-clause-distributions g c =
    answered g.P.WeightPolicy.weigh c.self.inside.schema c.self.inside.state c.self.invariant c.args.self.now c.self.view_is (g.met.P.WeightPolicy.bound c.self.inside.state.policy) c.space.ensures.schema c.facts.ensures.valid
    c.args.r c.requires c.answer.result c.answer.ensures (λ terms. AllAddUp c.args.self.now.schema.measures terms.terms) (λ list is. is.distributions)

pub returns-clause-bounded : goal.returns-clause-bounded
returns-clause-bounded g c =
    answered g.P.WeightPolicy.weigh c.self.inside.schema c.self.inside.state c.self.invariant c.args.self.now c.self.view_is (g.met.P.WeightPolicy.bound c.self.inside.state.policy) c.space.ensures.schema c.facts.ensures.valid
    c.args.r c.requires c.answer.result c.answer.ensures (λ terms. All IsBounded terms.terms) (λ list is. is.bounded)

pub returns-clause-expectations : goal.returns-clause-expectations
returns-clause-expectations g c =
    answered g.P.WeightPolicy.weigh c.self.inside.schema c.self.inside.state c.self.invariant c.args.self.now c.self.view_is (g.met.P.WeightPolicy.bound c.self.inside.state.policy) c.space.ensures.schema c.facts.ensures.valid
    c.args.r c.requires c.answer.result c.answer.ensures (λ terms. AreExpected (width_of_all c.args.self.now.schema.measures) c.args.self.now.schema.dims c.args.r (cube_rows g.P.WeightPolicy.weigh c.args.self.now) terms.terms) (λ list is. is.expectations)

pub returns-clause-children : goal.returns-clause-children
returns-clause-children g c =
    answered g.P.WeightPolicy.weigh c.self.inside.schema c.self.inside.state c.self.invariant c.args.self.now c.self.view_is (g.met.P.WeightPolicy.bound c.self.inside.state.policy) c.space.ensures.schema c.facts.ensures.valid
    c.args.r c.requires c.answer.result c.answer.ensures (λ terms. AddUpOverChildren (width_of_all c.args.self.now.schema.measures) c.args.self.now.schema.dims c.args.r (cube_rows g.P.WeightPolicy.weigh c.args.self.now) terms.terms) (λ list is. is.children)
