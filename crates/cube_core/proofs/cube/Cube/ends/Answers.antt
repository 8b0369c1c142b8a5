-- The ends of the state are those of the cube, and the law holds of them.
use Rattle.world_range.specs.declared.extreme.Extreme.TheVariants.{Greatest, Least}
use Rattle.cube_core.proofs.EndsTold.{end-same, law-told, told-same}
use Rattle.cube_core.proofs.cube.Cube.ends.Goals as goal

pub returns-clause-least : goal.returns-clause-least
returns-clause-least g c =
    told-same (λ ends. ends.least) _ _ (end-same g.P.WeightPolicy.weigh c.self.inside.schema c.self.inside.state c.self.invariant c.args.self.now c.self.view_is c.args.r c.args.column Least) c.ends.result c.ends.ensures.least

pub returns-clause-greatest : goal.returns-clause-greatest
returns-clause-greatest g c =
    told-same (λ ends. ends.greatest) _ _ (end-same g.P.WeightPolicy.weigh c.self.inside.schema c.self.inside.state c.self.invariant c.args.self.now c.self.view_is c.args.r c.args.column Greatest) c.ends.result c.ends.ensures.greatest

pub returns-clause-law : goal.returns-clause-law
returns-clause-law g c = law-told g.P.WeightPolicy.weigh c.self.inside.schema c.self.inside.state c.self.invariant c.args.self.now c.self.view_is c.args.r c.args.column c.space.ensures.schema c.facts.ensures.valid
