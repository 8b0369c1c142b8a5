-- The table is that of the state, over the cube's facts.
use Rattle.std.proofs.Common.{◌≡◌, ◌+◌, ◌≤◌, length, map}
use Rattle.std.specs.Prelude.{All}
use Rattle.cube_model.specs.Answer.{merge_all}
use Rattle.exact_fraction.specs.Moderate.{IsModerate}
use Rattle.fact_records.specs.Shape.{width_of_all}
use Rattle.cube_core.specs.Cube.{cube_answer}
use Rattle.cube_core.proofs.Tabled.{tabled-ok}
use Rattle.cube_core.proofs.cube.Cube.table.Goals as goal

pub returns-clause-columns : goal.returns-clause-columns
returns-clause-columns g c =
    tabled-ok g.P.WeightPolicy.weigh c.self.inside.schema c.self.inside.state c.self.invariant (g.met.P.WeightPolicy.bound c.self.inside.state.policy) c.space.ensures.schema c.facts.ensures.valid c.args.depths.now c.args.r
    c.args.self.now c.self.view_is c.table.result c.table.ensures.entries c.table.ensures.regions c.table.ensures.merged (All (λ entry. entry.1.columns ≡ width_of_all c.args.self.now.schema.measures + 1)) (λ list is. is.columns)

pub returns-clause-some : goal.returns-clause-some
returns-clause-some g c =
    tabled-ok g.P.WeightPolicy.weigh c.self.inside.schema c.self.inside.state c.self.invariant (g.met.P.WeightPolicy.bound c.self.inside.state.policy) c.space.ensures.schema c.facts.ensures.valid c.args.depths.now c.args.r
    c.args.self.now c.self.view_is c.table.result c.table.ensures.entries c.table.ensures.regions c.table.ensures.merged (All (λ entry. 1 ≤ length entry.1.terms)) (λ list is. is.some)

pub returns-clause-moderate : goal.returns-clause-moderate
returns-clause-moderate g c =
    tabled-ok g.P.WeightPolicy.weigh c.self.inside.schema c.self.inside.state c.self.invariant (g.met.P.WeightPolicy.bound c.self.inside.state.policy) c.space.ensures.schema c.facts.ensures.valid c.args.depths.now c.args.r
    c.args.self.now c.self.view_is c.table.result c.table.ensures.entries c.table.ensures.regions c.table.ensures.merged (All (λ entry. IsModerate entry.1.terms)) (λ list is. is.moderate)

pub returns-clause-merged : goal.returns-clause-merged
returns-clause-merged g c =
    tabled-ok g.P.WeightPolicy.weigh c.self.inside.schema c.self.inside.state c.self.invariant (g.met.P.WeightPolicy.bound c.self.inside.state.policy) c.space.ensures.schema c.facts.ensures.valid c.args.depths.now c.args.r
    c.args.self.now c.self.view_is c.table.result c.table.ensures.entries c.table.ensures.regions c.table.ensures.merged (λ list. merge_all (width_of_all c.args.self.now.schema.measures) (map (λ entry. entry.1.terms) list) ≡ cube_answer g.P.WeightPolicy.weigh c.args.self.now c.args.r) (λ list is. is.merged)
