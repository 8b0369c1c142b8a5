use Rattle.std.proofs.Common.{◌∙◌, ap, subst}
use Rattle.std.specs.Prelude.{All}
use Rattle.cube_model.specs.Tree.{IsTree}
use Rattle.region_algebra.specs.Space.{meet_of}
use Rattle.region_algebra.proofs.Spaces.{meet-common, meet-nothing, meet-region}
use Rattle.region_algebra.proofs.space.Space.meet.Goals as goal

pub returns-clause-common : goal.returns-clause-common
returns-clause-common c =
    meet-common c.args.self.now c.args.a c.args.b c.meet.result (subst (λ ds. All IsTree ds) c.self.view_is c.self.invariant.cells.trees) c.requires.first c.requires.second
    (c.meet.ensures ∙ ap (λ ds. meet_of ds c.args.a c.args.b) (c.deref.ensures.value ∙ c.self.view_is))

pub returns-clause-some : goal.returns-clause-some
returns-clause-some c =
    meet-region c.args.self.now c.args.a c.args.b c.meet.result c.requires.first c.requires.second
    (c.meet.ensures ∙ ap (λ ds. meet_of ds c.args.a c.args.b) (c.deref.ensures.value ∙ c.self.view_is))

pub returns-clause-none : goal.returns-clause-none
returns-clause-none c =
    meet-nothing c.args.self.now c.args.a c.args.b c.meet.result (subst (λ ds. All IsTree ds) c.self.view_is c.self.invariant.cells.trees) c.requires.first c.requires.second
    (c.meet.ensures ∙ ap (λ ds. meet_of ds c.args.a c.args.b) (c.deref.ensures.value ∙ c.self.view_is))
