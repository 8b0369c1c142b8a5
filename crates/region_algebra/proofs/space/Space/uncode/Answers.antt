use Rattle.std.proofs.Common.{◌∙◌, ap, subst}
use Rattle.std.specs.Prelude.{All, slice_get}
use Rattle.cube_model.specs.Tree.{IsTree}
use Rattle.region_algebra.specs.Space.{all_regions}
use Rattle.region_algebra.proofs.Spaces.{uncode-region, uncode-within}
use Rattle.region_algebra.proofs.space.Space.uncode.Goals as goal

pub returns-clause-none : goal.returns-clause-none
returns-clause-none c = uncode-within c.args.self.now c.args.code c.uncode.result (c.uncode.ensures ∙ ap (λ ds. slice_get (all_regions ds) c.args.code) (c.deref.ensures.value ∙ c.self.view_is))

pub returns-clause-some : goal.returns-clause-some
returns-clause-some c = uncode-region c.args.self.now c.args.code c.uncode.result (subst (λ ds. All IsTree ds) c.self.view_is c.self.invariant.cells.trees) (c.uncode.ensures ∙ ap (λ ds. slice_get (all_regions ds) c.args.code) (c.deref.ensures.value ∙ c.self.view_is))
