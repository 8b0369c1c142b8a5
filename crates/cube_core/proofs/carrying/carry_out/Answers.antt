-- The plan still fits once its lists are taken out, and does the same.
use Rattle.cube_core.proofs.Planned.{fits-still, leaves-still}
use Rattle.cube_core.proofs.carrying.carry_out.Goals as goal

pub install-requires : goal.install-requires
install-requires g c = fits-still c.args.plan _ c.take_lists-lists.ensures.rest g.P.WeightPolicy.weigh _ c.requires.fits

pub returns-clause-facts : goal.returns-clause-facts
returns-clause-facts g c = leaves-still c.args.plan _ c.take_lists-lists.ensures.rest _ _ c.install.ensures
