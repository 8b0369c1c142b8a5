-- No region is lost.
use Rattle.cube_core.proofs.Widening.{keep-grown}
use Rattle.cube_core.proofs.growing.schema_with.Goals as goal

pub returns-clause-regions : goal.returns-clause-regions
returns-clause-regions c = keep-grown c.args.schema.now.dims c.args.grow.now.dim c.args.grow.now.parent c.args.grow.now.name c.space.ensures.schema.trees c.requires.dim c.requires.parent
