use Rattle.world_range.proofs.Reaching.{placed_ends}
use Rattle.world_range.proofs.reach.range.Goals as goal

-- whatever comes of it, the ends are those of the law

pub returns-in_err-low-clause-law : goal.returns-in_err-low-clause-law
returns-in_err-low-clause-law c = placed_ends c.args.space.now c.args.r c.args.column c.args.placed.now c.requires.placed

pub returns-in_err-high-clause-law : goal.returns-in_err-high-clause-law
returns-in_err-high-clause-law c = placed_ends c.args.space.now c.args.r c.args.column c.args.placed.now c.requires.placed

pub returns-clause-law : goal.returns-clause-law
returns-clause-law c = placed_ends c.args.space.now c.args.r c.args.column c.args.placed.now c.requires.placed
