use Rattle.std.proofs.Common.{arith}
use Rattle.dim_tree.proofs.Kept.{kept}
use Rattle.dim_tree.proofs.dim.Dim.at.Goals as goal

pub index-requires : goal.index-requires
index-requires c = grind (arith, (kept c.self.invariant c.self.view_is).room_nodes)

pub returns-clause-number : goal.returns-clause-number
returns-clause-number c = ((kept c.self.invariant c.self.view_is).number_kept c.args.place c.index.result.now c.requires c.index.ensures).0

pub returns-clause-within : goal.returns-clause-within
returns-clause-within c = ((kept c.self.invariant c.self.view_is).number_kept c.args.place c.index.result.now c.requires c.index.ensures).1
