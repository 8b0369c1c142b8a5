use Rattle.std.proofs.Common.{arith}
use Rattle.dim_tree.proofs.Kept.{kept}
use Rattle.dim_tree.proofs.MoreLeaves.{fewer_leaves}
use Rattle.dim_tree.proofs.dim.Dim.leaf_count.Goals as goal

pub overflow_cast-result : goal.overflow_cast-result
overflow_cast-result c = let its = kept c.self.invariant c.self.view_is in grind (arith, its.leaves_count, its.leaves_few, its.few)

pub returns-clause-count : goal.returns-clause-count
returns-clause-count c = grind (arith, (kept c.self.invariant c.self.view_is).leaves_count)

pub returns-clause-some : goal.returns-clause-some
returns-clause-some c = let its = kept c.self.invariant c.self.view_is in grind (arith, its.leaves_count, its.leaves_some)

pub returns-clause-most : goal.returns-clause-most
returns-clause-most c = let its = kept c.self.invariant c.self.view_is in grind (arith, its.leaves_count, its.leaves_few)

pub returns-clause-fewer : goal.returns-clause-fewer
returns-clause-fewer c = λ two. let its = kept c.self.invariant c.self.view_is in grind (arith, its.leaves_count, fewer_leaves _ its.tree two)
