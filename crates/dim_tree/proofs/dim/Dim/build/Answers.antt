use Rattle.std.proofs.Common.{inl, inr, refl, arith}
use Rattle.cube_model.specs.declared.tree.DimFault.TheVariants.{Empty, Many}
use Rattle.dim_tree.proofs.Building.{count_accepted, count_apart}
use Rattle.dim_tree.proofs.Outlines.{some_line, tree_fault_empty, tree_fault_many}
use Rattle.dim_tree.proofs.dim.Dim.build.Goals as goal

pub returns-then-is_empty-clause-refused : goal.returns-then-is_empty-clause-refused
returns-then-is_empty-clause-refused c known = tree_fault_empty c.args.lines.now (grind arith)

pub returns-then-is_empty-clause-many : goal.returns-then-is_empty-clause-many
returns-then-is_empty-clause-many c many = absurd (count_apart _ (tree_fault_empty c.args.lines.now (grind arith)) many)

pub returns-then-lines-gt-MAX_NODES-clause-refused : goal.returns-then-lines-gt-MAX_NODES-clause-refused
returns-then-lines-gt-MAX_NODES-clause-refused c known = tree_fault_many c.args.lines.now c.if-lines-gt-MAX_NODES.true

pub returns-then-lines-gt-MAX_NODES-clause-empty : goal.returns-then-lines-gt-MAX_NODES-clause-empty
returns-then-lines-gt-MAX_NODES-clause-empty c none = absurd (count_apart _ none (tree_fault_many c.args.lines.now c.if-lines-gt-MAX_NODES.true))

pub returns-clause-empty : goal.returns-clause-empty
returns-clause-empty c is = absurd (count_accepted c.args.lines.now Empty (some_line c.args.lines.now _ c.is_empty.ensures c.if-is_empty.false) c.if-lines-gt-MAX_NODES.false (inl refl) is)

pub returns-clause-many : goal.returns-clause-many
returns-clause-many c is = absurd (count_accepted c.args.lines.now Many (some_line c.args.lines.now _ c.is_empty.ensures c.if-is_empty.false) c.if-lines-gt-MAX_NODES.false (inr refl) is)
