use Rattle.std.proofs.Common.{◌≡◌, Some, inl, inr, refl, arith}
use Rattle.cube_model.specs.declared.tree.DimFault.TheVariants.{Empty, Many}
use Rattle.cube_model.specs.Tree.{dim_fault, node_lines}
use Rattle.dim_tree.proofs.Building.{count_accepted_dim, count_apart, dim_fault_lines}
use Rattle.dim_tree.proofs.Entries.{length-node_lines}
use Rattle.dim_tree.proofs.Outlines.{some_line, tree_fault_empty, tree_fault_many}
use Rattle.dim_tree.proofs.dim.Dim.build_numbered.Goals as goal

pub returns-then-is_empty-clause-refused : goal.returns-then-is_empty-clause-refused
returns-then-is_empty-clause-refused c known = dim_fault_lines c.args.lines.now Empty (tree_fault_empty (node_lines c.args.lines.now) (grind (arith, length-node_lines c.args.lines.now)))

pub returns-then-is_empty-clause-many : goal.returns-then-is_empty-clause-many
returns-then-is_empty-clause-many c many =
    let none : dim_fault c.args.lines.now ≡ Some Empty = dim_fault_lines c.args.lines.now Empty (tree_fault_empty (node_lines c.args.lines.now) (grind (arith, length-node_lines c.args.lines.now))) in
    absurd (count_apart _ none many)

pub returns-then-lines-gt-MAX_NODES-clause-refused : goal.returns-then-lines-gt-MAX_NODES-clause-refused
returns-then-lines-gt-MAX_NODES-clause-refused c known = dim_fault_lines c.args.lines.now Many (tree_fault_many (node_lines c.args.lines.now) (omega (arith, length-node_lines c.args.lines.now, c.if-lines-gt-MAX_NODES.true)))

pub returns-then-lines-gt-MAX_NODES-clause-empty : goal.returns-then-lines-gt-MAX_NODES-clause-empty
returns-then-lines-gt-MAX_NODES-clause-empty c none =
    let many : dim_fault c.args.lines.now ≡ Some Many = dim_fault_lines c.args.lines.now Many (tree_fault_many (node_lines c.args.lines.now) (omega (arith, length-node_lines c.args.lines.now, c.if-lines-gt-MAX_NODES.true))) in
    absurd (count_apart _ none many)

pub returns-clause-empty : goal.returns-clause-empty
returns-clause-empty c is = absurd (count_accepted_dim c.args.lines.now Empty (some_line c.args.lines.now _ c.is_empty.ensures c.if-is_empty.false) c.if-lines-gt-MAX_NODES.false (inl refl) is)

pub returns-clause-many : goal.returns-clause-many
returns-clause-many c is = absurd (count_accepted_dim c.args.lines.now Many (some_line c.args.lines.now _ c.is_empty.ensures c.if-is_empty.false) c.if-lines-gt-MAX_NODES.false (inr refl) is)
