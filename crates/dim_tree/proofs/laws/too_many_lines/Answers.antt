use Rattle.dim_tree.proofs.Outlines.{tree_fault_many}
use Rattle.dim_tree.proofs.laws.too_many_lines.Goals as goal

pub returns : goal.returns
returns c = λ lines many. tree_fault_many lines many
