use Rattle.std.proofs.Common.{◌≡◌, ◌++◌, take}
use Rattle.std.specs.List.{flat_map}
use Rattle.schema_text.specs.SchemaText.{node_line}
use Rattle.schema_text.proofs.write.append_nodes.Given as goal

-- the lines of the nodes before this one are appended
abbrev pub invariant-loop-place : goal.invariant-loop-place
invariant-loop-place l = l.out.items ≡ l.initial.out.items ++ flat_map (node_line l.version) (take l.place l.dim)
