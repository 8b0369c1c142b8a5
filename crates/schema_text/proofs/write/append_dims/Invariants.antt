use Rattle.std.proofs.Common.{◌≡◌, ◌++◌, take}
use Rattle.schema_text.specs.SchemaText.{dims_text}
use Rattle.schema_text.proofs.write.append_dims.Given as goal

-- the lines of the dimensions before this one are appended
abbrev pub invariant-loop-d : goal.invariant-loop-d
invariant-loop-d l = l.out.items ≡ l.initial.out.items ++ dims_text l.version (take l.d l.names) (take l.d l.space)
