use Rattle.fact_records.proofs.NodeFields.{HasNodes}
use Rattle.fact_records.proofs.fact_reader.read_region.Given as goal

-- the nodes of the dimensions before this one are found
abbrev pub invariant-loop-d : goal.invariant-loop-d
invariant-loop-d g l = HasNodes l.space (g.F.Fields.left l.fn.fields) l.d l.nodes (g.F.Fields.left l.fields)
