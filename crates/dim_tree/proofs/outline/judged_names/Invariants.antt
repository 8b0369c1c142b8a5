use Rattle.std.proofs.Common.{map, string_bytes}
use Rattle.dim_tree.proofs.Judging.{IsJudged}
use Rattle.dim_tree.proofs.outline.judged_names.Given as goal

abbrev pub invariant-loop-place : goal.invariant-loop-place
invariant-loop-place g l = IsJudged (map g.L.Outlined.line l.nodes) l.place l.before (map string_bytes l.names.keys)
