use Rattle.script_text.proofs.DepthFields.{HasDepths}
use Rattle.script_text.proofs.question_reader.read_depths.Given as goal

-- the depths of the dimensions before this one are read
abbrev pub invariant-loop-d : goal.invariant-loop-d
invariant-loop-d l = HasDepths l.space l.fn.fields l.d l.depths l.fields
