use Rattle.text_lines.specs.Text.{fields_of}
use Rattle.schema_text.proofs.ViewsMore.{AreReadTo}
use Rattle.schema_text.proofs.views.read_depths.Given as goal

-- the depths before this place are read
abbrev pub invariant-loop-place : goal.invariant-loop-place
invariant-loop-place l = AreReadTo (fields_of l.line) l.depths l.place
