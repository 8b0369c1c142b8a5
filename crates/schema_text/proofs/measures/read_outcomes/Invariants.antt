use Rattle.text_lines.specs.Text.{fields_of}
use Rattle.schema_text.proofs.Outcomes.{IsReadTo}
use Rattle.schema_text.proofs.measures.read_outcomes.Given as goal

-- the outcomes before this place are read
abbrev pub invariant-loop-place : goal.invariant-loop-place
invariant-loop-place l = IsReadTo (fields_of l.line) l.outcomes l.place
