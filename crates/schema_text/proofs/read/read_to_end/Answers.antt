-- What is read up to the line `end` is the schema, or that line is at fault.
use Rattle.schema_text.specs.Kept.{draft_of}
use Rattle.schema_text.proofs.Reading.{HasCause-end, schema_of-accepted}
use Rattle.schema_text.proofs.read.read_to_end.Goals as goal

pub returns-in-Ok-clause-read : goal.returns-in-Ok-clause-read
returns-in-Ok-clause-read c = rw c.in-Ok.ensures.made (schema_of-accepted c.args.text.now (draft_of c.read_lines.new.reader) c.in_ok-lines.lines c.in_ok-lines.size c.in_ok-lines.ensures.read c.in-Ok.ensures.accepted)

pub returns-in-Err-clause-refused : goal.returns-in-Err-clause-refused
returns-in-Err-clause-refused c = rw c.at.ensures (HasCause-end c.args.text.now (draft_of c.read_lines.new.reader) c.in_ok-lines.lines c.in_ok-lines.size c.in-Err.fault c.in_ok-lines.ensures.read c.in-Err.ensures.refused)
