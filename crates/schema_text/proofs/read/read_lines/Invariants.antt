use Rattle.std.proofs.Common.{length}
use Rattle.schema_text.specs.Kept.{IsReader, draft_of}
use Rattle.schema_text.proofs.Reading.{IsRead}
use Rattle.schema_text.proofs.read.read_lines.Given as goal

-- the lines before the rest are read
abbrev pub invariant-loop-line : goal.invariant-loop-line
invariant-loop-line l = record { read : IsRead l.text (draft_of l.reader) l.lines l.rest; reader : IsReader l.reader }

abbrev pub decreases-loop-line : goal.decreases-loop-line
decreases-loop-line l = length l.rest
