use Rattle.std.proofs.Common.{◌≡◌, ◌+◌, ◌≤◌, length}
use Rattle.text_lines.specs.Text.{lines_of}
use Rattle.cube_cli.proofs.schema_alone.line_count.Given as goal

-- the lines so far and those of the rest are those of the text; each took a byte or more
abbrev pub invariant-lines : goal.invariant-lines
invariant-lines l = record {
  all : l.count + length (lines_of l.rest) ≡ length (lines_of l.text);
  within : l.count + length l.rest ≤ length l.text;
}

abbrev pub decreases-lines : goal.decreases-lines
decreases-lines l = length l.rest
