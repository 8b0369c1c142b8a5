use Rattle.std.proofs.Common.{◌+◌, ◌≤◌, length}
use Rattle.text_lines.specs.Text.{lines_of}
use Rattle.cube_cli.proofs.TailLines.{AreSkipped}
use Rattle.cube_cli.proofs.schema_alone.first_not_skipped.Given as goal

-- the lines so far are skipped, and the others are those of the rest; each took a byte or more
abbrev pub invariant-lines : goal.invariant-lines
invariant-lines l = record {
  skipped : AreSkipped l.count (lines_of l.rest) (lines_of l.text);
  within : l.count + length l.rest ≤ length l.text;
}

abbrev pub decreases-lines : goal.decreases-lines
decreases-lines l = length l.rest
