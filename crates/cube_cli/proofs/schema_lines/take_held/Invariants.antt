use Rattle.std.proofs.Common.{length}
use Rattle.cube_cli.proofs.HeldLines.{AreAppended}
use Rattle.cube_cli.proofs.schema_lines.take_held.Given as goal

-- the lines so far are appended
abbrev pub invariant-lines : goal.invariant-lines
invariant-lines l = AreAppended l.initial.lines.lines l.lines.lines l.initial.text.items l.text.items

-- one line fewer is held
abbrev pub decreases-lines : goal.decreases-lines
decreases-lines l = length l.lines.lines
