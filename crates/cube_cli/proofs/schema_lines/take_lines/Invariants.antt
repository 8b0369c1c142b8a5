use Rattle.std.proofs.Common.{◌≡◌, ◌+◌, true, if◌then◌else◌}
use Rattle.std.specs.Io.KnownBytes.{IsAtEnd}
use Rattle.text_lines.specs.Input.{ends_if}
use Rattle.cube_cli.proofs.SchemaPieces.{IsTaking}
use Rattle.cube_cli.proofs.schema_lines.take_lines.Given as goal

-- the lines that ended so far are appended, and none of them is the line `end`; no read failed, and where the input is said to have ended
-- it did
abbrev pub invariant-pieces : goal.invariant-pieces
invariant-pieces g l = record {
  taking : IsTaking (g.S.Source.tells l.fn.source).left (g.S.Source.tells l.source).left l.input.pieces.room l.input.lines.lines l.text.items;
  count : (g.S.Source.tells l.source).faults ≡ (g.S.Source.tells l.fn.source).faults;
  end : l.input.pieces.is_ended ≡ true → IsAtEnd (g.S.Source.tells l.source).left;
  ends : (g.S.Source.tells l.source).ends ≡ ends_if l.input.pieces.is_ended (g.S.Source.tells l.fn.source).ends;
}

-- each piece takes of what may still be taken, or is the end of the input
abbrev pub decreases-pieces : goal.decreases-pieces
decreases-pieces g l = l.input.pieces.room + (if l.input.pieces.is_ended then 0 else 1)
