use Rattle.std.proofs.Common.{◌≡◌, ◌+◌, ◌-◌, ◌<◌, ◌≤◌, true, if◌then◌else◌, length}
use Rattle.std.specs.Io.KnownBytes.{Consumes, IsAtEnd}
use Rattle.text_lines.specs.Input.{ends_if}
use Rattle.text_lines.proofs.input.take_input.Given as goal

-- the input so far was taken from the source, without a fault, and where it is said to have ended it did
abbrev pub invariant-pieces : goal.invariant-pieces
invariant-pieces g l = record {
  bytes : Consumes (g.S.Source.tells l.fn.source).left (g.S.Source.tells l.source).left l.input.bytes.items;
  count : (g.S.Source.tells l.source).faults ≡ (g.S.Source.tells l.fn.source).faults;
  room : 0 < length l.buffer.items;
  within : length l.input.bytes.items ≤ l.limit;
  ends : (g.S.Source.tells l.source).ends ≡ ends_if l.input.is_ended (g.S.Source.tells l.fn.source).ends;
  end : l.input.is_ended ≡ true → IsAtEnd (g.S.Source.tells l.source).left;
}

abbrev pub decreases-pieces : goal.decreases-pieces
decreases-pieces g l = (l.limit - length l.input.bytes.items) + (if l.input.is_ended then 0 else 1)
