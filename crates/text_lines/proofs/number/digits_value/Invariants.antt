-- The bytes before this one are digits, and this is their value.
use Rattle.std.proofs.Common.{take}
use Rattle.text_lines.proofs.Digits.{HasRead}
use Rattle.text_lines.proofs.number.digits_value.Given as goal

abbrev pub invariant-loop-byte : goal.invariant-loop-byte
invariant-loop-byte l = HasRead (take l.byte-index l.bytes) l.value
