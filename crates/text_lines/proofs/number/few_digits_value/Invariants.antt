-- The bytes before this one are digits, and this is their value.
use Rattle.text_lines.proofs.Digits.{HasReadFew}
use Rattle.text_lines.proofs.number.few_digits_value.Given as goal

abbrev pub invariant-loop-byte : goal.invariant-loop-byte
invariant-loop-byte l = HasReadFew l.bytes l.byte-index l.value
