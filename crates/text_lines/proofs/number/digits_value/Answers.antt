-- Each byte is one more digit, or all the bytes are refused for it.
use Rattle.std.proofs.Common.{rules, sym}
use Rattle.text_lines.proofs.Digits.{HasRead-all, HasRead-next, refused-all}
use Rattle.text_lines.proofs.number.digits_value.Goals as goal

pub returns-in_err-value : goal.returns-in_err-value
returns-in_err-value c =
    let none = refused-all _ _ _ c.loop-byte-test.true c.loop-byte.invariant (sym c.in_err-value.ensures) in
    search (rules, none)

pub loop-byte-preserved : goal.loop-byte-preserved
loop-byte-preserved c = HasRead-next _ _ _ c.loop-byte-test.true c.loop-byte.invariant _ (sym c.in_ok-value.ensures)

pub returns : goal.returns
returns c = HasRead-all _ _ _ c.loop-byte-test.false c.loop-byte.invariant
