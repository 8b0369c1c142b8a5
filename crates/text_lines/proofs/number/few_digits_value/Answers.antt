-- One more digit of so few does not pass what fits.
use Rattle.std.proofs.Common.{◌≡◌, ◌+◌, ◌*◌, true, get_or, subst, sym, arith}
use Rattle.std.proofs.lemmas.Bool.Decides.{nat_tests}
use Rattle.text_lines.specs.Text.{is_digit}
use Rattle.text_lines.proofs.Digits.{HasReadFew, HasReadFew-next, fits-more}
use Rattle.text_lines.proofs.number.few_digits_value.Goals as goal

pub overflow_mul-value : goal.overflow_mul-value
overflow_mul-value c =
    let digit : is_digit (get_or c.args.bytes.now c.loop-byte.byte-index 0) ≡ true = grind (arith, nat_tests, c.is_ascii_digit.ensures.value, c.if-not-is_ascii_digit.false) in
    omega (arith, fits-more c.args.bytes.now c.loop-byte.byte-index c.loop-byte.value c.loop-byte-test.true c.requires c.loop-byte.invariant digit)

pub overflow_add-value : goal.overflow_add-value
overflow_add-value c =
    let digit : is_digit (get_or c.args.bytes.now c.loop-byte.byte-index 0) ≡ true = grind (arith, nat_tests, c.is_ascii_digit.ensures.value, c.if-not-is_ascii_digit.false) in
    omega (arith, c.from.ensures, fits-more c.args.bytes.now c.loop-byte.byte-index c.loop-byte.value c.loop-byte-test.true c.requires c.loop-byte.invariant digit)

pub loop-byte-preserved : goal.loop-byte-preserved
loop-byte-preserved c =
    let digit : is_digit (get_or c.args.bytes.now c.loop-byte.byte-index 0) ≡ true = grind (arith, nat_tests, c.is_ascii_digit.ensures.value, c.if-not-is_ascii_digit.false) in
    subst (λ b. HasReadFew c.args.bytes.now (c.loop-byte.byte-index + 1) (c.loop-byte.value * 10 + b)) (sym c.from.ensures)
    (HasReadFew-next c.args.bytes.now c.loop-byte.byte-index c.loop-byte.value c.loop-byte-test.true c.requires c.loop-byte.invariant digit)
