-- The first mark is that of the TAB, and a line that is marked whole has no other.
use Rattle.std.proofs.Common.{◌+◌, ap, sym, ◌∙◌, arith}
use Rattle.std.proofs.lemmas.Bool.Decides.{nat_tests}
use lib.Count.{count_trailing_zeros}
use Rattle.text_lines.proofs.FieldMarks.{field_len-marked, field_len-unmarked, len_le}
use Rattle.text_lines.proofs.fields.end_from.Goals as goal

pub returns-then-marks-ne0-clause-place : goal.returns-then-marks-ne0-clause-place
returns-then-marks-ne0-clause-place c =
    let line = c.args.line.now in
    ap (λ n. c.args.from + n) (ap (count_trailing_zeros 64) c.requires.marked ∙ field_len-marked line c.args.from
    (λ none. absurd (grind (arith, nat_tests, c.if-marks-ne0.true, c.requires.marked ∙ none))))

pub returns-then-marks-ne0-clause-within : goal.returns-then-marks-ne0-clause-within
returns-then-marks-ne0-clause-within c = omega (arith, returns-then-marks-ne0-clause-place c, len_le c.args.line.now c.args.from c.requires.within)

pub returns-then-line-le-MARKED-clause-place : goal.returns-then-line-le-MARKED-clause-place
returns-then-line-le-MARKED-clause-place c =
    field_len-unmarked c.args.line.now c.args.from (omega (arith, c.if-line-le-MARKED.true)) c.requires.within
    (sym c.requires.marked ∙ grind (arith, nat_tests, c.if-marks-ne0.false))
