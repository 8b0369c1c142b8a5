-- The marks behind the first are those behind the field that it ends.
use Rattle.std.proofs.Common.{◌≢◌, ◌/◌, ◌^◌, drop, ap, ap₂, sym, ◌∙◌, arith}
use Rattle.std.proofs.lemmas.Bool.Decides.{nat_tests}
use lib.Count.{count_trailing_zeros}
use Rattle.text_lines.specs.FieldsLeft.{marks_from}
use Rattle.text_lines.proofs.FieldMarks.{field_len-marked, marks-behind, unmarked-behind}
use Rattle.text_lines.proofs.FieldWalks.{field_len}
use Rattle.text_lines.proofs.fields.marks_after.Goals as goal

pub returns-then-marks-eq0 : goal.returns-then-marks-eq0
returns-then-marks-eq0 c = λ line i marks.
    sym (unmarked-behind line i (sym marks ∙ grind (arith, nat_tests, c.if-marks-eq0.true)))

pub returns : goal.returns
returns c = λ line i marks.
    let some : marks_from line i ≢ 0 = λ none. absurd (grind (arith, nat_tests, c.if-marks-eq0.false, marks ∙ none)) in
    ap₂ (λ m n. m / 2 ^ n / 2 ^ 1) marks (ap (count_trailing_zeros 64) marks ∙ field_len-marked line i some)
    ∙ marks-behind line i (field_len (drop i line))
