use Rattle.std.proofs.Common.{arith}
use Rattle.std.proofs.lemmas.Bool.Decides.{nat_tests}
use Rattle.text_lines.proofs.LineTexts.{without_cr-last}
use Rattle.text_lines.proofs.line.without_cr.Goals as goal

pub returns-then-last-eq13 : goal.returns-then-last-eq13
returns-then-last-eq13 c = grind (arith, nat_tests, without_cr-last _ _ _ c.in-Some.ensures.cases.0)

pub returns-else-last-eq13 : goal.returns-else-last-eq13
returns-else-last-eq13 c = grind (arith, nat_tests, without_cr-last _ _ _ c.in-Some.ensures.cases.0)
