use Rattle.std.proofs.Common.{◌∙◌, sym}
use Rattle.text_lines.proofs.LineTexts.{is_clean-not_utf8, is_clean-utf8}
use Rattle.text_lines.proofs.line.text_of_clean.Goals as goal

pub returns-in_default-clause-clean : goal.returns-in_default-clause-clean
returns-in_default-clause-clean c = is_clean-not_utf8 c.args.line.now c.in_default.ensures.cases.0

pub returns-then-are_clean-clause-clean : goal.returns-then-are_clean-clause-clean
returns-then-are_clean-clause-clean c = is_clean-utf8 c.args.line.now c.in-Ok.ensures.cases.1 (sym c.if-are_clean.true ∙ c.are_clean.ensures)
