-- Plain bytes are UTF-8, and clean.
use Rattle.std.proofs.Common.{sym, ◌∙◌}
use Rattle.text_lines.proofs.LineTexts.{IsUtf8-plain, is_clean-plain}
use Rattle.text_lines.proofs.line.clean_text.Goals as goal

pub from_utf8_unchecked-requires : goal.from_utf8_unchecked-requires
from_utf8_unchecked-requires c = IsUtf8-plain c.args.line.now (sym c.are_plain.ensures ∙ c.if-are_plain.true)

pub returns-then-are_plain-clause-clean : goal.returns-then-are_plain-clause-clean
returns-then-are_plain-clause-clean c = is_clean-plain c.args.line.now (sym c.are_plain.ensures ∙ c.if-are_plain.true)
