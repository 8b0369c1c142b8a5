-- Bytes that spell a number are its printed digits, and those spell it.
use Rattle.text_lines.proofs.Numbers.{spelled-is_decimal, number_in-decimal}
use Rattle.text_lines.proofs.laws.one_spelling.Goals as goal

pub returns : goal.returns
returns c =
    λ least most n bytes fits low high. (
      spelled-is_decimal least most n bytes fits,
      λ printed. rw printed (number_in-decimal least most n fits low high),
    )
