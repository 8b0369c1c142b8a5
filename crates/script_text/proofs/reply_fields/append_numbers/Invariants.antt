use Rattle.std.proofs.Common.{◌≡◌, ◌++◌, take}
use Rattle.script_text.specs.Reply.{numbers_fields}
use Rattle.script_text.specs.ReplySteps.{fields_text}
use Rattle.script_text.proofs.reply_fields.append_numbers.Given as goal

-- the numbers before this one are appended
abbrev pub invariant-loop-number : goal.invariant-loop-number
invariant-loop-number l = l.text.items ≡ l.fn.text.items ++ fields_text (numbers_fields (take l.number-index l.numbers))
