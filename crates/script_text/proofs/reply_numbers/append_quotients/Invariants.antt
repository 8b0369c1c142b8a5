use Rattle.std.proofs.Common.{◌≡◌, ◌++◌, take}
use Rattle.script_text.specs.Decimals.{pool_fields}
use Rattle.script_text.specs.ReplySteps.{fields_text}
use Rattle.script_text.proofs.reply_numbers.append_quotients.Given as goal

-- the fields of the quotients before this one are appended
abbrev pub invariant-loop-quotient : goal.invariant-loop-quotient
invariant-loop-quotient l = l.text.items ≡ l.fn.text.items ++ fields_text (pool_fields (take l.quotient-index l.quotients))
