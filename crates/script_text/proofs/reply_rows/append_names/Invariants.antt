use Rattle.std.proofs.Common.{◌≡◌, ◌++◌, take}
use Rattle.script_text.specs.Reply.{names_of}
use Rattle.script_text.specs.ReplySteps.{fields_text}
use Rattle.script_text.proofs.reply_rows.append_names.Given as goal

-- the names of the dimensions before this one are appended
abbrev pub invariant-loop-d : goal.invariant-loop-d
invariant-loop-d l = l.text.items ≡ l.fn.text.items ++ fields_text (take l.d (names_of l.space l.region))
