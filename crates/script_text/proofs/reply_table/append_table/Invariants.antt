use Rattle.std.proofs.Common.{◌≡◌, ◌∷◌, ◌++◌, length, take}
use Rattle.std.specs.Fmt.{decimal}
use Rattle.std.specs.List.{flat_map}
use Rattle.script_text.specs.Reply.{told_fields}
use Rattle.script_text.specs.ReplySteps.{fields_text}
use Rattle.script_text.proofs.reply_table.append_table.Given as goal

-- the number of the regions and the regions before this one are appended
abbrev pub invariant-loop-entry : goal.invariant-loop-entry
invariant-loop-entry l =
    l.text.items ≡ l.fn.text.items ++ fields_text (decimal (length l.entries) ∷ flat_map (told_fields l.space) (take l.entry-index l.entries))
