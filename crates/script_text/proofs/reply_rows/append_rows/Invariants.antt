use Rattle.std.proofs.Common.{◌≡◌, ◌∷◌, ◌++◌, length, take}
use Rattle.std.specs.Fmt.{decimal}
use Rattle.std.specs.List.{flat_map}
use Rattle.script_text.specs.Reply.{row_fields}
use Rattle.script_text.specs.ReplySteps.{fields_text}
use Rattle.script_text.proofs.reply_rows.append_rows.Given as goal

-- the denominator, the number of the rows and the rows before this one are appended
abbrev pub invariant-loop-row : goal.invariant-loop-row
invariant-loop-row l =
    l.text.items ≡ l.fn.text.items ++ fields_text (decimal l.den ∷ decimal (length l.rows) ∷ flat_map (row_fields l.space) (take l.row-index l.rows))
