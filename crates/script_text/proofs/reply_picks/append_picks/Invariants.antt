use Rattle.std.proofs.Common.{◌≡◌, ◌∷◌, ◌++◌, length, take}
use Rattle.std.specs.Fmt.{decimal, signed_decimal}
use Rattle.std.specs.List.{flat_map}
use Rattle.script_text.specs.Reply.{pick_fields}
use Rattle.script_text.specs.ReplySteps.{fields_text}
use Rattle.script_text.proofs.reply_picks.append_picks.Given as goal

-- the sum, the number of the picks and the picks before this one are appended
abbrev pub invariant-loop-pick : goal.invariant-loop-pick
invariant-loop-pick l =
    l.text.items ≡ l.fn.text.items ++ fields_text (signed_decimal l.sum ∷ decimal (length l.picks) ∷ flat_map (pick_fields l.space) (take l.pick-index l.picks))
