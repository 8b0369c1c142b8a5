-- The bytes before this place are plain.
use Rattle.std.proofs.Common.{◌≡◌, ◌-◌, take, true}
use Rattle.std.specs.List.{list_all}
use Rattle.text_lines.specs.LineText.{is_plain}
use Rattle.text_lines.proofs.blocks.are_plain.Given as goal

abbrev pub invariant-loop-at : goal.invariant-loop-at
invariant-loop-at l = list_all is_plain (take l.at l.bytes) ≡ true

abbrev pub decreases-loop-at : goal.decreases-loop-at
decreases-loop-at l = l.last - l.at
