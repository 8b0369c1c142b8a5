-- The bytes before this place are marked.
use Rattle.std.proofs.Common.{◌≡◌, ◌==◌, ◌-◌, ◌<◌, map, take, length}
use lib.Lanes.{mask_l}
use Rattle.text_lines.proofs.blocks.marks_in.Given as goal

abbrev pub invariant-loop-at : goal.invariant-loop-at
invariant-loop-at l = (l.marks ≡ mask_l (map (λ b. b == l.byte) (take l.at l.bytes))) × (l.at < length l.bytes)

abbrev pub decreases-loop-at : goal.decreases-loop-at
decreases-loop-at l = l.last - l.at
