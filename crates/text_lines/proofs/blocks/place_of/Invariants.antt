-- No byte before this place has the value.
use Rattle.std.proofs.Common.{◌≡◌, ◌==◌, ◌-◌, ◌+◌, ◌≤◌, not, drop, length}
use Rattle.std.specs.List.{prefix_len}
use Rattle.text_lines.proofs.blocks.place_of.Given as goal

abbrev pub invariant-loop-at : goal.invariant-loop-at
invariant-loop-at l =
    (l.from + prefix_len (λ b. not (b == l.byte)) (drop l.from l.bytes) ≡ l.at + prefix_len (λ b. not (b == l.byte)) (drop l.at l.bytes)) × (l.at ≤ length l.bytes)

abbrev pub decreases-loop-at : goal.decreases-loop-at
decreases-loop-at l = l.last - l.at
