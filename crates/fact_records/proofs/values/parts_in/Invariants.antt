use Rattle.std.proofs.Common.{◌≡◌, ◌≤◌, length}
use Rattle.fact_records.proofs.PartTexts.{AreRead}
use Rattle.fact_records.proofs.values.parts_in.Given as goal

-- the texts so far are read
abbrev pub invariant-loop-part : goal.invariant-loop-part
invariant-loop-part l = (AreRead l.scale l.field l.read l.parts) × (l.read ≡ length l.yielded) × (l.read ≤ l.count)
