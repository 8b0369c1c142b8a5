use Rattle.std.proofs.Common.{◌≡◌, ◌+◌, take}
use Rattle.fact_records.proofs.Load.{excess}
use Rattle.fact_records.proofs.blocks.load.Given as goal

-- what the last block has, and what those gone through have above a half
abbrev pub invariant-loop-block : goal.invariant-loop-block
invariant-loop-block l = l.load ≡ l.initial.load + excess (take l.block-index l.others)
