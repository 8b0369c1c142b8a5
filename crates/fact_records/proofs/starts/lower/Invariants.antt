use Rattle.std.proofs.Common.{◌≡◌, ℕ, ◌-◌, ◌≤◌, get_or}
use Rattle.fact_records.specs.Starts.{mapped_from}
use Rattle.fact_records.proofs.starts.lower.Given as goal

abbrev pub invariant-loop-block : goal.invariant-loop-block
invariant-loop-block l = record {
  left : mapped_from (λ start. start - 1) l.block l.starts ≡ mapped_from (λ start. start - 1) l.from l.initial.starts;
  rest : (k : ℕ) → l.block ≤ k → get_or l.starts k 0 ≡ get_or l.initial.starts k 0;
}
