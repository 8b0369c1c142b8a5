-- The ids of the pairs before this one stand at their codes.
use Rattle.std.proofs.Common.{◌≡◌, ℕ, filter, map, take}
use Rattle.std.specs.Prelude.{◌==◌}
use Rattle.region_index.specs.Content.{ids_at}
use Rattle.region_index.proofs.changes.by_code.Given as goal

abbrev pub invariant-loop-code : goal.invariant-loop-code
invariant-loop-code l = (code : ℕ) → ids_at l.groups code ≡ map (λ pair. pair.1) (filter (λ pair. pair.0 == code) (take l.code-index l.pairs))
