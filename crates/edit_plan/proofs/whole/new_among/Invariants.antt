-- Of the facts before this one those that are new are kept.
use Rattle.std.proofs.Common.{◌≡◌, ◌++◌}
use Rattle.std.specs.Prelude.{All}
use Rattle.region_algebra.specs.Space.{IsRegion}
use Rattle.edit_plan.specs.Whole.{new_kept}
use Rattle.edit_plan.proofs.whole.new_among.Given as goal

abbrev pub invariant-loop-fact : goal.invariant-loop-fact
invariant-loop-fact g l = record { kept : l.kept ++ new_kept l.state.facts l.fact-iterator ≡ new_kept l.state.facts l.all.facts.facts; each : All (λ f. IsRegion l.state.dims f.region) l.fact-iterator }
