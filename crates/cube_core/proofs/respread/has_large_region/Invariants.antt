-- The facts before this one have few cells.
use Rattle.std.proofs.Common.{◌≡◌, All}
use Rattle.region_algebra.specs.Space.{IsRegion}
use Rattle.cube_core.specs.Growth.{has_large_region}
use Rattle.cube_core.proofs.respread.has_large_region.Given as goal

abbrev pub invariant-loop-fact : goal.invariant-loop-fact
invariant-loop-fact l = record { regions : All (λ f. IsRegion l.space f.region) l.fact-iterator; same : has_large_region l.space l.fact-iterator ≡ has_large_region l.space l.facts.facts }
