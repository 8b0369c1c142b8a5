use Rattle.std.proofs.Common.{◌≡◌, ℕ, ◌+◌, ◌<◌, ◌≤◌, length, get_or, drop}
use Rattle.cube_model.specs.Limits.{SPACE_LIMIT, MAX_DIMS}
use Rattle.region_algebra.specs.Space.{product}
use Rattle.region_algebra.proofs.steps.steps_of.Given as goal

abbrev pub invariant-loop-d : goal.invariant-loop-d
invariant-loop-d l = record {
  room : length l.steps ≡ MAX_DIMS;
  within : l.d ≤ length l.sizes;
  total_is : l.total ≡ product (drop l.d l.sizes);
  each : (i : ℕ) → l.d ≤ i → i < length l.sizes → get_or l.steps i 0 ≡ product (drop (i + 1) l.sizes);
  small : l.total < SPACE_LIMIT;
}
