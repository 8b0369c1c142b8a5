-- What a space keeps beside its dimensions.
use Rattle.std.specs.Prelude.{◌≡◌, ℕ, ◌+◌, ◌<◌, List, None, All, length, drop, get_or}
use Rattle.cube_model.specs.Tree.{Dimension, IsTree}
use Rattle.cube_model.specs.Limits.{SPACE_LIMIT}
use Rattle.region_algebra.specs.Space.{cell_total, product, region_total}
use Rattle.region_algebra.specs.Fault.{space_fault}

-- for each number the product of those after it, the product of all being below the limit
pub record AreSteps (sizes steps : List ℕ) : Type 0 where
  pub each : (d : ℕ) → d < length sizes → get_or steps d 0 ≡ product (drop (d + 1) sizes)
  pub limit : product sizes < SPACE_LIMIT

-- for each dimension the total over the dimensions after it, the total of all being below the limit
pub record IsStepped (total : List Dimension → ℕ) (dims : List Dimension) (steps : List ℕ) : Type 0 where
  pub trees : All IsTree dims
  pub each : (d : ℕ) → d < length dims → get_or steps d 0 ≡ total (drop (d + 1) dims)
  pub limit : total dims < SPACE_LIMIT

-- accepted dimensions, with the steps of cells and of regions
pub record IsSteppedSpace (dims : List Dimension) (cell_steps region_steps : List ℕ) : Type 0 where
  pub accepted : space_fault dims ≡ None
  pub cells : IsStepped cell_total dims cell_steps
  pub regions : IsStepped region_total dims region_steps
