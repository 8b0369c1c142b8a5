-- A leaf that a dimension is to get.
use Rattle.std.specs.Prelude.{◌≡◌, ℕ, ◌<◌, List, length, None, IfSome, slice_get}
use Rattle.cube_model.specs.Tree.{Dimension, node_named}
use Rattle.region_algebra.specs.Growth.{grown_dims}
use Rattle.cube_model.specs.declared.tree.Grow.{Grow}

-- the dimensions with it
abbrev pub dims_with : Grow → List Dimension → List Dimension
dims_with grow dims = grown_dims dims grow.dim grow.parent grow.name

-- the dimension and the parent are there, and no node of the dimension has the name
pub record IsGrowOf (dims : List Dimension) (grow : Grow) : Type 0 where
  pub dim : grow.dim < length dims
  pub parent : IfSome (slice_get dims grow.dim) (λ dim. grow.parent < length dim)
  pub free : IfSome (slice_get dims grow.dim) (λ dim. node_named dim grow.name ≡ None)
