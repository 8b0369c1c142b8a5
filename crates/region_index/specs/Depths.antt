-- How deep the nodes of dimensions lie.
use Rattle.std.specs.Prelude.{ℕ, ◌+◌, List, [], ◌∷◌, map, max}
use Rattle.cube_model.specs.Tree.{Dimension}
use Rattle.region_algebra.specs.Space.{product}

-- the largest depth of a node
abbrev pub largest_depth : Dimension → ℕ
largest_depth [] = 0
largest_depth (e ∷ entries) = max e.depth (largest_depth entries)

-- the number of depths in each dimension, multiplied
abbrev pub depth_product : List Dimension → ℕ
depth_product dims = product (map (λ dim. largest_depth dim + 1) dims)
