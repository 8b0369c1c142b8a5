-- Spaces of small dimensions, and sizes of large ones.
use Rattle.std.specs.Prelude.{ℕ, ◌+◌, List, [], ◌∷◌, length, map, Option}
use Rattle.cube_model.specs.Tree.{Dimension, numbered}
use Rattle.dim_tree.specs.Examples.{chain, family, line, made_in_turn, node}
use Rattle.region_algebra.specs.Fault.{limit_fault}
use Rattle.region_algebra.specs.Space.{product}
use Rattle.region_algebra.specs.Growth.{sizes_fault}
use Rattle.region_algebra.specs.declared.growth.GrowFault.{GrowFault}
use Rattle.region_algebra.specs.declared.space.SpaceFault.{SpaceFault}

-- a root over two leaves
abbrev pub pair : Dimension
pair = numbered (line 0 97 ∷ line 1 98 ∷ line 1 99 ∷ [])

-- the leaves of the family are its nodes 2, 3, 5 and 6, and those of the pair its nodes 1 and 2
abbrev pub small_space : List Dimension
small_space = family ∷ pair ∷ []

-- the same, but the leaves of the family are its nodes 4, 3, 5 and 6, in this order
abbrev pub numbered_space : List Dimension
numbered_space = made_in_turn ∷ pair ∷ []

-- the pair with a leaf z under its b: it has the next number, 3, and stands before c, which is 2
abbrev pub grown_pair : Dimension
grown_pair = node 0 97 0 ∷ node 1 98 1 ∷ node 2 122 3 ∷ node 1 99 2 ∷ []

-- the family with a leaf z under its e, after its f
abbrev pub grown_family : Dimension
grown_family = node 0 97 0 ∷ node 1 98 1 ∷ node 2 99 2 ∷ node 2 100 3 ∷ node 1 101 4 ∷ node 2 102 5 ∷ node 2 122 7 ∷ node 1 103 6 ∷ []

-- nine nodes, each under the one before
abbrev pub deep_space : List Dimension
deep_space = numbered (chain 9) ∷ []

-- the fault of dimensions that are a root over so many leaves each
abbrev pub flat_fault : List ℕ → Option SpaceFault
flat_fault leaf_counts = limit_fault (length leaf_counts) (product leaf_counts) (product (map (λ n. n + 1) leaf_counts))

-- the fault of dimensions that have grown to a root over so many leaves each
abbrev pub flat_growth : List ℕ → Option GrowFault
flat_growth leaf_counts = sizes_fault (product leaf_counts) (product (map (λ n. n + 1) leaf_counts))
