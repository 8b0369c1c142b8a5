-- Dimensions of which one gets a new leaf, and why it may not.
use Rattle.std.specs.Prelude.{◌≡◌, ◌≢◌, ℕ, true, false, List, length, nat_le, if◌then◌else◌, Option, Some, None, slice_get, slice_set}
use Rattle.std.specs.Option.{option_and_then, option_map_or, option_or}
use Rattle.cube_model.specs.Growing.{grown}
use Rattle.cube_model.specs.Limits.{MAX_DEPTH, MAX_NODES, SPACE_LIMIT}
use Rattle.cube_model.specs.Tree.{Dimension, entry_of, node_named}
use Rattle.region_algebra.specs.Space.{cell_total, region_total}
use Rattle.region_algebra.specs.declared.growth.GrowFault.{GrowFault}
use Rattle.region_algebra.specs.declared.growth.GrowFault.TheVariants.{Cells, Depth, Limit, Memory, Name, Nodes}

-- why a node of a dimension gets no child of this name: the first of these that holds
abbrev pub child_fault : Dimension → ℕ → List ℕ → Option GrowFault
child_fault dim parent name =
    if option_map_or (λ number. true) (node_named dim name) false then Some Name
    else (if option_map_or (λ e. nat_le MAX_DEPTH e.depth) (entry_of dim parent) false then Some Depth
    else (if nat_le MAX_NODES (length dim) then Some Limit else None))

-- the dimensions with a new leaf of this name under a node of one of them
abbrev pub grown_dims : List Dimension → ℕ → ℕ → List ℕ → List Dimension
grown_dims dims d parent name = option_map_or (λ dim. slice_set dims d (grown dim parent name)) (slice_get dims d) dims

-- the first of the limits that so many cells and so many regions pass
abbrev pub sizes_fault : ℕ → ℕ → Option GrowFault
sizes_fault cells regions = if nat_le SPACE_LIMIT cells then Some Cells else (if nat_le SPACE_LIMIT regions then Some Nodes else None)

-- the first that dimensions pass together
abbrev pub size_fault : List Dimension → Option GrowFault
size_fault dims = sizes_fault (cell_total dims) (region_total dims)

-- why a node of one of the dimensions gets no child of this name, where they are judged by themselves
abbrev pub own_fault : List Dimension → ℕ → ℕ → List ℕ → Option GrowFault
own_fault dims d parent name = option_and_then (λ dim. child_fault dim parent name) (slice_get dims d)

-- why a node of a dimension of a space gets no child of this name
abbrev pub grow_fault : List Dimension → ℕ → ℕ → List ℕ → Option GrowFault
grow_fault dims d parent name = option_or (own_fault dims d parent name) (size_fault (grown_dims dims d parent name))

-- a fault other than out of memory is this one
abbrev pub IsGrowCause : Option GrowFault → GrowFault → Type 0
IsGrowCause cause fault = fault ≢ Memory → cause ≡ Some fault
