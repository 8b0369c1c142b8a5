-- A dimension as three lists, the depths, the names and the numbers of its nodes, and why a line may not follow others.
use Rattle.std.specs.Prelude.{◌≡◌, ℕ, List, [], ◌∷◌, ◌||◌, length, nat_lt, ◌+◌, ◌==◌, if◌then◌else◌, Option, Some, None}
use Rattle.std.specs.List.{list_any}
use Rattle.std.specs.Str.{bytes_eq}
use Rattle.cube_model.specs.declared.tree.NodeLine.{NodeLine}
use Rattle.cube_model.specs.declared.tree.DimFault.{DimFault}
use Rattle.cube_model.specs.declared.tree.DimFault.TheVariants.{Root, Depth, Name}
use Rattle.cube_model.specs.Limits.{MAX_DEPTH}
use Rattle.cube_model.specs.Tree.{Dimension, Entry, IsTree}

-- the nodes with these depths, names and numbers
abbrev pub outline_nodes : List ℕ → List (List ℕ) → List ℕ → Dimension
outline_nodes [] names numbers = []
outline_nodes (depth ∷ depths) [] numbers = []
outline_nodes (depth ∷ depths) (name ∷ names) [] = []
outline_nodes (depth ∷ depths) (name ∷ names) (number ∷ numbers) = record { depth = depth; name = name; number = number } ∷ outline_nodes depths names numbers

-- as many depths as names and as numbers, and together they are a tree
pub record IsOutline (depths : List ℕ) (names : List (List ℕ)) (numbers : List ℕ) : Type 0 where
  pub same_names : length names ≡ length depths
  pub same_numbers : length numbers ≡ length depths
  pub tree : IsTree (outline_nodes depths names numbers)

-- the line of a node
abbrev pub line_of_node : Entry → NodeLine
line_of_node e = record { depth = e.depth; name = e.name }

-- why a line of this depth may not stand at place k, after a line of the depth `before`
abbrev pub depth_fault : Option ℕ → ℕ → ℕ → Option DimFault
depth_fault None k depth = if depth == 0 then None else Some Root
depth_fault (Some before) k depth = if depth == 0 || nat_lt MAX_DEPTH depth || nat_lt (before + 1) depth then Some (Depth k) else None

-- why a line of this name may not stand at place k, where lines before it have these names
abbrev pub name_fault : List (List ℕ) → ℕ → List ℕ → Option DimFault
name_fault names k name = if list_any (λ earlier. bytes_eq earlier name) names then Some (Name k) else None
