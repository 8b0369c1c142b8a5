-- A dimension is a tree, given as the list of its nodes in preorder. Domains as trees follow Burdick, Deshpande, Jayram,
-- Ramakrishnan and Vaithyanathan, "OLAP Over Uncertain and Imprecise Data", VLDB 2005.
use Rattle.std.specs.Prelude.{◌≡◌, ℕ, ◌+◌, Bool, true, false, List, [], ◌∷◌, length, map, filter, not, nat_lt, ◌||◌, ◌&&◌, ◌==◌, if◌then◌else◌, Option, Some, None, position, slice_get}
use Rattle.std.specs.Option.{option_map, option_map_or, option_or}
use Rattle.std.specs.List.{list_all, list_any, find}
use Rattle.std.specs.Str.{bytes_eq}
use Rattle.cube_base.specs.Name.{is_name}
use Rattle.cube_model.specs.declared.tree.NodeLine.{NodeLine}
use Rattle.cube_model.specs.declared.tree.NumberedLine.{NumberedLine}
use Rattle.cube_model.specs.declared.tree.DimFault.{DimFault}
use Rattle.cube_model.specs.declared.tree.DimFault.TheVariants.{Empty, Many, Root, Depth, Name, Number}
use Rattle.cube_model.specs.Limits.{MAX_DEPTH, MAX_NODES}

-- a node: its depth, its name, and the number by which regions name it
abbrev pub Entry : Type 0
Entry = NumberedLine

abbrev pub Dimension : Type 0
Dimension = List Entry

-- the node of a number
abbrev pub entry_of : Dimension → ℕ → Option Entry
entry_of dim number = find (λ e. e.number == number) dim

-- What climbing meets from a node of this depth, the nodes before it given from the nearest on: its
-- parent, which is the nearest whose depth is one less, then the parent's parent, and so on.
abbrev pub climb : ℕ → List Entry → List Entry
climb depth [] = []
climb depth (e ∷ earlier) = if e.depth + 1 == depth then e ∷ climb e.depth earlier else climb depth earlier

-- the node of this number with what climbing meets from it, where `earlier` stand before the nodes, from the nearest on
abbrev pub path_after : List Entry → ℕ → List Entry → List Entry
path_after earlier number [] = []
path_after earlier number (e ∷ rest) = if e.number == number then e ∷ climb e.depth earlier else path_after (e ∷ earlier) number rest

-- a node, its parent, the parent's parent, and so on
unfoldable pub path : Dimension → ℕ → List Entry
path dim number = path_after [] number dim

-- the number of a node's parent
unfoldable pub parent : Dimension → ℕ → Option ℕ
parent dim x = option_map (λ e. e.number) (slice_get (path dim x) 1)

-- climbing from x, x included, meets y
unfoldable pub is_under : Dimension → ℕ → ℕ → Bool
is_under dim x y = list_any (λ e. e.number == y) (path dim x)

-- a leaf is no node's parent
unfoldable pub is_leaf : Dimension → ℕ → Bool
is_leaf dim x = not (list_any (λ e. option_map_or (λ p. p == x) (parent dim e.number) false) dim)

-- the numbers of the leaves, in order
unfoldable pub leaves : Dimension → List ℕ
leaves dim = filter (is_leaf dim) (map (λ e. e.number) dim)

-- the number of the node that has a name
abbrev pub node_named : Dimension → List ℕ → Option ℕ
node_named dim name = option_map (λ e. e.number) (find (λ e. bytes_eq e.name name) dim)

-- the numbers of the nodes, in preorder
abbrev pub numbers : Dimension → List ℕ
numbers dim = map (λ e. e.number) dim

-- the place of a node among all, in preorder
abbrev pub place_of : Dimension → ℕ → Option ℕ
place_of dim number = position (λ e. e.number == number) dim

-- no number stands twice
abbrev pub are_distinct : List ℕ → Bool
are_distinct [] = true
are_distinct (n ∷ ns) = not (list_any (λ m. m == n) ns) && are_distinct ns

-- the number of a node is above that of its parent, if it has one
abbrev pub is_above_parent : Dimension → Entry → Bool
is_above_parent dim e = option_map_or (λ p. nat_lt p e.number) (parent dim e.number) true

-- the numbers are those of an order in which the nodes may have been made: distinct, below their count, a child's above its parent's
unfoldable pub is_numbered : Dimension → Bool
is_numbered dim = are_distinct (numbers dim) && list_all (λ n. nat_lt n (length dim)) (numbers dim) && list_all (is_above_parent dim) dim

-- nodes take their places, from 0, as numbers
abbrev pub numbered_from : ℕ → List NodeLine → Dimension
numbered_from k [] = []
numbered_from k (line ∷ lines) = record { depth = line.depth; name = line.name; number = k } ∷ numbered_from (k + 1) lines

abbrev pub numbered : List NodeLine → Dimension
numbered lines = numbered_from 0 lines

-- Why a line may not stand at place k after these, the nearest of them first. The depth is judged before the name.
abbrev pub line_fault : List NodeLine → ℕ → NodeLine → Option DimFault
line_fault [] k line = if line.depth == 0 then None else Some Root
line_fault (before ∷ earlier) k line =
    if line.depth == 0 || nat_lt MAX_DEPTH line.depth || nat_lt (before.depth + 1) line.depth then Some (Depth k)
    else (if list_any (λ e. bytes_eq e.name line.name) (before ∷ earlier) then Some (Name k) else None)

-- the first fault of the lines, where `earlier` stand before them
abbrev pub first_fault : List NodeLine → ℕ → List NodeLine → Option DimFault
first_fault earlier k [] = None
first_fault earlier k (line ∷ lines) = option_or (line_fault earlier k line) (first_fault (line ∷ earlier) (k + 1) lines)

-- why lines are no tree
unfoldable pub tree_fault : List NodeLine → Option DimFault
tree_fault lines = if length lines == 0 then Some Empty else (if nat_lt MAX_NODES (length lines) then Some Many else first_fault [] 0 lines)

-- the nodes of a dimension as lines
abbrev pub node_lines : Dimension → List NodeLine
node_lines dim = map (λ e. record { depth = e.depth; name = e.name }) dim

-- why numbered nodes are no dimension: their lines are no tree, or else their numbers are wrong
unfoldable pub dim_fault : Dimension → Option DimFault
dim_fault dim = option_or (tree_fault (node_lines dim)) (if is_numbered dim then None else Some Number)

-- a dimension: its lines are a tree, its numbers tell an order of creation, and its names are names
pub record IsTree (dim : Dimension) : Type 0 where
  pub accepted : tree_fault (node_lines dim) ≡ None
  pub numbered : is_numbered dim ≡ true
  pub names : list_all (λ e. is_name e.name) dim ≡ true
