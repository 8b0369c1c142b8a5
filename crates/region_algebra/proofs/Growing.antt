-- A dimension of a space with a leaf more: it has no more leaves than it had nodes, so the cells stay within the limit.
use Rattle.std.proofs.Common.{◌≡◌, ℕ, zero, suc, ◌+◌, ◌<◌, ◌≤◌, true, false, List, [], ◌∷◌, length, get_or, refl, ap, sym, subst, ◌∙◌, arith}
use Rattle.std.specs.Prelude.{All, Option, Some, None, IfSome, slice_get, slice_set, nat_le, if◌then◌else◌}
use Rattle.std.specs.Option.{option_map_or, option_or}
use Rattle.std.proofs.lemmas.Bool.Decides.{nat_tests}
use Rattle.std.proofs.lemmas.List.{length-map}
use Rattle.std.proofs.lemmas.List.Elements.{All-head, All-tail}
use Rattle.std.proofs.lemmas.Nat.{mul-le}
use Rattle.std.proofs.lemmas.Option.{slice_get-get_or}
use Rattle.cube_model.specs.declared.tree.NodeLine.{NodeLine}
use Rattle.cube_model.specs.Tree.{Dimension, Entry, IsTree, entry_of, leaves, node_lines, node_named}
use Rattle.cube_model.specs.Growing.{grown}
use Rattle.cube_model.specs.Limits.{MAX_DEPTH, MAX_DIMS, MAX_NODES, SPACE_LIMIT}
use Rattle.dim_tree.proofs.Climbing.{depths_of}
use Rattle.dim_tree.proofs.Entries.{length-node_lines}
use Rattle.dim_tree.proofs.Leaves.{leaves-places, length-leaves_from}
use Rattle.dim_tree.proofs.MoreLeaves.{fewer_leaves}
use Rattle.dim_tree.proofs.NewLeaf.{length-grown}
use Rattle.dim_tree.proofs.Outlines.{tree_fault_none}
use Rattle.region_algebra.specs.Fault.{limit_fault, space_fault}
use Rattle.region_algebra.specs.Growth.{child_fault, grow_fault, grown_dims, own_fault, size_fault, sizes_fault}
use Rattle.region_algebra.specs.Space.{cell_total, region_total}
use Rattle.region_algebra.specs.declared.growth.GrowFault.TheVariants.{Depth, Limit, Name, Nodes}
use Rattle.region_algebra.specs.declared.space.SpaceFault.{SpaceFault}
use Rattle.region_algebra.proofs.Intervals.{some_node}
use Rattle.region_algebra.proofs.Numbers.{length-leaves_plain}
use Rattle.region_algebra.proofs.Spaces.{accepted-limits}

-- a tree has no more leaves than nodes
leaves_few : (dim : Dimension) → IsTree dim → length (leaves dim) ≤ length dim
leaves_few dim tree =
    let sound = (tree_fault_none (node_lines dim) tree.accepted).2 in
    omega (arith, length-leaves_plain dim tree, ap length (leaves-places (node_lines dim) sound), length-leaves_from 0 (depths_of (node_lines dim)), length-map (node_lines dim) (λ (line : NodeLine). line.depth), length-node_lines dim)

cells-most : (dims : List Dimension) → All IsTree dims → cell_total dims ≤ region_total dims
cells-most [] trees = omega arith
cells-most (dim ∷ dims) trees = mul-le (length (leaves dim)) (cell_total dims) (length dim) (region_total dims) (leaves_few dim (All-head IsTree dim dims trees)) (cells-most dims (All-tail IsTree dim dims trees))

-- dimensions of which one is exchanged for one with no more leaves than it had nodes have no more cells than there were regions
exchanged-cells : (dims : List Dimension) (d : ℕ) (dim other : Dimension) → All IsTree dims → slice_get dims d ≡ Some dim → length (leaves other) ≤ length dim → cell_total (slice_set dims d other) ≤ region_total dims
exchanged-cells [] d dim other trees is few = absurd (grind arith)
exchanged-cells (e ∷ dims) zero dim other trees is few =
    let same : e ≡ dim = grind arith in
    let within : length (leaves other) ≤ length e = omega (arith, few, ap length same) in
    mul-le (length (leaves other)) (cell_total dims) (length e) (region_total dims) within (cells-most dims (All-tail IsTree e dims trees))
exchanged-cells (e ∷ dims) (suc d) dim other trees is few =
    mul-le (length (leaves e)) (cell_total (slice_set dims d other)) (length e) (region_total dims) (leaves_few e (All-head IsTree e dims trees)) (exchanged-cells dims d dim other (All-tail IsTree e dims trees) is few)

-- what was put in keeps what all keep
put-keeps : (P : Dimension → Type 0) (dims : List Dimension) (d : ℕ) (dim other : Dimension) → slice_get dims d ≡ Some dim → All P (slice_set dims d other) → P other
put-keeps P [] d dim other is each = absurd (grind arith)
put-keeps P (e ∷ dims) zero dim other is each = All-head P other dims each
put-keeps P (e ∷ dims) (suc d) dim other is each = put-keeps P dims d dim other is (All-tail P e (slice_set dims d other) each)

all-found : (P : Dimension → Type 0) (dims : List Dimension) (d : ℕ) (dim : Dimension) → slice_get dims d ≡ Some dim → All P dims → P dim
all-found P [] d dim is each = absurd (grind arith)
all-found P (e ∷ dims) zero dim is each =
    let same : e ≡ dim = grind arith in
    subst P same (All-head P e dims each)
all-found P (e ∷ dims) (suc d) dim is each = all-found P dims d dim is (All-tail P e dims each)

length-set_dims : (dims : List Dimension) (d : ℕ) (other : Dimension) → length (slice_set dims d other) ≡ length dims
length-set_dims [] d other = refl
length-set_dims (e ∷ dims) zero other = refl
length-set_dims (e ∷ dims) (suc d) other = ap suc (length-set_dims dims d other)

module _ (dims : List Dimension) (d : ℕ) (dim : Dimension) (parent : ℕ) (name : List ℕ) (is : slice_get dims d ≡ Some dim) where
  pub grown_dims-at : grown_dims dims d parent name ≡ slice_set dims d (grown dim parent name)
  grown_dims-at = ap (λ found. option_map_or (λ dim. slice_set dims d (grown dim parent name)) found dims) is

  grown_dims-cells : parent < length dim → All IsTree dims → All IsTree (grown_dims dims d parent name) → cell_total (grown_dims dims d parent name) ≤ region_total dims
  grown_dims-cells within trees grown_trees =
      let put : All IsTree (slice_set dims d (grown dim parent name)) = subst (λ ds. All IsTree ds) grown_dims-at grown_trees in
      let tree : IsTree (grown dim parent name) = put-keeps IsTree dims d dim (grown dim parent name) is put in
      let old : IsTree dim = all-found IsTree dims d dim is trees in
      let many : length (grown dim parent name) ≡ length dim + 1 = length-grown dim parent name old within in
      let few : length (leaves (grown dim parent name)) ≤ length dim = omega (arith, fewer_leaves (grown dim parent name) tree (omega (arith, many, some_node dim old)), many) in
      rw grown_dims-at (exchanged-cells dims d dim (grown dim parent name) trees is few)

-- the limits that many dimensions pass together, where they are enough and not too many
sizes-refused : (n cells regions : ℕ) (fault : SpaceFault) → 1 ≤ n → n ≤ MAX_DIMS → cells < SPACE_LIMIT → limit_fault n cells regions ≡ Some fault → sizes_fault cells regions ≡ Some Nodes
sizes-refused n cells regions fault some few within refused = grind (arith, nat_tests)

module _ (dims : List Dimension) (d parent : ℕ) (name : List ℕ) (own : own_fault dims d parent name ≡ None) where
  alone : grow_fault dims d parent name ≡ size_fault (grown_dims dims d parent name)
  alone = ap (λ found. option_or found (size_fault (grown_dims dims d parent name))) own

  -- accepted dimensions of which one has a leaf more are refused for their nodes alone
  pub grown-refused : (grown_space : List Dimension) (fault : SpaceFault) → d < length dims → IfSome (slice_get dims d) (λ dim. parent < length dim) → All IsTree dims → space_fault dims ≡ None → grown_space ≡ grown_dims dims d parent name → All IsTree grown_space → space_fault grown_space ≡ Some fault → grow_fault dims d parent name ≡ Some Nodes
  grown-refused grown_space fault within parent_within trees accepted are grown_trees refused =
      let dim = get_or dims d [] in
      let is : slice_get dims d ≡ Some dim = slice_get-get_or dims d [] within in
      let under : parent < length dim = subst (λ found. IfSome found (λ dim. parent < length dim)) is parent_within in
      let limits = accepted-limits dims accepted in
      let all : All IsTree (grown_dims dims d parent name) = subst (λ ds. All IsTree ds) are grown_trees in
      let cells : cell_total (grown_dims dims d parent name) < SPACE_LIMIT = omega (arith, grown_dims-cells dims d dim parent name is under trees all, limits.regions) in
      let many : length (grown_dims dims d parent name) ≡ length dims = ap length (grown_dims-at dims d dim parent name is) ∙ length-set_dims dims d (grown dim parent name) in
      alone ∙ sizes-refused (length (grown_dims dims d parent name)) (cell_total (grown_dims dims d parent name)) (region_total (grown_dims dims d parent name)) fault (omega (arith, many, limits.some)) (omega (arith, many, limits.few)) cells (ap space_fault (sym are) ∙ refused)

-- a dimension with all its nodes gets no child, whatever found a node of the name and the parent
full-judged : (found : Option ℕ) (e : Option Entry) (n : ℕ) → found ≡ None → IfSome e (λ e. e.depth < MAX_DEPTH) → MAX_NODES ≤ n
    → (if option_map_or (λ number. true) found false then Some Name else (if option_map_or (λ e. nat_le MAX_DEPTH e.depth) e false then Some Depth else (if nat_le MAX_NODES n then Some Limit else None))) ≡ Some Limit
full-judged (Some number) e n new shallow many = absurd (grind arith)
full-judged None None n new shallow many = grind (arith, nat_tests)
full-judged None (Some e) n new shallow many = grind (arith, nat_tests)

pub child_fault-full : (dim : Dimension) (parent : ℕ) (name : List ℕ) → node_named dim name ≡ None → IfSome (entry_of dim parent) (λ e. e.depth < MAX_DEPTH) → MAX_NODES ≤ length dim → child_fault dim parent name ≡ Some Limit
child_fault-full dim parent name new shallow many = full-judged (node_named dim name) (entry_of dim parent) (length dim) new shallow many

pub none_left : {X : Type 0} (found : Option X) → ((x : X) → found ≡ Some x → ⊥) → found ≡ None
none_left None not = refl
none_left (Some x) not = absurd (not x refl)
