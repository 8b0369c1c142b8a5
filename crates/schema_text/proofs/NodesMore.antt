-- A node more: the nodes of a dimension as they are judged, and their numbers.
use Rattle.std.proofs.Common.{◌≡◌, ℕ, ◌+◌, ◌≤◌, Bool, true, false, List, [], ◌∷◌, ◌++◌, length, map, refl, sym, ap, ◌∙◌, arith, Option, Some, None, eqb, ltb, append_assoc, append-nil, length-append, subst}
use Rattle.std.specs.Prelude.{◌||◌, not, if◌then◌else◌}
use Rattle.std.specs.List.{list_any}
use Rattle.std.specs.Option.{option_and_then, option_or}
use Rattle.std.specs.Str.{bytes_eq}
use Rattle.std.proofs.lemmas.Bool.{or_parts}
use Rattle.std.proofs.lemmas.Bool.Decides.{nat_tests}
use Rattle.std.proofs.lemmas.List.{length-map, map_push}
use Rattle.std.proofs.lemmas.List.Folds.{list_any-append}
use Rattle.cube_base.specs.Name.{is_name}
use Rattle.cube_base.specs.declared.code.Code.TheVariants as code
use Rattle.cube_model.specs.declared.tree.NodeLine.{NodeLine}
use Rattle.cube_model.specs.declared.tree.DimFault.{DimFault}
use Rattle.cube_model.specs.declared.tree.DimFault.TheVariants as dim_fault
use Rattle.cube_model.specs.Limits.{MAX_DEPTH}
use Rattle.cube_model.specs.Tree.{Dimension, Entry, dim_fault as fault_of_dim, first_fault, is_numbered, line_fault, node_lines, numbers, tree_fault}
use Rattle.dim_tree.proofs.Outlines.{tree_fault_first}
use Rattle.dim_tree.specs.Fault.{IsDimCause}
use Rattle.schema_text.specs.Fault.{IsCause, of_numbers}
use Rattle.schema_text.specs.declared.word.Version.{Version}
use Rattle.schema_text.specs.declared.word.Version.TheVariants.{One, Two}
use Rattle.schema_text.specs.Draft.{AreNodes, AreTaken, IsFree, IsNextNode, IsNextNumber, taken_with}
use Rattle.schema_text.specs.SchemaText.{are_places_from, free_number, is_among_names, is_wrong_depth, read_number}

-- the line of a node
abbrev pub line_of : Entry → NodeLine
line_of node = record { depth = node.depth; name = node.name }

-- how deep a node may not be behind these, the nearest first
abbrev pub wrong_behind : List NodeLine → ℕ → Bool
wrong_behind [] depth = not (eqb depth 0)
wrong_behind (node ∷ earlier) depth = eqb depth 0 || ltb (node.depth + 1) depth

is_wrong_depth-push : (nodes : Dimension) (node : Entry) (depth : ℕ) → is_wrong_depth (nodes ++ node ∷ []) depth ≡ eqb depth 0 || ltb (node.depth + 1) depth
is_wrong_depth-push [] node depth = refl
is_wrong_depth-push (first ∷ []) node depth = refl
is_wrong_depth-push (first ∷ second ∷ nodes) node depth = is_wrong_depth-push (second ∷ nodes) node depth

-- the same nodes, from the first and from the nearest on
pub record IsBehind (before : Dimension) (earlier : List NodeLine) : Type 0 where
  pub depths : (depth : ℕ) → is_wrong_depth before depth ≡ wrong_behind earlier depth
  pub names : (name : List ℕ) → is_among_names name (map (λ n. n.name) before) ≡ list_any (λ e. bytes_eq e.name name) earlier

or-turned : (a b : Bool) → a || (b || false) ≡ b || a
or-turned true true = refl
or-turned true false = refl
or-turned false true = refl
or-turned false false = refl

pub IsBehind-none : IsBehind [] []
IsBehind-none = record { depths = λ depth. refl; names = λ name. refl }

pub IsBehind-more : (before : Dimension) (earlier : List NodeLine) (node : Entry) → IsBehind before earlier → IsBehind (before ++ node ∷ []) (line_of node ∷ earlier)
IsBehind-more before earlier node is = record {
  depths = λ depth. is_wrong_depth-push before node depth;
  names = λ name.
      ap (is_among_names name) (map_push (λ (n : Entry). n.name) before node)
      ∙ list_any-append (λ n. bytes_eq n name) (map (λ (n : Entry). n.name) before) (node.name ∷ [])
      ∙ or-turned (is_among_names name (map (λ (n : Entry). n.name) before)) (bytes_eq node.name name)
      ∙ ap (λ b. bytes_eq node.name name || b) (is.names name);
}

line_fault-next : (earlier : List NodeLine) (k : ℕ) (line : NodeLine) → line.depth ≤ MAX_DEPTH → wrong_behind earlier line.depth ≡ false
    → list_any (λ e. bytes_eq e.name line.name) earlier ≡ false → line_fault earlier k line ≡ None
line_fault-next [] k line shallow depth name = grind (arith, nat_tests)
line_fault-next (before ∷ earlier) k line shallow depth name = grind (arith, nat_tests)

pub or-none : (fault rest : Option DimFault) → option_or fault rest ≡ None → (fault ≡ None) × (rest ≡ None)
or-none None rest e = (refl, e)
or-none (Some f) rest e = cc

-- the lines stay without fault with one more
first_fault-push : (before : Dimension) (earlier : List NodeLine) (k : ℕ) (nodes : Dimension) (node : Entry) → IsBehind before earlier → first_fault earlier k (node_lines nodes) ≡ None
    → IsNextNode (before ++ nodes) node → first_fault earlier k (node_lines nodes ++ line_of node ∷ []) ≡ None
first_fault-push before earlier k [] node behind none next =
    let is : IsNextNode before node = subst (λ (l : Dimension). IsNextNode l node) (append-nil before) next in
    let among : list_any (λ e. bytes_eq e.name node.name) earlier ≡ false = sym (behind.names node.name) ∙ (or_parts (not (is_name node.name)) (is_among_names node.name (map (λ n. n.name) before)) is.name).1 in
    let here : line_fault earlier k (line_of node) ≡ None = line_fault-next earlier k (line_of node) is.shallow (sym (behind.depths node.depth) ∙ is.depth) among in
    rw here refl
first_fault-push before earlier k (first ∷ nodes) node behind none next =
    let parts = or-none (line_fault earlier k (line_of first)) (first_fault (line_of first ∷ earlier) (k + 1) (node_lines nodes)) none in
    let joined : before ++ first ∷ nodes ≡ (before ++ first ∷ []) ++ nodes = sym (append_assoc before (first ∷ []) nodes) in
    let rest = first_fault-push (before ++ first ∷ []) (line_of first ∷ earlier) (k + 1) nodes node (IsBehind-more before earlier first behind) parts.1 (subst (λ (l : Dimension). IsNextNode l node) joined next) in
    rw (parts.0, rest) refl

pub AreNodes-none : AreNodes []
AreNodes-none = record { lines = refl; few = omega arith }

pub AreNodes-push : (nodes : Dimension) (node : Entry) → AreNodes nodes → IsNextNode nodes node → AreNodes (nodes ++ node ∷ [])
AreNodes-push nodes node are next = record {
  lines = ap (first_fault [] 0) (map_push line_of nodes node) ∙ first_fault-push [] [] 0 nodes node IsBehind-none are.lines next;
  few = omega (arith, length-append nodes (node ∷ []), next.room);
}

-- such nodes are refused as a dimension for their numbers alone
pub dim_fault-nodes : (nodes : Dimension) → AreNodes nodes → 1 ≤ length nodes → fault_of_dim nodes ≡ (if is_numbered nodes then None else Some dim_fault.Number)
unfolding fault_of_dim
dim_fault-nodes nodes are some =
    let count : length (node_lines nodes) ≡ length nodes = length-map nodes line_of in
    let none : tree_fault (node_lines nodes) ≡ None = tree_fault_first (node_lines nodes) (omega arith) (omega (arith, are.few)) ∙ are.lines in
    ap (λ f. option_or f (if is_numbered nodes then None else Some dim_fault.Number)) none

only-numbers : (right : Bool) (fault : DimFault) → (if right then None else Some dim_fault.Number) ≡ Some fault → (if right then None else Some code.Number) ≡ Some code.Number
only-numbers true fault e = cc
only-numbers false fault e = refl

numbers-wrong : (nodes : Dimension) → AreNodes nodes → 1 ≤ length nodes → (fault : DimFault) → fault_of_dim nodes ≡ Some fault → (if is_numbered nodes then None else Some code.Number) ≡ Some code.Number
numbers-wrong nodes are some fault e = only-numbers (is_numbered nodes) fault (sym (dim_fault-nodes nodes are some) ∙ e)

pub IsCause-numbers : (nodes : Dimension) → AreNodes nodes → 1 ≤ length nodes → (fault : DimFault) → IsDimCause (fault_of_dim nodes) fault → IsCause (if is_numbered nodes then None else Some code.Number) (of_numbers fault)
IsCause-numbers nodes are some dim_fault.Memory cause = tt
IsCause-numbers nodes are some dim_fault.Empty cause = numbers-wrong nodes are some dim_fault.Empty (cause (λ e. cc))
IsCause-numbers nodes are some dim_fault.Many cause = numbers-wrong nodes are some dim_fault.Many (cause (λ e. cc))
IsCause-numbers nodes are some dim_fault.Root cause = numbers-wrong nodes are some dim_fault.Root (cause (λ e. cc))
IsCause-numbers nodes are some (dim_fault.Depth line) cause = numbers-wrong nodes are some (dim_fault.Depth line) (cause (λ e. cc))
IsCause-numbers nodes are some (dim_fault.Name line) cause = numbers-wrong nodes are some (dim_fault.Name line) (cause (λ e. cc))
IsCause-numbers nodes are some dim_fault.Number cause = numbers-wrong nodes are some dim_fault.Number (cause (λ e. cc))

pub is_numbered-accepted : (nodes : Dimension) → AreNodes nodes → 1 ≤ length nodes → fault_of_dim nodes ≡ None → is_numbered nodes ≡ true
is_numbered-accepted nodes are some accepted = right (is_numbered nodes) (sym (dim_fault-nodes nodes are some) ∙ accepted)
  where
    right : (b : Bool) → (if b then None else Some dim_fault.Number) ≡ None → b ≡ true
    right true e = refl
    right false e = cc

-- numbers

are_places_from-push : (k : ℕ) (nodes : Dimension) (node : Entry) → are_places_from k nodes ≡ true → node.number ≡ k + length nodes → are_places_from k (nodes ++ node ∷ []) ≡ true
are_places_from-push k [] node are at = grind (arith, nat_tests)
are_places_from-push k (first ∷ nodes) node are at = grind (arith, nat_tests, are_places_from-push (k + 1) nodes node)

pub AreTaken-push : (version : Version) (nodes : Dimension) (node : Entry) (taken : List ℕ) → AreTaken version nodes taken → IsNextNumber version nodes node.number
    → AreTaken version (nodes ++ node ∷ []) (taken_with version taken node.number)
AreTaken-push One nodes node taken are next = (are_places_from-push 0 nodes node are.0 (omega (arith, next)), are.1)
AreTaken-push Two nodes node taken are next = ap (λ l. l ++ node.number ∷ []) are ∙ sym (map_push (λ (n : Entry). n.number) nodes node)

-- a number that may come next is not taken
pub IsFree-next : (version : Version) (nodes : Dimension) (number : ℕ) (taken : List ℕ) → AreTaken version nodes taken → IsNextNumber version nodes number → IsFree version taken number
IsFree-next One nodes number taken are next = tt
IsFree-next Two nodes number taken are next = ap (list_any (λ n. eqb n number)) are ∙ next

free-some : (taken : Bool) (n number : ℕ) → (if taken then None else Some n) ≡ Some number → (taken ≡ false) × (n ≡ number)
free-some true n number e = cc
free-some false n number e = (refl, cc)

-- the number that fields give may come next
pub IsNextNumber-of : (version : Version) (nodes : Dimension) (fields : List (List ℕ)) (number : ℕ) → read_number version nodes fields ≡ Some number → IsNextNumber version nodes number
IsNextNumber-of One nodes fields number e = cc
IsNextNumber-of Two nodes fields number e = given _ e
  where
    given : (field : Option ℕ) → option_and_then (free_number nodes) field ≡ Some number → list_any (λ n. eqb n number) (numbers nodes) ≡ false
    given None e = cc
    given (Some n) e =
        let parts = free-some (list_any (λ m. eqb m n) (numbers nodes)) n number e in
        rw (← parts.1) parts.0

-- the names of the nodes with one more
pub names-push : (nodes longer : Dimension) (node : Entry) (known more : List (List ℕ)) → known ≡ map (λ n. n.name) nodes → more ≡ known ++ node.name ∷ [] → longer ≡ nodes ++ node ∷ [] → more ≡ map (λ n. n.name) longer
names-push nodes longer node known more is added put =
    added ∙ ap (λ l. l ++ node.name ∷ []) is ∙ sym (map_push (λ (n : Entry). n.name) nodes node) ∙ ap (map (λ (n : Entry). n.name)) (sym put)

-- with no node none is taken, in any version
pub AreTaken-none : (version other : Version) (nodes : Dimension) (taken : List ℕ) → nodes ≡ [] → AreTaken version nodes taken → AreTaken other nodes taken
AreTaken-none version other nodes taken none are = rw none (as_none other (emptied version (subst (λ (ns : Dimension). AreTaken version ns taken) none are)))
  where
    emptied : (v : Version) → AreTaken v [] taken → taken ≡ []
    emptied One are = are.1
    emptied Two are = are

    as_none : (v : Version) → taken ≡ [] → AreTaken v [] taken
    as_none One empty = (refl, empty)
    as_none Two empty = empty
