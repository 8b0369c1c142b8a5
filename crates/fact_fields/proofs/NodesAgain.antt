-- The nodes that names were written for are read again.
use Rattle.std.proofs.Common.{◌≡◌, ℕ, ◌+◌, ◌<◌, Bool, true, false, List, [], ◌∷◌, length, suc, Option, Some, None, refl, sym, ap, subst, ◌∙◌}
use Rattle.std.specs.Prelude.{All, ◌&&◌, ◌||◌, ◌==◌, if◌then◌else◌, nat_lt}
use Rattle.std.specs.List.{find, list_all, list_any}
use Rattle.std.specs.Option.{option_map, option_map_or, option_or}
use Rattle.std.specs.Str.{bytes_eq}
use Rattle.std.proofs.lemmas.Bool.{and_parts, eqb-true, or_parts}
use Rattle.std.proofs.lemmas.List.{length-map}
use Rattle.std.proofs.lemmas.Slice.Eq.{bytes_eq-Decides}
use Rattle.std.proofs.lemmas.List.Elements.{All-cons, All-head, All-nil, All-tail}
use Rattle.cube_base.specs.Name.{is_name}
use Rattle.cube_model.specs.declared.tree.NodeLine.{NodeLine}
use Rattle.cube_model.specs.declared.tree.DimFault.{DimFault}
use Rattle.cube_model.specs.declared.tree.DimFault.TheVariants.{Depth, Name}
use Rattle.cube_model.specs.Limits.{MAX_DEPTH}
use Rattle.cube_model.specs.Tree.{Dimension, Entry, IsTree, are_distinct, entry_of, first_fault, is_above_parent, is_numbered, line_fault, node_lines, node_named, numbers}
use Rattle.dim_tree.proofs.Numbers.{all_among}
use Rattle.dim_tree.proofs.Outlines.{tree_fault_none}
use Rattle.fact_records.specs.Fields.{nodes_named}
use Rattle.region_algebra.specs.Space.{is_region}
use Rattle.region_algebra.proofs.Meets.{is_region-cons}
use Rattle.schema_text.proofs.WrittenLines.{IsField, IsField-name}
use Rattle.script_text.specs.Reply.{names_of}

pub bytes_eq-same : (bytes : List ℕ) → bytes_eq bytes bytes ≡ true
bytes_eq-same bytes = (bytes_eq-Decides bytes bytes).1 refl

-- a line with no fault has none of the earlier names
fresh : (earlier : List NodeLine) (k : ℕ) (line : NodeLine) → line_fault earlier k line ≡ None → list_any (λ e. bytes_eq e.name line.name) earlier ≡ false
fresh [] k line none = refl
fresh (before ∷ earlier) k line none = either (line.depth == 0 || nat_lt MAX_DEPTH line.depth || nat_lt (before.depth + 1) line.depth) (list_any (λ e. bytes_eq e.name line.name) (before ∷ earlier)) none
  where
    either : (deep taken : Bool) → (if deep then Some (Depth k) else (if taken then Some (Name k) else None)) ≡ None → taken ≡ false
    either true taken e = cc e
    either false true e = cc e
    either false false e = refl

both_none : (first later : Option DimFault) → option_or first later ≡ None → (first ≡ None) × (later ≡ None)
both_none None later e = (refl, e)
both_none (Some f) later e = cc e

-- no earlier name is that of a node, and the name finds the node
record IsNamed (earlier : List NodeLine) (dim : Dimension) (e : Entry) : Type 0 where
  new : list_any (λ f. bytes_eq f.name e.name) earlier ≡ false
  found : find (λ f. bytes_eq f.name e.name) dim ≡ Some e

named : (earlier : List NodeLine) (k : ℕ) (dim : Dimension) (number : ℕ) (e : Entry) → first_fault earlier k (node_lines dim) ≡ None → find (λ f. f.number == number) dim ≡ Some e → IsNamed earlier dim e
named earlier k [] number e none at = cc at
named earlier k (d ∷ dim) number e none at = either (d.number == number) refl at (named (line ∷ earlier) (k + 1) dim number e parts.1)
  where
    line : NodeLine
    line = record { depth = d.depth; name = d.name }

    parts : (line_fault earlier k line ≡ None) × (first_fault (line ∷ earlier) (k + 1) (node_lines dim) ≡ None)
    parts = both_none (line_fault earlier k line) (first_fault (line ∷ earlier) (k + 1) (node_lines dim)) none

    either : (here : Bool) → (d.number == number) ≡ here → (if here then Some d else find (λ f. f.number == number) dim) ≡ Some e
        → (find (λ f. f.number == number) dim ≡ Some e → IsNamed (line ∷ earlier) dim e) → IsNamed earlier (d ∷ dim) e
    either true is at later =
        let same : d ≡ e = cc in
        subst (λ f. IsNamed earlier (d ∷ dim) f) same (record { new = fresh earlier k line parts.0; found = rw (bytes_eq-same d.name) refl })
    either false is at later =
        let rest = later at in
        let names = or_parts (bytes_eq d.name e.name) (list_any (λ f. bytes_eq f.name e.name) earlier) rest.new in
        record { new = names.1; found = rw names.0 rest.found }

-- a node that is found has its number, and a name
found-number : (dim : Dimension) (number : ℕ) (e : Entry) → find (λ f. f.number == number) dim ≡ Some e → e.number ≡ number
found-number [] number e at = cc at
found-number (d ∷ dim) number e at = either (d.number == number) refl at (found-number dim number e)
  where
    either : (here : Bool) → (d.number == number) ≡ here → (if here then Some d else find (λ f. f.number == number) dim) ≡ Some e → (find (λ f. f.number == number) dim ≡ Some e → e.number ≡ number) → e.number ≡ number
    either true is at later = let same : d ≡ e = cc in rw same at (eqb-true d.number number is)
    either false is at later = later at

found-name : (dim : Dimension) (number : ℕ) (e : Entry) → find (λ f. f.number == number) dim ≡ Some e → list_all (λ f. is_name f.name) dim ≡ true → is_name e.name ≡ true
found-name [] number e at names = cc at
found-name (d ∷ dim) number e at names = either (d.number == number) at (found-name dim number e)
  where
    all : (is_name d.name ≡ true) × (list_all (λ f. is_name f.name) dim ≡ true)
    all = and_parts (is_name d.name) (list_all (λ f. is_name f.name) dim) names

    either : (here : Bool) → (if here then Some d else find (λ f. f.number == number) dim) ≡ Some e
        → (find (λ f. f.number == number) dim ≡ Some e → list_all (λ f. is_name f.name) dim ≡ true → is_name e.name ≡ true) → is_name e.name ≡ true
    either true at later = let same : d ≡ e = cc in rw same at all.0
    either false at later = later at all.1

-- each number below their count is that of a node
there : (dim : Dimension) (number : ℕ) → list_any (λ m. m == number) (numbers dim) ≡ true → (e : Entry) × (find (λ f. f.number == number) dim ≡ Some e)
there [] number some = cc some
there (d ∷ dim) number some = either (d.number == number) some (there dim number)
  where
    either : (here : Bool) → (here || list_any (λ m. m == number) (numbers dim)) ≡ true → (list_any (λ m. m == number) (numbers dim) ≡ true → (e : Entry) × (find (λ f. f.number == number) dim ≡ Some e))
        → (e : Entry) × ((if here then Some d else find (λ f. f.number == number) dim) ≡ Some e)
    either true some later = (d, refl)
    either false some later = later some

numbered : (dim : Dimension) → is_numbered dim ≡ true → (are_distinct (numbers dim) ≡ true) × (list_all (λ n. nat_lt n (length (numbers dim))) (numbers dim) ≡ true)
unfolding is_numbered
numbered dim is =
    let first = and_parts (are_distinct (numbers dim) && list_all (λ n. nat_lt n (length dim)) (numbers dim)) (list_all (is_above_parent dim) dim) is in
    let second = and_parts (are_distinct (numbers dim)) (list_all (λ n. nat_lt n (length dim)) (numbers dim)) first.0 in
    (second.0, subst (λ k. list_all (λ n. nat_lt n k) (numbers dim) ≡ true) (sym (length-map dim (λ e. e.number))) second.1)

-- a node by its number, and what its name says
pub record IsNode (dim : Dimension) (number : ℕ) : Type 0 where
  pub name : List ℕ
  pub written : option_map_or (λ e. e.name) (entry_of dim number) [] ≡ name
  pub again : node_named dim name ≡ Some number
  pub field : IsField name

pub node-again : (dim : Dimension) (number : ℕ) → IsTree dim → number < length dim → IsNode dim number
node-again dim number tree within =
    let ns = numbered dim tree.numbered in
    let (e, at) = there dim number (all_among (numbers dim) number ns.0 ns.1 (rw (length-map dim (λ e. e.number)) within)) in
    let known = named [] 0 dim number e (tree_fault_none (node_lines dim) tree.accepted).2 at in
    record {
      name = e.name;
      written = ap (λ o. option_map_or (λ f. f.name) o []) at;
      again = ap (option_map (λ f. f.number)) known.found ∙ ap (λ n. Some n) (found-number dim number e at);
      field = IsField-name e.name (found-name dim number e at tree.names);
    }

-- the names of a region's nodes give the region, and are fields
pub nodes-again : (dims : List Dimension) (region : List ℕ) → All IsTree dims → is_region dims region ≡ true → nodes_named dims (names_of dims region) ≡ Some region
nodes-again [] [] trees is = refl
nodes-again [] (node ∷ nodes) trees is = cc
nodes-again (dim ∷ dims) [] trees is = cc
nodes-again (dim ∷ dims) (node ∷ nodes) trees is =
    let parts = is_region-cons dim dims node nodes is in
    let first = node-again dim node (All-head IsTree dim dims trees) parts.0 in
    let rest = nodes-again dims nodes (All-tail IsTree dim dims trees) parts.1 in
    rw (first.written, first.again, rest) refl

pub nodes-fields : (dims : List Dimension) (region : List ℕ) → All IsTree dims → is_region dims region ≡ true → All IsField (names_of dims region)
nodes-fields [] region trees is = All-nil IsField
nodes-fields (dim ∷ dims) [] trees is = cc
nodes-fields (dim ∷ dims) (node ∷ nodes) trees is =
    let parts = is_region-cons dim dims node nodes is in
    let first = node-again dim node (All-head IsTree dim dims trees) parts.0 in
    let rest = nodes-fields dims nodes (All-tail IsTree dim dims trees) parts.1 in
    subst (λ (name : List ℕ). All IsField (name ∷ names_of dims nodes)) (sym first.written) (All-cons IsField first.name (names_of dims nodes) first.field rest)

-- there are as many names as dimensions
pub length-names_of : (dims : List Dimension) (region : List ℕ) → is_region dims region ≡ true → length (names_of dims region) ≡ length dims
length-names_of [] region is = refl
length-names_of (dim ∷ dims) [] is = cc
length-names_of (dim ∷ dims) (node ∷ nodes) is = ap suc (length-names_of dims nodes (is_region-cons dim dims node nodes is).1)
