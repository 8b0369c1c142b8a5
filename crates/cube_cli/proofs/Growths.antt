-- A growth that is read and accepted leaves dimensions that are trees, with all regions that there were.
use Rattle.std.proofs.Common.{◌≡◌, ℕ, ◌<◌, Bool, true, false, List, [], get_or, length, refl, sym, ap, ◌∙◌, subst, arith, Option, Some, None, Result, Ok, Err}
use Rattle.std.specs.Prelude.{◌∷◌, ◌==◌, ◌&&◌, All, IfSome, drop, if◌then◌else◌, is_none, nat_le, slice_get}
use Rattle.std.specs.List.{position_or_len}
use Rattle.std.specs.Option.{option_and_then, option_map, option_map_or, option_or}
use Rattle.std.specs.Str.{bytes_eq}
use Rattle.std.proofs.lemmas.Bool.Decides.{nat_tests}
use Rattle.std.proofs.lemmas.List.Elements.{All-set, All-weaker}
use Rattle.std.proofs.lemmas.List.Folds.{find_at}
use Rattle.std.proofs.lemmas.Option.{get_or_from_slice_get, slice_get-get_or, slice_get-map, slice_get_within}
use Rattle.cube_base.specs.declared.code.Code.{Code}
use Rattle.cube_base.specs.declared.code.Code.TheVariants as code
use Rattle.cube_base.specs.Name.{is_name}
use Rattle.cube_model.specs.declared.edit.Fact.{Fact}
use Rattle.cube_model.specs.declared.tree.Grow.{Grow}
use Rattle.cube_model.specs.Accepted.{first_refusal, has_many_rows}
use Rattle.cube_model.specs.Allocation.{Policy, extended}
use Rattle.cube_model.specs.Growing.{grown}
use Rattle.cube_model.specs.Limits.{MAX_DEPTH, MAX_NODES}
use Rattle.cube_model.specs.Tree.{Dimension, Entry, IsTree, entry_of, node_named}
use Rattle.dim_tree.proofs.NewLeaf.{IsTree-grown}
use Rattle.region_algebra.specs.declared.growth.GrowFault.{GrowFault}
use Rattle.region_algebra.specs.declared.growth.GrowFault.TheVariants as growth_fault
use Rattle.region_algebra.specs.Growth.{child_fault, size_fault}
use Rattle.region_algebra.specs.Space.{IsRegion}
use Rattle.region_algebra.proofs.Growing.{grown_dims-at}
use Rattle.region_algebra.proofs.Numbers.{number-within}
use Rattle.text_lines.specs.LineText.{field_at}
use Rattle.fact_records.specs.Fields.{result_then}
use Rattle.schema_text.specs.Growth.{IsGrowOf, dims_with}
use Rattle.schema_text.specs.Schema.{SchemaValue}
use Rattle.script_text.specs.declared.line.Line.{Line}
use Rattle.script_text.specs.declared.line.Line.TheVariants as line
use Rattle.script_text.specs.declared.word.FactWord.{FactWord}
use Rattle.script_text.specs.declared.word.FactWord.TheVariants.{Insert, Change}
use Rattle.script_text.specs.declared.word.ScriptWord.{ScriptWord}
use Rattle.script_text.specs.ScriptLine.{command_line, dim_given, growth_given, line_of}
use Rattle.script_text.specs.ScriptWord.{line_of_fact}
use Rattle.script_text.proofs.LineCases.{HoldsOfEach, command_line-holds, line_of-holds}
use Rattle.cube_core.specs.Growth.{growth_code, has_large_region, judge_growth}
use Rattle.cube_core.proofs.Widening.{keep-grown}

-- what a read line says of a leaf: its dimension and its parent are there, no node has its name, and this is one
pub record IsLeafOf (dims : List Dimension) (grow : Grow) : Type 0 where
  pub grows : IsGrowOf dims grow
  pub named : is_name grow.name ≡ true

-- a node that has a name is one of the dimension
named-within : (dim : Dimension) (name : List ℕ) (node : ℕ) → IsTree dim → node_named dim name ≡ Some node → node < length dim
named-within dim name node tree found =
    let place = position_or_len (λ (e : Entry). bytes_eq e.name name) dim in
    number-within dim place node tree
    (slice_get-map (λ (e : Entry). e.number) dim place ∙ ap (option_map (λ (e : Entry). e.number)) (sym (find_at (λ (e : Entry). bytes_eq e.name name) dim)) ∙ found)

-- A line that is read as a growth says a leaf.
module _ (schema : SchemaValue) (trees : All IsTree schema.dims) where
  module _ (grow : Grow) (above name : List ℕ) where
    -- a name that was judged, where this node of a dimension is to be the parent
    abbrev of_name : ℕ → ℕ → Option Dimension → Result Line Code
    of_name d parent tree =
        result_then (λ name. Ok (line.Grow (record { dim = d; parent = parent; name = name })))
        (if is_name name && is_none (option_and_then (λ tree. node_named tree name) tree) then Ok name else Err code.Name)

    -- the same behind the parent
    abbrev of_parent : ℕ → Option Dimension → Result Line Code
    of_parent d tree = result_then (λ parent. of_name d parent tree) (option_map_or (λ node. Ok node) (option_and_then (λ tree. node_named tree above) tree) (Err code.Node))

    name-given : (d : ℕ) (dim : Dimension) (parent : ℕ) → slice_get schema.dims d ≡ Some dim → parent < length dim
        → (named : Bool) → is_name name ≡ named → (same : Option ℕ) → node_named dim name ≡ same
        → result_then (λ name. Ok (line.Grow (record { dim = d; parent = parent; name = name }))) (if named && is_none same then Ok name else Err code.Name) ≡ Ok (line.Grow grow)
        → IsLeafOf schema.dims grow
    name-given d dim parent is under false named same free e = cc
    name-given d dim parent is under true named (Some other) free e = cc
    name-given d dim parent is under true named None free e =
        let same : record { dim = d; parent = parent; name = name } ≡ grow = cc in
        subst (IsLeafOf schema.dims) same (record {
          grows = record {
            dim = slice_get_within schema.dims d dim is;
            parent = subst (λ found. IfSome found (λ dim. parent < length dim)) (sym is) under;
            free = subst (λ found. IfSome found (λ dim. node_named dim name ≡ None)) (sym is) free;
          };
          named = named;
        })

    tree-given : (d : ℕ) (tree : Option Dimension) → slice_get schema.dims d ≡ tree → of_parent d tree ≡ Ok (line.Grow grow) → IsLeafOf schema.dims grow
    tree-given d None is e = cc
    tree-given d (Some dim) is e = at (node_named dim above) refl e
      where
        tree : IsTree dim
        tree = subst IsTree (get_or_from_slice_get schema.dims d dim [] is) (trees d [] (slice_get_within schema.dims d dim is))

        at : (parent : Option ℕ) → node_named dim above ≡ parent → result_then (λ parent. of_name d parent (Some dim)) (option_map_or (λ node. Ok node) parent (Err code.Node)) ≡ Ok (line.Grow grow) → IsLeafOf schema.dims grow
        at None found e = cc
        at (Some parent) found e = name-given d dim parent is (named-within dim above parent tree found) (is_name name) refl (node_named dim name) refl e

    growth-given : (dim : Result ℕ Code) → result_then (λ d. of_parent d (slice_get schema.dims d)) dim ≡ Ok (line.Grow grow) → IsLeafOf schema.dims grow
    growth-given (Err why) e = cc
    growth-given (Ok d) e = tree-given d (slice_get schema.dims d) refl e

  -- it is a growth, or says another thing
  abbrev MayGrow : Line → Type 0
  MayGrow said = (grow : Grow) → said ≡ line.Grow grow → IsLeafOf schema.dims grow

  no_fact : (word : FactWord) (fact : Fact) → MayGrow (line_of_fact word fact)
  no_fact Insert fact grow e = cc
  no_fact Change fact grow e = cc

  of_growth : (fields : List (List ℕ)) (grow : Grow) → growth_given schema fields ≡ Ok (line.Grow grow) → MayGrow (line.Grow grow)
  of_growth fields grow is other e =
      let same : grow ≡ other = cc in
      subst (IsLeafOf schema.dims) same (growth-given grow (field_at fields 1) (field_at fields 2) (dim_given schema (field_at fields 0)) is)

  each_leaf : HoldsOfEach schema MayGrow
  each_leaf = record {
    nothing = λ grow e. cc;
    fact = λ word fields fact is. no_fact word fact;
    withdrawal = λ fields id is grow e. cc;
    growth = λ fields grow is. of_growth fields grow is;
    question = λ asked grow e. cc;
  }

  pub line_of-leaf : (grow : Grow) (bytes : List ℕ) → line_of schema bytes ≡ Ok (line.Grow grow) → IsLeafOf schema.dims grow
  line_of-leaf grow bytes e = line_of-holds schema MayGrow each_leaf bytes (line.Grow grow) e grow refl

  pub command_line-leaf : (grow : Grow) (fields : List (List ℕ)) (spelled : Option ScriptWord) → command_line schema fields spelled ≡ Ok (line.Grow grow) → IsLeafOf schema.dims grow
  command_line-leaf grow fields spelled e = command_line-holds schema MayGrow each_leaf fields spelled (line.Grow grow) e grow refl

-- there is room for a leaf in a dimension of so many nodes: none has its name, and its parent is not too deep
record HasRoom (same : Option ℕ) (parent : Option Entry) (nodes : ℕ) : Type 0 where
  new : same ≡ None
  shallow : IfSome parent (λ e. e.depth < MAX_DEPTH)
  few : nodes < MAX_NODES

-- where a growth is not refused, its dimension by itself has room
module _ (sizes : Option GrowFault) (rest : List (Option Code)) where
  abbrev refusal_of : Option GrowFault → Option Code
  refusal_of own = first_refusal (option_and_then growth_code (option_or own sizes) ∷ rest)

  not_deep : (parent : Option Entry) → option_map_or (λ e. nat_le MAX_DEPTH e.depth) parent false ≡ false → IfSome parent (λ e. e.depth < MAX_DEPTH)
  not_deep None shallow = tt
  not_deep (Some e) shallow = grind (arith, nat_tests, shallow)

  has_room : (same : Option ℕ) (parent : Option Entry) (nodes : ℕ)
      → refusal_of (if option_map_or (λ number. true) same false then Some growth_fault.Name
      else (if option_map_or (λ e. nat_le MAX_DEPTH e.depth) parent false then Some growth_fault.Depth else (if nat_le MAX_NODES nodes then Some growth_fault.Limit else None))) ≡ None
      → HasRoom same parent nodes
  has_room (Some number) parent nodes none = cc
  has_room None parent nodes none = by_depth (option_map_or (λ e. nat_le MAX_DEPTH e.depth) parent false) refl (nat_le MAX_NODES nodes) refl none
    where
      by_depth : (deep : Bool) → option_map_or (λ e. nat_le MAX_DEPTH e.depth) parent false ≡ deep → (full : Bool) → nat_le MAX_NODES nodes ≡ full
          → refusal_of (if deep then Some growth_fault.Depth else (if full then Some growth_fault.Limit else None)) ≡ None → HasRoom None parent nodes
      by_depth true deep full is none = cc
      by_depth false shallow true full none = cc
      by_depth false shallow false few none = record { new = refl; shallow = not_deep parent shallow; few = grind (arith, nat_tests, few) }

module _ (dims : List Dimension) (grow : Grow) (trees : All IsTree dims) (leaf : IsLeafOf dims grow) where
  -- where the growth is accepted, the dimensions are trees after it
  pub trees-grown : (policy : Policy) (facts : List Fact) → judge_growth policy dims facts grow ≡ None → All IsTree (dims_with grow dims)
  trees-grown policy facts none =
      let dim = get_or dims grow.dim [] in
      let is : slice_get dims grow.dim ≡ Some dim = slice_get-get_or dims grow.dim [] leaf.grows.dim in
      let under : grow.parent < length dim = subst (λ found. IfSome found (λ dim. grow.parent < length dim)) is leaf.grows.parent in
      let later = dims_with grow dims in
      let rest : List (Option Code) = (if has_large_region later facts then Some code.Region else None) ∷ (if has_many_rows (extended policy later facts) then Some code.Rows else None) ∷ [] in
      let room : HasRoom (node_named dim grow.name) (entry_of dim grow.parent) (length dim) =
      has_room (size_fault later) rest (node_named dim grow.name) (entry_of dim grow.parent) (length dim)
      (subst (λ found. refusal_of (size_fault later) rest (option_and_then (λ dim. child_fault dim grow.parent grow.name) found) ≡ None) is none) in
      let tree : IsTree (grown dim grow.parent grow.name) = IsTree-grown dim grow.parent grow.name (trees grow.dim [] leaf.grows.dim) under room.shallow room.few room.new leaf.named in
      subst (All IsTree) (sym (grown_dims-at dims grow.dim dim grow.parent grow.name is)) (All-set IsTree dims grow.dim (grown dim grow.parent grow.name) tree trees)

  -- and whatever lay at a region does so still
  pub named-grown : (facts : List Fact) → All (λ f. IsRegion dims f.region) facts → All (λ f. IsRegion (dims_with grow dims) f.region) facts
  named-grown facts named =
      let keep = keep-grown dims grow.dim grow.parent grow.name trees leaf.grows.dim leaf.grows.parent in
      All-weaker (λ f. IsRegion dims f.region) (λ f. IsRegion (dims_with grow dims) f.region) (λ f here. keep.regions f.region here) facts named
