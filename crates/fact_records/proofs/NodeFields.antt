-- Nodes that fields name, one dimension after another.
use Rattle.std.proofs.Common.{◌≡◌, ℕ, zero, suc, ◌+◌, ◌<◌, ◌≤◌, true, List, [], ◌∷◌, ◌++◌, length, take, drop, get_or, set, refl, sym, ap, ◌∙◌, arith, Some, None}
use Rattle.std.specs.Prelude.{slice_get}
use Rattle.std.specs.Option.{option_map}
use Rattle.std.proofs.lemmas.Bool.Decides.{nat_tests}
use Rattle.std.proofs.lemmas.List.{drop_all, drop_more, length-set, length-take, length-take-le, take_all, take_more, take_more_set}
use Rattle.std.proofs.lemmas.Option.{get_or_from_slice_get, slice_get_within}
use Rattle.cube_model.specs.Limits.{MAX_DIMS}
use Rattle.cube_model.specs.Tree.{Dimension, node_named}
use Rattle.region_algebra.specs.Space.{is_region}
use Rattle.region_algebra.proofs.Tuples.{IsBehind, behind_end, behind_next, behind_none, behind_start}
use Rattle.region_algebra.proofs.Turns.{drop-at}
use Rattle.fact_records.specs.Fields.{nodes_named}

-- a node more of a dimension more
is_region-push : (dims : List Dimension) (nodes : List ℕ) (dim : Dimension) (node : ℕ) → is_region dims nodes ≡ true → node < length dim → is_region (dims ++ dim ∷ []) (nodes ++ node ∷ []) ≡ true
is_region-push [] [] dim node names within = grind (arith, nat_tests)
is_region-push [] (n ∷ nodes) dim node names within = cc
is_region-push (d ∷ dims) [] dim node names within = cc
is_region-push (d ∷ dims) (n ∷ nodes) dim node names within = grind (arith, nat_tests, is_region-push dims nodes dim node)

-- the fields of the nodes
abbrev pub names_in : List Dimension → List (List ℕ) → List (List ℕ)
names_in dims fields = take (length dims) fields

-- the nodes of the dimensions before this one are found, and the walk stands behind their names
pub record HasNodes (dims : List Dimension) (fields : List (List ℕ)) (d : ℕ) (nodes : List ℕ) (left : List (List ℕ)) : Type 0 where
  pub room : length nodes ≡ MAX_DIMS
  pub behind : left ≡ drop d fields
  pub found : IsBehind (take d nodes) (nodes_named (drop d dims) (drop d (names_in dims fields))) (nodes_named dims (names_in dims fields))
  pub region : is_region (take d dims) (take d nodes) ≡ true

pub HasNodes-start : (dims : List Dimension) (fields : List (List ℕ)) (nodes : List ℕ) → length nodes ≡ MAX_DIMS → HasNodes dims fields 0 nodes fields
HasNodes-start dims fields nodes room = record { room = room; behind = refl; found = behind_start (nodes_named dims (names_in dims fields)); region = refl }

-- the next field is that of the next dimension
get_or-take : {X : Type 0} (n : ℕ) (xs : List X) (i : ℕ) (x : X) → i < n → get_or (take n xs) i x ≡ get_or xs i x
get_or-take zero xs i x within = absurd (omega arith)
get_or-take (suc n) [] i x within = refl
get_or-take (suc n) (y ∷ xs) zero x within = refl
get_or-take (suc n) (y ∷ xs) (suc i) x within = get_or-take n xs i x (omega arith)

record IsNext (fields names : List (List ℕ)) (d : ℕ) (name : List ℕ) (more : List (List ℕ)) : Type 0 where
  behind : more ≡ drop (d + 1) fields
  here : drop d names ≡ name ∷ drop (d + 1) names

next : (n : ℕ) (fields : List (List ℕ)) (d : ℕ) (name : List ℕ) (more : List (List ℕ)) → name ∷ more ≡ drop d fields → d < n → n ≤ length fields → IsNext fields (take n fields) d name more
next n fields d name more left within enough =
    let cut : drop d fields ≡ get_or fields d name ∷ drop (d + 1) fields = drop_more fields d name (omega arith) in
    let same : name ≡ get_or fields d name = cc in
    let whole : length (take n fields) ≡ n = length-take-le n fields enough in
    let read : get_or (take n fields) d name ≡ name = get_or-take n fields d name within ∙ sym same in
    record {
      behind = cc;
      here = drop_more (take n fields) d name (omega (arith, whole)) ∙ ap (λ f. f ∷ drop (d + 1) (take n fields)) read;
    }

pub HasNodes-next : (dims : List Dimension) (fields : List (List ℕ)) (d : ℕ) (nodes : List ℕ) (left : List (List ℕ)) (name : List ℕ) (more : List (List ℕ)) (dim : Dimension) (node : ℕ) → HasNodes dims fields d nodes left → left ≡ name ∷ more
    → slice_get dims d ≡ Some dim → length dims ≤ MAX_DIMS → length dims ≤ length fields → node_named dim name ≡ Some node → node < length dim
    → HasNodes dims fields (d + 1) (set nodes d node) more
HasNodes-next dims fields d nodes left name more dim node before cut at few enough named inside =
    let within : d < length dims = slice_get_within dims d dim at in
    let field = next (length dims) fields d name more (sym cut ∙ before.behind) within enough in
    let later = nodes_named (drop (d + 1) dims) (drop (d + 1) (names_in dims fields)) in
    let here : nodes_named (drop d dims) (drop d (names_in dims fields)) ≡ option_map (λ t. node ∷ t) later = rw (drop-at dims d dim at, field.here, named) refl in
    let dims_more : take (d + 1) dims ≡ take d dims ++ dim ∷ [] = take_more dims d dim within ∙ ap (λ y. take d dims ++ y ∷ []) (get_or_from_slice_get dims d dim dim at) in
    record {
      room = length-set nodes d node ∙ before.room;
      behind = field.behind;
      found = behind_next nodes d node (nodes_named (drop d dims) (drop d (names_in dims fields))) later (nodes_named dims (names_in dims fields)) (omega (arith, before.room)) before.found here;
      region = rw (dims_more, take_more_set nodes d node (omega (arith, before.room))) (is_region-push (take d dims) (take d nodes) dim node before.region inside);
    }

-- a field that names no node
pub HasNodes-none : (dims : List Dimension) (fields : List (List ℕ)) (d : ℕ) (nodes : List ℕ) (left : List (List ℕ)) (name : List ℕ) (more : List (List ℕ)) (dim : Dimension) → HasNodes dims fields d nodes left → left ≡ name ∷ more
    → slice_get dims d ≡ Some dim → length dims ≤ length fields → node_named dim name ≡ None → nodes_named dims (names_in dims fields) ≡ None
HasNodes-none dims fields d nodes left name more dim before cut at enough none =
    let within : d < length dims = slice_get_within dims d dim at in
    let field = next (length dims) fields d name more (sym cut ∙ before.behind) within enough in
    let here : nodes_named (drop d dims) (drop d (names_in dims fields)) ≡ None = rw (drop-at dims d dim at, field.here, none) refl in
    behind_none (take d nodes) (nodes_named (drop d dims) (drop d (names_in dims fields))) (nodes_named dims (names_in dims fields)) before.found here

-- all nodes are found
pub HasNodes-all : (dims : List Dimension) (fields : List (List ℕ)) (d : ℕ) (nodes : List ℕ) (left : List (List ℕ)) → HasNodes dims fields d nodes left → d ≡ length dims → nodes_named dims (names_in dims fields) ≡ Some (take d nodes)
HasNodes-all dims fields d nodes left before end =
    let few : length (names_in dims fields) ≤ d = omega (arith, length-take (length dims) fields) in
    let here : nodes_named (drop d dims) (drop d (names_in dims fields)) ≡ Some [] = rw (drop_all d dims (omega arith), drop_all d (names_in dims fields) few) refl in
    behind_end (take d nodes) (nodes_named (drop d dims) (drop d (names_in dims fields))) (nodes_named dims (names_in dims fields)) before.found here

pub HasNodes-region : (dims : List Dimension) (fields : List (List ℕ)) (d : ℕ) (nodes : List ℕ) (left : List (List ℕ)) → HasNodes dims fields d nodes left → d ≡ length dims → is_region dims (take d nodes) ≡ true
HasNodes-region dims fields d nodes left before end =
    let few : length dims ≤ d = omega arith in
    rw (take_all d dims few) at before.region
