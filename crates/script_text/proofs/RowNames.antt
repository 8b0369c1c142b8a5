-- The names of a cell's leaves, one dimension after another.
use Rattle.std.proofs.Common.{◌≡◌, ℕ, zero, suc, ◌+◌, ◌≤◌, List, [], ◌∷◌, ◌++◌, length, take, refl, sym, ap, ◌∙◌, arith, append-nil, lit≤, Option, Some, None}
use Rattle.std.specs.Prelude.{slice_get}
use Rattle.std.specs.Option.{option_map, option_map_or}
use Rattle.std.proofs.lemmas.List.{take_all, take_more}
use Rattle.std.proofs.lemmas.Option.{get_or_from_slice_get, slice_get_within}
use Rattle.cube_model.specs.Tree.{Dimension, Entry, entry_of}
use Rattle.script_text.specs.Reply.{name_of, names_of}
use Rattle.script_text.specs.ReplySteps.{fields_text}
use Rattle.script_text.proofs.Appending.{appended}

-- the name of a node that is there
name_of-some : (dim : Dimension) (node : ℕ) (name : List ℕ) → option_map (λ e. e.name) (entry_of dim node) ≡ Some name → name_of dim node ≡ name
name_of-some dim node name named = by_entry (entry_of dim node) named
  where
    by_entry : (found : Option Entry) → option_map (λ e. e.name) found ≡ Some name → option_map_or (λ e. e.name) found [] ≡ name
    by_entry None named = cc
    by_entry (Some e) named = cc

-- the name at a place
names_of-at : (dims : List Dimension) (nodes : List ℕ) (d : ℕ) (dim : Dimension) (node : ℕ) → slice_get dims d ≡ Some dim → slice_get nodes d ≡ Some node → slice_get (names_of dims nodes) d ≡ Some (name_of dim node)
names_of-at [] nodes d dim node at has = cc
names_of-at (e ∷ dims) [] d dim node at has = cc
names_of-at (e ∷ dims) (n ∷ nodes) zero dim node at has =
    let dim_is : e ≡ dim = cc in
    let node_is : n ≡ node = cc in
    rw (dim_is, node_is) refl
names_of-at (e ∷ dims) (n ∷ nodes) (suc d) dim node at has = names_of-at dims nodes d dim node at has

-- there are no more names than dimensions
pub length-names_of : (dims : List Dimension) (nodes : List ℕ) → length (names_of dims nodes) ≤ length dims
length-names_of [] nodes = lit≤ tt
length-names_of (dim ∷ dims) [] = omega arith
length-names_of (dim ∷ dims) (node ∷ nodes) = omega (arith, length-names_of dims nodes)

-- a name more
pub names-more : (dims : List Dimension) (nodes : List ℕ) (d : ℕ) (dim : Dimension) (node : ℕ) (name old between new : List ℕ) → slice_get dims d ≡ Some dim → slice_get nodes d ≡ Some node
    → option_map (λ e. e.name) (entry_of dim node) ≡ Some name → between ≡ old ++ fields_text (take d (names_of dims nodes)) → new ≡ between ++ 9 ∷ name
    → new ≡ old ++ fields_text (take (d + 1) (names_of dims nodes))
names-more dims nodes d dim node name old between new at has named parts more =
    let names = names_of dims nodes in
    let read : slice_get names d ≡ Some (name_of dim node) = names_of-at dims nodes d dim node at has in
    let joined : take (d + 1) names ≡ take d names ++ name ∷ [] =
    take_more names d name (slice_get_within names d (name_of dim node) read) ∙ ap (λ n. take d names ++ n ∷ []) (get_or_from_slice_get names d (name_of dim node) name read ∙ name_of-some dim node name named) in
    appended (take d names) (name ∷ []) (take (d + 1) names) old between new parts (more ∙ ap (λ l. between ++ l) (sym (append-nil (9 ∷ name)))) joined

-- all names
pub names-all : (dims : List Dimension) (nodes : List ℕ) (d : ℕ) (old new : List ℕ) → length dims ≤ d → new ≡ old ++ fields_text (take d (names_of dims nodes)) → new ≡ old ++ fields_text (names_of dims nodes)
names-all dims nodes d old new end parts = parts ∙ ap (λ l. old ++ fields_text l) (take_all d (names_of dims nodes) (omega (arith, length-names_of dims nodes)))
