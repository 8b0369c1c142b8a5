-- The lines of dimensions are read again.
use Rattle.std.proofs.Common.{◌≡◌, ℕ, ◌+◌, ◌<◌, ◌≤◌, true, false, List, [], ◌∷◌, ◌++◌, length, refl, sym, ap, ◌∙◌, arith, Option, Some, append_assoc, append-nil, length-append, lit≤, subst}
use Rattle.std.specs.Prelude.{codes, All, nat_le}
use Rattle.std.specs.List.{flat_map, list_all}
use Rattle.std.proofs.lemmas.Bool.Decides.{nat_tests}
use Rattle.std.proofs.lemmas.List.{length-map}
use Rattle.std.proofs.lemmas.List.Elements.{All-cons, All-head, All-nil, All-tail}
use Rattle.cube_model.specs.Limits.{MAX_DIMS}
use Rattle.cube_model.specs.Tree.{Dimension, Entry, IsTree, is_numbered, node_lines}
use Rattle.text_lines.specs.Text.{line_text}
use Rattle.text_lines.proofs.Ascii.{ascii_is_utf8}
use Rattle.dim_tree.proofs.Outlines.{tree_fault_none}
use Rattle.schema_text.specs.declared.word.SchemaWord.{SchemaWord}
use Rattle.schema_text.specs.declared.word.SchemaWord.TheVariants.{Dimension as DimensionWord, Node}
use Rattle.schema_text.specs.Schema.{AreNames}
use Rattle.schema_text.specs.SchemaText.{Draft, dims_of, dims_text, ended, is_wrong_name, may_follow, node_line}
use Rattle.schema_text.proofs.Drafts.{is_name-right}
use Rattle.schema_text.proofs.MeasuresAgain.{right-name}
use Rattle.schema_text.proofs.NodesAgain.{AreNodesNext-tree, IsWritable, last_node, read_nodes}
use Rattle.schema_text.proofs.NodesMore.{line_of}
use Rattle.schema_text.proofs.Reading.{IsRead}
use Rattle.schema_text.proofs.WrittenLines.{IsField, IsField-name, IsNext, IsPlain-fields, IsRead-next}

-- the word of the last line, once these dimensions are read
abbrev pub last_dims : Option SchemaWord → List Dimension → Option SchemaWord
last_dims last [] = last
last_dims last (dim ∷ dims) = last_dims (Some Node) dims

pub last_dims-some : (dims : List Dimension) → last_dims (Some Node) dims ≡ Some Node
last_dims-some [] = refl
last_dims-some (dim ∷ dims) = last_dims-some dims

-- once dimensions are read
pub record IsEnded (text : List ℕ) (draft : Draft) (names : List (List ℕ)) (dims : List Dimension) (behind : List ℕ) : Type 0 where
  pub next : Draft
  pub lines : ℕ
  pub read : IsRead text next lines behind
  pub numbered : list_all is_numbered (ended next.nodes) ≡ true
  pub policy : next.policy ≡ draft.policy
  pub measures : next.measures ≡ draft.measures
  pub views : next.views ≡ draft.views
  pub names_are : next.names ≡ draft.names ++ names
  pub dims_are : dims_of next ≡ dims_of draft ++ dims
  pub last : next.last ≡ last_dims draft.last dims

next-dimension : (draft : Draft) (name : List ℕ) → may_follow draft.last DimensionWord ≡ true → is_wrong_name name draft.names ≡ false → list_all is_numbered (ended draft.nodes) ≡ true → length draft.names < MAX_DIMS
    → IsNext draft (codes "dimension") (name ∷ []) DimensionWord
next-dimension draft name follows right numbered room =
    let few : nat_le MAX_DIMS (length draft.names) ≡ false = grind (arith, nat_tests) in
    record {
      plain = IsPlain-fields (codes "dimension") (name ∷ []) (record { bytes_are = refl; utf8 = ascii_is_utf8 (codes "dimension") refl; short = lit≤ tt }) (All-cons IsField name [] (IsField-name name (is_name-right name draft.names right)) (All-nil IsField)) (lit≤ tt);
      word_is = refl;
      stays = refl;
      goes_on = refl;
      accepted = rw (follows, right, numbered, few) refl;
    }

last_node-some : (nodes : List Entry) → last_node Node nodes ≡ Node
last_node-some [] = refl
last_node-some (node ∷ nodes) = last_node-some nodes

some_nodes : (dim : Dimension) → IsTree dim → 0 < length dim
some_nodes dim tree =
    let count : length (node_lines dim) ≡ length dim = length-map dim line_of in
    omega (arith, (tree_fault_none (node_lines dim) tree.accepted).0)

ended-some : (nodes : Dimension) → 0 < length nodes → ended nodes ≡ nodes ∷ []
ended-some [] none = absurd (omega arith)
ended-some (node ∷ nodes) more = refl

-- the dimension of a tree's nodes is the tree, and is numbered
ended-tree : (dim : Dimension) → IsTree dim → ended dim ≡ dim ∷ []
ended-tree dim tree = ended-some dim (some_nodes dim tree)

ended-numbered : (dim : Dimension) → IsTree dim → list_all is_numbered (ended dim) ≡ true
ended-numbered dim tree = rw (ended-tree dim tree, tree.numbered) refl

last-tree : (dim : Dimension) → IsTree dim → last_node DimensionWord dim ≡ Node
last-tree dim tree = some dim (some_nodes dim tree)
  where
    some : (nodes : List Entry) → 0 < length nodes → last_node DimensionWord nodes ≡ Node
    some [] none = absurd (omega arith)
    some (node ∷ nodes) more = last_node-some nodes

pub read_dims : (text : List ℕ) (draft : Draft) (names : List (List ℕ)) (dims : List Dimension) (lines : ℕ) (rest behind : List ℕ) → IsRead text draft lines rest → rest ≡ dims_text draft.version names dims ++ behind
    → length names ≡ length dims → may_follow draft.last DimensionWord ≡ true → list_all is_numbered (ended draft.nodes) ≡ true → AreNames (draft.names ++ names) → length draft.names + length names ≤ MAX_DIMS → All IsTree dims → All (IsWritable draft.version) dims → IsEnded text draft names dims behind
read_dims text draft [] [] lines rest behind is parts same follows numbered are few trees writable = record {
  next = draft;
  lines = lines;
  read = let here : rest ≡ behind = parts in rw (← here) is;
  numbered = numbered;
  policy = refl;
  measures = refl;
  views = refl;
  names_are = sym (append-nil draft.names);
  dims_are = sym (append-nil (dims_of draft));
  last = refl;
}
read_dims text draft [] (dim ∷ dims) lines rest behind is parts same follows numbered are few trees writable = absurd (omega arith)
read_dims text draft (name ∷ names) [] lines rest behind is parts same follows numbered are few trees writable = absurd (omega arith)
read_dims text draft (name ∷ names) (dim ∷ dims) lines rest behind is parts same follows numbered are few trees writable =
    let right = right-name draft.names name names are in
    let tree = All-head IsTree dim dims trees in
    let nodes_text = flat_map (node_line draft.version) dim in
    let more = dims_text draft.version names dims ++ behind in
    let cuts : rest ≡ line_text (codes "dimension") (name ∷ []) ++ (nodes_text ++ more) =
    parts ∙ append_assoc (line_text (codes "dimension") (name ∷ []) ++ nodes_text) (dims_text draft.version names dims) behind ∙ append_assoc (line_text (codes "dimension") (name ∷ [])) nodes_text more in
    let head = IsRead-next text draft lines rest (nodes_text ++ more) (codes "dimension") (name ∷ []) DimensionWord is cuts (next-dimension draft name follows right numbered (omega arith)) in
    let open_draft : Draft = record { last = Some DimensionWord; version = draft.version; policy = draft.policy; measures = draft.measures; names = draft.names ++ name ∷ []; dims = dims_of draft; nodes = []; views = draft.views } in
    let nodes = read_nodes text open_draft DimensionWord [] dim (lines + 1) (nodes_text ++ more) more head refl refl (AreNodesNext-tree draft.version dim tree (All-head (IsWritable draft.version) dim dims writable)) in
    let closed : Draft = record { last = Some Node; version = draft.version; policy = draft.policy; measures = draft.measures; names = draft.names ++ name ∷ []; dims = dims_of draft; nodes = dim; views = draft.views } in
    let read : IsRead text closed (lines + 1 + length dim) more = rw (last-tree dim tree) at nodes in
    let joined : (draft.names ++ name ∷ []) ++ names ≡ draft.names ++ name ∷ names = append_assoc draft.names (name ∷ []) names in
    let rest_read = read_dims text closed names dims (lines + 1 + length dim) more behind read refl (omega arith) refl (ended-numbered dim tree) (subst AreNames (sym joined) are) (omega (arith, length-append draft.names (name ∷ []))) (All-tail IsTree dim dims trees) (All-tail (IsWritable draft.version) dim dims writable) in
    let whole : dims_of closed ≡ dims_of draft ++ dim ∷ [] = ap (λ l. dims_of draft ++ l) (ended-tree dim tree) in
    record {
      next = rest_read.next;
      lines = rest_read.lines;
      read = rest_read.read;
      numbered = rest_read.numbered;
      policy = rest_read.policy;
      measures = rest_read.measures;
      views = rest_read.views;
      names_are = rest_read.names_are ∙ joined;
      dims_are = rest_read.dims_are ∙ ap (λ l. l ++ dims) whole ∙ append_assoc (dims_of draft) (dim ∷ []) dims;
      last = rest_read.last;
    }
