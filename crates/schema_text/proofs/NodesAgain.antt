-- The lines of nodes are read again.
use Rattle.std.proofs.Common.{◌≡◌, ℕ, suc, ◌+◌, ◌≤◌, Bool, true, false, List, [], ◌∷◌, ◌++◌, length, map, refl, ap, ◌∙◌, arith, Some, None, eqb, append_assoc, append-nil, length-append, add-zero, lit≤}
use Rattle.std.specs.Prelude.{All, codes, ◌&&◌, not, nat_le, nat_lt}
use Rattle.std.specs.List.{flat_map, list_all, list_any}
use Rattle.std.specs.Str.{bytes_eq}
use Rattle.std.specs.Fmt.{decimal}
use Rattle.std.proofs.lemmas.Bool.{and_parts}
use Rattle.std.proofs.lemmas.Bool.Decides.{nat_tests}
use Rattle.std.proofs.lemmas.List.{length-map, map_push}
use Rattle.std.proofs.lemmas.List.Elements.{All-cons, All-nil}
use Rattle.cube_base.specs.Name.{is_name}
use Rattle.cube_model.specs.declared.tree.NodeLine.{NodeLine}
use Rattle.cube_model.specs.Limits.{MAX_DEPTH, MAX_NODES}
use Rattle.cube_model.specs.Tree.{Dimension, Entry, IsTree, are_distinct, first_fault, is_above_parent, is_numbered, line_fault, node_lines, numbers}
use Rattle.text_lines.proofs.Ascii.{ascii_is_utf8}
use Rattle.text_lines.specs.Text.{line_text}
use Rattle.text_lines.proofs.Numbers.{number_in-decimal}
use Rattle.dim_tree.proofs.Outlines.{tree_fault_none}
use Rattle.schema_text.specs.declared.word.SchemaWord.{SchemaWord}
use Rattle.schema_text.specs.declared.word.SchemaWord.TheVariants.{Node}
use Rattle.schema_text.specs.declared.word.Version.{Version}
use Rattle.schema_text.specs.declared.word.Version.TheVariants.{One, Two}
use Rattle.schema_text.specs.Draft.{IsNextNode, IsNextNumber}
use Rattle.schema_text.specs.SchemaText.{Draft, MAX_NODE_NUMBER, are_places_from, may_follow, node_line, node_of_fields, number_fields}
use Rattle.schema_text.proofs.Drafts.{is_name-right}
use Rattle.schema_text.proofs.NodesMore.{IsBehind, IsBehind-more, IsBehind-none, line_of, or-none, wrong_behind}
use Rattle.schema_text.proofs.Reading.{IsRead}
use Rattle.schema_text.proofs.WrittenLines.{IsField, IsField-decimal, IsField-name, IsNext, IsPlain-fields, IsRead-next}

-- a node that comes next behind these
pub record IsNodeNext (version : Version) (before : Dimension) (node : Entry) : Type 0 where
  pub fits : IsNextNode before node
  pub number : IsNextNumber version before node.number
  pub small : node.number ≤ MAX_NODE_NUMBER

-- the nodes come next one after the other
abbrev pub AreNodesNext : Version → Dimension → List Entry → Type 0
AreNodesNext version before [] = Unit {0}
AreNodesNext version before (node ∷ after) = IsNodeNext version before node × AreNodesNext version (before ++ node ∷ []) after

-- what a line that is not at fault says
pub record IsLineNext (earlier : List NodeLine) (node : NodeLine) : Type 0 where
  pub shallow : node.depth ≤ MAX_DEPTH
  pub depth : wrong_behind earlier node.depth ≡ false
  pub name : list_any (λ e. bytes_eq e.name node.name) earlier ≡ false

IsLineNext-from : (earlier : List NodeLine) (k : ℕ) (node : NodeLine) → line_fault earlier k node ≡ None → IsLineNext earlier node
IsLineNext-from [] k node none = record { shallow = grind (arith, nat_tests); depth = grind (arith, nat_tests); name = refl }
IsLineNext-from (before ∷ earlier) k node none = record { shallow = grind (arith, nat_tests); depth = grind (arith, nat_tests); name = grind (arith, nat_tests) }

-- numbers that nodes may have behind these
abbrev pub AreNumbersNext : Version → Dimension → List Entry → Type 0
AreNumbersNext One before after = are_places_from (length before) after ≡ true
AreNumbersNext Two before after = are_distinct (numbers before ++ numbers after) ≡ true

not-among : (ns : List ℕ) (m : ℕ) (ms : List ℕ) → are_distinct (ns ++ m ∷ ms) ≡ true → list_any (λ n. eqb n m) ns ≡ false
not-among [] m ms distinct = refl
not-among (n ∷ ns) m ms distinct =
    let parts = and_parts (not (list_any (λ x. eqb x n) (ns ++ m ∷ ms))) (are_distinct (ns ++ m ∷ ms)) distinct in
    let other : list_any (λ x. eqb x n) (m ∷ ms) ≡ false = no-more ns (m ∷ ms) n (not-true _ parts.0) in
    let differs : eqb n m ≡ false = grind (arith, nat_tests) in
    rw (differs, not-among ns m ms parts.1) refl
  where
    not-true : (b : Bool) → not b ≡ true → b ≡ false
    not-true true e = cc
    not-true false e = refl

    no-more : (ns ms : List ℕ) (n : ℕ) → list_any (λ x. eqb x n) (ns ++ ms) ≡ false → list_any (λ x. eqb x n) ms ≡ false
    no-more [] ms n e = e
    no-more (x ∷ ns) ms n e = no-more ns ms n (grind (arith, nat_tests))

-- the first of them, and the others behind it
number-next : (version : Version) (before : Dimension) (node : Entry) (after : List Entry) → AreNumbersNext version before (node ∷ after) → IsNextNumber version before node.number
number-next One before node after are = grind (arith, nat_tests)
number-next Two before node after are = not-among (numbers before) node.number (numbers after) are

numbers-rest : (version : Version) (before : Dimension) (node : Entry) (after : List Entry) → AreNumbersNext version before (node ∷ after) → AreNumbersNext version (before ++ node ∷ []) after
numbers-rest One before node after are =
    let more : length (before ++ node ∷ []) ≡ length before + 1 = length-append before (node ∷ []) in
    rw more (and_parts (eqb node.number (length before)) (are_places_from (length before + 1) after) are).1
numbers-rest Two before node after are =
    let joined : numbers (before ++ node ∷ []) ++ numbers after ≡ numbers before ++ numbers (node ∷ after) =
    ap (λ l. l ++ numbers after) (map_push (λ (e : Entry). e.number) before node) ∙ append_assoc (numbers before) (node.number ∷ []) (numbers after) in
    rw joined are

AreNodesNext-from : (version : Version) (before : Dimension) (earlier : List NodeLine) (k : ℕ) (after : List Entry) → IsBehind before earlier → first_fault earlier k (node_lines after) ≡ None
    → list_all (λ e. is_name e.name) after ≡ true → AreNumbersNext version before after → list_all (λ e. nat_le e.number MAX_NODE_NUMBER) after ≡ true → length before + length after ≤ MAX_NODES → AreNodesNext version before after
AreNodesNext-from version before earlier k [] behind none named numbered small few = tt
AreNodesNext-from version before earlier k (node ∷ after) behind none named numbered small few =
    let parts = or-none (line_fault earlier k (line_of node)) (first_fault (line_of node ∷ earlier) (k + 1) (node_lines after)) none in
    let next = IsLineNext-from earlier k (line_of node) parts.0 in
    let names = and_parts (is_name node.name) (list_all (λ (e : Entry). is_name e.name) after) named in
    let numbers_small = and_parts (nat_le node.number MAX_NODE_NUMBER) (list_all (λ (e : Entry). nat_le e.number MAX_NODE_NUMBER) after) small in (
      record {
        fits = record { name = rw (names.0, behind.names node.name, next.name) refl; shallow = next.shallow; depth = behind.depths node.depth ∙ next.depth; room = omega arith };
        number = number-next version before node after numbered;
        small = grind (arith, nat_tests);
      },
      AreNodesNext-from version (before ++ node ∷ []) (line_of node ∷ earlier) (k + 1) after (IsBehind-more before earlier node behind) parts.1 names.1 (numbers-rest version before node after numbered) numbers_small.1 (omega (arith, length-append before (node ∷ []))),
    )

-- numbers below the count of the nodes are small
small_numbers : (n : ℕ) (nodes : List Entry) → n ≤ MAX_NODES → list_all (λ m. nat_lt m n) (numbers nodes) ≡ true → list_all (λ e. nat_le e.number MAX_NODE_NUMBER) nodes ≡ true
small_numbers n [] few below = refl
small_numbers n (node ∷ nodes) few below = grind (arith, nat_tests, small_numbers n nodes)

-- the version of a text in which a dimension may be written
abbrev pub IsWritable : Version → Dimension → Type 0
IsWritable One dim = are_places_from 0 dim ≡ true
IsWritable Two dim = Unit {0}

-- the nodes of a tree come next
pub AreNodesNext-tree : (version : Version) (dim : Dimension) → IsTree dim → IsWritable version dim → AreNodesNext version [] dim
unfolding is_numbered
AreNodesNext-tree version dim tree writable =
    let lines = tree_fault_none (node_lines dim) tree.accepted in
    let count : length (node_lines dim) ≡ length dim = length-map dim line_of in
    let few : length dim ≤ MAX_NODES = omega (arith, lines.1) in
    let parts = and_parts (are_distinct (numbers dim) && list_all (λ n. nat_lt n (length dim)) (numbers dim)) (list_all (is_above_parent dim) dim) tree.numbered in
    let own = and_parts (are_distinct (numbers dim)) (list_all (λ n. nat_lt n (length dim)) (numbers dim)) parts.0 in
    AreNodesNext-from version [] [] 0 dim IsBehind-none lines.2 tree.names (start version own.0 writable) (small_numbers (length dim) dim few own.1) (omega (arith, few))
  where
    start : (version : Version) → are_distinct (numbers dim) ≡ true → IsWritable version dim → AreNumbersNext version [] dim
    start One distinct writable = writable
    start Two distinct writable = distinct

-- a draft with these nodes of the dimension that was named last
abbrev pub with_nodes : Draft → SchemaWord → Dimension → Draft
with_nodes draft last nodes = record draft { last = Some last; nodes = nodes }

-- what stands behind the word in the line of a node
abbrev pub fields_behind : Version → Entry → List (List ℕ)
fields_behind version node = decimal node.depth ∷ node.name ∷ number_fields version node.number

AreFields-node : (version : Version) (before : Dimension) (node : Entry) → IsNodeNext version before node → All IsField (fields_behind version node)
AreFields-node One before node next =
    All-cons IsField (decimal node.depth) (node.name ∷ []) (IsField-decimal node.depth (omega (arith, next.fits.shallow)))
    (All-cons IsField node.name [] (IsField-name node.name (is_name-right node.name (map (λ (n : Entry). n.name) before) next.fits.name)) (All-nil IsField))
AreFields-node Two before node next =
    All-cons IsField (decimal node.depth) (node.name ∷ decimal node.number ∷ []) (IsField-decimal node.depth (omega (arith, next.fits.shallow)))
    (All-cons IsField node.name (decimal node.number ∷ []) (IsField-name node.name (is_name-right node.name (map (λ (n : Entry). n.name) before) next.fits.name))
    (All-cons IsField (decimal node.number) [] (IsField-decimal node.number (omega (arith, next.small))) (All-nil IsField)))

next-node : (draft : Draft) (last : SchemaWord) (before : Dimension) (node : Entry) → may_follow (Some last) Node ≡ true → IsNodeNext draft.version before node
    → IsNext (with_nodes draft last before) (codes "node") (fields_behind draft.version node) Node
next-node draft last before node follows next = next-version draft.version follows next
  where
    next-version : (version : Version) → may_follow (Some last) Node ≡ true → IsNodeNext version before node → IsNext (record draft { last = Some last; version = version; nodes = before }) (codes "node") (fields_behind version node) Node
    next-version One follows next =
        let depth = number_in-decimal 0 MAX_DEPTH node.depth (omega (arith, next.fits.shallow)) (omega arith) next.fits.shallow in
        let few : nat_le MAX_NODES (length before) ≡ false = grind (arith, nat_tests, next.fits.room) in
        record {
          plain = IsPlain-fields (codes "node") (fields_behind One node) (record { bytes_are = refl; utf8 = ascii_is_utf8 (codes "node") refl; short = lit≤ tt }) (AreFields-node One before node next) (lit≤ tt);
          word_is = refl;
          stays = refl;
          goes_on = refl;
          accepted = rw (follows, next.fits.name, depth, next.fits.depth, few) refl;
        }
    next-version Two follows next =
        let depth = number_in-decimal 0 MAX_DEPTH node.depth (omega (arith, next.fits.shallow)) (omega arith) next.fits.shallow in
        let number = number_in-decimal 0 MAX_NODE_NUMBER node.number (omega (arith, next.small)) (omega arith) next.small in
        let few : nat_le MAX_NODES (length before) ≡ false = grind (arith, nat_tests, next.fits.room) in
        record {
          plain = IsPlain-fields (codes "node") (fields_behind Two node) (record { bytes_are = refl; utf8 = ascii_is_utf8 (codes "node") refl; short = lit≤ tt }) (AreFields-node Two before node next) (lit≤ tt);
          word_is = refl;
          stays = refl;
          goes_on = refl;
          accepted = rw (follows, next.fits.name, depth, number, next.number, next.fits.depth, few) refl;
        }

-- the node that is read is the one that was written
node-read : (version : Version) (before : Dimension) (node : Entry) → IsNodeNext version before node → node_of_fields version before (codes "node" ∷ fields_behind version node) ≡ node
node-read One before node next =
    let depth = number_in-decimal 0 MAX_DEPTH node.depth (omega (arith, next.fits.shallow)) (omega arith) next.fits.shallow in
    rw (depth, ← next.number) refl
node-read Two before node next =
    let depth = number_in-decimal 0 MAX_DEPTH node.depth (omega (arith, next.fits.shallow)) (omega arith) next.fits.shallow in
    let number = number_in-decimal 0 MAX_NODE_NUMBER node.number (omega (arith, next.small)) (omega arith) next.small in
    rw (depth, number, next.number) refl

abbrev pub last_node : SchemaWord → List Entry → SchemaWord
last_node last [] = last
last_node last (node ∷ nodes) = last_node Node nodes

pub read_nodes : (text : List ℕ) (draft : Draft) (last : SchemaWord) (before : Dimension) (nodes : List Entry) (lines : ℕ) (rest behind : List ℕ)
    → IsRead text (with_nodes draft last before) lines rest → rest ≡ flat_map (node_line draft.version) nodes ++ behind → may_follow (Some last) Node ≡ true → AreNodesNext draft.version before nodes
    → IsRead text (with_nodes draft (last_node last nodes) (before ++ nodes)) (lines + length nodes) behind
read_nodes text draft last before [] lines rest behind is parts follows are =
    let here : rest ≡ behind = parts in
    rw (append-nil before, add-zero lines, ← here) is
read_nodes text draft last before (node ∷ nodes) lines rest behind is parts follows are =
    let nodes_text = flat_map (node_line draft.version) nodes in
    let fields = fields_behind draft.version node in
    let depth = number_in-decimal 0 MAX_DEPTH node.depth (omega (arith, are.0.fits.shallow)) (omega arith) are.0.fits.shallow in
    let cuts : rest ≡ line_text (codes "node") fields ++ (nodes_text ++ behind) = parts ∙ append_assoc (node_line draft.version node) nodes_text behind in
    let next = IsRead-next text (with_nodes draft last before) lines rest (nodes_text ++ behind) (codes "node") fields Node is cuts (next-node draft last before node follows are.0) in
    let same : node_of_fields draft.version before (codes "node" ∷ fields) ≡ node = node-read draft.version before node are.0 in
    let read : IsRead text (with_nodes draft Node (before ++ node ∷ [])) (lines + 1) (nodes_text ++ behind) = rw same at next in
    let all = read_nodes text draft Node (before ++ node ∷ []) nodes (lines + 1) (nodes_text ++ behind) behind read refl refl are.1 in
    let joined : (before ++ node ∷ []) ++ nodes ≡ before ++ node ∷ nodes = append_assoc before (node ∷ []) nodes in
    let count : lines + 1 + length nodes ≡ lines + suc (length nodes) = omega arith in
    rw (← joined, ← count) all
