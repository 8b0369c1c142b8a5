-- The dimensions of an accepted schema are trees.
use Rattle.std.proofs.Common.{◌≡◌, ◌≢◌, ℕ, ◌+◌, ◌-◌, Bool, true, false, List, [], ◌∷◌, length, map, refl, sym, ap, ◌∙◌, subst, arith, Option, Some, None, Result, Ok, Err}
use Rattle.std.specs.Prelude.{All, if◌then◌else◌, is_none, not}
use Rattle.std.specs.List.{list_all}
use Rattle.std.specs.Option.{option_map_or, option_or}
use Rattle.std.proofs.lemmas.Bool.{not-false, or_parts}
use Rattle.std.proofs.lemmas.List.Elements.{All-append, All-cons, All-nil}
use Rattle.std.proofs.lemmas.List.Folds.{list_all-append}
use Rattle.cube_base.specs.Name.{is_name}
use Rattle.cube_base.specs.declared.code.Code.{Code}
use Rattle.cube_base.specs.declared.code.Code.TheVariants as code
use Rattle.cube_model.specs.Accepted.{first_that_holds}
use Rattle.cube_model.specs.Tree.{Dimension, Entry, IsTree, is_numbered, node_lines, tree_fault}
use Rattle.dim_tree.proofs.Climbing.{both, together}
use Rattle.dim_tree.proofs.Entries.{length-node_lines}
use Rattle.dim_tree.proofs.Outlines.{tree_fault_first}
use Rattle.text_lines.specs.LineText.{is_skipped, without_cr}
use Rattle.text_lines.specs.Text.{after_lines, fields_of, lines_of}
use Rattle.schema_text.specs.declared.word.SchemaWord.{SchemaWord}
use Rattle.schema_text.specs.declared.word.SchemaWord.TheVariants.{Cube, Policy, Number, Parts, Dimension as DimensionWord, Node, View, End}
use Rattle.schema_text.specs.Draft.{AreNodes, IsDraft, end_fault, size_code, word_in}
use Rattle.schema_text.specs.SchemaText.{BadLine, Draft, ReadLines, ReadSchema, blank_draft, depth_fields, dims_of, draft_line_fault, ended, has_many_cells, has_many_regions, has_no_room, has_wrong_count, has_wrong_depth, has_wrong_depths, has_wrong_name, has_wrong_policy, is_end, lacks_measure, line_has_wrong_number, may_follow, node_of_fields, policy_among, read_from, schema_of, schema_of_draft, sized, with_line, with_word, word_fault}
use Rattle.schema_text.proofs.Drafts.{is_name-right}
use Rattle.schema_text.proofs.DraftSteps.{IsDraft-word}
use Rattle.schema_text.proofs.Ends.{draft_line_fault-end}
use Rattle.schema_text.proofs.LineFaults.{end-one_field, other_word}
use Rattle.schema_text.proofs.LineWords.{HasWord, HasWord-in, draft_line_fault-none, draft_line_fault-word, with_line-word}
use Rattle.schema_text.proofs.NodesMore.{AreNodes-none}
use Rattle.schema_text.proofs.ViewsMore.{AreViews-none}

-- what accepted lines say: the dimensions that are ended are trees, and the nodes of the last have names
record HasTrees (draft : Draft) : Type 0 where
  known : IsDraft draft
  trees : All IsTree draft.dims
  names : list_all (λ e. is_name e.name) draft.nodes ≡ true

-- nodes that end as a dimension are a tree
ended-trees : (nodes : Dimension) → AreNodes nodes → list_all (λ e. is_name e.name) nodes ≡ true → list_all is_numbered (ended nodes) ≡ true → All IsTree (ended nodes)
ended-trees [] are named numbered = All-nil IsTree
ended-trees (node ∷ nodes) are named numbered =
    let count : length (node_lines (node ∷ nodes)) ≡ length (node ∷ nodes) = length-node_lines (node ∷ nodes) in
    let accepted : tree_fault (node_lines (node ∷ nodes)) ≡ None = tree_fault_first (node_lines (node ∷ nodes)) (omega arith) (omega (arith, count, are.few)) ∙ are.lines in
    All-cons IsTree (node ∷ nodes) [] (record { accepted = accepted; numbered = (both (is_numbered (node ∷ nodes)) true numbered).0; names = named }) (All-nil IsTree)

dims_of-trees : (draft : Draft) → HasTrees draft → list_all is_numbered (ended draft.nodes) ≡ true → All IsTree (dims_of draft)
dims_of-trees draft has numbered = All-append IsTree draft.dims (ended draft.nodes) has.trees (ended-trees draft.nodes has.known.nodes has.names numbered)

-- of the conditions on a line that is accepted none holds
record IsRight (draft : Draft) (fields : List (List ℕ)) (word : SchemaWord) : Type 0 where
  count : has_wrong_count draft.version (length draft.names) fields word ≡ false
  name : has_wrong_name draft fields word ≡ false
  number : line_has_wrong_number draft fields word ≡ false

four-fail : (a b c d : Bool) (rest : List (Bool × Code)) → first_that_holds ((a, code.Fields) ∷ (b, code.Name) ∷ (c, code.Policy) ∷ (d, code.Number) ∷ rest) ≡ None → (a ≡ false) × (b ≡ false) × (d ≡ false)
four-fail true b c d rest none = cc
four-fail false true c d rest none = cc
four-fail false false true d rest none = cc
four-fail false false false true rest none = cc
four-fail false false false false rest none = (refl, refl, refl)

right : (draft : Draft) (fields : List (List ℕ)) (word : SchemaWord) → word_fault draft fields word ≡ None → IsRight draft fields word
right draft fields word accepted =
    let none =
    four-fail (has_wrong_count draft.version (length draft.names) fields word) (has_wrong_name draft fields word) (has_wrong_policy draft fields word) (line_has_wrong_number draft fields word)
    ((has_wrong_depth draft fields word, code.Depth) ∷ (has_no_room draft fields word, code.Limit) ∷ (lacks_measure draft fields word, code.Policy) ∷ (has_many_cells draft fields word, code.Cells) ∷ (has_many_regions draft fields word, code.Nodes) ∷ []) accepted in
    record { count = none.0; name = none.1; number = none.2 }

-- a line more
HasTrees-word : (draft : Draft) (fields : List (List ℕ)) (word : SchemaWord) → HasTrees draft → may_follow draft.last word ≡ true → word ≢ End → word_fault draft fields word ≡ None → HasTrees (with_word draft fields word)
HasTrees-word draft fields Cube has follows goes_on accepted = record { known = IsDraft-word draft fields Cube has.known follows goes_on accepted; trees = has.trees; names = has.names }
HasTrees-word draft fields Policy has follows goes_on accepted = record { known = IsDraft-word draft fields Policy has.known follows goes_on accepted; trees = has.trees; names = has.names }
HasTrees-word draft fields Number has follows goes_on accepted = record { known = IsDraft-word draft fields Number has.known follows goes_on accepted; trees = has.trees; names = has.names }
HasTrees-word draft fields Parts has follows goes_on accepted = record { known = IsDraft-word draft fields Parts has.known follows goes_on accepted; trees = has.trees; names = has.names }
HasTrees-word draft fields DimensionWord has follows goes_on accepted = record {
  known = IsDraft-word draft fields DimensionWord has.known follows goes_on accepted;
  trees = dims_of-trees draft has (not-false (list_all is_numbered (ended draft.nodes)) (right draft fields DimensionWord accepted).number);
  names = refl;
}
HasTrees-word draft fields Node has follows goes_on accepted =
    let node : Entry = node_of_fields draft.version draft.nodes fields in
    let named : is_name node.name ≡ true = is_name-right node.name (map (λ (n : Entry). n.name) draft.nodes) (right draft fields Node accepted).name in
    record {
      known = IsDraft-word draft fields Node has.known follows goes_on accepted;
      trees = has.trees;
      names = list_all-append (λ (e : Entry). is_name e.name) draft.nodes (node ∷ []) ∙ together has.names (together named refl);
    }
HasTrees-word draft fields View has follows goes_on accepted =
    let fine = or_parts (has_wrong_depths (depth_fields fields)) (not (list_all is_numbered (ended draft.nodes))) (right draft fields View accepted).number in
    record {
      known = IsDraft-word draft fields View has.known follows goes_on accepted;
      trees = dims_of-trees draft has (not-false (list_all is_numbered (ended draft.nodes)) fine.1);
      names = refl;
    }
HasTrees-word draft fields End has follows goes_on accepted = absurd (goes_on refl)

HasTrees-line : (draft : Draft) (line : List ℕ) → HasTrees draft → draft_line_fault draft line ≡ None → is_end line ≡ false → HasTrees (with_line draft line)
HasTrees-line draft line has accepted other = by_word (word_in draft.last line) refl
  where
    by_word : (found : Result SchemaWord Code) → word_in draft.last line ≡ found → HasTrees (with_line draft line)
    by_word (Err reason) is =
        let refused = draft_line_fault-none draft line reason is in
        cc
    by_word (Ok word) is =
        let its : HasWord draft.last line word = HasWord-in draft.last line word is in
        let fields = fields_of (without_cr line) in
        let judged : word_fault draft fields word ≡ None = sym (draft_line_fault-word draft line word its) ∙ accepted in
        let goes_on : word ≢ End = other_word draft.version (length draft.names) fields word (right draft fields word judged).count (λ ends. end-one_field line other (its.named ∙ ap (λ w. Some w) ends)) in
        subst HasTrees (sym (with_line-word draft line word its)) (HasTrees-word draft fields word has its.follows goes_on judged)

-- at the end the last dimension is numbered
numbered-end : (follows wrong lacks : Bool) (rest : Option Code)
    → option_or (if follows then first_that_holds ((wrong, code.Number) ∷ (lacks, code.Policy) ∷ []) else Some code.Order) rest ≡ None → wrong ≡ false
numbered-end false wrong lacks rest none = cc
numbered-end true true lacks rest none = cc
numbered-end true false lacks rest none = refl

schema_of_draft-trees : (draft : Draft) (line : List ℕ) → HasTrees draft → draft_line_fault draft line ≡ None → is_end line ≡ true → All IsTree (dims_of draft)
schema_of_draft-trees draft line has accepted ends =
    let none : end_fault draft ≡ None = sym (draft_line_fault-end draft line ends) ∙ accepted in
    dims_of-trees draft has
    (not-false (list_all is_numbered (ended draft.nodes)) (numbered-end (may_follow draft.last End) (not (list_all is_numbered (ended draft.nodes))) (is_none (policy_among draft.measures draft.policy)) (size_code (dims_of draft)) none))

-- what a line does, by how it is judged
by_line : (draft : Draft) (k : ℕ) (line : List ℕ) (lines : List (List ℕ)) (read : ReadLines) (skipped : Bool) (fault : Option Code) (ends : Bool) → draft_line_fault draft line ≡ fault → is_end line ≡ ends → HasTrees draft
    → (read_from draft (k + 1) lines ≡ Ok read → All IsTree read.schema.dims)
    → (HasTrees (with_line draft line) → read_from (with_line draft line) (k + 1) lines ≡ Ok read → All IsTree read.schema.dims)
    → (if skipped then read_from draft (k + 1) lines
    else option_map_or (λ why. Err (record { line = k + 1; reason = why })) fault
    (if ends then Ok (record { schema = schema_of_draft draft; lines = k + 1 }) else read_from (with_line draft line) (k + 1) lines)) ≡ Ok read
    → All IsTree read.schema.dims
by_line draft k line lines read true fault ends fault_is ends_is has skip more e = skip e
by_line draft k line lines read false (Some why) ends fault_is ends_is has skip more e = cc
by_line draft k line lines read false None true fault_is ends_is has skip more e =
    let made : ReadLines = record { schema = schema_of_draft draft; lines = k + 1 } in
    let same : made ≡ read = cc in
    subst (λ (r : ReadLines). All IsTree r.schema.dims) same (schema_of_draft-trees draft line has fault_is ends_is)
by_line draft k line lines read false None false fault_is ends_is has skip more e = more (HasTrees-line draft line has fault_is ends_is) e

read_from-trees : (draft : Draft) (k : ℕ) (lines : List (List ℕ)) (read : ReadLines) → HasTrees draft → read_from draft k lines ≡ Ok read → All IsTree read.schema.dims
read_from-trees draft k [] read has e = cc
read_from-trees draft k (line ∷ lines) read has e =
    by_line draft k line lines read (is_skipped line) (draft_line_fault draft line) (is_end line) refl refl has
    (λ e. read_from-trees draft (k + 1) lines read has e) (λ next e. read_from-trees (with_line draft line) (k + 1) lines read next e) e

HasTrees-blank : HasTrees blank_draft
HasTrees-blank = record {
  known = record {
    measures = record { distinct = λ i j d before within. absurd (omega arith); some = All-nil _; most = omega arith; order = tt; scales = All-nil _ };
    kinds = All-nil _;
    measure_names = All-nil _;
    names = record { each = All-nil _; distinct = λ i j d before within. absurd (omega arith) };
    few = omega arith;
    named = refl;
    some = refl;
    nodes = AreNodes-none;
    viewed = refl;
    views = AreViews-none 0;
  };
  trees = All-nil IsTree;
  names = refl;
}

-- the dimensions of an accepted schema are trees
pub schema_of-trees : (input : List ℕ) (read : ReadSchema) → schema_of input ≡ Ok read → All IsTree read.schema.dims
unfolding schema_of
schema_of-trees input read e = by_read (read_from blank_draft 0 (lines_of input)) refl e
  where
    by_read : (lines : Result ReadLines BadLine) → read_from blank_draft 0 (lines_of input) ≡ lines → sized input lines ≡ Ok read → All IsTree read.schema.dims
    by_read (Err bad) is e = cc
    by_read (Ok lines) is e =
        let made : ReadSchema = record { schema = lines.schema; size = length input - length (after_lines lines.lines input) } in
        let same : made ≡ read = cc in
        subst (λ (r : ReadSchema). All IsTree r.schema.dims) same (read_from-trees blank_draft 0 (lines_of input) lines HasTrees-blank is)
