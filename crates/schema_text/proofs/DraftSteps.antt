-- Accepted lines keep what is known of a draft.
use Rattle.std.proofs.Common.{◌≡◌, ◌≢◌, ℕ, ◌+◌, ◌<◌, ◌≤◌, Bool, true, false, List, [], ◌∷◌, ◌++◌, length, map, refl, arith, sym, ◌∙◌, Option, Some, None, length-append, length-drop, subst}
use Rattle.std.specs.Prelude.{is_none, not, unwrap_or}
use Rattle.std.specs.List.{list_all}
use Rattle.std.specs.Option.{option_map_or}
use Rattle.std.proofs.lemmas.Bool.{or_parts}
use Rattle.std.proofs.lemmas.Bool.Decides.{nat_tests}
use Rattle.std.proofs.lemmas.List.Elements.{All-push}
use Rattle.cube_base.specs.Name.{is_name}
use Rattle.cube_base.specs.declared.code.Code.{Code}
use Rattle.cube_base.specs.declared.code.Code.TheVariants as code
use Rattle.cube_model.specs.Accepted.{first_that_holds}
use Rattle.cube_model.specs.Limits.{MAX_DEPTH, MAX_DIMS, MAX_SCALE, MIN_SCALE}
use Rattle.cube_model.specs.Tree.{is_numbered}
use Rattle.text_lines.specs.LineText.{field_at}
use Rattle.fact_records.specs.declared.shape.Measure.{Measure}
use Rattle.fact_records.specs.declared.shape.Kind.TheVariants as kind
use Rattle.schema_text.specs.declared.word.SchemaWord.{SchemaWord}
use Rattle.schema_text.specs.declared.word.SchemaWord.TheVariants.{Cube, Policy, Number, Parts, Dimension as DimensionWord, Node, View, End}
use Rattle.schema_text.specs.Draft.{HasNodes, HasViews, IsDraft, IsNextMeasure, IsNextNode, open_count}
use Rattle.schema_text.specs.Schema.{AreViews, IsKind, MAX_VIEWS}
use Rattle.schema_text.specs.SchemaText.{Draft, depth_fields, ended, has_many_cells, has_many_regions, has_no_room, has_wrong_count, has_wrong_depth, has_wrong_depths, has_wrong_name, has_wrong_names, has_wrong_policy, is_wrong_depth, is_wrong_name, lacks_measure, line_has_wrong_number, may_follow, measure_behind, node_of_fields, outcomes_of, parts_kind, read_depth, read_number, view_of_fields, with_word, word_fault}
use Rattle.schema_text.proofs.Drafts.{AreNames-push, before-Cube, before-Dimension, before-End, before-Node, before-Number, before-Policy, is_name-right, no_views, Parts-like-Number, View-like-End}
use Rattle.schema_text.proofs.MeasuresMore.{AreMeasures-push}
use Rattle.schema_text.proofs.NodesMore.{AreNodes-none, AreNodes-push}
use Rattle.schema_text.proofs.Outcomes.{AreOutcomes-names}
use Rattle.schema_text.proofs.NumbersRead.{number_in-range}
use Rattle.schema_text.proofs.ViewsMore.{AreViews-none, AreViews-push, depths-shallow, length-depths}

-- what an accepted line is not
record IsAccepted (draft : Draft) (fields : List (List ℕ)) (word : SchemaWord) : Type 0 where
  pub count : has_wrong_count draft.version (length draft.names) fields word ≡ false
  pub name : has_wrong_name draft fields word ≡ false
  pub number : line_has_wrong_number draft fields word ≡ false
  pub depth : has_wrong_depth draft fields word ≡ false
  pub room : has_no_room draft fields word ≡ false

-- of conditions the first of which is there none holds
none-holds : (a b c d e f : Bool) (rest : List (Bool × Code))
    → first_that_holds ((a, code.Fields) ∷ (b, code.Name) ∷ (c, code.Policy) ∷ (d, code.Number) ∷ (e, code.Depth) ∷ (f, code.Limit) ∷ rest) ≡ None → (a ≡ false) × (b ≡ false) × (d ≡ false) × (e ≡ false) × (f ≡ false)
none-holds true b c d e f rest none = cc
none-holds false true c d e f rest none = cc
none-holds false false true d e f rest none = cc
none-holds false false false true e f rest none = cc
none-holds false false false false true f rest none = cc
none-holds false false false false false true rest none = cc
none-holds false false false false false false rest none = (refl, refl, refl, refl, refl)

IsAccepted-from : (draft : Draft) (fields : List (List ℕ)) (word : SchemaWord) → word_fault draft fields word ≡ None → IsAccepted draft fields word
IsAccepted-from draft fields word accepted =
    let none =
    none-holds (has_wrong_count draft.version (length draft.names) fields word) (has_wrong_name draft fields word) (has_wrong_policy draft fields word) (line_has_wrong_number draft fields word) (has_wrong_depth draft fields word) (has_no_room draft fields word)
    ((lacks_measure draft fields word, code.Policy) ∷ (has_many_cells draft fields word, code.Cells) ∷ (has_many_regions draft fields word, code.Nodes) ∷ []) accepted in
    record { count = none.0; name = none.1; number = none.2; depth = none.3; room = none.4 }

-- a measure more
IsDraft-measure : (draft : Draft) (word : SchemaWord) (next : Measure) → IsDraft draft → may_follow draft.last Number ≡ true → (open_count (Some word) ≡ 0) → (draft.nodes ≡ [] → HasNodes (Some word) draft.nodes) → (draft.views ≡ [] → HasViews (Some word) draft.dims draft.views) → IsNextMeasure draft.measures next
    → IsDraft (record draft { last = Some word; measures = draft.measures ++ next ∷ [] })
IsDraft-measure draft word next is follows closed none unseen may =
    let before = before-Number draft.last draft.nodes follows is.some in
    record {
      measures = AreMeasures-push draft.measures next is.measures may;
      kinds = All-push (λ (m : Measure). IsKind m.kind) draft.measures next is.kinds may.kind;
      measure_names = All-push (λ (m : Measure). is_name m.name ≡ true) draft.measures next is.measure_names (is_name-right next.name (map (λ (m : Measure). m.name) draft.measures) may.name);
      names = is.names;
      few = is.few;
      named = omega (arith, before.0, closed, is.named);
      some = none before.1;
      nodes = is.nodes;
      viewed = unseen (no_views draft.last Number draft.dims draft.views follows refl is.viewed);
      views = is.views;
    }

IsNextMeasure-number : (draft : Draft) (fields : List (List ℕ)) → IsAccepted draft fields Number → IsNextMeasure draft.measures (measure_behind draft.measures (field_at fields 1) kind.Number)
IsNextMeasure-number draft fields is = record { name = is.name; kind = tt; scale = tt; some = omega arith; order = refl; room = grind (arith, nat_tests, is.room) }

IsNextMeasure-parts : (draft : Draft) (fields : List (List ℕ)) → IsAccepted draft fields Parts → IsNextMeasure draft.measures (measure_behind draft.measures (field_at fields 1) (parts_kind fields))
IsNextMeasure-parts draft fields is =
    let names = or_parts (is_wrong_name (field_at fields 1) (map (λ (m : Measure). m.name) draft.measures)) (has_wrong_names [] (outcomes_of fields)) is.name in
    let scale = number_in-range MIN_SCALE MAX_SCALE (field_at fields 2) is.number in
    let least : 5 ≤ length fields = grind (arith, nat_tests, is.count) in
    let some : 2 ≤ length (outcomes_of fields) = omega (arith, length-drop 3 fields) in
    record { name = names.0; kind = AreOutcomes-names (outcomes_of fields) some names.1; scale = record { least = scale.0; most = scale.1 }; some = omega (arith, some); order = refl; room = grind (arith, nat_tests, is.room) }

-- the number of a node aside, it may come next
IsNextNode-line : (draft : Draft) (fields : List (List ℕ)) → IsAccepted draft fields Node → IsNextNode draft.nodes (node_of_fields draft.version draft.nodes fields)
IsNextNode-line draft fields is =
    let numbers = or_parts (is_none (read_depth fields)) (is_none (read_number draft.version draft.nodes fields)) is.number in
    let depth = number_in-range 0 MAX_DEPTH (field_at fields 1) numbers.0 in
    record { name = is.name; shallow = depth.1; depth = fits (read_depth fields) numbers.0 is.depth; room = grind (arith, nat_tests, is.room) }
  where
    fits : (depth : Option ℕ) → is_none depth ≡ false → option_map_or (is_wrong_depth draft.nodes) depth false ≡ false → is_wrong_depth draft.nodes (unwrap_or depth 0) ≡ false
    fits None some e = cc
    fits (Some depth) some e = e

-- a view more
AreViews-line : (draft : Draft) (fields : List (List ℕ)) → IsAccepted draft fields View → AreViews (length draft.names) draft.views → AreViews (length draft.names) (draft.views ++ view_of_fields fields ∷ [])
AreViews-line draft fields line are =
    let right = or_parts (has_wrong_depths (depth_fields fields)) (not (list_all is_numbered (ended draft.nodes))) line.number in
    let room : length draft.views < MAX_VIEWS = grind (arith, nat_tests, line.room) in
    let count : length fields ≡ length draft.names + 2 = grind (arith, nat_tests, line.count) in
    AreViews-push (length draft.names) draft.views (view_of_fields fields) are line.name room (length-depths fields (length draft.names) count) (depths-shallow (depth_fields fields) right.0)

-- an accepted line keeps what is known
pub IsDraft-word : (draft : Draft) (fields : List (List ℕ)) (word : SchemaWord) → IsDraft draft → may_follow draft.last word ≡ true → word ≢ End → word_fault draft fields word ≡ None → IsDraft (with_word draft fields word)
IsDraft-word draft fields Cube is follows goes_on accepted =
    let before = before-Cube draft.last draft.nodes follows is.some in
    record {
      measures = is.measures;
      kinds = is.kinds;
      measure_names = is.measure_names;
      names = is.names;
      few = is.few;
      named = omega (arith, before.0, is.named);
      some = before.1;
      nodes = is.nodes;
      viewed = no_views draft.last Cube draft.dims draft.views follows refl is.viewed;
      views = is.views;
    }
IsDraft-word draft fields Policy is follows goes_on accepted =
    let before = before-Policy draft.last draft.nodes follows is.some in
    record {
      measures = is.measures;
      kinds = is.kinds;
      measure_names = is.measure_names;
      names = is.names;
      few = is.few;
      named = omega (arith, before.0, is.named);
      some = before.1;
      nodes = is.nodes;
      viewed = no_views draft.last Policy draft.dims draft.views follows refl is.viewed;
      views = is.views;
    }
IsDraft-word draft fields Number is follows goes_on accepted =
    IsDraft-measure draft Number _ is follows refl (λ none. none) (λ none. none) (IsNextMeasure-number draft fields (IsAccepted-from draft fields Number accepted))
IsDraft-word draft fields Parts is follows goes_on accepted =
    IsDraft-measure draft Parts _ is (sym (Parts-like-Number draft.last) ∙ follows) refl (λ none. none) (λ none. none) (IsNextMeasure-parts draft fields (IsAccepted-from draft fields Parts accepted))
IsDraft-word draft fields DimensionWord is follows goes_on accepted =
    let line = IsAccepted-from draft fields DimensionWord accepted in
    let room : length draft.names < MAX_DIMS = grind (arith, nat_tests, line.room) in
    let none = no_views draft.last DimensionWord draft.dims draft.views follows refl is.viewed in
    record {
      measures = is.measures;
      kinds = is.kinds;
      measure_names = is.measure_names;
      names = AreNames-push draft.names (field_at fields 1) is.names line.name;
      few = simp length-append (omega (arith, room));
      named = simp length-append (omega (arith, before-Dimension draft.last draft.nodes follows is.some, is.named));
      some = refl;
      nodes = AreNodes-none;
      viewed = none;
      views = subst (AreViews (length (draft.names ++ field_at fields 1 ∷ []))) (sym none) (AreViews-none (length (draft.names ++ field_at fields 1 ∷ [])));
    }
IsDraft-word draft fields Node is follows goes_on accepted = record {
  measures = is.measures;
  kinds = is.kinds;
  measure_names = is.measure_names;
  names = is.names;
  few = is.few;
  named = omega (arith, before-Node draft.last follows, is.named);
  some = simp length-append (omega arith);
  nodes = AreNodes-push draft.nodes (node_of_fields draft.version draft.nodes fields) is.nodes (IsNextNode-line draft fields (IsAccepted-from draft fields Node accepted));
  viewed = no_views draft.last Node draft.dims draft.views follows refl is.viewed;
  views = is.views;
}
IsDraft-word draft fields View is follows goes_on accepted =
    let line = IsAccepted-from draft fields View accepted in
    let before = before-End draft.last draft.nodes draft.dims draft.views (sym (View-like-End draft.last) ∙ follows) is.some is.viewed in
    record {
      measures = is.measures;
      kinds = is.kinds;
      measure_names = is.measure_names;
      names = is.names;
      few = is.few;
      named = simp length-append (omega (arith, before.0, is.named));
      some = refl;
      nodes = AreNodes-none;
      viewed = simp length-append (omega (arith, before.1));
      views = AreViews-line draft fields line is.views;
    }
IsDraft-word draft fields End is follows goes_on accepted = absurd (goes_on refl)
