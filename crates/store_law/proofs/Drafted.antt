-- What lines of a schema leave where all are accepted up to the line `end`.
use Rattle.std.proofs.Common.{◌≡◌, ◌≢◌, ℕ, ◌+◌, ◌-◌, ◌<◌, Bool, true, false, List, [], ◌∷◌, length, refl, sym, ap, ◌∙◌, subst, arith, length-append, Option, Some, None, Result, Ok, Err}
use Rattle.std.specs.Prelude.{All, drop, if◌then◌else◌, nat_le, unwrap_or}
use Rattle.std.specs.Option.{option_map, option_map_or, option_or}
use Rattle.std.proofs.lemmas.Bool.Decides.{nat_tests}
use Rattle.std.proofs.lemmas.List.Elements.{All-nil}
use Rattle.cube_base.specs.declared.code.Code.{Code}
use Rattle.cube_base.specs.declared.code.Code.TheVariants as code
use Rattle.cube_model.specs.Accepted.{first_that_holds}
use Rattle.cube_model.specs.Limits.{SPACE_LIMIT}
use Rattle.cube_model.specs.Tree.{IsTree}
use Rattle.fact_records.specs.declared.shape.Measure.{Measure}
use Rattle.fact_records.specs.Shape.{IsWeighable}
use Rattle.region_algebra.specs.Space.{cell_total, region_total}
use Rattle.region_algebra.proofs.Spaces.{accepted-from}
use Rattle.text_lines.specs.LineText.{is_skipped, without_cr}
use Rattle.text_lines.specs.Text.{after_lines, fields_of, lines_of}
use Rattle.schema_text.specs.declared.policy.NamedPolicy.{NamedPolicy}
use Rattle.schema_text.specs.declared.policy.NamedPolicy.TheVariants as policy
use Rattle.schema_text.specs.declared.word.PolicyWord.TheVariants as policy_word
use Rattle.schema_text.specs.declared.word.SchemaWord.{SchemaWord}
use Rattle.schema_text.specs.declared.word.SchemaWord.TheVariants.{End}
use Rattle.schema_text.specs.Draft.{IsDraft, end_fault, front_fault, word_in}
use Rattle.schema_text.specs.Schema.{AreViews, IsSchema, SchemaValue, weighing_measure}
use Rattle.schema_text.specs.SchemaText.{BadLine, Draft, ReadLines, ReadSchema, blank_draft, dims_of, draft_line_fault, ended, has_wrong_count, is_end, may_follow, number_measure_named, policy_among, read_from, schema_of, schema_of_draft, sized, with_line, word_conditions, word_fault}
use Rattle.schema_text.proofs.Drafts.{before-End}
use Rattle.schema_text.proofs.DraftSteps.{IsDraft-word}
use Rattle.schema_text.proofs.Ends.{draft_line_fault-end}
use Rattle.schema_text.proofs.LineFaults.{end-one_field, other_word}
use Rattle.schema_text.proofs.LineWords.{HasWord, HasWord-in, draft_line_fault-none, draft_line_fault-word, with_line-word}
use Rattle.schema_text.proofs.NodesMore.{AreNodes-none}
use Rattle.schema_text.proofs.Policies.{IsWeighable-named}
use Rattle.schema_text.proofs.ViewsMore.{AreViews-none}

-- what a draft fulfils at whose end nothing is refused
record IsWhole (draft : Draft) : Type 0 where
  ends : may_follow draft.last End ≡ true
  cells : cell_total (dims_of draft) < SPACE_LIMIT
  regions : region_total (dims_of draft) < SPACE_LIMIT

whole : (draft : Draft) → end_fault draft ≡ None → IsWhole draft
whole draft none = either (may_follow draft.last End) refl (front_fault draft) (nat_le SPACE_LIMIT (cell_total (dims_of draft))) refl (nat_le SPACE_LIMIT (region_total (dims_of draft))) refl refl none
  where
    either : (ends : Bool) → may_follow draft.last End ≡ ends → (front : Option Code) → (many : Bool) → nat_le SPACE_LIMIT (cell_total (dims_of draft)) ≡ many → (wide : Bool) → nat_le SPACE_LIMIT (region_total (dims_of draft)) ≡ wide
        → front_fault draft ≡ front → option_or front (first_that_holds ((many, code.Cells) ∷ (wide, code.Nodes) ∷ [])) ≡ None → IsWhole draft
    either ends ends_is (Some why) many many_is wide wide_is front_is none = cc
    either ends ends_is None true many_is wide wide_is front_is none = cc
    either ends ends_is None false many_is true wide_is front_is none = cc
    either false ends_is None false many_is false wide_is front_is none = let no : Some code.Order ≡ None = rw ends_is at front_is in cc
    either true ends_is None false many_is false wide_is front_is none = record { ends = ends_is; cells = grind (arith, nat_tests, many_is); regions = grind (arith, nat_tests, wide_is) }

-- the measure by whose sum cells weigh is one of numbers
weighable : (measures : List Measure) (named : NamedPolicy) → IsWeighable measures (weighing_measure (unwrap_or (policy_among measures named) policy_word.Uniform))
weighable measures policy.Uniform = tt
weighable measures policy.Count = tt
weighable measures (policy.Weight name) = by_place (number_measure_named measures name) refl
  where
    by_place : (found : Option ℕ) → number_measure_named measures name ≡ found → IsWeighable measures (weighing_measure (unwrap_or (option_map (λ i. policy_word.Weight i) found) policy_word.Uniform))
    by_place None is = tt
    by_place (Some i) is = IsWeighable-named measures name i is

-- what a draft says then is a schema, where its dimensions are trees
pub drafted-schema : (draft : Draft) → IsDraft draft → end_fault draft ≡ None → All IsTree (dims_of draft) → IsSchema (schema_of_draft draft)
drafted-schema draft is none trees =
    let all = whole draft none in
    let last = before-End draft.last draft.nodes draft.dims draft.views all.ends is.some is.viewed in
    let count : length draft.names ≡ length (dims_of draft) = omega (arith, is.named, last.0, length-append draft.dims (ended draft.nodes)) in
    record {
      shape = record { measures = is.measures; weight = weighable draft.measures draft.policy };
      kinds = is.kinds;
      measure_names = is.measure_names;
      dim_names = is.names;
      named = count;
      trees = trees;
      space = accepted-from (dims_of draft) (omega (arith, last.1, length-append draft.dims (ended draft.nodes))) (omega (arith, count, is.few)) all.cells all.regions;
      views = subst (λ n. AreViews n draft.views) count is.views;
    }

-- an accepted line more
first-fails : (wrong : Bool) (rest : List (Bool × Code)) → first_that_holds ((wrong, code.Fields) ∷ rest) ≡ None → wrong ≡ false
first-fails true rest none = cc
first-fails false rest none = refl

right-count : (draft : Draft) (fields : List (List ℕ)) (word : SchemaWord) → word_fault draft fields word ≡ None → has_wrong_count draft.version (length draft.names) fields word ≡ false
right-count draft fields word none = first-fails (has_wrong_count draft.version (length draft.names) fields word) (drop 1 (word_conditions draft fields word)) none

IsDraft-line : (draft : Draft) (line : List ℕ) → IsDraft draft → draft_line_fault draft line ≡ None → is_end line ≡ false → IsDraft (with_line draft line)
IsDraft-line draft line known accepted other = by_word (word_in draft.last line) refl
  where
    by_word : (found : Result SchemaWord Code) → word_in draft.last line ≡ found → IsDraft (with_line draft line)
    by_word (Err reason) is =
        let refused = draft_line_fault-none draft line reason is in
        cc
    by_word (Ok word) is =
        let its : HasWord draft.last line word = HasWord-in draft.last line word is in
        let fields = fields_of (without_cr line) in
        let judged : word_fault draft fields word ≡ None = sym (draft_line_fault-word draft line word its) ∙ accepted in
        let count : has_wrong_count draft.version (length draft.names) fields word ≡ false = right-count draft fields word judged in
        let goes_on : word ≢ End = other_word draft.version (length draft.names) fields word count (λ ends. end-one_field line other (its.named ∙ ap (λ w. Some w) ends)) in
        subst IsDraft (sym (with_line-word draft line word its)) (IsDraft-word draft fields word known its.follows goes_on judged)

-- Of lines that are read the last is `end`, behind a draft.
record IsReadAs (schema : SchemaValue) : Type 0 where
  draft : Draft
  known : IsDraft draft
  accepted : end_fault draft ≡ None
  same : schema_of_draft draft ≡ schema

by_line : (draft : Draft) (k : ℕ) (line : List ℕ) (lines : List (List ℕ)) (read : ReadLines) (skipped : Bool) (fault : Option Code) (ends : Bool) → draft_line_fault draft line ≡ fault → is_end line ≡ ends → IsDraft draft
    → (read_from draft (k + 1) lines ≡ Ok read → IsReadAs read.schema)
    → (IsDraft (with_line draft line) → read_from (with_line draft line) (k + 1) lines ≡ Ok read → IsReadAs read.schema)
    → (if skipped then read_from draft (k + 1) lines
    else option_map_or (λ why. Err (record { line = k + 1; reason = why })) fault
    (if ends then Ok (record { schema = schema_of_draft draft; lines = k + 1 }) else read_from (with_line draft line) (k + 1) lines)) ≡ Ok read
    → IsReadAs read.schema
by_line draft k line lines read true fault ends fault_is ends_is known skip more e = skip e
by_line draft k line lines read false (Some why) ends fault_is ends_is known skip more e = cc
by_line draft k line lines read false None true fault_is ends_is known skip more e =
    let made : ReadLines = record { schema = schema_of_draft draft; lines = k + 1 } in
    let same : made ≡ read = cc in
    record { draft = draft; known = known; accepted = sym (draft_line_fault-end draft line ends_is) ∙ fault_is; same = ap (λ (r : ReadLines). r.schema) same }
by_line draft k line lines read false None false fault_is ends_is known skip more e = more (IsDraft-line draft line known fault_is ends_is) e

read_from-draft : (draft : Draft) (k : ℕ) (lines : List (List ℕ)) (read : ReadLines) → IsDraft draft → read_from draft k lines ≡ Ok read → IsReadAs read.schema
read_from-draft draft k [] read known e = cc
read_from-draft draft k (line ∷ lines) read known e =
    by_line draft k line lines read (is_skipped line) (draft_line_fault draft line) (is_end line) refl refl known
    (λ e. read_from-draft draft (k + 1) lines read known e) (λ next e. read_from-draft (with_line draft line) (k + 1) lines read next e) e

IsDraft-blank : IsDraft blank_draft
IsDraft-blank = record {
  measures = record { distinct = λ i j d before within. absurd (omega arith); some = All-nil _; most = omega arith; order = tt; scales = All-nil _ };
  kinds = All-nil _;
  measure_names = All-nil _;
  names = record { each = All-nil _; distinct = λ i j d before within. absurd (omega arith) };
  few = omega arith;
  named = refl;
  some = refl;
  nodes = AreNodes-none;
  viewed = refl;
  views = AreViews-none 0;
}

-- what a text is read as is a schema, where its dimensions are trees
pub schema_of-schema : (input : List ℕ) (read : ReadSchema) → schema_of input ≡ Ok read → All IsTree read.schema.dims → IsSchema read.schema
unfolding schema_of
schema_of-schema input read e trees = by_read (read_from blank_draft 0 (lines_of input)) refl e
  where
    drafted : (schema : SchemaValue) → IsReadAs schema → All IsTree schema.dims → IsSchema schema
    drafted schema made trees = subst IsSchema made.same (drafted-schema made.draft made.known made.accepted (subst (λ (s : SchemaValue). All IsTree s.dims) (sym made.same) trees))

    by_read : (lines : Result ReadLines BadLine) → read_from blank_draft 0 (lines_of input) ≡ lines → sized input lines ≡ Ok read → IsSchema read.schema
    by_read (Err bad) is e = cc
    by_read (Ok lines) is e =
        let made : ReadSchema = record { schema = lines.schema; size = length input - length (after_lines lines.lines input) } in
        let same : made ≡ read = cc in
        let schema : lines.schema ≡ read.schema = ap (λ (r : ReadSchema). r.schema) same in
        drafted read.schema (subst IsReadAs schema (read_from-draft blank_draft 0 (lines_of input) lines IsDraft-blank is)) trees
