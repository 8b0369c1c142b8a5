-- The dimensions of a run are trees, its facts lie at regions of them, and are in order; so the laws of answers and of components hold.
use Rattle.std.proofs.Common.{◌≡◌, ℕ, suc, ◌≤◌, Bool, true, false, List, length, [], ◌∷◌, map, take, refl, sym, ap, ◌∙◌, subst, arith, Option, Some, None, Result, Ok, Err}
use Rattle.std.specs.Prelude.{All, IfOk, IfSome, nat_le, not, slice_get}
use Rattle.std.specs.Option.{option_and_then, option_map_or}
use Rattle.std.specs.Result.{result_ok}
use Rattle.std.proofs.lemmas.List.Elements.{All-cons, All-nil}
use Rattle.cube_base.specs.declared.code.Code.{Code}
use Rattle.cube_base.specs.declared.code.Code.TheVariants as code
use Rattle.cube_model.specs.declared.edit.Edit.{Edit}
use Rattle.cube_model.specs.declared.edit.Edit.TheVariants.{Put, Change, Withdraw}
use Rattle.cube_model.specs.declared.edit.Fact.{Fact}
use Rattle.cube_model.specs.declared.statistic.CellStat.{CellStat}
use Rattle.cube_model.specs.declared.tree.Grow.{Grow}
use Rattle.cube_model.specs.Accepted.{first_refusal, first_that_holds}
use Rattle.cube_model.specs.Allocation.{ExtendedFact}
use Rattle.cube_model.specs.Answer.{answer}
use Rattle.cube_model.specs.Facts.{after}
use Rattle.cube_model.specs.Limits.{MAX_FACTS}
use Rattle.cube_model.specs.Tree.{Dimension, IsTree}
use Rattle.text_lines.specs.Text.{lines_of}
use Rattle.fact_keeper.specs.declared.content.KeptFact.{KeptFact}
use Rattle.fact_keeper.specs.declared.content.Stored.{Stored}
use Rattle.fact_records.specs.Accepted.{cols_refusal, region_refusal}
use Rattle.fact_records.specs.FactList.{IsAscending}
use Rattle.fact_records.specs.Judge.{judge}
use Rattle.fact_records.specs.Shape.{ShapeValue, width_of_all}
use Rattle.region_algebra.specs.Space.{IsRegion, is_region}
use Rattle.schema_text.specs.Schema.{SchemaValue, schema_policy, shape_of, weigh_of}
use Rattle.schema_text.specs.SchemaText.{BadLine, ReadSchema, schema_of}
use Rattle.script_text.specs.declared.line.Line.{Line}
use Rattle.script_text.specs.declared.line.Line.TheVariants as line
use Rattle.script_text.specs.declared.reply.Reply.TheVariants as reply
use Rattle.script_text.specs.ScriptLine.{line_of}
use Rattle.script_text.proofs.NamedRegions.{OnFact, line_of-lies}
use Rattle.world_law.specs.Additive.{AddUpOverChildren}
use Rattle.world_law.specs.Law.{IsShared}
use Rattle.world_law.proofs.Additive.{add_up_over_children}
use Rattle.world_law.proofs.Shares.{shared-extended}
use Rattle.world_range.proofs.Reached.{ends_reached}
use Rattle.world_range.proofs.Reaching.{have_rows}
use Rattle.iter_alloc.specs.Components.{Chain, labelled}
use Rattle.iter_alloc.proofs.Chains.{joined-by_label, same-along}
use Rattle.iter_alloc.proofs.Joined.{AreLabelled, labelled-facts}
use Rattle.cube_core.specs.Expected.{AreExpected}
use Rattle.cube_core.specs.Growth.{judge_growth}
use Rattle.cube_core.proofs.Expecting.{are_expected}
use Rattle.cube_core.proofs.Tabled.{tables-merged}
use Rattle.fact_groups.specs.Edits.{given}
use Rattle.fact_groups.proofs.Ascending.{ascends-from_pairs}
use Rattle.fact_groups.proofs.Edits.{All-after, pairs-after}
use Rattle.store_audit.specs.Sound.{AreGood, fact_fault, fact_told, has_wrong_id, id_before}
use Rattle.script_run.specs.Run.{State, accepted, edit_step, empty_state, growth, growth_step, replied, rows_at, run, schema_at, step, step_from, step_of}
use Rattle.cube_cli.specs.Trying.{script_of}
use Rattle.cube_cli.specs.Expectations.{AddsUpAfterEachLine, AddsUpOverStore, AfterEachLine, AfterEachLineOver, AtEachRegion, ComponentsAfterEachLine, ComponentsOverStore, ExpectsAfterEachLine, ExpectsOverStore, HasComponents, HasEnds, HasTables, HoldsAroundLine, RangesAfterEachLine, RangesOverStore, Saying, StateSaying, TablesAfterEachLine, TablesOverStore, state_after, state_over_after}
use Rattle.cube_cli.specs.SchemaAlone.{schema_alone, tail_line, without_tail}
use Rattle.cube_cli.specs.Store.{IsSoundOver, state_over}
use Rattle.cube_cli.proofs.KeptFacts.{told-ascends}
use Rattle.cube_cli.proofs.Growths.{IsLeafOf, line_of-leaf, named-grown, trees-grown}
use Rattle.cube_cli.proofs.SchemaTrees.{schema_of-trees}

-- the dimensions of a state are trees, and its facts lie at regions of them, in order of their ids
record IsSound (state : State) : Type 0 where
  trees : All IsTree state.dims
  named : All (λ f. IsRegion state.dims f.region) state.facts
  ordered : IsAscending state.facts

-- what a line says of the fact of its edit holds of the one that the edit gives
on_given : (P : Fact → Type 0) (edit : Edit) → OnFact P (line.Edit edit) → IfSome (given edit) P
on_given P (Put fact) here = here
on_given P (Change fact) here = here
on_given P (Withdraw id) here = tt

module _ (weigh : CellStat → ℕ) (schema : SchemaValue) where
  edit_step-sound : (state : State) (edit : Edit) → IsSound state → OnFact (λ fact. IsRegion state.dims fact.region) (line.Edit edit) → IsSound (edit_step weigh schema state edit).state
  edit_step-sound state edit sound here = judged (judge (schema_policy weigh schema) (shape_of schema) state.dims edit state.facts)
    where
      judged : (refusal : Option Code) → IsSound (option_map_or (λ refusal. replied state (reply.Refused refusal)) refusal (accepted weigh schema state (after edit state.facts))).state
      judged (Some refusal) = sound
      judged None = record { trees = sound.trees; named = All-after (λ f. IsRegion state.dims f.region) edit state.facts sound.named (on_given (λ f. IsRegion state.dims f.region) edit here); ordered = pairs-after edit state.facts sound.ordered }

  growth-sound : (state : State) (grow : Grow) → IsSound state → IsLeafOf state.dims grow → IsSound (growth weigh schema state grow).state
  growth-sound state grow sound leaf = judged (judge_growth (schema_policy weigh schema) state.dims state.facts grow) refl
    where
      judged : (refusal : Option Code) → judge_growth (schema_policy weigh schema) state.dims state.facts grow ≡ refusal
          → IsSound (option_map_or (λ refusal. replied state (reply.Refused refusal)) refusal (growth_step weigh schema state grow)).state
      judged (Some refusal) is = sound
      judged None is = record {
        trees = trees-grown state.dims grow sound.trees leaf (schema_policy weigh schema) state.facts is;
        named = named-grown state.dims grow sound.trees leaf state.facts sound.named;
        ordered = sound.ordered;
      }

  said-sound : (state : State) (said : Line) → IsSound state → OnFact (λ fact. IsRegion state.dims fact.region) said → ((grow : Grow) → said ≡ line.Grow grow → IsLeafOf state.dims grow)
      → IsSound (step_of weigh schema state said).state
  said-sound state (line.Edit edit) sound here leaf = edit_step-sound state edit sound here
  said-sound state (line.Grow grow) sound here leaf = growth-sound state grow sound (leaf grow refl)
  said-sound state line.Nothing sound here leaf = sound
  said-sound state (line.Ask asked) sound here leaf = sound

  step-sound : (state : State) (bytes : List ℕ) → IsSound state → IsSound (step weigh schema state bytes).state
  unfolding step
  step-sound state bytes sound = by_line (line_of (schema_at schema state) bytes) refl
    where
      by_line : (read : Result Line Code) → line_of (schema_at schema state) bytes ≡ read → IsSound (step_from weigh schema state read).state
      by_line (Err refusal) is = sound
      by_line (Ok said) is =
          said-sound state said sound (line_of-lies (schema_at schema state) sound.trees bytes said is)
          (λ grow same. line_of-leaf (schema_at schema state) sound.trees grow bytes (is ∙ ap Ok same))

  run-sound : (state : State) (lines : List (List ℕ)) → IsSound state → IsSound (run weigh schema state lines).state
  run-sound state [] sound = sound
  run-sound state (line ∷ lines) sound = run-sound (step weigh schema state line).state lines (step-sound state line sound)

-- What may be said of the answers over any facts whose weights add up to their denominators.
abbrev IsLaw : Saying → Type 0
IsLaw Says =
    (columns : ℕ) (dims : List Dimension) (region : List ℕ) (facts : List ExtendedFact) → All IsTree dims → IsRegion dims region → All IsShared facts → Says columns dims region facts (answer columns dims facts region)

-- What holds of each such state.
abbrev IsStateLaw : StateSaying → Type 0
IsStateLaw Says = (schema : SchemaValue) (state : State) → IsSound state → Says schema state

at_each_region : (Says : Saying) → IsLaw Says → IsStateLaw (AtEachRegion Says)
at_each_region Says law schema state sound = λ region named.
    let weigh = weigh_of schema.policy in
    law (width_of_all schema.measures) state.dims region (rows_at weigh schema state) sound.trees named
    (shared-extended (schema_policy weigh (schema_at schema state)) state.dims state.facts sound.trees sound.named)

-- the laws: of expectations, of children, of ranges, of components and of tables
expecting : IsStateLaw (AtEachRegion AreExpected)
expecting = at_each_region AreExpected (λ columns dims region facts trees named are. are_expected columns dims region facts are)

adding_up : IsStateLaw (AtEachRegion AddUpOverChildren)
adding_up = at_each_region AddUpOverChildren (λ columns dims region facts trees named are. add_up_over_children columns dims region facts trees named)

ranging : IsStateLaw (AtEachRegion HasEnds)
ranging = at_each_region HasEnds (λ columns dims region facts trees named are column within. ends_reached dims region column facts (have_rows facts are))

labelling : IsStateLaw HasComponents
labelling schema state sound =
    let dims = state.dims in
    let facts = state.facts in
    let are : AreLabelled dims (labelled dims facts) facts = labelled-facts dims facts (ascends-from_pairs (λ f. f.id) 0 facts sound.ordered (λ i d within. omega arith)) in
    record {
      ascending = sound.ordered;
      facts_are = are.same;
      components = are.components;
      chained = λ x y in_x in_y same. subst (λ fs. Chain dims fs x.fact y.fact) are.same (joined-by_label dims (labelled dims facts) are.components x y in_x in_y same);
      equal = λ x y in_x in_y chain. same-along dims (labelled dims facts) are.components (subst (λ fs. Chain dims fs x.fact y.fact) (sym are.same) chain) x y in_x in_y refl refl;
    }

tabling : IsStateLaw HasTables
tabling schema state sound = λ depths region deep named. tables-merged (weigh_of schema.policy) (schema_at schema state) state.facts depths region sound.trees deep named

-- and so after each line of an input's script
after_each_line : (Says : StateSaying) → IsStateLaw Says → (left : Option (List ℕ)) → IfSome left (AfterEachLine Says)
after_each_line Says law None = tt
after_each_line Says law (Some input) = by_read (schema_of input) refl
  where
    by_read : (read : Result ReadSchema BadLine) → schema_of input ≡ read → IfSome (result_ok read) (λ read. (n : ℕ) → n ≤ length (script_of input read) → Says read.schema (state_after input read n))
    by_read (Err bad) is = tt
    by_read (Ok read) is = λ n within.
        law read.schema (state_after input read n)
        (run-sound (weigh_of read.schema.policy) read.schema (empty_state read.schema) (take n (script_of input read)) (record { trees = schema_of-trees input read is; named = All-nil _; ordered = λ i j d before within. absurd (omega (arith, within)) }))

pub expects : (left : Option (List ℕ)) → IfSome left ExpectsAfterEachLine
expects left = after_each_line (AtEachRegion AreExpected) expecting left

pub adds_up : (left : Option (List ℕ)) → IfSome left AddsUpAfterEachLine
adds_up left = after_each_line (AtEachRegion AddUpOverChildren) adding_up left

pub ranges : (left : Option (List ℕ)) → IfSome left RangesAfterEachLine
ranges left = after_each_line (AtEachRegion HasEnds) ranging left

pub labels_components : (left : Option (List ℕ)) → IfSome left ComponentsAfterEachLine
labels_components left = after_each_line HasComponents labelling left

pub tables_merge : (left : Option (List ℕ)) → IfSome left TablesAfterEachLine
tables_merge left = after_each_line HasTables tabling left

-- the dimensions of a schema that a text holds alone are trees
schema_alone-trees : (text : List ℕ) (schema : SchemaValue) → schema_alone text ≡ Ok schema → All IsTree schema.dims
schema_alone-trees text schema alone = by_read (schema_of text) refl alone
  where
    by_tail : (read : ReadSchema) (tail : Option ℕ) → All IsTree read.schema.dims → option_map_or {U = Result SchemaValue BadLine} (λ line. Err (record { line = line; reason = code.Tail })) tail (Ok read.schema) ≡ Ok schema → All IsTree schema.dims
    by_tail read (Some line) trees e = cc
    by_tail read None trees e =
        let same : read.schema ≡ schema = cc in
        subst (λ (s : SchemaValue). All IsTree s.dims) same trees

    by_read : (read : Result ReadSchema BadLine) → schema_of text ≡ read → without_tail text read ≡ Ok schema → All IsTree schema.dims
    by_read (Err bad) is e = cc
    by_read (Ok read) is e = by_tail read (tail_line text read.size) (schema_of-trees text read is) e

-- a kept fact that is not refused lies at a region
named_fact : (wrong named : Bool) (rest : List (Option Code)) → first_refusal (first_that_holds ((wrong, code.Id) ∷ (not named, code.Node) ∷ []) ∷ rest) ≡ None → named ≡ true
named_fact true named rest none = cc
named_fact false false rest none = cc
named_fact false true rest none = refl

good-named : (shape : ShapeValue) (dims : List Dimension) (facts : List KeptFact) → AreGood shape dims facts → (place : ℕ) (fact : KeptFact) → slice_get facts place ≡ Some fact → IsRegion dims fact.nodes
good-named shape dims facts good place fact at =
    let before = id_before facts place in
    let none : fact_fault shape dims place before fact ≡ None = ap (option_and_then (fact_fault shape dims place before)) (sym at) ∙ good place in
    named_fact (has_wrong_id before fact) (is_region dims fact.nodes) (cols_refusal shape fact.cols ∷ region_refusal dims fact.nodes ∷ first_that_holds ((nat_le MAX_FACTS place, code.Facts) ∷ []) ∷ []) none

all-named : (dims : List Dimension) (facts : List KeptFact) → ((place : ℕ) (fact : KeptFact) → slice_get facts place ≡ Some fact → IsRegion dims fact.nodes) → All (λ f. IsRegion dims f.region) (map fact_told facts)
all-named dims [] each = All-nil (λ f. IsRegion dims f.region)
all-named dims (fact ∷ facts) each =
    All-cons (λ f. IsRegion dims f.region) (fact_told fact) (map fact_told facts) (each 0 fact refl) (all-named dims facts (λ place other at. each (suc place) other at))

stored-sound : (content : Stored) (schema : SchemaValue) → schema_alone content.schema ≡ Ok schema → IsSoundOver schema content → IsSound (state_over schema content)
stored-sound content schema alone sound = record {
  trees = schema_alone-trees content.schema schema alone;
  named = all-named schema.dims content.facts (good-named (shape_of schema) schema.dims content.facts sound.good);
  ordered = told-ascends (shape_of schema) schema.dims content.facts sound.good;
}

-- and so after each of some lines over a content
over_content : (Says : StateSaying) → IsStateLaw Says → (content : Stored) (lines : List (List ℕ)) → AfterEachLineOver Says content lines
over_content Says law content lines = by_read (schema_alone content.schema) refl
  where
    by_read : (read : Result SchemaValue BadLine) → schema_alone content.schema ≡ read
        → IfOk read (λ schema. IsSoundOver schema content → (n : ℕ) → n ≤ length lines → Says schema (state_over_after schema content lines n))
    by_read (Err bad) is = tt
    by_read (Ok schema) is = λ sound n within.
        law schema (state_over_after schema content lines n)
        (run-sound (weigh_of schema.policy) schema (state_over schema content) (take n lines) (stored-sound content schema is sound))

-- those of a script, where the keeper tells its content and the source its input
after_each_line_over : (Says : StateSaying) → IsStateLaw Says → (kept : Option Stored) (left : Option (List ℕ)) → IfSome kept (λ content. IfSome left (λ input. AfterEachLineOver Says content (lines_of input)))
after_each_line_over Says law None left = tt
after_each_line_over Says law (Some content) None = tt
after_each_line_over Says law (Some content) (Some input) = over_content Says law content (lines_of input)

pub expects_over : (kept : Option Stored) (left : Option (List ℕ)) → IfSome kept (λ content. IfSome left (ExpectsOverStore content))
expects_over kept left = after_each_line_over (AtEachRegion AreExpected) expecting kept left

pub adds_up_over : (kept : Option Stored) (left : Option (List ℕ)) → IfSome kept (λ content. IfSome left (AddsUpOverStore content))
adds_up_over kept left = after_each_line_over (AtEachRegion AddUpOverChildren) adding_up kept left

pub ranges_over : (kept : Option Stored) (left : Option (List ℕ)) → IfSome kept (λ content. IfSome left (RangesOverStore content))
ranges_over kept left = after_each_line_over (AtEachRegion HasEnds) ranging kept left

pub labels_components_over : (kept : Option Stored) (left : Option (List ℕ)) → IfSome kept (λ content. IfSome left (ComponentsOverStore content))
labels_components_over kept left = after_each_line_over HasComponents labelling kept left

pub tables_merge_over : (kept : Option Stored) (left : Option (List ℕ)) → IfSome kept (λ content. IfSome left (TablesOverStore content))
tables_merge_over kept left = after_each_line_over HasTables tabling kept left

-- or the one that is asked
pub holds_around : (line : List ℕ) (kept : Option Stored) → IfSome kept (HoldsAroundLine line)
holds_around line None = tt
holds_around line (Some content) = record {
  expectations = over_content (AtEachRegion AreExpected) expecting content (line ∷ []);
  children = over_content (AtEachRegion AddUpOverChildren) adding_up content (line ∷ []);
  ranges = over_content (AtEachRegion HasEnds) ranging content (line ∷ []);
  components = over_content HasComponents labelling content (line ∷ []);
  tables = over_content HasTables tabling content (line ∷ []);
}
