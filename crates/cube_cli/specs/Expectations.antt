-- What the answers of a run are worth, after each of its lines, and what holds of its facts.
use Rattle.std.specs.Prelude.{◌≡◌, ℕ, ◌≤◌, List, [], ◌∷◌, length, map, take, IfOk, IfSome}
use Rattle.std.specs.List.{Contains}
use Rattle.cube_model.specs.declared.term.Term.{Term}
use Rattle.cube_model.specs.Allocation.{ExtendedFact}
use Rattle.cube_model.specs.Answer.{merge_all}
use Rattle.cube_model.specs.Tree.{Dimension}
use Rattle.fact_records.specs.FactList.{IsAscending}
use Rattle.fact_records.specs.Shape.{width_of_all}
use Rattle.iter_alloc.specs.Components.{AreComponents, Chain, Labelled, facts_of, labelled}
use Rattle.region_algebra.specs.Space.{IsRegion}
use Rattle.schema_text.specs.Schema.{SchemaValue, weigh_of}
use Rattle.schema_text.specs.SchemaText.{ReadSchema}
use Rattle.text_lines.specs.Text.{lines_of}
use Rattle.fact_keeper.specs.declared.content.Stored.{Stored}
use Rattle.world_law.specs.Additive.{AddUpOverChildren}
use Rattle.world_range.specs.Ends.{AreEnds}
use Rattle.cube_core.specs.Expected.{AreExpected}
use Rattle.cube_core.specs.View.{table_over}
use Rattle.cube_cli.specs.Trying.{schema_in, script_of}
use Rattle.cube_cli.specs.SchemaAlone.{schema_alone}
use Rattle.cube_cli.specs.Store.{IsSoundOver, state_over}
use Rattle.script_run.specs.Run.{State, rows_at, run, run_of, schema_at, terms_at}

-- what may be said of terms: over so many columns of values, in a region of dimensions, of facts
abbrev pub Saying : Type 1
Saying = ℕ → List Dimension → List ℕ → List ExtendedFact → List Term → Type 0

-- of each column the least and the greatest sum over all possible worlds of the facts are reached, and no world's sum is beyond them
abbrev pub HasEnds : Saying
HasEnds columns dims region facts terms = (column : ℕ) → column ≤ columns → AreEnds dims region column facts

-- what may be said of a state over a schema
abbrev pub StateSaying : Type 1
StateSaying = SchemaValue → State → Type 0

-- it holds of the answer at each region of a state's dimensions, over the facts of the state
abbrev pub AtEachRegion : Saying → StateSaying
AtEachRegion Says schema state =
    (region : List ℕ) → IsRegion state.dims region
    → Says (width_of_all schema.measures) state.dims region (rows_at (weigh_of schema.policy) schema state) (terms_at (weigh_of schema.policy) schema state region)

-- the terms of a table's regions merge to the answer at the asked region, for all depths
abbrev pub HasTables : StateSaying
HasTables schema state =
    (depths region : List ℕ) → length depths ≡ length state.dims → IsRegion state.dims region
    → merge_all (width_of_all schema.measures) (map (λ entry. entry.1.terms) (table_over (weigh_of schema.policy) (schema_at schema state) state.facts depths region)) ≡ terms_at (weigh_of schema.policy) schema state region

-- The facts of a state are in order of their ids, and their labels tell which of them are one component: facts have one label exactly
-- where a chain of facts that touch goes from one to the other.
pub record HasComponents (schema : SchemaValue) (state : State) : Type 0 where
  pub ascending : IsAscending state.facts
  pub facts_are : facts_of (labelled state.dims state.facts) ≡ state.facts
  pub components : AreComponents state.dims (labelled state.dims state.facts)
  pub chained : (x y : Labelled) → Contains (labelled state.dims state.facts) x → Contains (labelled state.dims state.facts) y → x.label ≡ y.label → Chain state.dims state.facts x.fact y.fact
  pub equal : (x y : Labelled) → Contains (labelled state.dims state.facts) x → Contains (labelled state.dims state.facts) y → Chain state.dims state.facts x.fact y.fact → x.label ≡ y.label

-- the state after the first n lines of an input's script
abbrev pub state_after : List ℕ → ReadSchema → ℕ → State
state_after input read n = (run_of read.schema (take n (script_of input read))).state

-- it holds so after each number of lines of the script of an input, where this begins with a schema that is accepted
abbrev pub AfterEachLine : StateSaying → List ℕ → Type 0
AfterEachLine Says input = IfSome (schema_in input) (λ read. (n : ℕ) → n ≤ length (script_of input read) → Says read.schema (state_after input read n))

-- answers are exact expectations over all possible worlds of the facts; the answers at the children of a node merge to that at the node;
-- all worlds lie between the ends of a range; labels tell components; and a table's terms merge to the answer at its region
abbrev pub ExpectsAfterEachLine : List ℕ → Type 0
ExpectsAfterEachLine input = AfterEachLine (AtEachRegion AreExpected) input

abbrev pub AddsUpAfterEachLine : List ℕ → Type 0
AddsUpAfterEachLine input = AfterEachLine (AtEachRegion AddUpOverChildren) input

abbrev pub RangesAfterEachLine : List ℕ → Type 0
RangesAfterEachLine input = AfterEachLine (AtEachRegion HasEnds) input

abbrev pub ComponentsAfterEachLine : List ℕ → Type 0
ComponentsAfterEachLine input = AfterEachLine HasComponents input

abbrev pub TablesAfterEachLine : List ℕ → Type 0
TablesAfterEachLine input = AfterEachLine HasTables input

-- the state after the first n of some lines over a content
abbrev pub state_over_after : SchemaValue → Stored → List (List ℕ) → ℕ → State
state_over_after schema content lines n = (run (weigh_of schema.policy) schema (state_over schema content) (take n lines)).state

-- it holds so after each number of lines over a content that is sound
abbrev pub AfterEachLineOver : StateSaying → Stored → List (List ℕ) → Type 0
AfterEachLineOver Says content lines =
    IfOk (schema_alone content.schema) (λ schema. IsSoundOver schema content → (n : ℕ) → n ≤ length lines → Says schema (state_over_after schema content lines n))

abbrev pub ExpectsOverStore : Stored → List ℕ → Type 0
ExpectsOverStore content input = AfterEachLineOver (AtEachRegion AreExpected) content (lines_of input)

abbrev pub AddsUpOverStore : Stored → List ℕ → Type 0
AddsUpOverStore content input = AfterEachLineOver (AtEachRegion AddUpOverChildren) content (lines_of input)

abbrev pub RangesOverStore : Stored → List ℕ → Type 0
RangesOverStore content input = AfterEachLineOver (AtEachRegion HasEnds) content (lines_of input)

abbrev pub ComponentsOverStore : Stored → List ℕ → Type 0
ComponentsOverStore content input = AfterEachLineOver HasComponents content (lines_of input)

abbrev pub TablesOverStore : Stored → List ℕ → Type 0
TablesOverStore content input = AfterEachLineOver HasTables content (lines_of input)

-- All of this holds before and after a line that is asked over a content.
pub record HoldsAroundLine (line : List ℕ) (content : Stored) : Type 0 where
  pub expectations : AfterEachLineOver (AtEachRegion AreExpected) content (line ∷ [])
  pub children : AfterEachLineOver (AtEachRegion AddUpOverChildren) content (line ∷ [])
  pub ranges : AfterEachLineOver (AtEachRegion HasEnds) content (line ∷ [])
  pub components : AfterEachLineOver HasComponents content (line ∷ [])
  pub tables : AfterEachLineOver HasTables content (line ∷ [])
