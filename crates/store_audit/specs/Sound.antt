-- When a stored content is sound over a space and measures, and what is found first where it is not.
use Rattle.std.specs.Prelude.{◌≡◌, ◌≢◌, ℕ, zero, suc, ◌<◌, ◌≤◌, Bool, ◌||◌, List, [], ◌∷◌, map, nat_le, nat_lt, not, ⊤, Option, Some, None, slice_get}
use Rattle.std.specs.Option.{option_and_then, option_map, option_map_or}
use Rattle.cube_base.specs.declared.code.Code.{Code}
use Rattle.cube_base.specs.declared.code.Code.TheVariants as code
use Rattle.cube_model.specs.declared.edit.Fact.{Fact}
use Rattle.cube_model.specs.Accepted.{first_refusal, first_that_holds}
use Rattle.cube_model.specs.Allocation.{Policy, extended, row_count}
use Rattle.cube_model.specs.Limits.{MAX_FACTS, MAX_ID, MAX_ROWS}
use Rattle.cube_model.specs.Tree.{Dimension}
use Rattle.region_algebra.specs.Space.{is_region}
use Rattle.fact_keeper.specs.declared.content.KeptFact.{KeptFact}
use Rattle.fact_keeper.specs.declared.content.KeptRows.{KeptRows}
use Rattle.fact_keeper.specs.declared.content.Stored.{Stored}
use Rattle.fact_keeper.specs.Batch.{fact_id}
use Rattle.fact_records.specs.Accepted.{cols_refusal, region_refusal}
use Rattle.fact_records.specs.Shape.{ShapeValue}
use Rattle.edit_plan.specs.Plan.{kept_rows}
use Rattle.store_audit.specs.declared.finding.Finding.{Finding}
use Rattle.store_audit.specs.declared.finding.Finding.TheVariants as finding
use Rattle.store_audit.specs.declared.finding.LoadFault.{LoadFault}
use Rattle.store_audit.specs.declared.finding.LoadFault.TheVariants as load_fault

-- the fact that a kept one tells
abbrev pub fact_told : KeptFact → Fact
fact_told kept = record { id = kept.id; region = kept.nodes; cols = kept.cols }

-- those of a content
abbrev pub facts_told : Stored → List Fact
facts_told content = map fact_told content.facts

-- the id of the kept fact before a place: 0 before the first
abbrev pub id_before : List KeptFact → ℕ → ℕ
id_before facts zero = 0
id_before facts (suc place) = option_map_or fact_id (slice_get facts place) 0

-- a fact may not have the id after one of the id before: ids ascend from 1 on
abbrev pub has_wrong_id : ℕ → KeptFact → Bool
has_wrong_id before fact = nat_le fact.id before || nat_lt MAX_ID fact.id

-- Why a kept fact is refused that stands at a place after one of the id before: the first of these conditions that
-- holds. Its id is wrong; its nodes are no region of the space; its values are refused, or the size of its region; or
-- there is no room for so many.
abbrev pub fact_fault : ShapeValue → List Dimension → ℕ → ℕ → KeptFact → Option Code
fact_fault shape dims place before fact =
    first_refusal
    (first_that_holds ((has_wrong_id before fact, code.Id) ∷ (not (is_region dims fact.nodes), code.Node) ∷ [])
    ∷ cols_refusal shape fact.cols
    ∷ region_refusal dims fact.nodes
    ∷ first_that_holds ((nat_le MAX_FACTS place, code.Facts) ∷ []) ∷ [])

-- why the kept fact at a place is refused, if there is one and it is
abbrev pub fault_at : ShapeValue → List Dimension → List KeptFact → ℕ → Option Code
fault_at shape dims facts place = option_and_then (fact_fault shape dims place (id_before facts place)) (slice_get facts place)

-- none is refused before a place
abbrev pub AreGoodBefore : ShapeValue → List Dimension → List KeptFact → ℕ → Type 0
AreGoodBefore shape dims facts place = (earlier : ℕ) → earlier < place → fault_at shape dims facts earlier ≡ None

-- none is refused
abbrev pub AreGood : ShapeValue → List Dimension → List KeptFact → Type 0
AreGood shape dims facts = (place : ℕ) → fault_at shape dims facts place ≡ None

-- how many rows a content's facts have, and these rows, as they are kept
abbrev pub rows_counted : Policy → List Dimension → Stored → ℕ
rows_counted policy dims content = row_count (extended policy dims (facts_told content))

abbrev pub rows_anew : Policy → List Dimension → Stored → List KeptRows
rows_anew policy dims content = map kept_rows (extended policy dims (facts_told content))

-- the kept fact at a place is refused, and none before it
pub record IsBadFact (shape : ShapeValue) (dims : List Dimension) (facts : List KeptFact) (place id : ℕ) (why : Code) : Type 0 where
  pub there : option_map fact_id (slice_get facts place) ≡ Some id
  pub refused : fault_at shape dims facts place ≡ Some why
  pub first : AreGoodBefore shape dims facts place

-- no kept fact is refused, but they have too many rows
pub record HaveManyRows (policy : Policy) (shape : ShapeValue) (dims : List Dimension) (content : Stored) (would : ℕ) : Type 0 where
  pub good : AreGood shape dims content.facts
  pub count : would ≡ rows_counted policy dims content
  pub many : MAX_ROWS < would

-- No kept fact is refused, and they have not too many rows; but at a place, and at none before it, the kept rows are others than the
-- facts make, both in order. None stands for a list that has ended.
pub record DifferAt (policy : Policy) (shape : ShapeValue) (dims : List Dimension) (content : Stored) (place : ℕ) (kept anew : Option KeptRows) : Type 0 where
  pub good : AreGood shape dims content.facts
  pub few : rows_counted policy dims content ≤ MAX_ROWS
  pub kept_is : kept ≡ slice_get content.rows place
  pub anew_is : anew ≡ slice_get (rows_anew policy dims content) place
  pub different : kept ≢ anew
  pub first : (earlier : ℕ) → earlier < place → slice_get content.rows earlier ≡ slice_get (rows_anew policy dims content) earlier

-- what is found first in a content whose schema was read
abbrev pub IsFinding : Policy → ShapeValue → List Dimension → Stored → Finding → Type 0
IsFinding policy shape dims content (finding.Schema line why) = ⊥
IsFinding policy shape dims content (finding.Fact place id why) = IsBadFact shape dims content.facts place id why
IsFinding policy shape dims content (finding.TooManyRows would) = HaveManyRows policy shape dims content would
IsFinding policy shape dims content (finding.Rows place kept anew) = DifferAt policy shape dims content place kept anew

-- Nothing is found: no kept fact is refused, they have not too many rows, and the kept rows are those that they make.
pub record IsSound (policy : Policy) (shape : ShapeValue) (dims : List Dimension) (content : Stored) : Type 0 where
  pub good : AreGood shape dims content.facts
  pub few : rows_counted policy dims content ≤ MAX_ROWS
  pub rows_are : content.rows ≡ rows_anew policy dims content

-- why a content is not loaded; out of memory says nothing
abbrev pub IsLoadFault : Policy → ShapeValue → List Dimension → Stored → LoadFault → Type 0
IsLoadFault policy shape dims content (load_fault.Bad found) = IsFinding policy shape dims content found
IsLoadFault policy shape dims content load_fault.Memory = ⊤
