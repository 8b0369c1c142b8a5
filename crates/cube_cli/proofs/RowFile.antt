-- The rows of facts, part by part.
use Rattle.std.proofs.Common.{◌≡◌, ℕ, ◌+◌, ◌≤◌, ◌<◌, List, [], ◌∷◌, ◌++◌, append_assoc, length, map, take, drop, refl, sym, ap, subst, ◌∙◌, arith, Some, Err}
use Rattle.std.specs.Bool.{⊤}
use Rattle.std.specs.List.{flat_map}
use Rattle.std.specs.Prelude.{All, if◌then◌else◌}
use Rattle.std.proofs.lemmas.Grind.{flat_map-append}
use Rattle.std.proofs.lemmas.List.{append-nil, length-append, length-drop, length-map, length-take}
use Rattle.std.proofs.lemmas.List.Elements.{All-head, All-tail}
use Rattle.cube_base.specs.declared.fault.SinkError.{SinkError}
use Rattle.csv.specs.Writing.{default_writer, end_text, is_blank, row_body, row_text}
use Rattle.cube_model.specs.declared.edit.Fact.{Fact}
use Rattle.cube_model.specs.Allocation.{Allocation, ExtendedFact, Policy, allocation, allocation_of, extended}
use Rattle.csv_facts.specs.ExtendedRow.{extended_text, part_text, row_record, rows_header, text_before, with_rows}
use Rattle.csv_facts.proofs.ExtendedRows.{part-behind, rows-through}
use Rattle.csv_facts.specs.RecordList.{records_text}
use Rattle.cube_core.specs.Cube.{AreFactsOf}
use Rattle.cube_core.proofs.PlacedRows.{IsFound, placed-none}
use Rattle.cube_core.proofs.Rows.{extended-among, rows_among}
use Rattle.fact_records.specs.Valid.{IsFactOf}
use Rattle.schema_text.specs.Schema.{SchemaValue, shape_of}
use Rattle.script_run.specs.Seen.{SinkSeen}
use Rattle.cube_cli.specs.Rows.{IsRowsOf, OnItsWay}
use Rattle.cube_cli.specs.Steps.{WritesText}
use Rattle.cube_cli.proofs.Parts.{longer}

-- a record has an end
some_row : (fields : List (List ℕ)) → 1 ≤ length (row_text default_writer fields)
some_row fields =
    let quotes = if is_blank default_writer fields then default_writer.quote ∷ default_writer.quote ∷ [] else [] in
    omega (arith, length-append (row_body default_writer fields) (quotes ++ end_text default_writer.terminator), length-append quotes (end_text default_writer.terminator))

some_records : (records : List (List (List ℕ))) → 1 ≤ length records → 1 ≤ length (records_text records)
some_records [] some = absurd (omega (arith, some))
some_records (fields ∷ records) some = omega (arith, some_row fields, length-append (row_text default_writer fields) (records_text records))

pub some_rows : (schema : SchemaValue) (fact : ExtendedFact) (from most : ℕ) → from < length fact.allocation.rows → 1 ≤ most → 1 ≤ length (part_text schema fact from most)
some_rows schema fact from most more many =
    let rest = drop from fact.allocation.rows in
    some_records (map (row_record schema fact) (take most rest))
    (omega (arith, length-map (take most rest) (row_record schema fact), length-take most rest, length-drop from fact.allocation.rows, more, many))

-- a fact with the rows that are found by its id
pub whole_is : (all : List ExtendedFact) (fact : Fact) (whole : ExtendedFact) (spread : Allocation) → IsRowsOf all fact whole → Some spread ≡ allocation_of fact.id all → with_rows fact spread ≡ whole
whole_is all fact whole spread is found =
    let same : spread ≡ whole.allocation = cc (found ∙ is.found) in
    ap (λ i. record { id = i; values = fact.cols; allocation = spread }) (sym is.id_is)
    ∙ ap (λ v. record { id = whole.id; values = v; allocation = spread }) (sym is.values_are)
    ∙ ap (λ a. record { id = whole.id; values = whole.values; allocation = a }) same

-- behind a part the rest of a fact's rows make the text with the fact
pub all_behind : (schema : SchemaValue) (before : List ExtendedFact) (whole : ExtendedFact) (from most : ℕ)
    → (text_before schema before whole from ++ part_text schema whole from most) ++ part_text schema whole (from + most) (length whole.allocation.rows) ≡ extended_text schema (before ++ whole ∷ [])
all_behind schema before whole from most =
    let rest = length whole.allocation.rows in
    ap (λ text. text ++ part_text schema whole (from + most) rest) (part-behind schema before whole from most)
    ∙ part-behind schema before whole (from + most) rest
    ∙ rows-through schema before whole (from + most + rest) (omega arith)

-- the text of the rows of facts goes on with those of others
more_facts : (schema : SchemaValue) (before after : List ExtendedFact) → extended_text schema (before ++ after) ≡ extended_text schema before ++ records_text (flat_map (λ fact. map (row_record schema fact) fact.allocation.rows) after)
unfolding extended_text
more_facts schema before after =
    let records = λ (fact : ExtendedFact). map (row_record schema fact) fact.allocation.rows in
    ap (λ rows. records_text (rows_header schema ∷ rows)) (flat_map-append records before after)
    ∙ flat_map-append (row_text default_writer) (rows_header schema ∷ flat_map records before) (flat_map records after)

-- The rows of some facts were made, and the others are left.
pub record AreGathered (policy : Policy) (schema : SchemaValue) (facts left : List Fact) (waiting : List ℕ) (sink : SinkSeen) : Type 0 where
  pub done : List ExtendedFact
  pub all : done ++ rows_among policy schema.dims facts left ≡ extended policy schema.dims facts
  pub way : OnItsWay (extended_text schema done) waiting sink

-- each that is left is a fact of the schema, with rows that are found by its id
pub record AreLeft (policy : Policy) (schema : SchemaValue) (facts left : List Fact) : Type 0 where
  pub valid : All (IsFactOf (shape_of schema) schema.dims) left
  pub there : All (IsFound policy schema.dims facts) left

pub left-all : (policy : Policy) (schema : SchemaValue) (facts left : List Fact) → AreFactsOf schema facts → left ≡ facts → AreLeft policy schema facts left
left-all policy schema facts left valid same = rw same (record {
  valid = λ k d lt. (valid.each k d lt).accepted;
  there = (placed-none policy schema.dims facts facts [] valid.ascending refl refl).there;
})

pub gathered-none : (policy : Policy) (schema : SchemaValue) (facts left : List Fact) (waiting : List ℕ) (sink : SinkSeen) → left ≡ facts → OnItsWay (extended_text schema []) waiting sink → AreGathered policy schema facts left waiting sink
gathered-none policy schema facts left waiting sink same on = record {
  done = [];
  all = ap (rows_among policy schema.dims facts) same ∙ sym (extended-among policy schema.dims facts);
  way = on;
}

module _ (policy : Policy) (schema : SchemaValue) (facts ahead left : List Fact) (f : Fact) (cut : ahead ≡ f ∷ left) where
  pub row : ExtendedFact
  row = record { id = f.id; values = f.cols; allocation = allocation policy schema.dims facts f }

  module _ (are : AreLeft policy schema facts ahead) where
    here : AreLeft policy schema facts (f ∷ left)
    here = subst (AreLeft policy schema facts) cut are

    pub left-fact : IsFactOf (shape_of schema) schema.dims f
    left-fact = All-head (IsFactOf (shape_of schema) schema.dims) f left here.valid

    pub left-row : IsRowsOf (extended policy schema.dims facts) f row
    unfolding row
    left-row = record { id_is = refl; values_are = refl; found = All-head (IsFound policy schema.dims facts) f left here.there }

    pub left-next : AreLeft policy schema facts left
    left-next = record { valid = All-tail (IsFactOf (shape_of schema) schema.dims) f left here.valid; there = All-tail (IsFound policy schema.dims facts) f left here.there }

  module _ (waiting : List ℕ) (sink : SinkSeen) (before : AreGathered policy schema facts ahead waiting sink) where
    all-here : (before.done ++ row ∷ []) ++ rows_among policy schema.dims facts left ≡ extended policy schema.dims facts
    unfolding extended row
    all-here = append_assoc before.done (row ∷ []) (rows_among policy schema.dims facts left) ∙ ap (λ l. before.done ++ rows_among policy schema.dims facts l) (sym cut) ∙ before.all

    pub gathered-next : (later : List ℕ) (sink_later : SinkSeen) → OnItsWay (extended_text schema (before.done ++ row ∷ [])) later sink_later → AreGathered policy schema facts left later sink_later
    gathered-next later sink_later on = record { done = before.done ++ row ∷ []; all = all-here; way = on }

    pub not-gathered : (sink_later : SinkSeen) (error : SinkError) → WritesText {T = ⊤} (extended_text schema (before.done ++ row ∷ [])) sink_later (Err error) → WritesText {T = ⊤} (extended_text schema (extended policy schema.dims facts)) sink_later (Err error)
    not-gathered sink_later error part =
        subst (λ text. WritesText {T = ⊤} text sink_later (Err error)) (sym (more_facts schema (before.done ++ row ∷ []) (rows_among policy schema.dims facts left)) ∙ ap (extended_text schema) all-here)
        (longer ⊤ (extended_text schema (before.done ++ row ∷ [])) _ sink_later error part)

pub gathered-all : (policy : Policy) (schema : SchemaValue) (facts ahead : List Fact) (waiting : List ℕ) (sink : SinkSeen) → AreGathered policy schema facts ahead waiting sink → ahead ≡ [] → OnItsWay (extended_text schema (extended policy schema.dims facts)) waiting sink
gathered-all policy schema facts ahead waiting sink before none =
    subst (λ rows. OnItsWay (extended_text schema rows) waiting sink) (sym (append-nil before.done) ∙ ap (λ l. before.done ++ rows_among policy schema.dims facts l) (sym none) ∙ before.all) before.way

-- the text begins with the header
pub header_text : (schema : SchemaValue) → records_text (rows_header schema ∷ []) ≡ extended_text schema []
unfolding extended_text
header_text schema = refl

pub some_header : (schema : SchemaValue) → 1 ≤ length (records_text (rows_header schema ∷ []))
some_header schema = some_records (rows_header schema ∷ []) (omega arith)

pub header_alone : (schema : SchemaValue) (rows : List ExtendedFact) (sink : SinkSeen) (error : SinkError) → WritesText {T = ⊤} (records_text (rows_header schema ∷ [])) sink (Err error) → WritesText {T = ⊤} (extended_text schema rows) sink (Err error)
header_alone schema rows sink error part =
    subst (λ text. WritesText {T = ⊤} text sink (Err error)) (sym (more_facts schema [] rows))
    (longer ⊤ (extended_text schema []) _ sink error (subst (λ text. WritesText {T = ⊤} text sink (Err error)) (header_text schema) part))
