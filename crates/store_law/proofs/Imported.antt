-- A content with the batch of new facts.
use Rattle.std.proofs.Common.{◌≡◌, ℕ, ◌+◌, ◌<◌, ◌≤◌, Bool, true, false, cond, List, [], ◌∷◌, map, refl, ap, sym, ◌∙◌}
use Rattle.std.specs.Prelude.{All, AllPairs, Option, Some, None, filter, ◌==◌, ◌||◌, if◌then◌else◌}
use Rattle.std.specs.Option.{option_map, option_or}
use Rattle.std.proofs.lemmas.List.Elements.{All-head, All-tail}
use Rattle.std.proofs.lemmas.List.Kept.{AllPairs-filter}
use Rattle.cube_base.specs.declared.code.Code.{Code}
use Rattle.cube_model.specs.declared.edit.Edit.TheVariants.{Put}
use Rattle.cube_model.specs.declared.edit.Fact.{Fact}
use Rattle.cube_model.specs.Allocation.{Policy, extended, row_count}
use Rattle.cube_model.specs.Facts.{has_id, put}
use Rattle.cube_model.specs.Limits.{MAX_ROWS}
use Rattle.cube_model.specs.Tree.{Dimension}
use Rattle.fact_groups.proofs.Edits.{find-after}
use Rattle.fact_keeper.specs.declared.content.Stored.{Stored}
use Rattle.fact_keeper.specs.Batch.{apply_batch, fact_id, rows_id, updated}
use Rattle.fact_keeper.proofs.Found.{entry_of}
use Rattle.fact_records.specs.FactList.{fact_of}
use Rattle.fact_records.specs.Judge.{fact_refusal}
use Rattle.fact_records.specs.New.{AreNew, put_all}
use Rattle.fact_records.specs.Shape.{ShapeValue}
use Rattle.fact_records.specs.Valid.{AreValid, IsPlaced}
use Rattle.fact_records.specs.declared.fact_seq.BadRecord.{BadRecord}
use Rattle.fact_records.specs.RefusedRecord.{refused_among, refused_or}
use Rattle.schema_text.specs.Schema.{IsSchema, SchemaValue, policy_of, shape_of}
use Rattle.edit_plan.specs.Plan.{kept_fact}
use Rattle.edit_plan.specs.Whole.{difference_with}
use Rattle.cube_state.proofs.Accepting.{AreValid-new}
use Rattle.store_audit.specs.Sound.{IsSound, facts_told}
use Rattle.csv_facts.specs.RecordList.{records_of}
use Rattle.cube_cli.specs.Files.{IsAccepted, facts_with_file, import_batch, seq_of}
use Rattle.cube_cli.specs.Store.{IsSoundOver}
use Rattle.cube_cli.proofs.KeptFacts.{pairs-map}
use Rattle.store_law.specs.Holds.{HoldsState}
use Rattle.store_law.proofs.Filed.{facts-placed}
use Rattle.store_law.proofs.Refreshed.{rows-refreshed}
use Rattle.store_law.proofs.Told.{good-valid, holds-these, told-kept}
use Rattle.store_law.proofs.Updated.{entry_of-passing, find-map, updated-is}

-- new facts of which none is refused are new over the facts
none-refused : (shape : ShapeValue) (dims : List Dimension) (index : ℕ) (facts new : List Fact) → All (IsPlaced dims) new → refused_among shape dims index facts new ≡ None → AreNew shape dims facts new
none-refused shape dims index facts [] placed none = tt
none-refused shape dims index facts (fact ∷ new) placed none = either (fact_refusal shape dims (Put fact) facts) refl none
    (λ rest. none-refused shape dims (index + 1) (put fact facts) new (All-tail (IsPlaced dims) fact new placed) rest)
  where
    either : (refusal : Option Code) → fact_refusal shape dims (Put fact) facts ≡ refusal → refused_or index refusal (refused_among shape dims (index + 1) (put fact facts) new) ≡ None
        → (refused_among shape dims (index + 1) (put fact facts) new ≡ None → AreNew shape dims (put fact facts) new) → AreNew shape dims facts (fact ∷ new)
    either (Some why) is none rest = cc
    either None is none rest = (record { placed = All-head (IsPlaced dims) fact new placed; accepted = is }, rest none)

-- the fact of an id once all are put: where it is none of the new ones it is the one before, and none that was there is lost
found-before : (n : ℕ) (new facts : List Fact) → has_id n new ≡ false → fact_of n (put_all new facts) ≡ fact_of n facts
found-before n [] facts other = refl
found-before n (fact ∷ new) facts other = either (fact.id == n) refl other (found-before n new (put fact facts))
  where
    either : (b : Bool) → (fact.id == n) ≡ b → (b || has_id n new) ≡ false → (has_id n new ≡ false → fact_of n (put_all new (put fact facts)) ≡ fact_of n (put fact facts)) → fact_of n (put_all (fact ∷ new) facts) ≡ fact_of n facts
    either true is other rest = cc
    either false is other rest = rest other ∙ find-after (Put fact) facts n ∙ ap (λ (b : Bool). if b then Some fact else fact_of n facts) is

never-lost : (n : ℕ) (new facts : List Fact) → fact_of n (put_all new facts) ≡ None → fact_of n facts ≡ None
never-lost n [] facts none = none
never-lost n (fact ∷ new) facts none = either (fact.id == n) (sym (find-after (Put fact) facts n) ∙ never-lost n new (put fact facts) none)
  where
    either : (b : Bool) → (if b then Some fact else fact_of n facts) ≡ None → fact_of n facts ≡ None
    either true none = cc
    either false none = none

-- the kept facts then
facts-imported : (new facts : List Fact) → AllPairs (λ f g. f.id < g.id) facts → AllPairs (λ f g. f.id < g.id) (put_all new facts)
    → updated fact_id [] (map kept_fact (filter (λ f. has_id f.id new) (put_all new facts))) (map kept_fact facts) ≡ map kept_fact (put_all new facts)
facts-imported new facts up later_up =
    let later = put_all new facts in
    updated-is fact_id [] (map kept_fact (filter (λ f. has_id f.id new) later)) (map kept_fact facts) (map kept_fact later)
    (pairs-map kept_fact fact_id (filter (λ f. has_id f.id new) later) (AllPairs-filter (λ (f g : Fact). f.id < g.id) (λ f. has_id f.id new) later later_up)) (pairs-map kept_fact fact_id facts up) (pairs-map kept_fact fact_id later later_up)
    (λ n.
    let kept = λ (fs : List Fact). find-map kept_fact (λ k. fact_id k == n) fs in
    ap (λ o. option_or o (entry_of fact_id n (map kept_fact facts))) (kept (filter (λ f. has_id f.id new) later) ∙ ap (option_map kept_fact) (entry_of-passing (λ (f : Fact). f.id) (λ i. has_id i new) n later))
    ∙ ap (λ o. option_or (option_map kept_fact (cond (has_id n new) (fact_of n later) None)) o) (kept facts)
    ∙ either (has_id n new) (fact_of n later) (fact_of n facts) (found-before n new facts) (never-lost n new facts)
    ∙ sym (kept later))
  where
    either : (b : Bool) (after before : Option Fact) → (b ≡ false → after ≡ before) → (after ≡ None → before ≡ None)
        → option_or (option_map kept_fact (cond b after None)) (option_map kept_fact before) ≡ option_map kept_fact after
    either false after before same lost = ap (option_map kept_fact) (sym (same refl))
    either true (Some fact) before same lost = refl
    either true None before same lost = ap (option_map kept_fact) (lost refl)

pub imported-holds : (policy : Policy) (shape : ShapeValue) (dims : List Dimension) (content : Stored) (new : List Fact) → IsSound policy shape dims content → All (IsPlaced dims) new
    → refused_among shape dims 1 (facts_told content) new ≡ None → row_count (extended policy dims (put_all new (facts_told content))) ≤ MAX_ROWS
    → HoldsState policy shape dims (put_all new (facts_told content)) (apply_batch (difference_with policy dims new (facts_told content)) content)
imported-holds policy shape dims content new sound placed accepted few =
    let facts = facts_told content in
    let valid : AreValid shape dims facts = good-valid shape dims content.facts sound.good in
    let later : AreValid shape dims (put_all new facts) = AreValid-new shape dims new facts (none-refused shape dims 1 facts new placed accepted) valid in
    let batch = difference_with policy dims new facts in
    holds-these policy shape dims (put_all new facts) (apply_batch batch content) later few
    (ap (updated fact_id [] batch.facts) (told-kept content.facts) ∙ facts-imported new facts valid.ascending later.ascending)
    (ap (updated rows_id [] batch.rows) sound.rows_are
    ∙ rows-refreshed policy dims facts (put_all new facts) valid.ascending later.ascending [] (λ n none. never-lost n new facts none) (λ n no. cc))

-- what is refused of no record is refused of no fact
first-none : (refused bad : Option BadRecord) → option_or refused bad ≡ None → refused ≡ None
first-none None bad none = refl
first-none (Some record_at) bad none = cc

pub file-holds : (schema : SchemaValue) (content : Stored) (file : List ℕ) → IsSchema schema → IsSoundOver schema content → IsAccepted (policy_of schema) schema (facts_told content) file
    → HoldsState (policy_of schema) (shape_of schema) schema.dims (facts_with_file schema (facts_told content) file) (apply_batch (import_batch (policy_of schema) schema (facts_told content) file) content)
file-holds schema content file is sound accepted =
    let seq = seq_of schema file in
    imported-holds (policy_of schema) (shape_of schema) schema.dims content seq.facts sound (facts-placed schema is.trees (records_of file))
    (first-none (refused_among (shape_of schema) schema.dims 1 (facts_told content) seq.facts) seq.bad accepted.accepted) accepted.few
