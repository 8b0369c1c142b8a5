-- Facts that are not refused are such as a cube may have, and the other way round.
use Rattle.std.proofs.Common.{◌≡◌, ℕ, zero, suc, ◌<◌, ◌≤◌, Bool, true, false, List, [], ◌∷◌, get_or, map, refl, ap, sym, ◌∙◌, subst, arith}
use Rattle.std.specs.Prelude.{Option, Some, None, nat_le, nat_lt, slice_get, ◌||◌}
use Rattle.std.specs.Option.{option_and_then, option_map, option_map_or}
use Rattle.std.proofs.lemmas.Bool.Decides.{nat_tests}
use Rattle.std.proofs.lemmas.Option.{slice_get-get_or, slice_get-map, slice_get_within, get_or_from_slice_get}
use Rattle.cube_model.specs.declared.edit.Fact.{Fact}
use Rattle.cube_model.specs.Allocation.{Policy, extended, row_count}
use Rattle.cube_model.specs.Limits.{MAX_FACTS, MAX_ID, MAX_ROWS}
use Rattle.cube_model.specs.Tree.{Dimension}
use Rattle.region_algebra.specs.Space.{is_region}
use Rattle.fact_keeper.specs.declared.content.KeptFact.{KeptFact}
use Rattle.fact_keeper.specs.declared.content.Stored.{Stored}
use Rattle.fact_keeper.specs.Batch.{apply_batch, empty_content, fact_id}
use Rattle.fact_records.specs.Accepted.{cols_refusal, region_refusal}
use Rattle.fact_records.specs.Shape.{ShapeValue}
use Rattle.fact_records.specs.Valid.{AreValid, IsValid}
use Rattle.schema_text.specs.Schema.{SchemaValue, policy_of, shape_of}
use Rattle.edit_plan.specs.Plan.{kept_fact, kept_rows}
use Rattle.store_audit.specs.Sound.{AreGood, fact_fault, fact_told, facts_told, fault_at, has_wrong_id, id_before}
use Rattle.store_audit.proofs.Judging.{none-refused}
use Rattle.store_audit.proofs.Reading.{valid-good}
use Rattle.cube_cli.specs.Store.{schema_batch}
use Rattle.cube_cli.proofs.KeptFacts.{told-ascends}
use Rattle.store_law.specs.Holds.{HoldsState}

-- a kept fact is the one that is kept of the fact that it tells
pub told-kept : (kept : List KeptFact) → kept ≡ map kept_fact (map fact_told kept)
told-kept [] = refl
told-kept (fact ∷ kept) = ap (λ rest. fact ∷ rest) (told-kept kept)

pub kept-told : (facts : List Fact) → map fact_told (map kept_fact facts) ≡ facts
kept-told [] = refl
kept-told (fact ∷ facts) = ap (λ rest. fact ∷ rest) (kept-told facts)

module _ (shape : ShapeValue) (dims : List Dimension) where
  -- kept facts of which none is refused tell such facts
  module _ (kept : List KeptFact) (good : AreGood shape dims kept) where
    pub good-valid : AreValid shape dims (map fact_told kept)
    good-valid = valid-good shape dims kept good (map fact_told kept) refl (told-ascends shape dims kept good)

  -- a valid fact at a place is not refused behind the one before
  none-wrong : (before id : ℕ) → before < id → id ≤ MAX_ID → has_wrong_id before (record { id = id; nodes = []; cols = [] }) ≡ false
  none-wrong before id above most = either (nat_le id before) (nat_lt MAX_ID id) (grind (arith, nat_tests)) (grind (arith, nat_tests))
    where
      either : (a b : Bool) → a ≡ false → b ≡ false → (a || b) ≡ false
      either true b low high = low
      either false b low high = high

  module _ (facts : List Fact) (valid : AreValid shape dims facts) where
    before-is : (place : ℕ) (fact : Fact) → slice_get facts place ≡ Some fact → id_before (map kept_fact facts) place < fact.id
    before-is zero fact at =
        let within = slice_get_within facts zero fact at in
        let here : get_or facts zero fact ≡ fact = get_or_from_slice_get facts zero fact fact at in
        let one = (valid.each zero fact within).accepted.placed.id.least in
        omega (arith, one, ap (λ (f : Fact). f.id) here)
    before-is (suc place) fact at =
        let within = slice_get_within facts (suc place) fact at in
        let here : get_or facts (suc place) fact ≡ fact = get_or_from_slice_get facts (suc place) fact fact at in
        let last : slice_get facts place ≡ Some (get_or facts place fact) = slice_get-get_or facts place fact (omega (arith, within)) in
        let kept : id_before (map kept_fact facts) (suc place) ≡ (get_or facts place fact).id = ap (λ o. option_map_or fact_id o 0) (slice_get-map kept_fact facts place ∙ ap (option_map kept_fact) last) in
        let less = valid.ascending place (suc place) fact (omega arith) within in
        omega (arith, kept, less, ap (λ (f : Fact). f.id) here)

    fault-none : (place : ℕ) (fact : Fact) → slice_get facts place ≡ Some fact → fact_fault shape dims place (id_before (map kept_fact facts) place) (kept_fact fact) ≡ None
    fault-none place fact at =
        let within = slice_get_within facts place fact at in
        let here : get_or facts place fact ≡ fact = get_or_from_slice_get facts place fact fact at in
        let one : IsValid shape dims fact = subst (IsValid shape dims) here (valid.each place fact within) in
        let room : nat_le MAX_FACTS place ≡ false = grind (arith, nat_tests, within, valid.few) in
        sym (none-refused (has_wrong_id (id_before (map kept_fact facts) place) (kept_fact fact)) (is_region dims fact.region) (cols_refusal shape fact.cols) (region_refusal dims fact.region) (nat_le MAX_FACTS place)
        (none-wrong (id_before (map kept_fact facts) place) fact.id (before-is place fact at) one.accepted.placed.id.most)
        one.accepted.placed.region one.accepted.values one.size room)

    pub valid-good_again : AreGood shape dims (map kept_fact facts)
    valid-good_again place = by_fact (slice_get facts place) refl
      where
        by_fact : (found : Option Fact) → slice_get facts place ≡ found → fault_at shape dims (map kept_fact facts) place ≡ None
        by_fact None at = ap (option_and_then (fact_fault shape dims place (id_before (map kept_fact facts) place))) (slice_get-map kept_fact facts place ∙ ap (option_map kept_fact) at)
        by_fact (Some fact) at = ap (option_and_then (fact_fault shape dims place (id_before (map kept_fact facts) place))) (slice_get-map kept_fact facts place ∙ ap (option_map kept_fact) at) ∙ fault-none place fact at

-- A content is sound that has valid facts, not too many rows, and those that the facts make.
pub holds-these : (policy : Policy) (shape : ShapeValue) (dims : List Dimension) (facts : List Fact) (content : Stored) → AreValid shape dims facts → row_count (extended policy dims facts) ≤ MAX_ROWS
    → content.facts ≡ map kept_fact facts → content.rows ≡ map kept_rows (extended policy dims facts) → HoldsState policy shape dims facts content
holds-these policy shape dims facts content valid few facts_are rows_are =
    let told : facts_told content ≡ facts = ap (map fact_told) facts_are ∙ kept-told facts in
    record {
      sound = record {
        good = subst (AreGood shape dims) (sym facts_are) (valid-good_again shape dims facts valid);
        few = subst (λ (fs : List Fact). row_count (extended policy dims fs) ≤ MAX_ROWS) (sym told) few;
        rows_are = rows_are ∙ ap (λ (fs : List Fact). map kept_rows (extended policy dims fs)) (sym told);
      };
      told = told;
    }

-- and so is one without facts, whatever its text
pub holds-none : (schema : SchemaValue) → HoldsState (policy_of schema) (shape_of schema) schema.dims [] (apply_batch (schema_batch schema) empty_content)
unfolding extended
holds-none schema = record { sound = record { good = λ place. refl; few = omega arith; rows_are = refl }; told = refl }
