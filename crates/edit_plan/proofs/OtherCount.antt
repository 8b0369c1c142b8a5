-- The ids of the regions that are spread anew, but for the one of an edit, are as many as the other facts there.
use Rattle.std.proofs.Common.{◌≡◌, ℕ, ◌<◌, ◌≤◌, Bool, true, false, List, [], ◌∷◌, get_or, length, refl, arith}
use Rattle.std.specs.Prelude.{All, AllPairs, filter, not, ◌&&◌, ◌==◌, if◌then◌else◌}
use Rattle.std.specs.List.{sum_by}
use Rattle.std.proofs.lemmas.List.{length-append, length-map}
use Rattle.std.proofs.lemmas.List.Elements.{All-head, All-tail, filter_passes}
use Rattle.std.proofs.lemmas.List.Sums.{count_by-le-length, length-filter, sum_by-cons}
use Rattle.cube_model.specs.declared.edit.Edit.{Edit}
use Rattle.cube_model.specs.declared.edit.Fact.{Fact}
use Rattle.cube_model.specs.Allocation.{Policy}
use Rattle.cube_model.specs.Facts.{after, is_precise, withdraw}
use Rattle.cube_model.specs.Tree.{Dimension, IsTree}
use Rattle.region_algebra.specs.Space.{IsRegion}
use Rattle.region_index.specs.Content.{AreAscending}
use Rattle.region_index.specs.Indexed.{is_indexed_at}
use Rattle.fact_groups.specs.Edits.{edited_id}
use Rattle.fact_groups.specs.Groups.{facts_with, group_at, has_code}
use Rattle.fact_groups.proofs.Groups.{sum_by-map}
use Rattle.fact_groups.proofs.Partition.{sum_by-filter}
use Rattle.cube_state.specs.Regrouped.{group_is_respread, other_count, spread_anew}
use Rattle.cube_state.specs.State.{ids_with}
use Rattle.cube_state.proofs.RowBounds.{facts-le}
use Rattle.edit_plan.specs.Refreshing.{others_at, others_with}
use Rattle.edit_plan.proofs.HandedOut.{imprecise-anew}

-- other facts of some codes are no more than the facts
pub other_count-few : (dims : List Dimension) (edit : Edit) (facts : List Fact) (codes : List ℕ) → AreAscending codes → other_count dims edit facts codes ≤ length facts
other_count-few dims edit facts codes ascends =
    omega (
      arith,
      facts-le dims (withdraw (edited_id edit) facts) codes ascends,
      length-filter (λ (f : Fact). not (f.id == edited_id edit)) facts,
      count_by-le-length (λ (f : Fact). not (f.id == edited_id edit)) facts,
    )

module _ (dims : List Dimension) (id code : ℕ) where
  abbrev IsImpreciseHere : Fact → Type 0
  IsImpreciseHere f = has_code dims code f ≡ true → not (is_precise dims f) ≡ true

  abbrev in_index : Fact → ℕ
  in_index f = if is_indexed_at dims code f then (if not (f.id == id) then 1 else 0) else 0

  abbrev left : Fact → ℕ
  left f = if not (f.id == id) then (if has_code dims code f then 1 else 0) else 0

  each-once : (facts : List Fact) → All IsImpreciseHere facts → sum_by in_index facts ≡ sum_by left facts
  each-once [] each = refl
  each-once (fact ∷ facts) each =
      omega (
        arith,
        sum_by-cons in_index fact facts,
        sum_by-cons left fact facts,
        one (has_code dims code fact) (not (is_precise dims fact)) (not (fact.id == id)) (All-head IsImpreciseHere fact facts each),
        each-once facts (All-tail IsImpreciseHere fact facts each),
      )
    where
      one : (here imprecise other : Bool) → (here ≡ true → imprecise ≡ true) → ◌≡◌ {A = ℕ} (if here && imprecise then (if other then 1 else 0) else 0) (if other then (if here then 1 else 0) else 0)
      one true true true is = refl
      one true true false is = refl
      one true false other is = let never : false ≡ true = is refl in cc
      one false imprecise true is = refl
      one false imprecise false is = refl

  -- where each fact of the code is imprecise, all of them are in the index, but for the one of the id
  others-with : (facts : List Fact) → All IsImpreciseHere facts → length (others_with id code (ids_with dims facts code)) ≡ length (facts_with dims code (withdraw id facts))
  others-with facts each =
      omega (
        arith,
        length-map {B = ℕ × ℕ} (filter (λ other. not (other == id)) (ids_with dims facts code)) (λ (other : ℕ). (other, code)),
        length-filter (λ (other : ℕ). not (other == id)) (ids_with dims facts code),
        sum_by-map (λ (other : ℕ). if not (other == id) then 1 else 0) (λ (f : Fact). f.id) (filter (is_indexed_at dims code) facts),
        sum_by-filter (is_indexed_at dims code) (λ (f : Fact). if not (f.id == id) then 1 else 0) facts,
        each-once facts each,
        sum_by-filter (λ (f : Fact). not (f.id == id)) (λ f. if has_code dims code f then 1 else 0) facts,
        length-filter (has_code dims code) (withdraw id facts),
      )

module _ (policy : Policy) (columns : ℕ) (dims : List Dimension) (edit : Edit) (facts : List Fact) (up : AllPairs (λ f g. f.id < g.id) facts)
    (trees : All IsTree dims)
    (regions : All (λ f. IsRegion dims f.region) facts)
    (later_regions : All (λ f. IsRegion dims f.region) (after edit facts)) where
  abbrev spreads_anew : ℕ → Bool
  spreads_anew code = group_is_respread (group_at policy columns dims facts code) (group_at policy columns dims (after edit facts) code)

  over : (codes : List ℕ) → All (λ code. spreads_anew code ≡ true) codes → length (others_at dims facts (edited_id edit) codes) ≡ other_count dims edit facts codes
  over [] each = refl
  over (code ∷ codes) each =
      omega (
        arith,
        length-append (others_with (edited_id edit) code (ids_with dims facts code)) (others_at dims facts (edited_id edit) codes),
        sum_by-cons (λ code. length (facts_with dims code (withdraw (edited_id edit) facts))) code codes,
        others-with dims (edited_id edit) code facts
            (λ k d within. imprecise-anew policy columns dims edit facts up trees regions later_regions (get_or facts k d) (regions k d within) code (All-head (λ code. spreads_anew code ≡ true) code codes each)),
        over codes (All-tail (λ code. spreads_anew code ≡ true) code codes each),
      )

  -- and those of the regions that are spread anew are
  pub others-counted : (codes : List ℕ) → length (others_at dims facts (edited_id edit) (spread_anew policy columns dims edit facts codes)) ≡ other_count dims edit facts (spread_anew policy columns dims edit facts codes)
  others-counted codes = over (spread_anew policy columns dims edit facts codes) (filter_passes spreads_anew codes)
