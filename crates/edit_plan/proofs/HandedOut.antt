-- The ids of the regions that are spread anew, and these regions, are no more than the pairs of a changed cell and an imprecise fact that covers it.
use Rattle.std.proofs.Common.{◌≡◌, ℕ, ◌<◌, ◌≤◌, Bool, true, false, List, [], ◌∷◌, get_or, length, refl, ap, sym, ◌∙◌, arith}
use Rattle.std.specs.Prelude.{All, AllPairs, IfSome, Option, Some, None, filter, find, not, ◌&&◌, ◌==◌, if◌then◌else◌}
use Rattle.std.specs.List.{count_by, list_any, sum_by}
use Rattle.std.proofs.lemmas.Bool.Decides.{nat_tests}
use Rattle.std.proofs.lemmas.List.{length-map}
use Rattle.std.proofs.lemmas.List.Elements.{All-head, All-tail, filter_passes}
use Rattle.std.proofs.lemmas.List.Folds.{list_any_at}
use Rattle.std.proofs.lemmas.List.Sums.{length-filter, sum_by-cons, sum_by-le-sum_by}
use Rattle.cube_model.specs.declared.edit.Edit.{Edit}
use Rattle.cube_model.specs.declared.edit.Fact.{Fact}
use Rattle.cube_model.specs.Allocation.{Policy}
use Rattle.cube_model.specs.Cells.{cells_of, is_among}
use Rattle.cube_model.specs.Facts.{after, is_precise}
use Rattle.cube_model.specs.Tree.{Dimension, IsTree}
use Rattle.region_algebra.specs.Space.{IsRegion, code_of}
use Rattle.region_index.specs.Indexed.{covers, is_indexed_at}
use Rattle.fact_groups.specs.Changes.{covers_any, holds_any, reweighed_cells}
use Rattle.fact_groups.specs.Groups.{Group, column_sums, facts_with, group_at, has_code, spread_at}
use Rattle.fact_groups.specs.Refreshed.{is_spread_otherwise}
use Rattle.fact_groups.proofs.Ascending.{once_among}
use Rattle.fact_groups.proofs.Groups.{group_at-region}
use Rattle.fact_groups.proofs.Refreshing.{otherwise}
use Rattle.fact_groups.proofs.Statistics.{sum-reweighed}
use Rattle.cube_state.proofs.ViewAnswers.{find-all}
use Rattle.edit_plan.specs.Bound.{covering_pairs}
use Rattle.edit_plan.specs.Refreshing.{id_count_at}
use Rattle.cube_state.specs.State.{ids_with}
use Rattle.cube_state.specs.Regrouped.{HoldChanged, group_is_respread, spread_anew}
use Rattle.edit_plan.proofs.CountedOnce.{from-some, none-counted, some-counted, sums-le}
use Rattle.edit_plan.proofs.FlatLists.{any-alike}
use Rattle.edit_plan.proofs.RefreshedPairs.{ascends-anew}

parts : (a b : Bool) → (a && b) ≡ true → (a ≡ true) × (b ≡ true)
parts true b is = (refl, is)
parts false b is = cc

and-true : (b c : Bool) → c ≡ true → (b && c) ≡ b
and-true true c is = is
and-true false c is = refl

module _ (policy : Policy) (columns : ℕ) (dims : List Dimension) (edit : Edit) (facts : List Fact) (up : AllPairs (λ f g. f.id < g.id) facts)
    (trees : All IsTree dims)
    (regions : All (λ f. IsRegion dims f.region) facts)
    (later_regions : All (λ f. IsRegion dims f.region) (after edit facts)) where
  abbrev later : List Fact
  later = after edit facts

  abbrev reweighed : List ℕ
  reweighed = reweighed_cells policy dims edit facts

  abbrev spreads_anew : ℕ → Bool
  spreads_anew code = group_is_respread (group_at policy columns dims facts code) (group_at policy columns dims later code)

  abbrev group_of : List Fact → List ℕ → Group
  group_of among region = record { spread = spread_at policy dims among region; count = length (facts_with dims (code_of dims region) among); sums = column_sums columns (facts_with dims (code_of dims region) among) }

  -- a region whose group is spread anew is spread otherwise
  spread-otherwise : (region : List ℕ) → IsRegion dims region → spreads_anew (code_of dims region) ≡ true → is_spread_otherwise policy dims edit facts region region ≡ true
  spread-otherwise region named anew =
      either (length (facts_with dims (code_of dims region) facts) == 0) (length (facts_with dims (code_of dims region) later) == 0)
      (sym (ap (λ o. group_is_respread o (group_at policy columns dims later (code_of dims region))) (group_at-region policy columns dims facts region trees regions named)
      ∙ ap (group_is_respread (if length (facts_with dims (code_of dims region) facts) == 0 then None else Some (group_of facts region))) (group_at-region policy columns dims later region trees later_regions named))
      ∙ anew)
    where
      either : (none none_later : Bool) → group_is_respread (if none then None else Some (group_of facts region)) (if none_later then None else Some (group_of later region)) ≡ true → is_spread_otherwise policy dims edit facts region region ≡ true
      either true none_later is = cc
      either false true is = cc
      either false false is = is

  -- so each fact there is imprecise, and its region holds a cell that weighs otherwise
  held-anew : (fact : Fact) → IsRegion dims fact.region → (code : ℕ) → spreads_anew code ≡ true → has_code dims code fact ≡ true → (not (is_precise dims fact) ≡ true) × (holds_any dims fact.region reweighed ≡ true)
  held-anew fact named code anew here =
      let its : code ≡ code_of dims fact.region = grind (arith, nat_tests, here) in
      let moved = spread-otherwise fact.region named (ap spreads_anew (sym its) ∙ anew) in
      let spread = parts (covers_any dims reweighed fact) (is_spread_otherwise policy dims edit facts fact.region fact.region) (sym (otherwise policy dims edit facts up fact) ∙ moved) in
      parts (not (is_precise dims fact)) (holds_any dims fact.region reweighed) spread.0

  pub imprecise-anew : (fact : Fact) → IsRegion dims fact.region → (code : ℕ) → spreads_anew code ≡ true → has_code dims code fact ≡ true → not (is_precise dims fact) ≡ true
  imprecise-anew fact named code anew here = (held-anew fact named code anew here).0

  -- so an imprecise fact there covers a cell that weighs otherwise
  covers-reweighed : (fact : Fact) → IsRegion dims fact.region → (code : ℕ) → spreads_anew code ≡ true → is_indexed_at dims code fact ≡ true → list_any (λ cell. covers dims cell fact) reweighed ≡ true
  covers-reweighed fact named code anew here =
      let at = parts (code_of dims fact.region == code) (not (is_precise dims fact)) here in
      any-alike (λ cell. covers dims cell fact) (is_among (cells_of dims fact.region)) reweighed (λ cell. and-true (is_among (cells_of dims fact.region) cell) (not (is_precise dims fact)) at.1)
      ∙ (held-anew fact named code anew at.0).1

  module _ (codes : List ℕ) (hold : HoldChanged policy columns dims edit facts codes) where
    abbrev anew : List ℕ
    anew = spread_anew policy columns dims edit facts codes

    -- its id is handed out once, if at all
    once : (fact : Fact) → IsRegion dims fact.region → count_by (λ code. is_indexed_at dims code fact) anew ≤ count_by (λ cell. covers dims cell fact) reweighed
    once fact named = either (list_any (λ code. is_indexed_at dims code fact) anew) refl
      where
        within : (a b : Bool) → (if a && b then 1 else 0) ≤ (if a then 1 else 0)
        within true true = omega arith
        within true false = omega arith
        within false b = omega arith

        least : (b : Bool) → (if b then 1 else 0) ≤ 1
        least true = omega arith
        least false = omega arith

        either : (b : Bool) → list_any (λ code. is_indexed_at dims code fact) anew ≡ b → count_by (λ code. is_indexed_at dims code fact) anew ≤ count_by (λ cell. covers dims cell fact) reweighed
        either false none = omega (arith, none-counted (λ code. is_indexed_at dims code fact) anew none)
        either true some =
            let c = code_of dims fact.region in
            let few = sum_by-le-sum_by (λ (code : ℕ). if is_indexed_at dims code fact then 1 else 0) (λ code. if c == code then 1 else 0) anew (λ code. within (c == code) (not (is_precise dims fact))) in
            let one = once_among 0 anew (ascends-anew policy dims edit facts up columns codes hold) c in
            let covered = from-some (λ code. spreads_anew code ≡ true) (list_any (λ cell. covers dims cell fact) reweighed ≡ true) (λ code. is_indexed_at dims code fact) anew (filter_passes spreads_anew codes) some
            (λ code. covers-reweighed fact named code) in
            omega (arith, few, one, least (list_any (λ code. c == code) anew), some-counted (λ cell. covers dims cell fact) reweighed covered)

    -- each region that is spread anew has an imprecise fact
    has-one : (code : ℕ) → spreads_anew code ≡ true → 1 ≤ length (ids_with dims facts code)
    has-one code anew =
        omega (
          arith,
          length-map (filter (is_indexed_at dims code) facts) (λ (f : Fact). f.id),
          length-filter (is_indexed_at dims code) facts,
          either (find (has_code dims code) facts) refl (find-all (λ f. IsRegion dims f.region × (is_indexed_at dims code f ≡ true → 1 ≤ count_by (is_indexed_at dims code) facts)) (has_code dims code) facts each),
        )
      where
        each : All (λ f. IsRegion dims f.region × (is_indexed_at dims code f ≡ true → 1 ≤ count_by (is_indexed_at dims code) facts)) facts
        each k d within = (regions k d within, λ passes. some-counted (is_indexed_at dims code) facts (list_any_at (is_indexed_at dims code) facts k d within passes))

        both : (a b : Bool) → a ≡ true → b ≡ true → (a && b) ≡ true
        both a b is other = rw is other

        either : (found : Option Fact) → find (has_code dims code) facts ≡ found → IfSome found (λ f. (IsRegion dims f.region × (is_indexed_at dims code f ≡ true → 1 ≤ count_by (is_indexed_at dims code) facts)) × (has_code dims code f ≡ true))
            → 1 ≤ count_by (is_indexed_at dims code) facts
        either None none held = cc
        either (Some fact) is held =
            held.0.1 (both (has_code dims code fact) (not (is_precise dims fact)) held.1 (imprecise-anew fact held.0.0 code anew held.1))

    held-some : (some : List ℕ) → All (λ code. spreads_anew code ≡ true) some → length some ≤ id_count_at dims facts some
    held-some [] each = omega arith
    held-some (code ∷ some) each =
        omega (
          arith,
          sum_by-cons (λ code. length (ids_with dims facts code)) code some,
          has-one code (All-head (λ code. spreads_anew code ≡ true) code some each),
          held-some some (All-tail (λ code. spreads_anew code ≡ true) code some each),
        )

    counted : (some : List ℕ) → id_count_at dims facts some ≡ sum_by (λ code. count_by (is_indexed_at dims code) facts) some
    counted [] = refl
    counted (code ∷ some) =
        omega (
          arith,
          sum_by-cons (λ code. length (ids_with dims facts code)) code some,
          sum_by-cons (λ code. count_by (is_indexed_at dims code) facts) code some,
          length-map (filter (is_indexed_at dims code) facts) (λ (f : Fact). f.id),
          length-filter (is_indexed_at dims code) facts,
          counted some,
        )

    pub handed-out : id_count_at dims facts anew ≤ covering_pairs policy dims edit facts
    handed-out =
        omega (
          arith,
          counted anew,
          sums-le (λ code fact. is_indexed_at dims code fact) (λ cell fact. covers dims cell fact) anew reweighed facts (λ k d within. once (get_or facts k d) (regions k d within)),
          sum-reweighed policy dims edit facts (λ cell. count_by (covers dims cell) facts),
        )

    -- and so are these regions
    pub few-anew : length anew ≤ covering_pairs policy dims edit facts
    few-anew = omega (arith, held-some anew (filter_passes spreads_anew codes), handed-out)
