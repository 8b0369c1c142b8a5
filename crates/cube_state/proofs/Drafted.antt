-- What is made of some of the codes when an edit's groups are made anew.
use Rattle.std.proofs.Common.{◌≡◌, ℕ, ◌+◌, ◌*◌, ◌<◌, ◌≤◌, Bool, List, [], ◌∷◌, ◌++◌, length, take, get_or, map, refl, ap, sym, ◌∙◌, subst, arith}
use Rattle.std.specs.Prelude.{All, filter, not, ◌==◌, ◌||◌, Option}
use Rattle.std.specs.List.{sum_by}
use Rattle.std.proofs.lemmas.List.{map-append, take_all, take_more}
use Rattle.std.proofs.lemmas.List.Elements.{filter-append}
use Rattle.std.proofs.lemmas.List.Sums.{count_by-le-length, length-filter, sum_by-append, sum_by-take-le, sum_by_push}
use Rattle.cube_model.specs.declared.edit.Edit.{Edit}
use Rattle.cube_model.specs.declared.edit.Fact.{Fact}
use Rattle.cube_model.specs.Allocation.{Policy, extended, row_count}
use Rattle.cube_model.specs.Facts.{after, withdraw}
use Rattle.cube_model.specs.Limits.{MAX_CELLS, MAX_FACTS, MAX_ROWS}
use Rattle.cube_model.specs.Tree.{Dimension}
use Rattle.cube_model.proofs.Ascending.{ascends_later}
use Rattle.staged_map.specs.Staged.{Entries}
use Rattle.region_algebra.specs.Space.{IsRegion}
use Rattle.fact_groups.specs.Edits.{edited_id}
use Rattle.fact_groups.specs.Groups.{Group, facts_with, group_at}
use Rattle.fact_groups.proofs.Differing.{rows-differ}
use Rattle.fact_groups.proofs.Filters.{sum_by-filter-le}
use Rattle.fact_groups.proofs.Groups.{sum_by-filter_map}
use Rattle.fact_records.specs.Shape.{ShapeValue, width_of_all}
use Rattle.cube_state.specs.GroupAfter.{group_row_count}
use Rattle.cube_state.specs.Regrouped.{HoldChanged, group_is_respread, groups_after, is_edited_at, other_count, spread_anew}
use Rattle.fact_indexes.proofs.ValidFacts.{few-rows, valid-regions}
use Rattle.cube_state.proofs.OneGroup.{IsMove, valid-later}
use Rattle.cube_state.proofs.RowBounds.{facts-le, rows-le, rows_at-le}

-- the rows of the groups of some codes
abbrev pub rows_over : Policy → ℕ → List Dimension → List Fact → List ℕ → ℕ
rows_over policy columns dims facts codes = sum_by (λ code. group_row_count (group_at policy columns dims facts code)) codes

-- the groups, the codes, the number of other facts and those of rows are those of the codes so far
pub record IsDraft (policy : Policy) (columns : ℕ) (dims : List Dimension) (edit : Edit) (facts : List Fact) (done : List ℕ) (groups : Entries Group) (anew : List ℕ) (others before now : ℕ) : Type 0 where
  pub before_is : before ≡ rows_over policy columns dims facts done
  pub now_is : now ≡ rows_over policy columns dims (after edit facts) done
  pub anew_is : anew ≡ spread_anew policy columns dims edit facts done
  pub others_are : others ≡ other_count dims edit facts anew
  pub groups_are : now ≤ MAX_ROWS → groups ≡ groups_after policy columns dims edit facts done

-- the groups of codes, and of some more
groups_after-append : (policy : Policy) (columns : ℕ) (dims : List Dimension) (edit : Edit) (facts : List Fact) (xs ys : List ℕ)
    → groups_after policy columns dims edit facts (xs ++ ys) ≡ groups_after policy columns dims edit facts xs ++ groups_after policy columns dims edit facts ys
groups_after-append policy columns dims edit facts xs ys =
    let here : ℕ → ℕ × Option Group = λ code. (code, group_at policy columns dims (after edit facts) code) in
    let changed : ℕ → Bool = λ code. is_edited_at dims edit facts code || group_is_respread (group_at policy columns dims facts code) (group_at policy columns dims (after edit facts) code) in
    ap (map here) (filter-append changed xs ys) ∙ map-append here (filter changed xs) (filter changed ys)

spread_anew-append : (policy : Policy) (columns : ℕ) (dims : List Dimension) (edit : Edit) (facts : List Fact) (xs ys : List ℕ)
    → spread_anew policy columns dims edit facts (xs ++ ys) ≡ spread_anew policy columns dims edit facts xs ++ spread_anew policy columns dims edit facts ys
spread_anew-append policy columns dims edit facts xs ys = filter-append (λ code. group_is_respread (group_at policy columns dims facts code) (group_at policy columns dims (after edit facts) code)) xs ys

-- nothing is made of no code
pub drafted-none : (policy : Policy) (columns : ℕ) (dims : List Dimension) (edit : Edit) (facts : List Fact) (codes : List ℕ) (groups : Entries Group) (anew : List ℕ) → groups ≡ [] → anew ≡ []
    → IsDraft policy columns dims edit facts (take 0 codes) groups anew 0 0 0
drafted-none policy columns dims edit facts codes groups anew no_groups no_codes = record {
  before_is = refl;
  now_is = refl;
  anew_is = no_codes;
  others_are = sym (ap (other_count dims edit facts) no_codes);
  groups_are = λ few. no_groups;
}

-- one code more
pub drafted-next : (policy : Policy) (columns : ℕ) (dims : List Dimension) (edit : Edit) (facts : List Fact) (codes : List ℕ) (i code : ℕ) (groups more_groups : Entries Group) (anew more_anew : List ℕ) (others more_others before more_before now more_now : ℕ)
    → i < length codes → code ≡ get_or codes i code → IsDraft policy columns dims edit facts (take i codes) groups anew others before now
    → more_before ≡ before + group_row_count (group_at policy columns dims facts code) → more_now ≡ now + group_row_count (group_at policy columns dims (after edit facts) code)
    → more_anew ≡ anew ++ spread_anew policy columns dims edit facts (code ∷ []) → more_others ≡ others + other_count dims edit facts (spread_anew policy columns dims edit facts (code ∷ [])) → (more_now ≤ MAX_ROWS → more_groups ≡ groups ++ groups_after policy columns dims edit facts (code ∷ []))
    → IsDraft policy columns dims edit facts (take (i + 1) codes) more_groups more_anew more_others more_before more_now
drafted-next policy columns dims edit facts codes i code groups more_groups anew more_anew others more_others before more_before now more_now within at so_far one_before one_now one_anew one_others one_groups =
    let some = take i codes in
    let more : take (i + 1) codes ≡ some ++ code ∷ [] = take_more codes i code within ∙ ap (λ c. some ++ c ∷ []) (sym at) in
    subst (λ done. IsDraft policy columns dims edit facts done more_groups more_anew more_others more_before more_now) (sym more) (record {
      before_is = omega (arith, one_before, so_far.before_is, sum_by_push (λ c. group_row_count (group_at policy columns dims facts c)) some code);
      now_is = omega (arith, one_now, so_far.now_is, sum_by_push (λ c. group_row_count (group_at policy columns dims (after edit facts) c)) some code);
      anew_is = one_anew ∙ ap (λ cs. cs ++ spread_anew policy columns dims edit facts (code ∷ [])) so_far.anew_is ∙ sym (spread_anew-append policy columns dims edit facts some (code ∷ []));
      others_are =
          omega (
            arith,
            one_others,
            so_far.others_are,
            ap (other_count dims edit facts) one_anew,
            sum_by-append (λ c. length (facts_with dims c (withdraw (edited_id edit) facts))) anew (spread_anew policy columns dims edit facts (code ∷ [])),
          );
      groups_are = λ few.
          one_groups few ∙ ap (λ gs. gs ++ groups_after policy columns dims edit facts (code ∷ [])) (so_far.groups_are (omega (arith, few, one_now))) ∙ sym (groups_after-append policy columns dims edit facts some (code ∷ []));
    })

-- all codes
pub drafted-all : (policy : Policy) (columns : ℕ) (dims : List Dimension) (edit : Edit) (facts : List Fact) (codes : List ℕ) (i : ℕ) (groups : Entries Group) (anew : List ℕ) (others before now : ℕ)
    → length codes ≤ i → IsDraft policy columns dims edit facts (take i codes) groups anew others before now → IsDraft policy columns dims edit facts codes groups anew others before now
drafted-all policy columns dims edit facts codes i groups anew others before now past so_far = subst (λ done. IsDraft policy columns dims edit facts done groups anew others before now) (take_all i codes past) so_far

module _ (policy : Policy) (shape : ShapeValue) (dims : List Dimension) (edit : Edit) (facts : List Fact) (move : IsMove shape dims edit facts) where
  abbrev columns : ℕ
  columns = width_of_all shape.measures

  abbrev later : List Fact
  later = after edit facts

  regions : All (λ f. IsRegion dims f.region) facts
  regions = valid-regions shape dims facts move.valid

  regions_later : All (λ f. IsRegion dims f.region) later
  regions_later = valid-regions shape dims later (valid-later shape dims edit facts move)

  -- the rows of one group are few
  pub rows-before-le : (code : ℕ) → group_row_count (group_at policy columns dims facts code) ≤ row_count (extended policy dims facts)
  rows-before-le code = rows_at-le policy columns dims facts move.trees regions code

  pub rows-later-le : (code : ℕ) → group_row_count (group_at policy columns dims later code) ≤ MAX_FACTS * MAX_CELLS
  rows-later-le code = omega (arith, rows_at-le policy columns dims later move.trees regions_later code, few-rows policy shape dims later (valid-later shape dims edit facts move))

  -- and so are those of all
  pub rows-later-few : row_count (extended policy dims later) ≤ MAX_FACTS * MAX_CELLS
  rows-later-few = few-rows policy shape dims later (valid-later shape dims edit facts move)

  module _ (codes : List ℕ) (hold : HoldChanged policy columns dims edit facts codes) where
    -- so are those of some
    pub drafted-few : (i : ℕ) (groups : Entries Group) (anew : List ℕ) (others before now : ℕ) → IsDraft policy columns dims edit facts (take i codes) groups anew others before now
        → (before ≤ row_count (extended policy dims facts)) × (now ≤ row_count (extended policy dims later))
    drafted-few i groups anew others before now so_far = (
      omega (arith, so_far.before_is, sum_by-take-le (λ c. group_row_count (group_at policy columns dims facts c)) codes i, rows-le policy columns dims facts move.trees regions codes hold.ascending),
      omega (arith, so_far.now_is, sum_by-take-le (λ c. group_row_count (group_at policy columns dims later c)) codes i, rows-le policy columns dims later move.trees regions_later codes hold.ascending),
    )

    -- and so are the other facts
    pub drafted-others : (i : ℕ) (groups : Entries Group) (anew : List ℕ) (others before now : ℕ) → IsDraft policy columns dims edit facts (take i codes) groups anew others before now → others ≤ MAX_FACTS
    drafted-others i groups anew others before now so_far =
        let left = withdraw (edited_id edit) facts in
        let at : ℕ → ℕ = λ code. length (facts_with dims code left) in
        let respread : ℕ → Bool = λ code. group_is_respread (group_at policy columns dims facts code) (group_at policy columns dims later code) in
        omega (
          arith,
          so_far.others_are,
          ap (other_count dims edit facts) so_far.anew_is,
          sum_by-filter-le respread at (take i codes),
          sum_by-take-le at codes i,
          facts-le dims left codes hold.ascending,
          length-filter (λ f. not (f.id == edited_id edit)) facts,
          count_by-le-length (λ f. not (f.id == edited_id edit)) facts,
          move.valid.few,
        )

    -- the numbers of rows differ by those of the groups
    pub drafted-rows : (groups : Entries Group) (anew : List ℕ) (others before now : ℕ) → IsDraft policy columns dims edit facts codes groups anew others before now
        → row_count (extended policy dims later) + before ≡ row_count (extended policy dims facts) + now
    drafted-rows groups anew others before now done =
        omega (
          arith,
          done.before_is,
          done.now_is,
          sum_by-filter_map (λ (g : Group). g.count * length g.spread.rows) (group_at policy columns dims facts) codes,
          sum_by-filter_map (λ (g : Group). g.count * length g.spread.rows) (group_at policy columns dims later) codes,
          rows-differ policy columns dims facts later codes move.trees regions regions_later (λ k within. ascends_later (λ (x : ℕ). x) 0 codes hold.ascending k (k + 1) 0 0 (omega arith) within) hold.others,
        )
