-- The ids that an edit refreshes, each with the code of its fact's region, are those of the regions that are spread anew, but for the
-- id of the edit, and that one where its fact is new or lies otherwise.
use Rattle.std.proofs.Common.{◌≡◌, ℕ, ◌+◌, ◌<◌, ◌≤◌, Bool, true, false, List, [], ◌++◌, length, map, refl, ap, sym, ◌∙◌, arith}
use Rattle.std.specs.Prelude.{All, AllPairs, IfSome, Option, Some, None, find, ◌==◌, if◌then◌else◌}
use Rattle.std.specs.List.{count_by}
use Rattle.std.specs.List.Sorted.{IsNonDecreasingBy, IsPermutation}
use Rattle.std.specs.Option.{option_and_then, option_map, option_map_or, option_to_list}
use Rattle.std.proofs.lemmas.Bool.Decides.{nat_tests}
use Rattle.std.proofs.lemmas.List.{length-append, length-map}
use Rattle.std.proofs.lemmas.List.Elements.{All-append, All-cons, All-nil}
use Rattle.std.proofs.lemmas.List.Sorted.{All-permutation, list_any-IsPermutation, sum_by-IsPermutation}
use Rattle.cube_model.specs.declared.edit.Edit.{Edit}
use Rattle.cube_model.specs.declared.edit.Edit.TheVariants.{Put, Change, Withdraw}
use Rattle.cube_model.specs.declared.edit.Fact.{Fact}
use Rattle.cube_model.specs.Allocation.{Policy}
use Rattle.cube_model.specs.Cells.{is_among}
use Rattle.cube_model.specs.Difference.{refreshed}
use Rattle.cube_model.specs.Facts.{after}
use Rattle.cube_model.specs.Tree.{Dimension, IsTree}
use Rattle.cube_model.proofs.Ascending.{ascends_filter, ascends_map, same_members}
use Rattle.region_algebra.specs.Space.{IsRegion, code_of}
use Rattle.region_index.specs.Content.{AreAscending}
use Rattle.fact_groups.specs.Edits.{edited_id, given}
use Rattle.fact_groups.specs.Groups.{group_at}
use Rattle.fact_groups.specs.Refreshed.{imprecise_ids, is_new_or_moved}
use Rattle.fact_groups.proofs.Edits.{find-after}
use Rattle.fact_groups.proofs.Groups.{sum_by-map}
use Rattle.fact_groups.proofs.Refreshing.{ascends-refreshed}
use Rattle.fact_groups.proofs.Respreading.{among-respread}
use Rattle.edit_plan.specs.Refreshing.{AreOfFacts, others_at, own_pair}
use Rattle.cube_state.specs.Regrouped.{HoldChanged, group_is_respread, spread_anew}
use Rattle.edit_plan.proofs.ByKeys.{ascends-sorted}
use Rattle.edit_plan.proofs.Counted.{as-many}
use Rattle.edit_plan.proofs.OtherPairs.{All-others, among-all, any-map, once-all}

-- the fact that an edit gives has the edit's id
pub given-has : (edit : Edit) (fact : Fact) → given edit ≡ Some fact → fact.id ≡ edited_id edit
given-has (Put f) fact is = let its : f ≡ fact = cc in ap (λ (g : Fact). g.id) (sym its)
given-has (Change f) fact is = let its : f ≡ fact = cc in ap (λ (g : Fact). g.id) (sym its)
given-has (Withdraw id) fact is = cc

-- and is the one of that id afterwards
pub given-found : (edit : Edit) (facts : List Fact) → find (λ f. f.id == edited_id edit) (after edit facts) ≡ given edit
given-found edit facts =
    let its_own : (edited_id edit == edited_id edit) ≡ true = grind (arith, nat_tests) in
    find-after edit facts (edited_id edit) ∙ ap (λ (b : Bool). if b then given edit else find (λ f. f.id == edited_id edit) facts) its_own

module _ (policy : Policy) (dims : List Dimension) (edit : Edit) (facts : List Fact) where
  abbrev pair_if : Bool → Fact → Option (ℕ × ℕ)
  pair_if moved fact = if moved then Some (fact.id, code_of dims fact.region) else None

  own-has : IfSome (own_pair policy dims edit facts) (λ pair. pair.0 ≡ edited_id edit)
  own-has = either (given edit) refl
    where
      one : (moved : Bool) (fact : Fact) → fact.id ≡ edited_id edit → IfSome (pair_if moved fact) (λ pair. pair.0 ≡ edited_id edit)
      one true fact its = its
      one false fact its = tt

      either : (gave : Option Fact) → given edit ≡ gave → IfSome (option_and_then (λ f. pair_if (is_new_or_moved policy dims edit facts f) f) gave) (λ pair. pair.0 ≡ edited_id edit)
      either None is = tt
      either (Some fact) is = one (is_new_or_moved policy dims edit facts fact) fact (given-has edit fact is)

  own-there : option_map_or (λ pair. true) (own_pair policy dims edit facts) false ≡ option_map_or (is_new_or_moved policy dims edit facts) (given edit) false
  own-there = either (given edit)
    where
      one : (moved : Bool) (fact : Fact) → option_map_or (λ pair. true) (pair_if moved fact) false ≡ moved
      one true fact = refl
      one false fact = refl

      either : (gave : Option Fact) → option_map_or (λ pair. true) (option_and_then (λ f. pair_if (is_new_or_moved policy dims edit facts f) f) gave) false ≡ option_map_or (is_new_or_moved policy dims edit facts) gave false
      either None = refl
      either (Some fact) = one (is_new_or_moved policy dims edit facts fact) fact

  abbrev later : List Fact
  later = after edit facts

  abbrev IsOfFact : ℕ × ℕ → Type 0
  IsOfFact pair = option_map (λ f. code_of dims f.region) (find (λ f. f.id == pair.0) later) ≡ Some pair.1

  own-at : All IsOfFact (option_to_list (own_pair policy dims edit facts))
  own-at = either (given edit) refl
    where
      one : (moved : Bool) (fact : Fact) → given edit ≡ Some fact → All IsOfFact (option_to_list (pair_if moved fact))
      one true fact is =
          let found : find (λ f. f.id == fact.id) later ≡ Some fact = ap (λ id. find (λ f. f.id == id) later) (given-has edit fact is) ∙ given-found edit facts ∙ is in
          All-cons IsOfFact (fact.id, code_of dims fact.region) [] (ap (option_map (λ (f : Fact). code_of dims f.region)) found) (All-nil IsOfFact)
      one false fact is = All-nil IsOfFact

      either : (gave : Option Fact) → given edit ≡ gave → All IsOfFact (option_to_list (option_and_then (λ f. pair_if (is_new_or_moved policy dims edit facts f) f) gave))
      either None is = All-nil IsOfFact
      either (Some fact) is = one (is_new_or_moved policy dims edit facts fact) fact is

  module _ (up : AllPairs (λ f g. f.id < g.id) facts) (columns : ℕ) (codes : List ℕ) (hold : HoldChanged policy columns dims edit facts codes) where
    abbrev anew : List ℕ
    anew = spread_anew policy columns dims edit facts codes

    pub ascends-anew : AreAscending anew
    ascends-anew = ascends_filter (λ (code : ℕ). code) (λ code. group_is_respread (group_at policy columns dims facts code) (group_at policy columns dims later code)) 0 codes hold.ascending

    abbrev all : List (ℕ × ℕ)
    all = others_at dims facts (edited_id edit) anew ++ option_to_list (own_pair policy dims edit facts)

    module _ (sorted : List (ℕ × ℕ)) (same : IsPermutation all sorted) where
      -- each is of a fact of the code
      pub codes-sorted : AreOfFacts dims later sorted
      codes-sorted =
          All-permutation IsOfFact all sorted same
          (All-append IsOfFact (others_at dims facts (edited_id edit) anew) (option_to_list (own_pair policy dims edit facts)) (All-others dims facts up (edited_id edit) IsOfFact anew one) own-at)
        where
          one : (n : ℕ) (fact : Fact) → find (λ f. f.id == n) facts ≡ Some fact → (n == edited_id edit) ≡ false → IsOfFact (n, code_of dims fact.region)
          one n fact found other =
              let turned : (edited_id edit == n) ≡ false = grind (arith, nat_tests, other) in
              ap (option_map (λ (f : Fact). code_of dims f.region)) (find-after edit facts n ∙ ap (λ (b : Bool). if b then given edit else find (λ f. f.id == n) facts) turned ∙ found)

      -- and the ids are those that are refreshed
      pub ids-sorted : All IsTree dims → All (λ f. IsRegion dims f.region) facts → All (λ f. IsRegion dims f.region) later → IsNonDecreasingBy (λ pair. pair.0) sorted
          → map (λ pair. pair.0) sorted ≡ refreshed policy dims facts later
      ids-sorted trees regions later_regions rises =
          same_members 0 0 (map (λ (pair : ℕ × ℕ). pair.0) sorted) (refreshed policy dims facts later)
          (ascends_map (λ (n : ℕ). n) (λ (pair : ℕ × ℕ). pair.0) 0 sorted ∙ ascends-sorted (λ (pair : ℕ × ℕ). pair.0) 0 sorted rises (λ k d within. omega arith) once)
          (ascends-refreshed policy dims edit facts up 0 (λ k d within. omega arith))
          members
        where
          once : (n : ℕ) → count_by (λ pair. n == pair.0) sorted ≤ 1
          once n = omega (arith, sum_by-IsPermutation (λ (pair : ℕ × ℕ). if n == pair.0 then 1 else 0) all sorted same, once-all dims facts up (edited_id edit) anew ascends-anew (own_pair policy dims edit facts) own-has n)

          members : (n : ℕ) → is_among (map (λ pair. pair.0) sorted) n ≡ is_among (refreshed policy dims facts later) n
          members n =
              any-map (λ (m : ℕ). m == n) (λ (pair : ℕ × ℕ). pair.0) sorted
              ∙ sym (list_any-IsPermutation (λ (pair : ℕ × ℕ). pair.0 == n) all sorted same)
              ∙ sym (any-map (λ (m : ℕ). m == n) (λ (pair : ℕ × ℕ). pair.0) all)
              ∙ among-all dims facts up (edited_id edit) n anew (own_pair policy dims edit facts) own-has
              ∙ ap (λ b. if edited_id edit == n then b else is_among (imprecise_ids dims facts anew) n) own-there
              ∙ sym (among-respread policy dims edit facts up columns codes trees regions later_regions hold.others n)

    -- so they are as many
    pub refreshed-counted : All IsTree dims → All (λ f. IsRegion dims f.region) facts → All (λ f. IsRegion dims f.region) later
        → length (others_at dims facts (edited_id edit) anew) + option_map_or (λ pair. 1) (own_pair policy dims edit facts) 0 ≡ length (refreshed policy dims facts later)
    refreshed-counted trees regions later_regions =
        omega (
          arith,
          length-append (others_at dims facts (edited_id edit) anew) (option_to_list (own_pair policy dims edit facts)),
          one (own_pair policy dims edit facts),
          length-map all (λ (pair : ℕ × ℕ). pair.0),
          as-many (map (λ (pair : ℕ × ℕ). pair.0) all) (refreshed policy dims facts later) (ascends-refreshed policy dims edit facts up 0 (λ k d within. omega arith)) once members,
        )
      where
        one : (own : Option (ℕ × ℕ)) → length (option_to_list own) ≡ option_map_or (λ pair. 1) own 0
        one None = refl
        one (Some pair) = refl

        once : (n : ℕ) → count_by (λ m. n == m) (map (λ (pair : ℕ × ℕ). pair.0) all) ≤ 1
        once n = omega (arith, sum_by-map (λ (m : ℕ). if n == m then 1 else 0) (λ (pair : ℕ × ℕ). pair.0) all, once-all dims facts up (edited_id edit) anew ascends-anew (own_pair policy dims edit facts) own-has n)

        members : (n : ℕ) → is_among (map (λ pair. pair.0) all) n ≡ is_among (refreshed policy dims facts later) n
        members n =
            among-all dims facts up (edited_id edit) n anew (own_pair policy dims edit facts) own-has
            ∙ ap (λ b. if edited_id edit == n then b else is_among (imprecise_ids dims facts anew) n) own-there
            ∙ sym (among-respread policy dims edit facts up columns codes trees regions later_regions hold.others n)
