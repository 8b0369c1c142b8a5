-- What shares of groups add up to is the answer of a state's facts.
use Rattle.std.proofs.Common.{◌≡◌, ℕ, ◌+◌, ◌*◌, ◌<◌, ◌≤◌, true, List, [], ◌∷◌, eqb, map, refl, ap, sym, ◌∙◌, subst, arith, ℤ, pos}
use Rattle.std.specs.Prelude.{All, IfOk, Option, Result, Ok, Err}
use Rattle.std.specs.List.{IsDistinct, cons_option, filter_map, range_with_len, sum_by}
use Rattle.std.specs.Map.{keys_of}
use Rattle.std.proofs.lemmas.List.FromFn.{get_or-map-range_with_len, length-map-range_with_len}
use Rattle.cube_model.specs.declared.edit.Fact.{Fact}
use Rattle.cube_model.specs.declared.statistic.CellStat.{CellStat}
use Rattle.cube_model.specs.declared.term.Term.{Term}
use Rattle.cube_model.specs.Allocation.{ExtendedFact, Policy}
use Rattle.cube_model.specs.Answer.{answer, bound_of, count_at, count_of, numerator_of, sum_at, weight_inside}
use Rattle.cube_model.specs.Cells.{cells_of}
use Rattle.cube_model.specs.Limits.{MAX_FACTS, MAX_VALUE}
use Rattle.cube_model.specs.Tree.{Dimension, IsTree}
use Rattle.cell_weight.specs.Stats.{IsStat}
use Rattle.fact_groups.specs.Groups.{AreGrouped, Group, group_at, groups_at}
use Rattle.fact_groups.proofs.Groups.{count-grouped, sum-grouped}
use Rattle.fact_records.specs.Shape.{IsShape, width_of_all}
use Rattle.group_sum.specs.declared.shares.Share.{Share}
use Rattle.group_sum.specs.Shares.{AddUpTo, IsShare, SharesFit}
use Rattle.group_sum.specs.Terms.{AreTerms, TermList, are_terms_from}
use Rattle.group_sum.proofs.Determined.{terms_determined}
use Rattle.region_algebra.specs.Space.{IsRegion}
use Rattle.region_index.specs.Touching.{codes_touching}
use Rattle.staged_map.specs.Staged.{Places, held, value_at}
use Rattle.view_store.proofs.Shares.{over-beyond}
use Rattle.cube_state.specs.Answering.{groups_found, groups_held, shares_of}
use Rattle.fact_indexes.specs.Kept.{IsState}
use Rattle.cube_state.specs.State.{StateValue, policy_in, rows_in, terms_in}
use Rattle.cube_state.proofs.GroupShares.{products-are, shares-are, shares-fit, units-are}
use Rattle.fact_indexes.proofs.HeldGroups.{grouped-held, groups-held}
use Rattle.fact_indexes.proofs.ValidFacts.{valid-regions}
use Rattle.fact_indexes.proofs.Modest.{IsModest, members}
use Rattle.fact_indexes.proofs.SmallGroups.{groups-modest}
use Rattle.fact_indexes.proofs.SplitGroups.{members-grouped}
use Rattle.cube_state.proofs.TouchingShares.{all_codes, grouped-all, shares-all}

-- terms with the numerators of facts are their answer
answer-told : (columns : ℕ) (dims : List Dimension) (rows : List ExtendedFact) (region : List ℕ) (list : TermList) → list.columns ≡ columns + 1 → AreTerms list → ((d : ℕ) → count_of list.terms d ≡ count_at (cells_of dims region) rows d)
    → ((d k : ℕ) → k < columns → numerator_of list.terms d (k + 1) ≡ sum_at (cells_of dims region) rows k d) → list ≡ record { columns = columns + 1; terms = answer columns dims rows region }
unfolding answer
answer-told columns dims rows region list wide are counts numerators =
    let cells = cells_of dims region in
    let sums : ℕ → List ℤ = λ den. map (λ column. sum_at cells rows column den) (range_with_len 0 columns) in
    let terms : are_terms_from (columns + 1) 1 list.terms ≡ true = ap (λ n. are_terms_from n 1 list.terms) (sym wide) ∙ are.terms in
    same list wide (terms_determined (columns + 1) list.terms (count_at cells rows) sums (bound_of rows) terms counts
    (λ d. omega (arith, length-map-range_with_len (λ column. sum_at cells rows column d) 0 columns))
    (λ d k lt. numerators d k (omega (arith, lt)) ∙ sym (get_or-map-range_with_len (λ column. sum_at cells rows column d) 0 columns k k (pos 0) (omega (arith, lt)) (omega arith)))
    (λ d le. ap (sum_by (λ (e : ExtendedFact). weight_inside cells e.allocation)) (over-beyond rows d le)))
  where
    same : (list : TermList) {terms : List Term} → list.columns ≡ columns + 1 → list.terms ≡ terms → list ≡ record { columns = columns + 1; terms = terms }
    same list wide terms = rw (← wide, ← terms) refl

-- shares at codes that are told
pub shares-coded : (cells : List ℕ) (places : Places Group) (codes touching : List ℕ) {shares : List Share} → codes ≡ touching → shares ≡ shares_of cells (groups_found places codes) → shares ≡ shares_of cells (groups_found places touching)
shares-coded cells places codes touching told are = are ∙ ap (λ (cs : List ℕ). shares_of cells (groups_found places cs)) told

-- These are the shares in a region of the groups of facts, which all facts are in.
pub record AreSharesOf (policy : Policy) (columns : ℕ) (dims : List Dimension) (facts : List Fact) (region : List ℕ) (shares : List Share) : Type 0 where
  pub codes : List ℕ
  pub grouped : AreGrouped dims facts codes
  pub are : shares ≡ shares_of (cells_of dims region) (groups_at policy columns dims facts codes)

-- what keys give, where two functions agree
filter_map-alike : {X Y : Type 0} (f g : X → Option Y) → ((x : X) → f x ≡ g x) → (xs : List X) → filter_map f xs ≡ filter_map g xs
filter_map-alike f g each [] = refl
filter_map-alike f g each (x ∷ xs) = ap (λ o. cons_option o (filter_map f xs)) (each x) ∙ ap (cons_option (g x)) (filter_map-alike f g each xs)

module _ {P : Type 0} (weigh : P → CellStat → ℕ) (state seen : StateValue P) (same : seen ≡ state) (kept : IsState (policy_in weigh seen) seen.shape seen.dims seen.cuts seen.facts seen.kept) where
  abbrev width : ℕ
  width = width_of_all seen.shape.measures

  -- such are those of all groups, and those of the groups of the regions that have a cell in common
  module _ (trees : All IsTree seen.dims) (distinct : IsDistinct eqb (keys_of seen.kept.groups)) (once : IsDistinct eqb (keys_of (held seen.kept.groups))) (region cells : List ℕ) (told : cells ≡ cells_of seen.dims region) where
    abbrev codes-held : List ℕ
    codes-held = keys_of (held seen.kept.groups)

    grouped : AreGrouped seen.dims seen.facts codes-held
    grouped = grouped-held (policy_in weigh seen) width seen.dims seen.facts seen.kept.groups kept.groups distinct once trees (valid-regions seen.shape seen.dims seen.facts kept.valid)

    pub shares-held : (shares : List Share) → shares ≡ shares_of cells (groups_held state.kept.groups) → AreSharesOf (policy_in weigh seen) width seen.dims seen.facts region shares
    shares-held shares are = record {
      codes = codes-held;
      grouped = grouped;
      are =
          are ∙ ap (λ (s : StateValue P). shares_of cells (groups_held s.kept.groups)) (sym same) ∙ ap (λ (cs : List ℕ). shares_of cs (groups_held seen.kept.groups)) told
          ∙ ap (shares_of (cells_of seen.dims region)) (sym (groups-held (policy_in weigh seen) width seen.dims seen.facts seen.kept.groups kept.groups distinct once));
    }

    pub shares-touching : (shares : List Share) → shares ≡ shares_of cells (groups_found state.kept.groups (codes_touching state.dims region)) → AreSharesOf (policy_in weigh seen) width seen.dims seen.facts region shares
    shares-touching shares are = record {
      codes = all_codes (policy_in weigh seen) width seen.dims seen.facts trees regions region codes-held grouped;
      grouped = grouped-all (policy_in weigh seen) width seen.dims seen.facts trees regions region codes-held grouped;
      are =
          are ∙ ap (λ (s : StateValue P). shares_of cells (groups_found s.kept.groups (codes_touching s.dims region))) (sym same)
          ∙ ap (λ (cs : List ℕ). shares_of cs (groups_found seen.kept.groups (codes_touching seen.dims region))) told
          ∙ ap (shares_of (cells_of seen.dims region)) (filter_map-alike (value_at seen.kept.groups) (group_at (policy_in weigh seen) width seen.dims seen.facts) kept.groups (codes_touching seen.dims region))
          ∙ sym (shares-all (policy_in weigh seen) width seen.dims seen.facts trees regions region codes-held grouped);
    }
      where
        regions : All (λ f. IsRegion seen.dims f.region) seen.facts
        regions = valid-regions seen.shape seen.dims seen.facts kept.valid

  module _ (bound : (s : CellStat) → IsStat s → weigh seen.policy s ≤ 1 + s.count * MAX_VALUE) (is : IsShape seen.shape) (region : List ℕ) (shares : List Share) (from : AreSharesOf (policy_in weigh seen) width seen.dims seen.facts region shares) where
    abbrev groups : List Group
    groups = groups_at (policy_in weigh seen) width seen.dims seen.facts from.codes

    modest : All (IsModest width) groups
    modest = groups-modest (weigh seen.policy) bound seen.shape seen.dims seen.facts is from.grouped.trees kept.valid from.codes

    few : members groups ≤ MAX_FACTS
    few = omega (arith, kept.valid.few, members-grouped (policy_in weigh seen) width seen.dims seen.facts from.codes from.grouped)

    held-are : All (IsShare (width + 1)) shares
    held-are = subst (All (IsShare (width + 1))) (sym from.are) (shares-are width (cells_of seen.dims region) groups modest few)

    held-fit : SharesFit (width + 1) shares
    held-fit = subst (SharesFit (width + 1)) (sym from.are) (shares-fit width (cells_of seen.dims region) groups modest few)

    answered-held : (list : TermList) → AddUpTo (width + 1) shares list → AreTerms list → list ≡ terms_in weigh state region
    answered-held list up are =
        let cells = cells_of seen.dims region in
        let adds : AddUpTo (width + 1) (shares_of cells groups) list = subst (λ (ss : List Share). AddUpTo (width + 1) ss list) from.are up in
        answer-told width seen.dims (rows_in weigh seen) region list adds.columns_are are
        (λ d. adds.counts d ∙ units-are cells d groups ∙ sym (count-grouped (policy_in weigh seen) width seen.dims seen.facts from.codes from.grouped cells d))
        (λ d k lt. adds.sums d k (omega (arith, lt)) ∙ products-are cells d k groups ∙ sym (sum-grouped (policy_in weigh seen) width seen.dims seen.facts from.codes from.grouped cells k d lt))
        ∙ ap (λ (s : StateValue P). terms_in weigh s region) same

    -- and so with a number of columns that is told
    wide-is : (columns : ℕ) → columns ≡ 1 + width → columns ≡ width + 1
    wide-is columns wide = omega (arith, wide)

    pub shown-are : (columns : ℕ) (shown : List Share) → columns ≡ 1 + width → shown ≡ shares → All (IsShare columns) shown
    shown-are columns shown wide are = subst (λ (n : ℕ). All (IsShare n) shown) (sym (wide-is columns wide)) (subst (All (IsShare (width + 1))) (sym are) held-are)

    pub shown-fit : (columns : ℕ) (shown : List Share) → columns ≡ 1 + width → shown ≡ shares → SharesFit columns shown
    shown-fit columns shown wide are = subst (λ (n : ℕ). SharesFit n shown) (sym (wide-is columns wide)) (subst (SharesFit (width + 1)) (sym are) held-fit)

    pub answered-ok : {E : Type 0} (columns : ℕ) (shown : List Share) (found : Result TermList E) → columns ≡ 1 + width → shown ≡ shares → IfOk found (AddUpTo columns shown) → IfOk found AreTerms
        → IfOk found (λ list. list ≡ terms_in weigh state region)
    answered-ok columns shown (Ok list) wide shows up are = answered-held list (subst (λ (n : ℕ). AddUpTo n shares list) (wide-is columns wide) (subst (λ (ss : List Share). AddUpTo columns ss list) shows up)) are
    answered-ok columns shown (Err e) wide shows up are = tt
