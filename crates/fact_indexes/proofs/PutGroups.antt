-- The groups of facts, put into views of no facts, make them views of these; and so do some of the groups, of their facts.
use Rattle.std.proofs.Common.{◌≡◌, ℕ, ◌+◌, ◌*◌, ◌≤◌, true, false, List, [], ◌∷◌, ◌++◌, length, append-nil, refl, ap, sym, ◌∙◌, subst, arith, pos, ◌+ℤ◌}
use Rattle.std.specs.Prelude.{All, is_some, ◌==◌, Option, Some, None}
use Rattle.std.specs.List.{cons_option, filter_map, flat_map, list_any}
use Rattle.std.proofs.lemmas.Bool.Decides.{nat_tests}
use Rattle.std.proofs.lemmas.Grind.{flat_map-append}
use Rattle.std.proofs.lemmas.Int.{ints}
use Rattle.std.proofs.lemmas.List.Concat.{flat_map-cons}
use Rattle.std.proofs.lemmas.List.Elements.{All-append, All-nil}
use Rattle.cube_model.specs.declared.edit.Fact.{Fact}
use Rattle.cube_model.specs.declared.statistic.CellStat.{CellStat}
use Rattle.cube_model.specs.Allocation.{ExtendedFact, Policy, extended}
use Rattle.cube_model.specs.Answer.{count_at, sum_at}
use Rattle.cube_model.specs.Ascending.{ascends_from}
use Rattle.cube_model.specs.Cells.{is_among}
use Rattle.cube_model.specs.Limits.{MAX_FACTS, MAX_VALUE}
use Rattle.cube_model.specs.Tree.{Dimension, IsTree}
use Rattle.region_algebra.specs.Space.{IsRegion}
use Rattle.staged_map.specs.Staged.{AreKeys, Places, value_at}
use Rattle.cell_weight.specs.Stats.{IsStat}
use Rattle.fact_groups.specs.Groups.{Group, HaveSameGroupsBut, count_in, group_facts, groups_at, sum_in}
use Rattle.fact_groups.proofs.AsFacts.{counts-follow, sums-follow}
use Rattle.fact_records.specs.Shape.{IsShape, ShapeValue, policy_over, width_of_all}
use Rattle.fact_records.specs.Valid.{AreValid}
use Rattle.view_store.specs.declared.change.ViewChange.{ViewChange}
use Rattle.view_store.specs.Changes.{FitsView, facts_put, facts_taken_away}
use Rattle.view_store.specs.Facts.{FollowBy, IsViewOfFacts}
use Rattle.view_store.specs.Views.{ViewMap, region_at}
use Rattle.fact_indexes.specs.Anew.{AreGroupsOf}
use Rattle.fact_indexes.specs.ViewChanges.{group_changes, puts_at}
use Rattle.fact_indexes.proofs.ChangeGroups.{each-of, facts_put-groups, facts_put-of, facts_taken_away-groups, facts_taken_away-of, group_of, groups_that, puts, takes_away}
use Rattle.fact_indexes.proofs.ChangedEntries.{IsPlaced, StandFor, fits-views}
use Rattle.fact_indexes.proofs.GroupRegions.{group-region}
use Rattle.fact_indexes.proofs.HeldGroups.{group-rows}
use Rattle.fact_indexes.proofs.Modest.{IsModest, members}
use Rattle.fact_indexes.proofs.SmallGroups.{group-modest, short-facts}
use Rattle.fact_indexes.proofs.SplitGroups.{members-split}
use Rattle.fact_indexes.proofs.ValidFacts.{valid-regions}

-- the group of one code more is put after the others
pub puts-more : (dims : List Dimension) (groups : Places Group) (codes : List ℕ) (code : ℕ) → puts_at dims groups (codes ++ code ∷ []) ≡ puts_at dims groups codes ++ group_changes true dims code (value_at groups code)
puts-more dims groups codes code =
    let f : ℕ → List ViewChange = λ c. group_changes true dims c (value_at groups c) in
    flat_map-append f codes (code ∷ []) ∙ ap (λ (more : List ViewChange). puts_at dims groups codes ++ more) (flat_map-cons f code [] ∙ append-nil (f code))

-- the groups at codes are put, and none is taken away
module _ (dims : List Dimension) (groups : Places Group) where
  put-all : (codes : List ℕ) → groups_that puts (puts_at dims groups codes) ≡ filter_map (value_at groups) codes
  put-all [] = refl
  put-all (code ∷ codes) = facts_put-of dims true code (value_at groups code) (puts_at dims groups codes) ∙ ap (cons_option (value_at groups code)) (put-all codes)

  facts_taken_away-none : (codes : List ℕ) → groups_that takes_away (puts_at dims groups codes) ≡ []
  facts_taken_away-none [] = refl
  facts_taken_away-none (code ∷ codes) = facts_taken_away-of dims true code (value_at groups code) (puts_at dims groups codes) ∙ facts_taken_away-none codes

  put-each : (P : List ℕ → Group → Type 0) → ((code : ℕ) (g : Group) → value_at groups code ≡ Some g → P (region_at dims code) g) → (codes : List ℕ) → All (λ change. P change.region (group_of change)) (puts_at dims groups codes)
  put-each P each [] = All-nil (λ change. P change.region (group_of change))
  put-each P each (code ∷ codes) =
      All-append (λ change. P change.region (group_of change)) (group_changes true dims code (value_at groups code)) (puts_at dims groups codes) (each-of dims P true code (value_at groups code) (each code)) (put-each P each codes)

-- what codes give, where others give the same
facts_put-alike : (f h : ℕ → Option Group) → ((code : ℕ) → f code ≡ h code) → (codes : List ℕ) → filter_map f codes ≡ filter_map h codes
facts_put-alike f h same [] = refl
facts_put-alike f h same (code ∷ codes) = ap (λ (o : Option Group). cons_option o (filter_map f codes)) (same code) ∙ ap (cons_option (h code)) (facts_put-alike f h same codes)

-- no facts have no groups
groups-none : (policy : Policy) (columns : ℕ) (dims : List Dimension) (codes : List ℕ) → groups_at policy columns dims [] codes ≡ []
groups-none policy columns dims [] = refl
groups-none policy columns dims (code ∷ codes) = groups-none policy columns dims codes

rows-none : (policy : Policy) (dims : List Dimension) → extended policy dims [] ≡ []
unfolding extended
rows-none policy dims = refl

among-turned : (xs : List ℕ) (c : ℕ) → list_any (λ x. c == x) xs ≡ is_among xs c
among-turned [] c = refl
among-turned (x ∷ xs) c = grind (arith, nat_tests, among-turned xs c)

not-there : (o : Option Group) → is_some o ≡ false → o ≡ None
not-there None is = refl
not-there (Some g) is = cc

-- no facts, less none and with some, are these
follow-alone : (rows : List ExtendedFact) → FollowBy [] [] rows rows
follow-alone rows = record {
  counts = λ cells d. let none : count_at cells [] d ≡ 0 = refl in omega (arith, none);
  sums = λ cells k d. let none : sum_at cells [] k d ≡ pos 0 = refl in omega (arith, ints, none);
}

module _ (weigh : CellStat → ℕ) (bound : (s : CellStat) → IsStat s → weigh s ≤ 1 + s.count * MAX_VALUE) (shape : ShapeValue) (dims : List Dimension) (facts : List Fact)
    (is : IsShape shape) (trees : All IsTree dims) (valid : AreValid shape dims facts)
    (groups : Places Group) (kept : AreGroupsOf (policy_over weigh shape) shape dims facts groups) (codes : List ℕ) (up : ascends_from (λ x. x) 0 codes ≡ true) where
  abbrev policy : Policy
  policy = policy_over weigh shape

  abbrev width : ℕ
  width = width_of_all shape.measures

  -- what is put
  abbrev all : List Group
  all = filter_map (value_at groups) codes

  abbrev changes : List ViewChange
  changes = puts_at dims groups codes

  all-are : all ≡ groups_at policy width dims facts codes
  all-are = facts_put-alike (value_at groups) _ kept codes

  regions : All (λ f. IsRegion dims f.region) facts
  regions = valid-regions shape dims facts valid

  facts_taken_away-nothing : facts_taken_away changes ≡ []
  facts_taken_away-nothing = facts_taken_away-groups changes ∙ ap (flat_map group_facts) (facts_taken_away-none dims groups codes)

  facts_put-are : facts_put changes ≡ flat_map group_facts (groups_at policy width dims facts codes)
  facts_put-are = facts_put-groups changes ∙ ap (flat_map group_facts) (put-all dims groups codes ∙ all-are)

  -- the facts of the groups are put
  pub follow-some : FollowBy [] (facts_taken_away changes) (facts_put changes) (flat_map group_facts (groups_at policy width dims facts codes))
  follow-some = rw (facts_taken_away-nothing, facts_put-are) (follow-alone (flat_map group_facts (groups_at policy width dims facts codes)))

  -- and they are few
  each-placed : All (λ change. IsPlaced dims width change.region (group_of change)) changes
  each-placed =
      put-each dims groups (IsPlaced dims width) (λ code g there.
      let its = sym (kept code) ∙ there in
      let lies = group-region policy width dims facts code g trees regions its in
      record { modest = group-modest weigh bound shape dims facts is trees valid code g its; cells = group-rows policy width dims facts code g its; named = lies.named; inside = lies.inside })
      codes

  few : members all ≤ MAX_FACTS
  few = omega (arith, ap members all-are, members-split policy width dims codes trees up facts regions, valid.few)

  stand-for : StandFor dims width [] changes []
  stand-for = record {
    each = each-placed;
    stay = All-nil (IsModest width);
    counts = λ cells d. subst (λ (gs : List Group). count_at cells [] d ≡ count_in cells gs d + count_in cells [] d) (sym (facts_taken_away-none dims groups codes)) refl;
    sums = λ cells k d lt. subst (λ (gs : List Group). sum_at cells [] k d ≡ sum_in cells gs k d +ℤ sum_in cells [] k d) (sym (facts_taken_away-none dims groups codes)) refl;
    few_before = subst (λ (gs : List Group). members gs + members [] ≤ MAX_FACTS) (sym (facts_taken_away-none dims groups codes)) (omega arith);
    few_after = subst (λ (gs : List Group). members gs + members [] ≤ MAX_FACTS) (sym (put-all dims groups codes)) (let nothing : members [] ≡ 0 = refl in omega (arith, few, nothing));
  }

  -- so no entry passes its limits
  pub fit-puts : (views : List ViewMap) → All (IsViewOfFacts dims []) views → All (λ view. view.columns ≡ width + 1) views → All (FitsView dims changes) views
  fit-puts = fits-views dims width [] changes [] stand-for

  -- Where these are the codes of all groups, all facts are put.
  module _ (keys : AreKeys groups codes) where
    -- elsewhere there is no group
    same : HaveSameGroupsBut codes policy width dims [] facts
    same code other =
        let none : is_some (value_at groups code) ≡ false = sym (keys.among code) ∙ among-turned codes code ∙ other in
        sym (kept code) ∙ not-there (value_at groups code) none

    -- so the facts are those of the groups
    follow-groups : FollowBy (extended policy dims []) (flat_map group_facts (groups_at policy width dims [] codes)) (flat_map group_facts (groups_at policy width dims facts codes)) (extended policy dims facts)
    follow-groups = record {
      counts = counts-follow policy width dims [] facts codes trees (All-nil (λ f. IsRegion dims f.region)) regions keys.ascending same;
      sums =
          sums-follow policy width dims [] facts codes trees (All-nil (λ f. IsRegion dims f.region)) regions keys.ascending same
          (All-nil (λ f. length f.cols ≤ width)) (short-facts weigh bound shape dims facts is trees valid);
    }

    facts_taken_away-are : facts_taken_away changes ≡ flat_map group_facts (groups_at policy width dims [] codes)
    facts_taken_away-are = facts_taken_away-nothing ∙ ap (flat_map group_facts) (sym (groups-none policy width dims codes))

    pub follow-puts : FollowBy [] (facts_taken_away changes) (facts_put changes) (extended policy dims facts)
    follow-puts = subst (λ (rows : List ExtendedFact). FollowBy rows (facts_taken_away changes) (facts_put changes) (extended policy dims facts)) (rows-none policy dims) (rw (facts_taken_away-are, facts_put-are) follow-groups)
