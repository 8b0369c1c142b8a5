-- What an edit changes in views of facts: with it they are those of the facts after, and each entry can be changed so.
use Rattle.std.proofs.Common.{◌≡◌, ℕ, ◌+◌, ◌*◌, ◌≤◌, true, List, [], ◌∷◌, ◌++◌, get_or, map, refl, ap, sym, ◌∙◌, subst, arith, ◌+ℤ◌}
use Rattle.std.specs.Prelude.{All, ◌==◌, ◌||◌, Option, length}
use Rattle.std.specs.List.{flat_map}
use Rattle.std.specs.List.Sorted.{IsStrictlyIncreasing}
use Rattle.std.proofs.lemmas.Bool.Decides.{nat_tests}
use Rattle.std.proofs.lemmas.List.Elements.{All-map, All-weaker}
use Rattle.cube_model.specs.declared.edit.Edit.{Edit}
use Rattle.cube_model.specs.declared.edit.Fact.{Fact}
use Rattle.cube_model.specs.declared.statistic.CellStat.{CellStat}
use Rattle.cube_model.specs.Allocation.{Policy, extended}
use Rattle.cube_model.specs.Ascending.{ascends_from}
use Rattle.cube_model.specs.Facts.{after}
use Rattle.cube_model.specs.Limits.{MAX_VALUE}
use Rattle.cube_model.specs.Tree.{Dimension, IsTree}
use Rattle.cube_model.proofs.Ascending.{ascends_filter, ascends_later}
use Rattle.region_algebra.specs.Space.{IsRegion}
use Rattle.staged_map.specs.Staged.{Entries, value_at}
use Rattle.cell_weight.specs.Stats.{IsStat}
use Rattle.fact_groups.specs.Groups.{Group, HaveSameGroupsBut, count_in, group_at, group_facts, groups_at, sum_in}
use Rattle.fact_groups.proofs.AsFacts.{counts-follow, sums-follow}
use Rattle.fact_records.specs.Shape.{IsShape, ShapeValue, policy_over, width_of_all}
use Rattle.fact_records.specs.Valid.{AreValid}
use Rattle.view_store.specs.declared.change.ViewChange.{ViewChange}
use Rattle.view_store.specs.Changes.{FitsView, FitsViews, facts_put, facts_taken_away}
use Rattle.view_store.specs.Facts.{FollowBy, IsViewOfFacts}
use Rattle.view_store.specs.Views.{ViewMap, ViewMaps}
use Rattle.cube_state.specs.declared.edit_moves.Moves.{Moves}
use Rattle.cube_state.specs.declared.changed_groups.Regrouped.{Regrouped}
use Rattle.cube_state.specs.Moves.{AreMoves}
use Rattle.cube_state.specs.Regrouped.{IsRegrouped}
use Rattle.cube_state.specs.Regrouped.{HoldChanged, group_is_respread, is_edited_at, regrouped}
use Rattle.fact_indexes.specs.Kept.{IsState}
use Rattle.cube_state.specs.State.{StateValue, policy_in, rows_after, rows_in}
use Rattle.fact_indexes.specs.ViewChanges.{AreOfRegions, IsOfRegion}
use Rattle.cube_state.specs.ViewChanges.{SufficeFor, EntriesAreOfRegions, all_changes, changes_at, changes_by}
use Rattle.fact_indexes.proofs.ChangedEntries.{IsPlaced, StandFor, fits-views}
use Rattle.fact_indexes.proofs.ChangeGroups.{facts_put-groups, facts_taken_away-groups}
use Rattle.cube_state.proofs.CodeChanges.{changes_with, each-with, given-with, taken-with}
use Rattle.cube_state.proofs.GroupSeen.{move-seen}
use Rattle.fact_indexes.proofs.GroupRegions.{group-of_region, group-region, of-regions}
use Rattle.fact_indexes.proofs.HeldGroups.{group-rows}
use Rattle.cube_state.proofs.LeftOut.{groups-left_out}
use Rattle.fact_indexes.proofs.ValidFacts.{valid-regions}
use Rattle.fact_indexes.proofs.Modest.{members}
use Rattle.cube_state.proofs.OneGroup.{IsMove, valid-later}
use Rattle.fact_indexes.proofs.SmallGroups.{group-modest, groups-modest, short-facts}
use Rattle.fact_indexes.proofs.SplitGroups.{counts-split, members-split, others-same, others_of, sums-split}

module _ (weigh : CellStat → ℕ) (bound : (s : CellStat) → IsStat s → weigh s ≤ 1 + s.count * MAX_VALUE) (shape : ShapeValue) (dims : List Dimension) (edit : Edit) (facts : List Fact)
    (is : IsShape shape) (move : IsMove shape dims edit facts) (codes : List ℕ) (hold : HoldChanged (policy_over weigh shape) (width_of_all shape.measures) dims edit facts codes) where
  abbrev policy : Policy
  policy = policy_over weigh shape

  abbrev width : ℕ
  width = width_of_all shape.measures

  abbrev later : List Fact
  later = after edit facts

  abbrev before : ℕ → Option Group
  before = group_at policy width dims facts

  abbrev now : ℕ → Option Group
  now = group_at policy width dims later

  -- the codes at which groups change
  abbrev changed : List ℕ
  changed = regrouped policy width dims edit facts codes

  abbrev changes : List ViewChange
  changes = changes_with dims before now changed

  later-valid : AreValid shape dims later
  later-valid = valid-later shape dims edit facts move

  regions : All (λ f. IsRegion dims f.region) facts
  regions = valid-regions shape dims facts move.valid

  later-regions : All (λ f. IsRegion dims f.region) later
  later-regions = valid-regions shape dims later later-valid

  up : ascends_from (λ x. x) 0 changed ≡ true
  up = ascends_filter (λ (x : ℕ). x) (λ code. is_edited_at dims edit facts code || group_is_respread (before code) (now code)) 0 codes hold.ascending

  increasing : IsStrictlyIncreasing changed
  increasing k within = ascends_later (λ (x : ℕ). x) 0 changed up k (k + 1) 0 0 (omega arith) within

  same : HaveSameGroupsBut changed policy width dims facts later
  same = groups-left_out policy width dims edit facts move.valid.ascending codes hold

  -- the facts follow
  facts_taken_away-are : facts_taken_away changes ≡ flat_map group_facts (groups_at policy width dims facts changed)
  facts_taken_away-are = facts_taken_away-groups changes ∙ ap (flat_map group_facts) (taken-with dims before now changed)

  facts_put-are : facts_put changes ≡ flat_map group_facts (groups_at policy width dims later changed)
  facts_put-are = facts_put-groups changes ∙ ap (flat_map group_facts) (given-with dims before now changed)

  follow-groups : FollowBy (extended policy dims facts) (flat_map group_facts (groups_at policy width dims facts changed)) (flat_map group_facts (groups_at policy width dims later changed)) (extended policy dims later)
  follow-groups = record {
    counts = counts-follow policy width dims facts later changed move.trees regions later-regions increasing same;
    sums =
        sums-follow policy width dims facts later changed move.trees regions later-regions increasing same
        (short-facts weigh bound shape dims facts is move.trees move.valid) (short-facts weigh bound shape dims later is move.trees later-valid);
  }

  pub follow-changes : FollowBy (extended policy dims facts) (facts_taken_away changes) (facts_put changes) (extended policy dims later)
  follow-changes = rw (facts_taken_away-are, facts_put-are) follow-groups

  -- and each entry can be changed
  abbrev others : List Group
  others = groups_at policy width dims facts (others_of dims changed)

  stand-for : StandFor dims width (extended policy dims facts) changes others
  stand-for = record {
    each =
        each-with dims before now (IsPlaced dims width)
        (λ code g there.
        let lies = group-region policy width dims facts code g move.trees regions there in
        record { modest = group-modest weigh bound shape dims facts is move.trees move.valid code g there; cells = group-rows policy width dims facts code g there; named = lies.named; inside = lies.inside })
        (λ code g there.
        let lies = group-region policy width dims later code g move.trees later-regions there in
        record { modest = group-modest weigh bound shape dims later is move.trees later-valid code g there; cells = group-rows policy width dims later code g there; named = lies.named; inside = lies.inside })
        changed;
    stay = groups-modest weigh bound shape dims facts is move.trees move.valid (others_of dims changed);
    counts = λ cells d. counts-split policy width dims changed move.trees up facts regions cells d ∙ ap (λ (gs : List Group). count_in cells gs d + count_in cells others d) (sym (taken-with dims before now changed));
    sums = λ cells k d lt. sums-split policy width dims changed move.trees up facts regions cells k d lt ∙ ap (λ (gs : List Group). sum_in cells gs k d +ℤ sum_in cells others k d) (sym (taken-with dims before now changed));
    few_before = omega (arith, members-split policy width dims changed move.trees up facts regions, ap members (taken-with dims before now changed), move.valid.few);
    few_after =
        omega (
          arith,
          members-split policy width dims changed move.trees up later later-regions,
          ap members (given-with dims before now changed),
          ap members (others-same policy width dims changed move.trees up facts later same),
          later-valid.few,
        );
  }

  pub fit-changes : (views : List ViewMap) → All (IsViewOfFacts dims (extended policy dims facts)) views → All (λ view. view.columns ≡ width + 1) views → All (FitsView dims changes) views
  fit-changes = fits-views dims width (extended policy dims facts) changes others stand-for

-- the codes of groups of facts are those of regions
entries-of_regions : (policy : Policy) (columns : ℕ) (dims : List Dimension) (facts : List Fact) → All IsTree dims → All (λ f. IsRegion dims f.region) facts → (codes : List ℕ)
    → EntriesAreOfRegions dims (map (λ code. (code, group_at policy columns dims facts code)) codes)
entries-of_regions policy columns dims facts trees regions codes =
    All-map (λ (entry : ℕ × Option Group). IsOfRegion dims entry.0 entry.1) (λ code. (code, group_at policy columns dims facts code)) codes (λ k d within. group-of_region policy columns dims facts trees regions (get_or codes k d))

-- equal groups before are taken away alike
changes-alike : (dims : List Dimension) (f g : ℕ → Option Group) → ((code : ℕ) → f code ≡ g code) → (entries : Entries Group) → changes_by dims f entries ≡ changes_by dims g entries
changes-alike dims f g equal [] = refl
changes-alike dims f g equal (entry ∷ entries) =
    ap (λ o. changes_at dims entry.0 o entry.1 ++ changes_by dims f entries) (equal entry.0) ∙ ap (λ more. changes_at dims entry.0 (g entry.0) entry.1 ++ more) (changes-alike dims f g equal entries)

module _ {P : Type 0} (weigh : P → CellStat → ℕ) (state seen : StateValue P) (shown : seen ≡ state) (kept : IsState (policy_in weigh seen) seen.shape seen.dims seen.cuts seen.facts seen.kept)
    (bound : (s : CellStat) → IsStat s → weigh seen.policy s ≤ 1 + s.count * MAX_VALUE) (is : IsShape seen.shape) (trees : All IsTree seen.dims)
    (columns : ℕ) (columns_are : columns ≡ seen.kept.views.columns) (each : All (λ view. view.columns ≡ columns) seen.kept.views.views)
    (moves : Moves) (are : AreMoves (policy_in weigh state) state.shape state.dims state.facts moves)
    (made : Regrouped) (from : IsRegrouped (policy_in weigh state) (width_of_all state.shape.measures) state.dims moves.edit state.facts made) where
  kept-here : IsState (policy_in weigh state) state.shape state.dims state.cuts state.facts state.kept
  kept-here = subst (λ (s : StateValue P). IsState (policy_in weigh s) s.shape s.dims s.cuts s.facts s.kept) shown kept

  bound-here : (s : CellStat) → IsStat s → weigh state.policy s ≤ 1 + s.count * MAX_VALUE
  bound-here = subst (λ (s : StateValue P). (c : CellStat) → IsStat c → weigh s.policy c ≤ 1 + c.count * MAX_VALUE) shown bound

  shape-here : IsShape state.shape
  shape-here = subst (λ (s : StateValue P). IsShape s.shape) shown is

  move-here : IsMove state.shape state.dims moves.edit state.facts
  move-here = move-seen weigh state seen shown kept trees moves are

  wide-here : All (λ view. view.columns ≡ width_of_all state.shape.measures + 1) state.kept.views.views
  wide-here =
      subst (λ (s : StateValue P). All (λ view. view.columns ≡ width_of_all s.shape.measures + 1) s.kept.views.views) shown
      (All-weaker (λ view. view.columns ≡ columns) (λ view. view.columns ≡ width_of_all seen.shape.measures + 1) (λ view one. one ∙ columns_are ∙ kept.views.columns_are) seen.kept.views.views each)

  abbrev width_here : ℕ
  width_here = width_of_all state.shape.measures

  abbrev before_here : ℕ → Option Group
  before_here = group_at (policy_in weigh state) width_here state.dims state.facts

  abbrev now_here : ℕ → Option Group
  now_here = group_at (policy_in weigh state) width_here state.dims (after moves.edit state.facts)

  -- the codes of groups are those of regions
  pub kept-of_regions : AreOfRegions seen.dims seen.kept.groups
  kept-of_regions =
      subst (λ (s : StateValue P). AreOfRegions s.dims s.kept.groups) (sym shown)
      (of-regions (policy_in weigh state) width_here state.dims state.facts move-here.trees (valid-regions state.shape state.dims state.facts move-here.valid) state.kept.groups kept-here.groups)

  pub after-of_regions : EntriesAreOfRegions seen.dims made.groups
  after-of_regions =
      subst (λ (s : StateValue P). EntriesAreOfRegions s.dims made.groups) (sym shown)
      (subst (EntriesAreOfRegions state.dims) (sym from.groups)
      (entries-of_regions (policy_in weigh state) width_here state.dims (after moves.edit state.facts) move-here.trees
      (valid-regions state.shape state.dims (after moves.edit state.facts) (valid-later state.shape state.dims moves.edit state.facts move-here))
      (regrouped (policy_in weigh state) width_here state.dims moves.edit state.facts from.codes)))

  module _ (all : List ViewChange) (all_are : all ≡ changes_by seen.dims (value_at seen.kept.groups) made.groups) where
    changes-here : all ≡ changes_with state.dims before_here now_here (regrouped (policy_in weigh state) width_here state.dims moves.edit state.facts from.codes)
    changes-here =
        all_are ∙ ap (λ (s : StateValue P). changes_by s.dims (value_at s.kept.groups) made.groups) shown ∙ changes-alike state.dims (value_at state.kept.groups) before_here kept-here.groups made.groups
        ∙ ap (changes_by state.dims before_here) from.groups

    pub follow-seen : FollowBy (rows_in weigh state) (facts_taken_away all) (facts_put all) (rows_after weigh state moves.edit)
    follow-seen =
        subst (λ (cs : List ViewChange). FollowBy (rows_in weigh state) (facts_taken_away cs) (facts_put cs) (rows_after weigh state moves.edit)) (sym changes-here)
        (follow-changes (weigh state.policy) bound-here state.shape state.dims moves.edit state.facts shape-here move-here from.codes from.hold)

    pub fit-seen : FitsViews state.dims all state.kept.views
    fit-seen =
        subst (λ (cs : List ViewChange). FitsViews state.dims cs state.kept.views) (sym changes-here)
        (fit-changes (weigh state.policy) bound-here state.shape state.dims moves.edit state.facts shape-here move-here from.codes from.hold state.kept.views.views kept-here.views.answers wide-here)

    -- so they suffice for the views
    pub suffice-seen : SufficeFor state.dims state.kept.views (all_changes state made.groups) all
    suffice-seen = record {
      fit = fit-seen;
      whole = λ some. all_are ∙ ap (λ (s : StateValue P). all_changes s made.groups) shown;
    }

-- where there is no view, none suffice
pub suffice-none : (dims : List Dimension) (maps : ViewMaps) (all : List ViewChange) → (length maps.views == 0) ≡ true → SufficeFor dims maps all []
suffice-none dims maps all none = record {
  fit = λ k d within. absurd (grind (arith, nat_tests, none));
  whole = λ some. absurd (grind (arith, nat_tests, none));
}
