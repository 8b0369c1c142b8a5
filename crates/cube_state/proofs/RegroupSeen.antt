-- What is made of the groups of an edit, as a state is seen.
use Rattle.std.proofs.Common.{◌≡◌, ℕ, zero, suc, ◌+◌, ◌-◌, ◌*◌, ◌≤◌, false, Bor, List, length, take, refl, ap, sym, ◌∙◌, subst, arith}
use Rattle.std.specs.Prelude.{All, IfSome, not, slice_get, Option, Some, None}
use Rattle.std.specs.Option.{option_copied}
use Rattle.cube_model.specs.declared.edit.Edit.{Edit}
use Rattle.cube_model.specs.declared.edit.Fact.{Fact}
use Rattle.cube_model.specs.declared.statistic.CellStat.{CellStat}
use Rattle.cube_model.specs.Allocation.{Allocation, Policy, extended, row_count}
use Rattle.cube_model.specs.Difference.{is_same}
use Rattle.cube_model.specs.Facts.{after}
use Rattle.cube_model.specs.Limits.{MAX_CELLS, MAX_FACTS, MAX_ROWS}
use Rattle.cube_model.specs.Tree.{Dimension, IsTree}
use Rattle.staged_map.specs.Staged.{Entries, value_at}
use Rattle.region_algebra.specs.Space.{IsRegion, all_regions}
use Rattle.fact_groups.specs.Groups.{Group, facts_with, group_at, spread_at}
use Rattle.fact_groups.proofs.Refreshing.{same_allocation}
use Rattle.fact_records.specs.Shape.{ShapeValue, width_of_all}
use Rattle.cube_state.specs.declared.edit_moves.Moves.{Moves}
use Rattle.cube_state.specs.GroupAfter.{group_row_count}
use Rattle.cube_state.specs.Moves.{AreMoves}
use Rattle.cube_state.specs.Regrouped.{HoldChanged, group_is_respread, groups_after, spread_anew}
use Rattle.fact_indexes.specs.Kept.{IsState}
use Rattle.cube_state.specs.State.{StateValue, policy_in}
use Rattle.cube_state.proofs.Drafted.{IsDraft, drafted-all, drafted-few, drafted-others, drafted-rows, rows-before-le, rows-later-few, rows-later-le}
use Rattle.cube_state.proofs.GroupSeen.{group-seen, move-seen}
use Rattle.region_algebra.proofs.Spaces.{uncode-region}
use Rattle.cube_state.proofs.OneGroup.{IsMove, group-made, group-none, region-there, spread-there}

-- what is there of two
some-of : {X : Type 0} (x y : X) → Some x ≡ Some y → x ≡ y
some-of x y same = cc

module _ (policy : Policy) (shape : ShapeValue) (dims : List Dimension) (edit : Edit) (facts : List Fact) (move : IsMove shape dims edit facts) (code : ℕ) where
  abbrev columns : ℕ
  columns = width_of_all shape.measures

  abbrev later : List Fact
  later = after edit facts

  some-members : (n : Group) → group_at policy columns dims later code ≡ Some n → 1 ≤ length (facts_with dims code later)
  some-members n is = either (length (facts_with dims code later)) refl
    where
      never : None ≡ Some n → ⊥
      never same = cc

      either : (k : ℕ) → length (facts_with dims code later) ≡ k → 1 ≤ k
      either zero none = absurd (never (group-none policy columns dims later code none ∙ is))
      either (suc k) many = omega arith

  module _ (found : Option (List ℕ)) (is : found ≡ slice_get (all_regions dims) code) (n : Group) (now_is : group_at policy columns dims later code ≡ Some n) where
    -- where there is a group after the edit, the code is that of a region
    pub region-grouped : found ≡ None → ⊥
    region-grouped none = region-there policy shape dims edit facts move code found is (some-members n now_is) none

    -- and where the region is spread as before, so is the group
    pub spread-kept : (region : List ℕ) → found ≡ Some region → (b : Group) → group_at policy columns dims facts code ≡ Some b → spread_at policy dims facts region ≡ spread_at policy dims later region
        → group_is_respread (Some b) (Some n) ≡ false
    spread-kept region this b before_is kept =
        let some = some-members n now_is in
        let first : b.spread ≡ spread_at policy dims facts region = subst (λ o. IfSome o (λ g. g.spread ≡ spread_at policy dims facts region)) before_is (spread-there policy shape dims edit facts move code found is some region this) in
        let second : spread_at policy dims later region ≡ n.spread = ap (λ (g : Group). g.spread) (some-of _ n (group-made policy shape dims edit facts move code found is some region this ∙ now_is)) in
        ap (λ (a : Allocation). not (is_same b.spread a)) (sym (first ∙ kept ∙ second)) ∙ ap not (same_allocation b.spread)

module _ {P : Type 0} (weigh : P → CellStat → ℕ) (state seen : StateValue P) (same : seen ≡ state) (kept : IsState (policy_in weigh seen) seen.shape seen.dims seen.cuts seen.facts seen.kept)
    (trees : All IsTree seen.dims) (moves : Moves) (are : AreMoves (policy_in weigh state) state.shape state.dims state.facts moves) where
  abbrev kept_in : IsState (policy_in weigh state) state.shape state.dims state.cuts state.facts state.kept
  kept_in = subst (λ (s : StateValue P). IsState (policy_in weigh s) s.shape s.dims s.cuts s.facts s.kept) same kept

  abbrev move : IsMove state.shape state.dims moves.edit state.facts
  move = move-seen weigh state seen same kept trees moves are

  abbrev policy : Policy
  policy = policy_in weigh state

  abbrev width : ℕ
  width = width_of_all state.shape.measures

  abbrev then_facts : List Fact
  then_facts = after moves.edit state.facts

  -- no group has more rows than there may be
  pub rows-before-seen : (code : ℕ) (got : Option (Bor Group)) → option_copied got ≡ value_at seen.kept.groups code → group_row_count (option_copied got) ≤ MAX_ROWS
  rows-before-seen code got has =
      omega (arith, ap group_row_count (group-seen weigh state seen same kept code got has), rows-before-le policy state.shape state.dims moves.edit state.facts move code, kept_in.rows, kept_in.few_rows)

  pub rows-later-seen : (code : ℕ) (next : Option Group) → next ≡ group_at policy width state.dims then_facts code → group_row_count next ≤ MAX_FACTS * MAX_CELLS
  rows-later-seen code next is = omega (arith, ap group_row_count is, rows-later-le policy state.shape state.dims moves.edit state.facts move code)

  module _ (code : ℕ) (before now : Option (Bor Group)) (before_is : option_copied before ≡ group_at policy width state.dims state.facts code) (now_is : option_copied now ≡ group_at policy width state.dims then_facts code)
      (found : Option (List ℕ)) (is : found ≡ slice_get (all_regions seen.dims) code) (n : Bor Group) (now_there : now ≡ Some n) where
    is_in : found ≡ slice_get (all_regions state.dims) code
    is_in = subst (λ (s : StateValue P). found ≡ slice_get (all_regions s.dims) code) same is

    at_now : group_at policy width state.dims then_facts code ≡ Some n.now
    at_now = sym now_is ∙ ap option_copied now_there

    pub grouped-seen : found ≡ None → ⊥
    grouped-seen none = region-grouped policy state.shape state.dims moves.edit state.facts move code found is_in n.now at_now none

    pub named-seen : (region : List ℕ) → found ≡ Some region → IsRegion state.dims region
    named-seen region this = some-named (uncode-region state.dims code found move.trees is_in) this
      where
        some-named : IfSome found (IsRegion state.dims) → found ≡ Some region → IsRegion state.dims region
        some-named each that = subst (λ o. IfSome o (IsRegion state.dims)) that each

    pub kept-seen : (region : List ℕ) → found ≡ Some region → (b : Bor Group) → before ≡ Some b → spread_at policy state.dims state.facts region ≡ spread_at policy state.dims then_facts region
        → group_is_respread (option_copied before) (option_copied now) ≡ false
    kept-seen region this b there stays =
        ap (λ o. group_is_respread o (option_copied now)) (ap option_copied there)
        ∙ ap (λ o. group_is_respread (Some b.now) o) (ap option_copied now_there)
        ∙ spread-kept policy state.shape state.dims moves.edit state.facts move code found is_in n.now at_now region this b.now (sym before_is ∙ ap option_copied there) stays

  module _ (codes : List ℕ) (hold : HoldChanged policy width state.dims moves.edit state.facts codes) (i : ℕ) (groups : Entries Group) (anew : List ℕ) (others before now : ℕ)
      (so_far : IsDraft policy width state.dims moves.edit state.facts (take i codes) groups anew others before now) where
    -- nor do those of some codes
    pub drafted-seen : (before ≤ MAX_ROWS) × (now ≤ MAX_FACTS * MAX_CELLS)
    drafted-seen =
        let few = drafted-few policy state.shape state.dims moves.edit state.facts move codes hold i groups anew others before now so_far in
        (omega (arith, few.0, kept_in.rows, kept_in.few_rows), omega (arith, few.1, rows-later-few policy state.shape state.dims moves.edit state.facts move))

    -- and the other facts of these are few
    pub others-few : others ≤ MAX_FACTS
    others-few = drafted-others policy state.shape state.dims moves.edit state.facts move codes hold i groups anew others before now so_far

    module _ (past : length codes ≤ i) where
      done : IsDraft policy width state.dims moves.edit state.facts codes groups anew others before now
      done = drafted-all policy width state.dims moves.edit state.facts codes i groups anew others before now past so_far

      moved : row_count (extended policy state.dims then_facts) + before ≡ seen.kept.rows + now
      moved =
          omega (
            arith,
            drafted-rows policy state.shape state.dims moves.edit state.facts move codes hold groups anew others before now done,
            kept_in.rows,
            ap (λ (s : StateValue P). s.kept.rows) same,
          )

      pub rows-enough : before ≤ seen.kept.rows + now
      rows-enough = omega (arith, moved)

      pub rows-seen : seen.kept.rows + now - before ≡ row_count (extended policy state.dims then_facts)
      rows-seen = omega (arith, moved)

      pub anew-seen : anew ≡ spread_anew policy width state.dims moves.edit state.facts codes
      anew-seen = done.anew_is

      pub groups-seen : seen.kept.rows + now - before ≤ MAX_ROWS → groups ≡ groups_after policy width state.dims moves.edit state.facts codes
      groups-seen few =
          let most = drafted-few policy state.shape state.dims moves.edit state.facts move codes hold i groups anew others before now so_far in
          done.groups_are (omega (arith, few, rows-seen, most.1))
