-- The rows of the facts that an edit refreshes, by the groups after it.
use Rattle.std.proofs.Common.{◌≡◌, ℕ, ◌+◌, ◌<◌, ◌≤◌, Bool, true, false, List, [], ◌∷◌, ◌++◌, get_or, length, map, take, refl, ap, sym, ◌∙◌}
use Rattle.std.specs.Prelude.{All, AllPairs, Option, Some, None, filter, filter_map, find, not, ◌==◌}
use Rattle.std.specs.List.{cons_option}
use Rattle.std.specs.Option.{option_map, option_map_or}
use Rattle.std.proofs.lemmas.List.{take_all, take_more}
use Rattle.std.proofs.lemmas.List.Elements.{All-head, All-tail, filter_map-append}
use Rattle.cube_model.specs.declared.edit.Edit.{Edit}
use Rattle.cube_model.specs.declared.edit.Fact.{Fact}
use Rattle.cube_model.specs.declared.statistic.CellStat.{CellStat}
use Rattle.cube_model.specs.Allocation.{Allocation, ExtendedFact, Policy, allocation, extended}
use Rattle.cube_model.specs.Cells.{is_among}
use Rattle.cube_model.specs.Difference.{lies_as_before, refreshed}
use Rattle.cube_model.specs.Facts.{after}
use Rattle.cube_model.specs.Tree.{Dimension, IsTree}
use Rattle.region_algebra.specs.Space.{IsRegion, code_of}
use Rattle.fact_keeper.specs.declared.content.KeptRows.{KeptRows}
use Rattle.fact_groups.specs.Groups.{Group, group_at}
use Rattle.fact_groups.proofs.Edits.{pairs-after}
use Rattle.fact_groups.proofs.Refreshing.{among-kept, any-found, found-has}
use Rattle.fact_groups.proofs.Sharing.{allocation-spread_at}
use Rattle.fact_records.specs.Shape.{width_of_all}
use Rattle.fact_records.specs.Valid.{AreValid}
use Rattle.edit_plan.specs.Plan.{kept_rows}
use Rattle.cube_state.specs.declared.edit_moves.Moves.{Moves}
use Rattle.cube_state.specs.declared.changed_groups.Regrouped.{Regrouped}
use Rattle.cube_state.specs.Moves.{AreMoves}
use Rattle.edit_plan.specs.Refreshing.{AreOfFacts, AreRefreshed, group_now}
use Rattle.cube_state.specs.Regrouped.{IsRegrouped}
use Rattle.cube_state.specs.State.{StateValue, policy_in}
use Rattle.edit_plan.proofs.GroupsNow.{groups-now}
use Rattle.edit_plan.proofs.OwnPair.{spread-found}
use Rattle.edit_plan.proofs.SeenPairs.{later-regions}
use Rattle.cube_state.proofs.Looking.{find-itself}

abbrev pub record_of : ℕ → Allocation → KeptRows
record_of id a = record { id = id; den = a.den; rows = a.rows }

-- the rows of an id, where its region is spread so
abbrev pub rows_by : (ℕ → Option Group) → ℕ × ℕ → Option KeptRows
rows_by group pair = option_map (record_of pair.0) (option_map (λ g. g.spread) (group pair.1))

module _ (policy : Policy) (dims : List Dimension) (facts later : List Fact) (up : AllPairs (λ f g. f.id < g.id) later) where
  abbrev pub whole : Fact → ExtendedFact
  whole f = record { id = f.id; values = f.cols; allocation = allocation policy dims later f }

  abbrev rows_of : ℕ → Option KeptRows
  rows_of id = option_map (λ f. kept_rows (whole f)) (find (λ f. f.id == id) later)

  abbrev lies_otherwise : Fact → Bool
  lies_otherwise f = not (lies_as_before policy dims facts later f)

  -- an id is among those of some facts where its fact is among them
  pub among-some : (p : Fact → Bool) (id : ℕ) (fact : Fact) → find (λ f. f.id == id) later ≡ Some fact → is_among (map (λ f. f.id) (filter p later)) id ≡ p fact
  among-some p id fact found = among-kept id p later ∙ any-found id p later up ∙ ap (λ o. option_map_or p o false) found

  one-kept : (p : Fact → Bool) (some : List Fact) → All (λ f. find (λ g. g.id == f.id) later ≡ Some f) some
      → filter_map rows_of (map (λ f. f.id) (filter p some)) ≡ map kept_rows (filter (λ e. is_among (map (λ f. f.id) (filter p later)) e.id) (map whole some))
  one-kept p [] each = refl
  one-kept p (f ∷ some) each =
      let found : find (λ g. g.id == f.id) later ≡ Some f = All-head (λ f. find (λ g. g.id == f.id) later ≡ Some f) f some each in
      either (p f) (is_among (map (λ f. f.id) (filter p later)) f.id) refl refl (among-some p f.id f found) (ap (option_map (λ f. kept_rows (whole f))) found)
      (one-kept p some (All-tail (λ f. find (λ g. g.id == f.id) later ≡ Some f) f some each))
    where
      either : (a b : Bool) → p f ≡ a → is_among (map (λ f. f.id) (filter p later)) f.id ≡ b → is_among (map (λ f. f.id) (filter p later)) f.id ≡ p f → rows_of f.id ≡ Some (kept_rows (whole f))
          → filter_map rows_of (map (λ f. f.id) (filter p some)) ≡ map kept_rows (filter (λ e. is_among (map (λ f. f.id) (filter p later)) e.id) (map whole some))
          → filter_map rows_of (map (λ f. f.id) (filter p (f ∷ some))) ≡ map kept_rows (filter (λ e. is_among (map (λ f. f.id) (filter p later)) e.id) (map whole (f ∷ some)))
      either true true is among same here rest = rw (is, among, here) (ap (λ rows. kept_rows (whole f) ∷ rows) rest)
      either false false is among same here rest = rw (is, among) rest
      either true false is among same here rest = cc
      either false true is among same here rest = cc

  -- the rows of the ids that are refreshed
  refreshed-rows : filter_map rows_of (refreshed policy dims facts later) ≡ map kept_rows (filter (λ e. is_among (refreshed policy dims facts later) e.id) (extended policy dims later))
  unfolding extended refreshed
  refreshed-rows = one-kept lies_otherwise later (find-itself later up)

module _ (policy : Policy) (columns : ℕ) (dims : List Dimension) (edit : Edit) (facts : List Fact) (up : AllPairs (λ f g. f.id < g.id) facts)
    (trees : All IsTree dims)
    (regions : All (λ f. IsRegion dims f.region) (after edit facts))
    (regrouped : Regrouped)
    (is_regrouped : IsRegrouped policy columns dims edit facts regrouped) where
  abbrev later : List Fact
  later = after edit facts

  abbrev now : ℕ → Option Group
  now = group_now regrouped.groups (group_at policy columns dims facts)

  -- a pair of a fact's id and the code of its region has the fact's rows
  pair-rows : (pair : ℕ × ℕ) → option_map (λ f. code_of dims f.region) (find (λ f. f.id == pair.0) later) ≡ Some pair.1 → (fact : Fact) → find (λ f. f.id == pair.0) later ≡ Some fact
      → option_map (λ (g : Group). g.spread) (now pair.1) ≡ Some (allocation policy dims later fact)
  pair-rows pair at fact found =
      let here : Some (code_of dims fact.region) ≡ Some pair.1 = sym (ap (option_map (λ (f : Fact). code_of dims f.region)) found) ∙ at in
      let code : code_of dims fact.region ≡ pair.1 = cc in
      ap (option_map (λ (g : Group). g.spread)) (groups-now policy columns dims edit facts regrouped is_regrouped up pair.1 ∙ ap (group_at policy columns dims later) (sym code))
      ∙ spread-found policy columns dims later trees regions pair.0 fact found
      ∙ ap Some (sym (allocation-spread_at policy dims later fact))

  -- so a region of such a fact is spread
  pair-spread : (pair : ℕ × ℕ) → option_map (λ f. code_of dims f.region) (find (λ f. f.id == pair.0) later) ≡ Some pair.1 → option_map (λ (g : Group). g.spread) (now pair.1) ≡ None → ⊥
  pair-spread pair at none = either (find (λ f. f.id == pair.0) later) refl at
    where
      either : (found : Option Fact) → find (λ f. f.id == pair.0) later ≡ found → option_map (λ f. code_of dims f.region) found ≡ Some pair.1 → ⊥
      either None is there = cc
      either (Some fact) is there = let some = pair-rows pair at fact is in cc

  pair-kept : (pair : ℕ × ℕ) → option_map (λ f. code_of dims f.region) (find (λ f. f.id == pair.0) later) ≡ Some pair.1 → rows_by now pair ≡ rows_of policy dims facts later (pairs-after edit facts up) pair.0
  pair-kept pair at = either (find (λ f. f.id == pair.0) later) refl at
    where
      either : (found : Option Fact) → find (λ f. f.id == pair.0) later ≡ found → option_map (λ f. code_of dims f.region) found ≡ Some pair.1 → rows_by now pair ≡ rows_of policy dims facts later (pairs-after edit facts up) pair.0
      either None is there = cc
      either (Some fact) is there =
          ap (option_map (λ (a : Allocation). record_of pair.0 a)) (pair-rows pair at fact is)
          ∙ ap (λ id. Some (record_of id (allocation policy dims later fact))) (sym (found-has pair.0 later fact is))
          ∙ sym (ap (option_map (λ f. kept_rows (whole policy dims facts later (pairs-after edit facts up) f))) is)

  pairs-rows : (pairs : List (ℕ × ℕ)) → AreOfFacts dims later pairs → filter_map (rows_by now) pairs ≡ filter_map (rows_of policy dims facts later (pairs-after edit facts up)) (map (λ pair. pair.0) pairs)
  pairs-rows [] each = refl
  pairs-rows (pair ∷ pairs) each =
      let P = λ (pair : ℕ × ℕ). option_map (λ f. code_of dims f.region) (find (λ f. f.id == pair.0) later) ≡ Some pair.1 in
      ap (λ o. cons_option o (filter_map (rows_by now) pairs)) (pair-kept pair (All-head P pair pairs each))
      ∙ ap (cons_option (rows_of policy dims facts later (pairs-after edit facts up) pair.0)) (pairs-rows pairs (All-tail P pair pairs each))

  rows-kept : (pairs : List (ℕ × ℕ)) → AreRefreshed policy dims edit facts pairs
      → filter_map (rows_by now) pairs ≡ map kept_rows (filter (λ e. is_among (refreshed policy dims facts later) e.id) (extended policy dims later))
  rows-kept pairs are =
      pairs-rows pairs are.codes
      ∙ ap (filter_map (rows_of policy dims facts later (pairs-after edit facts up))) are.ids
      ∙ refreshed-rows policy dims facts later (pairs-after edit facts up)

module _ {P : Type 0} (weigh : P → CellStat → ℕ) (state : StateValue P) (valid : AreValid state.shape state.dims state.facts) (moves : Moves)
    (are : AreMoves (policy_in weigh state) state.shape state.dims state.facts moves)
    (regrouped : Regrouped)
    (is : IsRegrouped (policy_in weigh state) (width_of_all state.shape.measures) state.dims moves.edit state.facts regrouped)
    (trees : All IsTree state.dims)
    (pairs : List (ℕ × ℕ))
    (refresh : AreRefreshed (policy_in weigh state) state.dims moves.edit state.facts pairs) where
  abbrev policy : Policy
  policy = policy_in weigh state

  abbrev columns : ℕ
  columns = width_of_all state.shape.measures

  abbrev group : ℕ → Option Group
  group = group_now regrouped.groups (group_at policy columns state.dims state.facts)

  named : All (λ f. IsRegion state.dims f.region) (after moves.edit state.facts)
  named = later-regions weigh state valid moves are

  module _ (i : ℕ) (d : ℕ × ℕ) (within : i < length pairs) (spread : Option Allocation) (spread_is : spread ≡ option_map (λ (g : Group). g.spread) (group (get_or pairs i d).1)) where
    -- the region of a refreshed fact has a group
    pub spread-there : spread ≡ None → ⊥
    spread-there none = pair-spread policy columns state.dims moves.edit state.facts valid.ascending trees named regrouped is (get_or pairs i d) (refresh.codes i d within) (sym spread_is ∙ none)

    -- one pair more
    pub rows-next : (a : Allocation) (den : ℕ) (list : List (ℕ × ℕ)) (rows now : List KeptRows) → spread ≡ Some a → den ≡ a.den → list ≡ a.rows → rows ≡ filter_map (rows_by group) (take i pairs)
        → now ≡ rows ++ record { id = (get_or pairs i d).0; den = den; rows = list } ∷ [] → now ≡ filter_map (rows_by group) (take (i + 1) pairs)
    rows-next a den list rows now some den_is list_is so_far more =
        let one : rows_by group (get_or pairs i d) ≡ Some (record_of (get_or pairs i d).0 a) = ap (option_map (record_of (get_or pairs i d).0)) (sym spread_is ∙ some) in
        more
        ∙ ap (λ n. rows ++ record { id = (get_or pairs i d).0; den = n; rows = list } ∷ []) den_is
        ∙ ap (λ (xs : List (ℕ × ℕ)). rows ++ record { id = (get_or pairs i d).0; den = a.den; rows = xs } ∷ []) list_is
        ∙ ap (λ rs. rs ++ record_of (get_or pairs i d).0 a ∷ []) so_far
        ∙ ap (λ o. filter_map (rows_by group) (take i pairs) ++ cons_option o []) (sym one)
        ∙ sym (filter_map-append (rows_by group) (take i pairs) (get_or pairs i d ∷ []))
        ∙ ap (filter_map (rows_by group)) (sym (take_more pairs i d within))

  -- all of them
  pub rows-seen : (rows : List KeptRows) (i : ℕ) → length pairs ≤ i → rows ≡ filter_map (rows_by group) (take i pairs)
      → rows ≡ map kept_rows (filter (λ e. is_among (refreshed policy state.dims state.facts (after moves.edit state.facts)) e.id) (extended policy state.dims (after moves.edit state.facts)))
  rows-seen rows i past so_far = so_far ∙ ap (filter_map (rows_by group)) (take_all i pairs past) ∙ rows-kept policy columns state.dims moves.edit state.facts valid.ascending trees named regrouped is pairs refresh
