-- Room made for what an edit sets leaves a state what it is, and what is staged is what the edit makes of it.
use Rattle.std.proofs.Common.{◌≡◌, ◌≤◌, ℕ, true, List, [], ◌∷◌, length, refl, ap, sym, ◌∙◌, subst, arith}
use Rattle.std.specs.Prelude.{IfSome, Option, Some, None, slice_get}
use Rattle.std.specs.Option.{option_to_list}
use Rattle.cube_model.specs.declared.edit.Fact.{Fact}
use Rattle.cube_model.specs.declared.statistic.CellStat.{CellStat}
use Rattle.cube_model.specs.Facts.{after}
use Rattle.cube_model.specs.Tree.{Dimension}
use Rattle.staged_map.specs.Staged.{Entries, have_places}
use Rattle.cell_weight.specs.Stats.{have_stat_places}
use Rattle.alloc_rows.specs.Changed.{new_stats}
use Rattle.region_index.specs.Changes.{IsStagedFor}
use Rattle.region_index.specs.Patterns.{KnowsPatterns, Patterns}
use Rattle.fact_groups.specs.Changes.{cell_of}
use Rattle.fact_groups.specs.Groups.{Group}
use Rattle.fact_records.specs.Shape.{IsShape, width_of_all}
use Rattle.fact_records.specs.Valid.{AreValid}
use Rattle.view_store.specs.declared.change.ViewChange.{ViewChange}
use Rattle.view_store.specs.Changes.{AreStagedFor, FitsViews, HaveSameViews, IsSameView, facts_put, facts_taken_away}
use Rattle.view_store.specs.Facts.{FollowBy}
use Rattle.group_sum.specs.Terms.{TermList}
use Rattle.view_store.specs.Views.{ViewMap, ViewMaps}
use Rattle.cube_state.specs.declared.edit_moves.Moves.{Moves}
use Rattle.cube_state.specs.declared.changed_groups.Regrouped.{Regrouped}
use Rattle.cube_state.specs.Knowing.{IsKnowingState}
use Rattle.cube_state.specs.Moves.{AreMoves, indexed_as, indexed_by, region_code}
use Rattle.cube_state.specs.Sets.{AreSetsFor, SetGroups, SetStats, SetsValue, has_room}
use Rattle.cube_state.specs.Regrouped.{IsRegrouped}
use Rattle.fact_indexes.specs.Kept.{IsState, Kept}
use Rattle.cube_state.specs.State.{HaveSameContent, StateValue, policy_in, rows_after, rows_in}
use Rattle.cube_state.specs.ViewChanges.{SufficeFor, all_changes}
use Rattle.cube_state.proofs.Accepting.{AreValid-after, allowed}
use Rattle.cube_state.proofs.FactCells.{indexed-known}
use Rattle.cube_state.proofs.Keeping.{IsSameKept, IsState-same}
use Rattle.cube_state.proofs.Staging.{SetGroups-staged, SetIndex-staged, SetStats-staged}
use Rattle.touched_cells.proofs.Touching.{IsStat-valid}

-- What is staged for an edit, once there is room for it in what is kept.
pub record IsStaged (edit_moves : Moves) (regrouped : Regrouped) (changes : List ViewChange) (dims : List Dimension) (facts : List Fact) (new : Kept) (sets : SetsValue) : Type 0 where
  pub room : has_room edit_moves.edit facts new.spare ≡ true
  pub stats : sets.stats ≡ new_stats edit_moves.touched
  pub stats_placed : have_stat_places new.stats sets.stats ≡ true
  pub index : IsStagedFor new.index sets.index
  pub drops : sets.index.drops ≡ option_to_list (indexed_as dims edit_moves.taken)
  pub puts : sets.index.puts ≡ option_to_list (indexed_as dims edit_moves.given)
  pub groups : sets.groups ≡ regrouped.groups
  pub groups_placed : have_places new.groups sets.groups ≡ true
  pub views : AreStagedFor dims changes new.views sets.views

-- Views that are not touched have the content that they had.
pub views-untouched : (views : ViewMaps) → HaveSameViews views views
views-untouched views = record { columns = refl; views = record { count = refl; each = λ v. either (slice_get views.views v) } }
  where
    either : (found : Option ViewMap) → IfSome found (λ before. IfSome found (IsSameView before))
    either None = tt
    either (Some view) = record { columns = refl; depths = refl; values = λ _. refl; places = λ _ has. has }

-- What is staged for changes that suffice is staged for all.
staged-all : (dims : List Dimension) (before now : ViewMaps) (all changes : List ViewChange) (stage : List (Entries TermList)) → HaveSameViews before now → (1 ≤ length before.views → changes ≡ all)
    → AreStagedFor dims changes now stage → AreStagedFor dims all now stage
staged-all dims before now all changes stage alike whole staged = by now.views refl
  where
    by : (views : List ViewMap) → now.views ≡ views → AreStagedFor dims all now stage
    by [] none = record { room = staged.room; each = λ v. rw none tt }
    by (view ∷ views) some =
        let count : length now.views ≡ length before.views = alike.views.count in
        subst (λ (cs : List ViewChange). AreStagedFor dims cs now stage) (whole (omega (arith, sym count, ap (λ (vs : List ViewMap). length vs) some))) staged

module _ {P : Type 0} (weigh : P → CellStat → ℕ) (state seen : StateValue P) (same : seen ≡ state) (kept : IsState (policy_in weigh seen) seen.shape seen.dims seen.cuts seen.facts seen.kept) where
  -- the state stays one
  state-kept : (cuts : List (List ℕ)) (facts : List Fact) (new : Kept) → cuts ≡ seen.cuts → facts ≡ seen.facts → IsSameKept seen.kept new → IsState (policy_in weigh seen) seen.shape seen.dims cuts facts new
  state-kept cuts facts new cuts_are facts_are is =
      subst (λ (cs : List (List ℕ)). IsState (policy_in weigh seen) seen.shape seen.dims cs facts new) (sym cuts_are)
      (subst (λ (fs : List Fact). IsState (policy_in weigh seen) seen.shape seen.dims seen.cuts fs new) (sym facts_are) (IsState-same (policy_in weigh seen) seen.shape seen.dims seen.cuts seen.facts seen.kept new is kept))

  -- and the patterns that were known are known
  pub knowing-kept : (patterns : Patterns) → KnowsPatterns seen.dims seen.facts patterns → (cuts : List (List ℕ)) (facts : List Fact) (new : Kept) → cuts ≡ seen.cuts → facts ≡ seen.facts → IsSameKept seen.kept new
      → IsKnowingState (policy_in weigh seen) seen.shape seen.dims cuts facts new patterns
  knowing-kept patterns known cuts facts new cuts_are facts_are is = record {
    state = state-kept cuts facts new cuts_are facts_are is;
    known = subst (λ (fs : List Fact). KnowsPatterns seen.dims fs patterns) (sym facts_are) known;
  }

  -- of the content that it had
  pub content-kept : (cuts : List (List ℕ)) (facts : List Fact) (new : Kept) → cuts ≡ seen.cuts → facts ≡ seen.facts
      → HaveSameContent state (record { policy = seen.policy; dims = seen.dims; shape = seen.shape; cuts = cuts; facts = facts; kept = new })
  content-kept cuts facts new cuts_are facts_are =
      subst (λ (s : StateValue P). HaveSameContent s (record { policy = seen.policy; dims = seen.dims; shape = seen.shape; cuts = cuts; facts = facts; kept = new })) same
      (record { policy = refl; dims = refl; shape = refl; cuts = cuts_are; facts = facts_are })

  -- what is dropped from the index and put into it is told by the codes and the cells of the edit's facts
  module _ (edit_moves : Moves) (moves : AreMoves (policy_in weigh state) state.shape state.dims state.facts edit_moves) where
    indexed-seen : (fact : Option Fact) (code cell : Option ℕ) → code ≡ region_code state.dims fact → cell ≡ cell_of state.dims fact → option_to_list (indexed_by fact code cell) ≡ option_to_list (indexed_as seen.dims fact)
    indexed-seen fact code cell code_is cell_is =
        ap option_to_list (indexed-known state.dims fact code cell code_is cell_is ∙ ap (λ (s : StateValue P). indexed_as s.dims fact) (sym same))

    pub drops-seen : option_to_list (indexed_by edit_moves.taken edit_moves.taken_code edit_moves.taken_cell) ≡ option_to_list (indexed_as seen.dims edit_moves.taken)
    drops-seen = indexed-seen edit_moves.taken edit_moves.taken_code edit_moves.taken_cell moves.taken_at moves.taken_in

    pub puts-seen : option_to_list (indexed_by edit_moves.given edit_moves.given_code edit_moves.given_cell) ≡ option_to_list (indexed_as seen.dims edit_moves.given)
    puts-seen = indexed-seen edit_moves.given edit_moves.given_code edit_moves.given_cell moves.given_at moves.given_in

  -- the views can be changed
  pub fits-seen : (groups : Entries Group) (changes : List ViewChange) → SufficeFor state.dims state.kept.views (all_changes state groups) changes → FitsViews seen.dims changes seen.kept.views
  fits-seen groups changes suffice = subst (λ (s : StateValue P). FitsViews s.dims changes s.kept.views) (sym same) suffice.fit

  module _ (edit_moves : Moves) (regrouped : Regrouped) (changes : List ViewChange)
      (moves : AreMoves (policy_in weigh state) state.shape state.dims state.facts edit_moves)
      (groups : IsRegrouped (policy_in weigh state) (width_of_all state.shape.measures) state.dims edit_moves.edit state.facts regrouped)
      (follow : FollowBy (rows_in weigh state) (facts_taken_away (all_changes state regrouped.groups)) (facts_put (all_changes state regrouped.groups)) (rows_after weigh state edit_moves.edit))
      (suffice : SufficeFor state.dims state.kept.views (all_changes state regrouped.groups) changes)
      (shape_is : IsShape seen.shape) where
    seen_moves : AreMoves (policy_in weigh seen) seen.shape seen.dims seen.facts edit_moves
    seen_moves = subst (λ (s : StateValue P). AreMoves (policy_in weigh s) s.shape s.dims s.facts edit_moves) (sym same) moves

    seen_groups : IsRegrouped (policy_in weigh seen) (width_of_all seen.shape.measures) seen.dims edit_moves.edit seen.facts regrouped
    seen_groups = subst (λ (s : StateValue P). IsRegrouped (policy_in weigh s) (width_of_all s.shape.measures) s.dims edit_moves.edit s.facts regrouped) (sym same) groups

    abbrev all : List ViewChange
    all = all_changes state regrouped.groups

    seen_follow : FollowBy (rows_in weigh seen) (facts_taken_away all) (facts_put all) (rows_after weigh seen edit_moves.edit)
    seen_follow = subst (λ (s : StateValue P). FollowBy (rows_in weigh s) (facts_taken_away all) (facts_put all) (rows_after weigh s edit_moves.edit)) (sym same) follow

    seen_suffice : SufficeFor seen.dims seen.kept.views all changes
    seen_suffice = subst (λ (s : StateValue P). SufficeFor s.dims s.kept.views all changes) (sym same) suffice

    valid : AreValid seen.shape seen.dims (after edit_moves.edit seen.facts)
    valid = AreValid-after seen.shape seen.dims edit_moves.edit seen.facts seen_moves.over (allowed seen.shape seen.dims edit_moves.edit seen.facts seen_moves.accepted) kept.valid

    module _ (cuts : List (List ℕ)) (new : Kept) (sets : SetsValue) (still : IsSameKept seen.kept new) (staged : IsStaged edit_moves regrouped changes seen.dims seen.facts new sets) where
      later : StateValue P
      later = record { policy = seen.policy; dims = seen.dims; shape = seen.shape; cuts = cuts; facts = seen.facts; kept = new }

      now : IsState (policy_in weigh seen) seen.shape seen.dims seen.cuts seen.facts new
      now = IsState-same (policy_in weigh seen) seen.shape seen.dims seen.cuts seen.facts seen.kept new still kept

      sets-made : AreSetsFor weigh later edit_moves.edit sets
      unfolding later
      sets-made =
          let policy = policy_in weigh seen in
          let edit = edit_moves.edit in
          let up = kept.valid.ascending in
          let stats = staged.stats ∙ ap new_stats seen_moves.touches in
          let anew = staged.groups ∙ seen_groups.groups in
          record {
            room = staged.room;
            stats = subst (SetStats policy seen.dims (after edit seen.facts) new.stats) (sym stats)
                (SetStats-staged policy seen.dims edit seen.facts up new.stats now.stats (IsStat-valid (weigh seen.policy) seen.shape seen.dims (after edit seen.facts) shape_is valid) (subst (λ (cs : List (ℕ × CellStat)). have_stat_places new.stats cs ≡ true) stats staged.stats_placed));
            index = SetIndex-staged seen.dims edit seen.facts up new.index sets.index now.index staged.index
                (staged.puts ∙ ap (λ o. option_to_list (indexed_as seen.dims o)) seen_moves.gives) (staged.drops ∙ ap (λ o. option_to_list (indexed_as seen.dims o)) seen_moves.takes);
            groups = subst (SetGroups policy (width_of_all seen.shape.measures) seen.dims (after edit seen.facts) new.groups) (sym anew)
                (SetGroups-staged policy (width_of_all seen.shape.measures) seen.dims edit seen.facts up seen_groups.codes new.groups seen_groups.hold now.groups (subst (λ (es : Entries Group). have_places new.groups es ≡ true) anew staged.groups_placed));
            views = record { room = staged.views.room; changes = all; staged = staged-all seen.dims seen.kept.views new.views all changes sets.views still.views seen_suffice.whole staged.views; follow = seen_follow };
          }

      -- and what is staged is what the edit makes of it
      pub sets-staged : (facts : List Fact) → facts ≡ seen.facts → AreSetsFor weigh (record { policy = seen.policy; dims = seen.dims; shape = seen.shape; cuts = cuts; facts = facts; kept = new }) edit_moves.edit sets
      unfolding later
      sets-staged facts facts_are =
          subst (λ (fs : List Fact). AreSetsFor weigh (record { policy = seen.policy; dims = seen.dims; shape = seen.shape; cuts = cuts; facts = fs; kept = new }) edit_moves.edit sets) (sym facts_are) sets-made
