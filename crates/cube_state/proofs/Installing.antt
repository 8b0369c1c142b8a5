-- What a state keeps at first, and once a plan is installed.
use Rattle.std.proofs.Common.{◌≡◌, ℕ, ◌+◌, List, [], length, map, refl, ap, sym, ◌∙◌, subst, arith, inl, inr}
use Rattle.std.specs.Prelude.{All, IfSome, ◌⊎◌}
use Rattle.std.proofs.lemmas.List.Elements.{All-nil}
use Rattle.cube_model.specs.declared.edit.Edit.{Edit}
use Rattle.cube_model.specs.declared.edit.Edit.TheVariants.{Put, Change}
use Rattle.cube_model.specs.declared.edit.Fact.{Fact}
use Rattle.cube_model.specs.declared.statistic.CellStat.{CellStat}
use Rattle.cube_model.specs.Allocation.{Policy, extended}
use Rattle.cube_model.specs.Facts.{after, put}
use Rattle.cube_model.specs.Tree.{Dimension, IsTree}
use Rattle.region_algebra.specs.Space.{IsRegion}
use Rattle.region_algebra.specs.declared.view_def.ViewDef.{ViewDef}
use Rattle.staged_map.specs.Staged.{Places, PutsAll}
use Rattle.cell_weight.specs.Stats.{Installs}
use Rattle.fact_groups.specs.Edits.{given}
use Rattle.fact_groups.specs.Groups.{Group}
use Rattle.fact_groups.proofs.Edits.{put-withdraw}
use Rattle.fact_records.specs.Shape.{ShapeValue, width_of_all}
use Rattle.fact_records.specs.Valid.{IsValid}
use Rattle.region_index.specs.Changes.{Applies}
use Rattle.view_store.specs.declared.change.ViewChange.{ViewChange}
use Rattle.view_store.specs.Changes.{AreAfter, AreStagedFor}
use Rattle.view_store.specs.Views.{AreViewsOf, ViewMap, ViewMaps, view_of, without_entries}
use Rattle.cube_state.specs.Sets.{IsEditFor}
use Rattle.cube_state.specs.Sets.{SetsValue}
use Rattle.fact_indexes.specs.Kept.{AreViewsOfFacts, IsState, Kept}
use Rattle.cube_state.specs.State.{HasFacts, StateValue, policy_in}
use Rattle.cube_state.proofs.Accepting.{AreValid-after, allowed, judged}
use Rattle.cube_state.proofs.Covering.{region-given}
use Rattle.fact_indexes.proofs.ViewsKept.{AreViewsOfFacts-after, AreViewsOfFacts-emptied, AreViewsOfFacts-none, cuts-after}

-- nothing is kept where there is no fact, but views without entries
module _ (policy : Policy) (shape : ShapeValue) (dims : List Dimension) (trees : All IsTree dims) (spare : ℕ) (maps : ViewMaps) (none : AreViewsOfFacts dims (map (λ (view : ViewMap). view.depths) maps.views) (width_of_all shape.measures + 1) [] maps) where
  IsState-none : IsState policy shape dims (map (λ (view : ViewMap). view.depths) maps.views) [] (record { spare = spare; stats = []; index = []; groups = []; views = maps; rows = 0 })
  unfolding extended
  IsState-none = record {
    trees = trees;
    valid = record { ascending = λ i j d before within. absurd (omega arith); few = omega arith; each = All-nil (IsValid shape dims) };
    stats = λ cell. refl;
    index = record { ids = λ code. refl };
    groups = λ code. refl;
    views = none;
    rows = refl;
    few_rows = omega arith;
  }

  IsState-over : (facts : List Fact) (stats : Places CellStat) (index : Places (List ℕ)) (groups : Places Group) (views : ViewMaps) → facts ≡ [] → stats ≡ [] → index ≡ [] → groups ≡ [] → views ≡ maps
      → IsState policy shape dims (map (λ (view : ViewMap). view.depths) views.views) facts (record { spare = spare; stats = stats; index = index; groups = groups; views = views; rows = 0 })
  IsState-over facts stats index groups views no_facts no_stats no_index no_groups are =
      let with : List Fact → Places CellStat → Places (List ℕ) → Places Group → ViewMaps → Type 0 =
      λ fs ss is gs vs. IsState policy shape dims (map (λ (view : ViewMap). view.depths) vs.views) fs (record { spare = spare; stats = ss; index = is; groups = gs; views = vs; rows = 0 }) in
      subst (λ (fs : List Fact). with fs stats index groups views) (sym no_facts)
      (subst (λ (ss : Places CellStat). with [] ss index groups views) (sym no_stats)
      (subst (λ (is : Places (List ℕ)). with [] [] is groups views) (sym no_index)
      (subst (λ (gs : Places Group). with [] [] [] gs views) (sym no_groups)
      (subst (λ (vs : ViewMaps). with [] [] [] [] vs) (sym are) IsState-none))))

module _ (policy : Policy) (shape : ShapeValue) (dims : List Dimension) (trees : All IsTree dims) (spare : ℕ) (facts : List Fact) (stats : Places CellStat) (index : Places (List ℕ)) (groups : Places Group) (views : ViewMaps) where
  abbrev pub Empty : Type 0
  Empty = IsState policy shape dims (map (λ (view : ViewMap). view.depths) views.views) facts (record { spare = spare; stats = stats; index = index; groups = groups; views = views; rows = 0 })

  -- with the views of definitions
  pub IsState-empty : (defs : List ViewDef) → All (λ def. length def.depths ≡ length dims) defs → (columns : ℕ) → facts ≡ [] → stats ≡ [] → index ≡ [] → groups ≡ [] → views ≡ record { columns = columns; views = map (view_of columns) defs }
      → columns ≡ 1 + width_of_all shape.measures → Empty
  IsState-empty defs cut_each columns no_facts no_stats no_index no_groups are width =
      let maps : ViewMaps = record { columns = columns; views = map (view_of columns) defs } in
      let turned : columns ≡ width_of_all shape.measures + 1 = omega (arith, width) in
      IsState-over policy shape dims trees spare maps (subst (λ n. AreViewsOfFacts dims (map (λ (view : ViewMap). view.depths) maps.views) n [] maps) turned (AreViewsOfFacts-none dims columns defs cut_each)) facts stats index groups views no_facts no_stats no_index no_groups are

  -- and with views that were others, over as many dimensions
  pub IsState-fresh : (space : List Dimension) (maps : ViewMaps) → AreViewsOf space maps → maps.columns ≡ width_of_all shape.measures + 1 → length dims ≡ length space → facts ≡ [] → stats ≡ [] → index ≡ [] → groups ≡ []
      → views ≡ record { columns = maps.columns; views = map without_entries maps.views } → Empty
  IsState-fresh space maps over width same no_facts no_stats no_index no_groups are =
      IsState-over policy shape dims trees spare (record { columns = maps.columns; views = map without_entries maps.views }) (AreViewsOfFacts-emptied dims space (width_of_all shape.measures + 1) maps over width same) facts stats index groups views no_facts no_stats
      no_index no_groups are

-- what is set of what is kept
pub record IsSet (dims : List Dimension) (edit : Edit) (facts later : List Fact) (old new : Kept) (sets : SetsValue) (count : ℕ) : Type 0 where
  pub edited : later ≡ after edit facts
  pub stats : Installs old.stats new.stats sets.stats
  pub index : Applies old.index new.index sets.index.puts sets.index.drops
  pub groups : PutsAll old.groups new.groups sets.groups
  pub views : (changes : List ViewChange) → AreStagedFor dims changes old.views sets.views → AreAfter dims changes old.views new.views
  pub rows : new.rows ≡ count

-- a put or a change leaves the facts with its fact
pub put-after : (edit : Edit) (fact : Fact) (facts : List Fact) → (edit ≡ Put fact) ⊎ (edit ≡ Change fact) → after edit facts ≡ put fact facts
put-after edit fact facts (inl is) = ap (λ e. after e facts) is
put-after edit fact facts (inr is) = ap (λ e. after e facts) is ∙ put-withdraw fact facts

-- A state as it is seen, an edit, and what is set.
module _ {P : Type 0} (weigh : P → CellStat → ℕ) (state seen : StateValue P) (edit : Edit) (set sets : SetsValue) (count : ℕ) (state_is : seen ≡ state) (sets_are : sets ≡ set) (requires : IsEditFor weigh state edit set count)
    (kept : IsState (policy_in weigh seen) seen.shape seen.dims seen.cuts seen.facts seen.kept) where
  fits : IsEditFor weigh seen edit sets count
  fits = subst (λ (s : StateValue P). IsEditFor weigh s edit sets count) (sym state_is) (subst (λ (v : SetsValue). IsEditFor weigh state edit v count) (sym sets_are) requires)

  -- its new fact lies in the space
  pub given-region : IfSome (given edit) (λ f. IsRegion seen.dims f.region)
  given-region = region-given seen.dims edit (given edit) fits.over refl

  abbrev after_it : List Fact
  after_it = after edit seen.facts

  set-after : (new : Kept) → IsSet seen.dims edit seen.facts after_it seen.kept new sets count → IsState (policy_in weigh seen) seen.shape seen.dims (map (λ (view : ViewMap). view.depths) new.views.views) after_it new
  set-after new is =
      let parts = judged (policy_in weigh seen) seen.shape seen.dims edit seen.facts fits.accepted in
      let views = fits.sets.views in
      let its = is.rows ∙ fits.rows in
      record {
        trees = kept.trees;
        valid = AreValid-after seen.shape seen.dims edit seen.facts fits.over (allowed seen.shape seen.dims edit seen.facts parts.0) kept.valid;
        stats = λ cell. is.stats.stats cell ∙ fits.sets.stats.made cell;
        index = record { ids = λ code. is.index.ids code ∙ fits.sets.index.made code };
        groups = λ code. is.groups.values code ∙ fits.sets.groups.made code;
        views = AreViewsOfFacts-after seen.dims views.changes seen.cuts (width_of_all seen.shape.measures + 1) (extended (policy_in weigh seen) seen.dims seen.facts) (extended (policy_in weigh seen) seen.dims after_it) seen.kept.views new.views views.follow
            (is.views views.changes views.staged) kept.views;
        rows = its;
        few_rows = omega (arith, its, parts.1);
      }

  -- what is kept once it is set is what the edit makes of the facts
  pub installed : (later : List Fact) (new : Kept) → IsSet seen.dims edit seen.facts later seen.kept new sets count
      → IsState (policy_in weigh seen) seen.shape seen.dims (map (λ (view : ViewMap). view.depths) new.views.views) later new
  installed later new is =
      subst (λ (fs : List Fact). IsState (policy_in weigh seen) seen.shape seen.dims (map (λ (view : ViewMap). view.depths) new.views.views) fs new) (sym is.edited)
      (set-after new (subst (λ (fs : List Fact). IsSet seen.dims edit seen.facts fs seen.kept new sets count) is.edited is))

  -- and the content is that after the edit
  pub after-installed : (new : StateValue P) → new.policy ≡ seen.policy → new.dims ≡ seen.dims → new.shape ≡ seen.shape → new.cuts ≡ map (λ (view : ViewMap). view.depths) new.kept.views.views → new.facts ≡ after edit seen.facts
      → ((changes : List ViewChange) → AreStagedFor seen.dims changes seen.kept.views sets.views → AreAfter seen.dims changes seen.kept.views new.kept.views) → HasFacts (after edit state.facts) state new
  after-installed new policy dims shape cuts facts is =
      let views = fits.sets.views in
      let they = is views.changes views.staged in
      let same : new.cuts ≡ seen.cuts = cuts ∙ cuts-after seen.dims views.changes seen.kept.views.views new.kept.views.views they.count they.each ∙ kept.views.cuts_are in
      subst (λ (s : StateValue P). HasFacts (after edit s.facts) s new) state_is (record { policy = policy; dims = dims; shape = shape; cuts = same; facts = facts })

-- all facts at once: the cuts are those that the state had
pub replaced : (policy : Policy) (shape : ShapeValue) (dims : List Dimension) (cuts : List (List ℕ)) (facts : List Fact) (kept : Kept) → IsState policy shape dims cuts facts kept
    → IsState policy shape dims (map (λ (view : ViewMap). view.depths) kept.views.views) facts kept
replaced policy shape dims cuts facts kept is = subst (λ cs. IsState policy shape dims cs facts kept) (sym is.views.cuts_are) is

-- a state as it is seen has the dimensions and cuts that it has
pub dims-seen : {P : Type 0} (state seen : StateValue P) → seen ≡ state → length seen.dims ≡ length state.dims
dims-seen state seen same = ap (λ s. length s.dims) same

pub cuts-seen : {P : Type 0} (state seen : StateValue P) → seen ≡ state → seen.cuts ≡ state.cuts
cuts-seen state seen same = ap (λ s. s.cuts) same
