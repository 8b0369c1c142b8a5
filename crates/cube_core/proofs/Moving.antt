-- Which facts lie otherwise over later dimensions.
use Rattle.std.proofs.Common.{◌≡◌, ℕ, ◌<◌, ◌≤◌, Bool, true, false, Bor, List, [], ◌∷◌, ◌++◌, map, refl, ap, sym, ◌∙◌, subst}
use Rattle.std.specs.Prelude.{All, AllPairs, Option, Some, None, filter, find, not, ◌==◌}
use Rattle.std.specs.Option.{option_copied, option_map}
use Rattle.std.proofs.lemmas.List.{append-nil}
use Rattle.std.proofs.lemmas.List.Elements.{All-head, All-tail}
use Rattle.cube_model.specs.declared.edit.Fact.{Fact}
use Rattle.cube_model.specs.declared.statistic.CellStat.{CellStat}
use Rattle.cube_model.specs.Allocation.{Allocation, Policy, allocation, allocation_of, extended}
use Rattle.cube_model.specs.Ascending.{ascends_from}
use Rattle.cube_model.specs.Cells.{is_among}
use Rattle.cube_model.specs.Difference.{is_same}
use Rattle.cube_model.specs.Tree.{Dimension}
use Rattle.cube_model.proofs.Ascending.{ascends_filter, ascends_map}
use Rattle.edit_plan.specs.Plan.{kept_rows}
use Rattle.cube_state.specs.State.{StateValue, policy_in, rows_in}
use Rattle.edit_plan.specs.Whole.{rows_among}
use Rattle.edit_plan.proofs.AllRefreshed.{gathered-all, gathered-next, gathered-none, left-first}
use Rattle.cube_state.proofs.Looking.{allocation_of-found, find-itself}
use Rattle.edit_plan.proofs.RowsKept.{among-some, whole}
use Rattle.fact_groups.proofs.Ascending.{ascends-from_pairs}
use Rattle.fact_keeper.specs.declared.content.KeptRows.{KeptRows}
use Rattle.fact_records.specs.Shape.{policy_over}
use Rattle.cube_core.specs.Growth.{lies_the_same, moved}
use Rattle.cube_core.specs.Respread.{IsStateOver, all_moved, ids_moved, rows_moved}

module _ (policy : Policy) (dims later : List Dimension) (facts : List Fact) where
  abbrev otherwise : Fact → Bool
  otherwise f = not (lies_the_same policy dims later facts f)

  abbrev IsThere : Fact → Type 0
  IsThere f = find (λ g. g.id == f.id) facts ≡ Some f

  -- Some facts were looked at, and the others are left.
  pub record AreHeld (ids : List ℕ) (rows : List KeptRows) (left : List Fact) : Type 0 where
    pub ids_are : ids ++ ids_moved policy dims later facts left ≡ moved policy dims later facts
    pub rows_are : rows ++ rows_moved policy dims later facts left ≡ rows_moved policy dims later facts facts
    pub there : All IsThere left

  pub held-none : (ids : List ℕ) (rows : List KeptRows) (walk : List Fact) → AllPairs (λ f g. f.id < g.id) facts → ids ≡ [] → rows ≡ [] → walk ≡ facts → AreHeld ids rows walk
  held-none ids rows walk up no_ids no_rows is = record {
    ids_are = gathered-none otherwise (λ (f : Fact). f.id) facts walk ids no_ids is;
    rows_are = gathered-none otherwise (rows_among policy later facts) facts walk rows no_rows is;
    there = subst (All IsThere) (sym is) (find-itself facts up);
  }

  module _ (ids : List ℕ) (rows : List KeptRows) (left : List Fact) (are : AreHeld ids rows left) where
    pub held-there : (fact : Fact) (rest : List Fact) → left ≡ fact ∷ rest → find (λ f. f.id == fact.id) facts ≡ Some fact
    held-there fact rest is = (left-first IsThere left fact rest are.there is).0

    pub held-next : (fact : Fact) (rest : List Fact) (more_ids : List ℕ) (more_rows : List KeptRows) → left ≡ fact ∷ rest → more_ids ≡ ids ++ ids_moved policy dims later facts (fact ∷ []) → more_rows ≡ rows ++ rows_moved policy dims later facts (fact ∷ [])
        → AreHeld more_ids more_rows rest
    held-next fact rest more_ids more_rows is ids_are rows_are = record {
      ids_are = gathered-next otherwise (λ (f : Fact). f.id) (moved policy dims later facts) ids more_ids left fact rest are.ids_are is ids_are;
      rows_are = gathered-next otherwise (rows_among policy later facts) (rows_moved policy dims later facts facts) rows more_rows left fact rest are.rows_are is rows_are;
      there = (left-first IsThere left fact rest are.there is).1;
    }

    pub held-ids : left ≡ [] → ids ≡ moved policy dims later facts
    held-ids none = gathered-all otherwise (λ (f : Fact). f.id) (moved policy dims later facts) ids left are.ids_are none

    pub held-rows : left ≡ [] → rows ≡ rows_moved policy dims later facts facts
    held-rows none = gathered-all otherwise (rows_among policy later facts) (rows_moved policy dims later facts facts) rows left are.rows_are none

  -- one fact, by its allocations
  module _ (fact : Fact) (before now : Allocation) (before_is : before ≡ allocation policy dims facts fact) (now_is : now ≡ allocation policy later facts fact) where
    told : lies_the_same policy dims later facts fact ≡ is_same before now
    told = sym (ap (λ a. is_same a now) before_is ∙ ap (is_same (allocation policy dims facts fact)) now_is)

    pub ids-stay : (ids : List ℕ) → is_same before now ≡ true → ids ≡ ids ++ ids_moved policy dims later facts (fact ∷ [])
    ids-stay ids so = let same = told ∙ so in rw same (sym (append-nil ids))

    pub rows-stay : (rows : List KeptRows) → is_same before now ≡ true → rows ≡ rows ++ rows_moved policy dims later facts (fact ∷ [])
    rows-stay rows so = let same = told ∙ so in rw same (sym (append-nil rows))

    pub ids-more : (ids now_ids : List ℕ) → is_same before now ≡ false → now_ids ≡ ids ++ fact.id ∷ [] → now_ids ≡ ids ++ ids_moved policy dims later facts (fact ∷ [])
    ids-more ids now_ids so more = let other = told ∙ so in rw other more

    pub rows-more : (rows now_rows : List KeptRows) → is_same before now ≡ false → now_rows ≡ rows ++ record { id = fact.id; den = now.den; rows = now.rows } ∷ [] → now_rows ≡ rows ++ rows_moved policy dims later facts (fact ∷ [])
    rows-more rows now_rows so more =
        let other = told ∙ so in
        rw other (more ∙ ap (λ (a : Allocation). rows ++ record { id = fact.id; den = a.den; rows = a.rows } ∷ []) now_is)

  module _ (up : AllPairs (λ f g. f.id < g.id) facts) where
    -- the ids ascend
    pub ascend-moved : All (λ f. 1 ≤ f.id) facts → ascends_from (λ id. id) 1 (moved policy dims later facts) ≡ true
    ascend-moved from =
        ascends_map (λ (id : ℕ). id) (λ (f : Fact). f.id) 1 (filter otherwise facts)
        ∙ ascends_filter (λ (f : Fact). f.id) otherwise 1 facts (ascends-from_pairs (λ (f : Fact). f.id) 1 facts up from)

    -- and the rows are those of these ids
    rows-some : (some : List Fact) → All IsThere some
        → rows_moved policy dims later facts some ≡ map kept_rows (filter (λ e. is_among (moved policy dims later facts) e.id) (map (whole policy later facts facts up) some))
    rows-some [] each = refl
    rows-some (f ∷ some) each =
        either (otherwise f) (is_among (moved policy dims later facts) f.id) refl refl (among-some policy later facts facts up otherwise f.id f (All-head IsThere f some each)) (rows-some some (All-tail IsThere f some each))
      where
        either : (a b : Bool) → otherwise f ≡ a → is_among (moved policy dims later facts) f.id ≡ b → is_among (moved policy dims later facts) f.id ≡ otherwise f
            → rows_moved policy dims later facts some ≡ map kept_rows (filter (λ e. is_among (moved policy dims later facts) e.id) (map (whole policy later facts facts up) some))
            → rows_moved policy dims later facts (f ∷ some) ≡ map kept_rows (filter (λ e. is_among (moved policy dims later facts) e.id) (map (whole policy later facts facts up) (f ∷ some)))
        either true true is among same rest = rw (is, among) (ap (λ rows. kept_rows (whole policy later facts facts up f) ∷ rows) rest)
        either false false is among same rest = rw (is, among) rest
        either true false is among same rest = cc
        either false true is among same rest = cc

    pub rows-moved : rows_moved policy dims later facts facts ≡ all_moved policy dims later facts
    unfolding extended
    rows-moved = rows-some facts (find-itself facts up)

-- the fact of an id in a state, and in one that is the same over later dimensions
module _ {P : Type 0} (weigh : P → CellStat → ℕ) (state later : StateValue P) (over : IsStateOver later.dims state later) (fact : Fact) (there : find (λ f. f.id == fact.id) state.facts ≡ Some fact) where
  policy_same : policy_in weigh later ≡ policy_in weigh state
  policy_same = ap (λ p. policy_over (weigh p) later.shape) over.policy ∙ ap (policy_over (weigh state.policy)) over.shape

  found : (policy : Policy) (dims : List Dimension) → allocation_of fact.id (extended policy dims state.facts) ≡ Some (allocation policy dims state.facts fact)
  found policy dims = allocation_of-found policy dims state.facts fact.id ∙ ap (option_map (allocation policy dims state.facts)) there

  found-before : allocation_of fact.id (rows_in weigh state) ≡ Some (allocation (policy_in weigh state) state.dims state.facts fact)
  found-before = found (policy_in weigh state) state.dims

  found-later : allocation_of fact.id (rows_in weigh later) ≡ Some (allocation (policy_in weigh state) later.dims state.facts fact)
  found-later =
      ap (λ fs. allocation_of fact.id (extended (policy_in weigh later) later.dims fs)) over.facts
      ∙ ap (λ p. allocation_of fact.id (extended p later.dims state.facts)) policy_same
      ∙ found (policy_in weigh state) later.dims

  pub before-there : (looked : Option (Bor Allocation)) → option_copied looked ≡ allocation_of fact.id (rows_in weigh state) → looked ≡ None → ⊥
  before-there looked is none = let no : None ≡ Some (allocation (policy_in weigh state) state.dims state.facts fact) = sym (ap option_copied none) ∙ is ∙ found-before in cc

  pub later-there : (looked : Option (Bor Allocation)) → option_copied looked ≡ allocation_of fact.id (rows_in weigh later) → looked ≡ None → ⊥
  later-there looked is none = let no : None ≡ Some (allocation (policy_in weigh state) later.dims state.facts fact) = sym (ap option_copied none) ∙ is ∙ found-later in cc

  pub before-is : (looked : Option (Bor Allocation)) (a : Bor Allocation) → option_copied looked ≡ allocation_of fact.id (rows_in weigh state) → looked ≡ Some a → a.now ≡ allocation (policy_in weigh state) state.dims state.facts fact
  before-is looked a is some = let its : Some a.now ≡ Some (allocation (policy_in weigh state) state.dims state.facts fact) = sym (ap option_copied some) ∙ is ∙ found-before in cc

  pub later-is : (looked : Option (Bor Allocation)) (a : Bor Allocation) → option_copied looked ≡ allocation_of fact.id (rows_in weigh later) → looked ≡ Some a → a.now ≡ allocation (policy_in weigh state) later.dims state.facts fact
  later-is looked a is some = let its : Some a.now ≡ Some (allocation (policy_in weigh state) later.dims state.facts fact) = sym (ap option_copied some) ∙ is ∙ found-later in cc
