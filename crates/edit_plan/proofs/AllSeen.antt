-- All facts at once, as a state sees its own.
use Rattle.std.proofs.Common.{◌≡◌, ℕ, ◌≤◌, Bool, true, false, Bor, List, [], ap, sym, ◌∙◌, subst}
use Rattle.std.specs.Prelude.{All, Option, Some, None, find, ◌==◌}
use Rattle.std.specs.Option.{option_copied, option_map}
use Rattle.std.proofs.lemmas.List.Elements.{All-weaker}
use Rattle.cube_model.specs.declared.edit.Fact.{Fact}
use Rattle.cube_model.specs.declared.statistic.CellStat.{CellStat}
use Rattle.cube_model.specs.Allocation.{Allocation}
use Rattle.cube_model.specs.Ascending.{ascends_from}
use Rattle.cube_model.specs.Tree.{IsTree}
use Rattle.fact_keeper.specs.declared.content.Batch.{Batch}
use Rattle.fact_keeper.specs.declared.content.KeptFact.{KeptFact}
use Rattle.fact_keeper.specs.declared.content.KeptRows.{KeptRows}
use Rattle.fact_groups.specs.Groups.{Group, group_at}
use Rattle.fact_records.specs.New.{AreNew, put_all}
use Rattle.fact_records.specs.Shape.{width_of_all}
use Rattle.fact_records.specs.Valid.{AreValid, IsValid}
use Rattle.fact_indexes.specs.Anew.{kept_of}
use Rattle.fact_indexes.specs.declared.kept.FactsKept.{FactsKept}
use Rattle.region_algebra.specs.Space.{code_of}
use Rattle.cube_state.specs.Sets.{AreAllFor}
use Rattle.edit_plan.specs.Plan.{AreNewFor, lists_for}
use Rattle.edit_plan.specs.Refreshing.{is_same_spread}
use Rattle.edit_plan.specs.declared.plan_lists.Detail.{Detail}
use Rattle.cube_state.specs.State.{StateValue, policy_in}
use Rattle.edit_plan.specs.Whole.{batch_otherwise, difference_with, facts_with_new, ids_otherwise, lay_so, new_kept, refreshed_by, rows_otherwise}
use Rattle.cube_state.proofs.Accepting.{AreValid-new}
use Rattle.edit_plan.proofs.AllRefreshed.{IsKeptFact, ascend-refreshed, ids-refreshed, kept-each, lay-none, lay-some, rows-refreshed}
use Rattle.edit_plan.proofs.AllStored.{new-stored}
use Rattle.fact_indexes.proofs.ValidFacts.{valid-regions}

module _ {P : Type 0} (weigh : P → CellStat → ℕ) (state : StateValue P) where
  -- each of them is kept
  pub kept-left : All IsTree state.dims → (all : FactsKept) → AreAllFor weigh state all → (walk : List Fact) → walk ≡ all.facts.facts
      → All (IsKeptFact (policy_in weigh state) (width_of_all state.shape.measures) state.dims all.facts.facts all.groups) walk
  kept-left trees all is walk left =
      subst (All (IsKeptFact (policy_in weigh state) (width_of_all state.shape.measures) state.dims all.facts.facts all.groups)) (sym left)
      (kept-each (policy_in weigh state) state.shape state.dims state.cuts all.facts.facts (kept_of all) trees is)

  -- whether a fact of an id lay so
  module _ (valid : AreValid state.shape state.dims state.facts) (trees : All IsTree state.dims) (id : ℕ) (spread : Allocation) (found : Option Fact) (is : found ≡ find (λ f. f.id == id) state.facts) where
    its : find (λ f. f.id == id) state.facts ≡ found
    its = sym is

    pub lay-seen_none : found ≡ None → false ≡ lay_so (policy_in weigh state) state.dims state.facts id spread
    lay-seen_none none =
        lay-none (policy_in weigh state) (width_of_all state.shape.measures) state.dims state.facts valid.ascending trees (valid-regions state.shape state.dims state.facts valid) id spread (its ∙ none)

    pub lay-seen_some : (fact : Fact) (code : ℕ) (lay : Bool) (before : Option Allocation) → found ≡ Some fact → code ≡ code_of state.dims fact.region
        → before ≡ option_map (λ (g : Group). g.spread) (group_at (policy_in weigh state) (width_of_all state.shape.measures) state.dims state.facts code) → lay ≡ is_same_spread before (Some spread)
        → lay ≡ lay_so (policy_in weigh state) state.dims state.facts id spread
    lay-seen_some fact code lay before some at before_is lay_is =
        lay-some (policy_in weigh state) (width_of_all state.shape.measures) state.dims state.facts valid.ascending trees (valid-regions state.shape state.dims state.facts valid) id spread fact code lay before
        (its ∙ some) at before_is lay_is

-- the plan of new facts
module _ {P : Type 0} (weigh : P → CellStat → ℕ) (state : StateValue P) (new : List Fact) (are : AreNew state.shape state.dims state.facts new) (valid : AreValid state.shape state.dims state.facts) (later : List Fact) (is : later ≡ facts_with_new state new) where
  all-valid : AreValid state.shape state.dims (facts_with_new state new)
  all-valid = AreValid-new state.shape state.dims new state.facts are valid

  pub ids-planned : ids_otherwise (policy_in weigh state) state.dims state.facts later later ≡ refreshed_by weigh state new
  ids-planned = ap (λ fs. ids_otherwise (policy_in weigh state) state.dims state.facts fs fs) is ∙ ids-refreshed (policy_in weigh state) state.dims state.facts (facts_with_new state new) all-valid.ascending

  pub new-ascend : ascends_from (λ id. id) 1 (refreshed_by weigh state new) ≡ true
  new-ascend =
      ascend-refreshed (policy_in weigh state) state.dims state.facts (facts_with_new state new) all-valid.ascending (All-weaker (IsValid state.shape state.dims) (λ f. 1 ≤ f.id) (λ f one. one.accepted.placed.id.least) (facts_with_new state new) all-valid.each)

  abbrev batch_of : List KeptFact → List KeptRows → Batch
  batch_of facts rows = record { schema = None; gone = []; facts = facts; rows = rows }

  batch-planned : batch_otherwise (policy_in weigh state) state.dims state.facts later ≡ difference_with (policy_in weigh state) state.dims new state.facts
  batch-planned =
      ap (λ fs. batch_of fs (rows_otherwise (policy_in weigh state) state.dims state.facts later later)) (ap (new_kept state.facts) is ∙ new-stored state.shape state.dims new state.facts are all-valid.ascending)
      ∙ ap (batch_of (difference_with (policy_in weigh state) state.dims new state.facts).facts)
      (ap (λ fs. rows_otherwise (policy_in weigh state) state.dims state.facts fs fs) is ∙ rows-refreshed (policy_in weigh state) state.dims state.facts (facts_with_new state new) all-valid.ascending)

  pub lists-planned : (detail : Detail)
      → lists_for detail (ids_otherwise (policy_in weigh state) state.dims state.facts later later) (batch_otherwise (policy_in weigh state) state.dims state.facts later)
      ≡ lists_for detail (refreshed_by weigh state new) (difference_with (policy_in weigh state) state.dims new state.facts)
  lists-planned detail =
      ap (λ ids. lists_for detail ids (batch_otherwise (policy_in weigh state) state.dims state.facts later)) ids-planned ∙ ap (lists_for detail (refreshed_by weigh state new)) batch-planned

-- what is planned fits, where it is named
pub new-fits : {P : Type 0} (weigh : P → CellStat → ℕ) (state : StateValue P) (new named : List Fact) (all : FactsKept) → AreNew state.shape state.dims state.facts new → named ≡ new → all.facts.facts ≡ facts_with_new state new → AreAllFor weigh state all
    → AreNewFor weigh state named all
new-fits weigh state new named all are is facts kept = record { accepted = subst (AreNew state.shape state.dims state.facts) (sym is) are; facts = facts ∙ ap (λ fs. put_all fs state.facts) (sym is); kept = kept }
