-- The rows of facts, after a batch that has those of the facts whose allocation changed.
use Rattle.std.proofs.Common.{◌≡◌, ℕ, ◌<◌, Bool, true, false, cond, List, map, refl, ap, sym, ◌∙◌}
use Rattle.std.specs.Prelude.{AllPairs, Option, Some, None, filter, ◌==◌}
use Rattle.std.specs.List.{list_any}
use Rattle.std.specs.Option.{option_map, option_or}
use Rattle.std.proofs.lemmas.List.Kept.{AllPairs-filter}
use Rattle.cube_model.specs.declared.edit.Fact.{Fact}
use Rattle.cube_model.specs.Allocation.{ExtendedFact, Policy, allocation, extended}
use Rattle.cube_model.specs.Cells.{is_among}
use Rattle.cube_model.specs.Tree.{Dimension}
use Rattle.fact_keeper.specs.declared.content.KeptRows.{KeptRows}
use Rattle.fact_keeper.specs.Batch.{rows_id, updated}
use Rattle.fact_keeper.specs.Order.{AscendsBy}
use Rattle.fact_keeper.proofs.Found.{entry_of}
use Rattle.fact_records.specs.FactList.{fact_of}
use Rattle.edit_plan.specs.Plan.{kept_rows}
use Rattle.edit_plan.proofs.RowsKept.{record_of}
use Rattle.cube_cli.proofs.KeptFacts.{pairs-map}
use Rattle.store_law.proofs.Updated.{entry_of-passing, find-map, updated-is}

-- the rows of a fact among facts
abbrev pub rows_of : Policy → List Dimension → List Fact → Fact → KeptRows
rows_of policy dims facts fact = record_of fact.id (allocation policy dims facts fact)

module _ (policy : Policy) (dims : List Dimension) (facts : List Fact) where
  abbrev whole : Fact → ExtendedFact
  whole f = record { id = f.id; values = f.cols; allocation = allocation policy dims facts f }

  -- the rows of an id are those of its fact
  pub rows-found : (n : ℕ) → entry_of rows_id n (map kept_rows (extended policy dims facts)) ≡ option_map (rows_of policy dims facts) (fact_of n facts)
  unfolding extended
  rows-found n = find-map kept_rows (λ (r : KeptRows). r.id == n) (map whole facts) ∙ ap (option_map kept_rows) (find-map whole (λ (e : ExtendedFact). e.id == n) facts) ∙ both (fact_of n facts)
    where
      both : (found : Option Fact) → option_map kept_rows (option_map whole found) ≡ option_map (rows_of policy dims facts) found
      both None = refl
      both (Some fact) = refl

  -- and so among some ids
  pub rows-among : (ids : List ℕ) (n : ℕ) → entry_of rows_id n (map kept_rows (filter (λ e. is_among ids e.id) (extended policy dims facts))) ≡ cond (is_among ids n) (option_map (rows_of policy dims facts) (fact_of n facts)) None
  rows-among ids n =
      find-map kept_rows (λ (r : KeptRows). r.id == n) (filter (λ e. is_among ids e.id) (extended policy dims facts))
      ∙ ap (option_map kept_rows) (entry_of-passing (λ (e : ExtendedFact). e.id) (is_among ids) n (extended policy dims facts))
      ∙ either (is_among ids n)
      ∙ ap (λ o. cond (is_among ids n) o None) (sym (find-map kept_rows (λ (r : KeptRows). r.id == n) (extended policy dims facts)) ∙ rows-found n)
    where
      either : (b : Bool) → option_map kept_rows (cond b (entry_of (λ (e : ExtendedFact). e.id) n (extended policy dims facts)) None) ≡ cond b (option_map kept_rows (entry_of (λ (e : ExtendedFact). e.id) n (extended policy dims facts))) None
      either true = refl
      either false = refl

  module _ (up : AllPairs (λ f g. f.id < g.id) facts) where
    whole-ascends : AllPairs (λ d e. d.id < e.id) (extended policy dims facts)
    unfolding extended
    whole-ascends = pairs-map whole (λ (e : ExtendedFact). e.id) facts up

    pub rows-ascend : AscendsBy rows_id (map kept_rows (extended policy dims facts))
    rows-ascend = pairs-map kept_rows rows_id (extended policy dims facts) whole-ascends

    pub among-ascend : (ids : List ℕ) → AscendsBy rows_id (map kept_rows (filter (λ e. is_among ids e.id) (extended policy dims facts)))
    among-ascend ids =
        pairs-map kept_rows rows_id (filter (λ e. is_among ids e.id) (extended policy dims facts)) (AllPairs-filter (λ (d e : ExtendedFact). d.id < e.id) (λ e. is_among ids e.id) (extended policy dims facts) whole-ascends)

-- An id has the same rows before and after, unless it is gone or new rows are given to it. One that is not there afterwards has none.
pub record IsLeft (policy : Policy) (dims after_dims : List Dimension) (before after : List Fact) (gone ids : List ℕ) (n : ℕ) : Type 0 where
  pub lost : fact_of n after ≡ None → cond (list_any (λ g. g == n) gone) None (fact_of n before) ≡ None
  pub stays : is_among ids n ≡ false → cond (list_any (λ g. g == n) gone) None (option_map (rows_of policy dims before) (fact_of n before)) ≡ option_map (rows_of policy after_dims after) (fact_of n after)

module _ (policy : Policy) (dims after_dims : List Dimension) (before after : List Fact) (gone ids : List ℕ) where
  one-entry : (n : ℕ) (is_gone some : Bool) (old : Option KeptRows) (new : Option KeptRows) → (new ≡ None → cond is_gone None old ≡ None) → (some ≡ false → cond is_gone None old ≡ new)
      → option_or (cond some new None) (cond is_gone None old) ≡ new
  one-entry n is_gone false old new lost stays = stays refl
  one-entry n is_gone true old None lost stays = lost refl
  one-entry n is_gone true old (Some rows) lost stays = refl

  none-mapped : (is_gone : Bool) (found later : Option Fact) → (later ≡ None → cond is_gone None found ≡ None) → option_map (rows_of policy after_dims after) later ≡ None
      → cond is_gone None (option_map (rows_of policy dims before) found) ≡ None
  none-mapped true found later lost none = refl
  none-mapped false None later lost none = refl
  none-mapped false (Some fact) None lost none = let no : Some fact ≡ None = lost refl in cc
  none-mapped false (Some fact) (Some other) lost none = cc

  pub rows-updated : AllPairs (λ f g. f.id < g.id) before → AllPairs (λ f g. f.id < g.id) after → ((n : ℕ) → IsLeft policy dims after_dims before after gone ids n)
      → updated rows_id gone (map kept_rows (filter (λ e. is_among ids e.id) (extended policy after_dims after))) (map kept_rows (extended policy dims before)) ≡ map kept_rows (extended policy after_dims after)
  rows-updated up later_up left =
      updated-is rows_id gone (map kept_rows (filter (λ e. is_among ids e.id) (extended policy after_dims after))) (map kept_rows (extended policy dims before)) (map kept_rows (extended policy after_dims after))
      (among-ascend policy after_dims after later_up ids) (rows-ascend policy dims before up) (rows-ascend policy after_dims after later_up)
      (λ n.
      let is_gone = list_any (λ g. g == n) gone in
      ap (λ o. option_or o (cond is_gone None (entry_of rows_id n (map kept_rows (extended policy dims before))))) (rows-among policy after_dims after ids n)
      ∙ ap (λ o. option_or (cond (is_among ids n) (option_map (rows_of policy after_dims after) (fact_of n after)) None) (cond is_gone None o)) (rows-found policy dims before n)
      ∙ one-entry n is_gone (is_among ids n) (option_map (rows_of policy dims before) (fact_of n before)) (option_map (rows_of policy after_dims after) (fact_of n after))
      (none-mapped is_gone (fact_of n before) (fact_of n after) (left n).lost) (left n).stays
      ∙ sym (rows-found policy after_dims after n))
