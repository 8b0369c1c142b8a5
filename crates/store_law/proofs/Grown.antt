-- A content with the batch of an accepted growth.
use Rattle.std.proofs.Common.{◌≡◌, ℕ, ◌<◌, ◌≤◌, Bool, true, false, List, [], ◌∷◌, map, refl, ap, sym, ◌∙◌}
use Rattle.std.specs.Prelude.{All, AllPairs, Option, Some, None, filter, is_none, not, ◌||◌, if◌then◌else◌}
use Rattle.std.specs.Option.{option_map}
use Rattle.std.proofs.Common.{arith}
use Rattle.std.proofs.lemmas.Bool.Decides.{nat_tests}
use Rattle.std.proofs.lemmas.List.Elements.{All-cons, All-nil}
use Rattle.std.proofs.lemmas.Bool.{not-false}
use Rattle.cube_base.specs.declared.code.Code.{Code}
use Rattle.cube_base.specs.declared.code.Code.TheVariants as code
use Rattle.cube_model.specs.declared.edit.Fact.{Fact}
use Rattle.cube_model.specs.declared.tree.Grow.{Grow}
use Rattle.cube_model.specs.Accepted.{first_refusal, has_many_rows}
use Rattle.cube_model.specs.Allocation.{Policy, allocation, extended, row_count}
use Rattle.cube_model.specs.Cells.{is_among}
use Rattle.cube_model.specs.Limits.{MAX_ROWS}
use Rattle.cube_model.specs.Tree.{Dimension, IsTree}
use Rattle.fact_groups.proofs.Refreshing.{same_allocations}
use Rattle.fact_keeper.specs.declared.content.Stored.{Stored}
use Rattle.fact_keeper.specs.Batch.{apply_batch, fact_id, rows_id, updated}
use Rattle.fact_keeper.proofs.Puts.{without-none}
use Rattle.fact_records.specs.Accepted.{region_refusal}
use Rattle.fact_records.specs.FactList.{fact_of}
use Rattle.fact_records.specs.Shape.{ShapeValue}
use Rattle.fact_records.specs.Valid.{AreValid, IsValid}
use Rattle.schema_text.specs.Growth.{IsGrowOf, dims_with}
use Rattle.schema_text.specs.Schema.{SchemaValue, shape_of}
use Rattle.edit_plan.specs.Plan.{kept_rows}
use Rattle.edit_plan.proofs.RowsKept.{among-some, record_of}
use Rattle.store_audit.specs.Sound.{IsSound, facts_told}
use Rattle.cube_core.specs.Growth.{growth_difference, has_large_region, judge_growth, lies_the_same, moved, space_refusal}
use Rattle.cube_core.specs.Respread.{KeepRegions}
use Rattle.cube_core.proofs.Widening.{keep-grown}
use Rattle.store_law.specs.Holds.{HoldsState}
use Rattle.store_law.proofs.Rowed.{IsLeft, rows-updated, rows_of}
use Rattle.store_law.proofs.Told.{good-valid, holds-these, told-kept}

-- what a growth that is accepted fulfils
record IsAllowed (policy : Policy) (dims : List Dimension) (facts : List Fact) (grow : Grow) : Type 0 where
  space : space_refusal dims grow ≡ None
  small : has_large_region (dims_with grow dims) facts ≡ false
  few : row_count (extended policy (dims_with grow dims) facts) ≤ MAX_ROWS

allowed : (policy : Policy) (dims : List Dimension) (facts : List Fact) (grow : Grow) → judge_growth policy dims facts grow ≡ None → IsAllowed policy dims facts grow
allowed policy dims facts grow none =
    either (space_refusal dims grow) refl (has_large_region (dims_with grow dims) facts) refl (has_many_rows (extended policy (dims_with grow dims) facts)) refl none
  where
    either : (space : Option Code) → space_refusal dims grow ≡ space → (large : Bool) → has_large_region (dims_with grow dims) facts ≡ large → (many : Bool) → has_many_rows (extended policy (dims_with grow dims) facts) ≡ many
        → first_refusal (space ∷ (if large then Some code.Region else None) ∷ (if many then Some code.Rows else None) ∷ []) ≡ None → IsAllowed policy dims facts grow
    either (Some why) space_is large large_is many many_is none = cc
    either None space_is true large_is many many_is none = cc
    either None space_is false large_is true many_is none = cc
    either None space_is false large_is false many_is none = record { space = space_is; small = large_is; few = grind (arith, nat_tests, many_is) }

pub allowed-space : (policy : Policy) (dims : List Dimension) (facts : List Fact) (grow : Grow) → judge_growth policy dims facts grow ≡ None → space_refusal dims grow ≡ None
allowed-space policy dims facts grow none = (allowed policy dims facts grow none).space

-- each fact has a region that is not too large
each-small : (dims : List Dimension) (facts : List Fact) → has_large_region dims facts ≡ false → All (λ f. region_refusal dims f.region ≡ None) facts
each-small dims [] none = All-nil _
each-small dims (fact ∷ facts) none = either (region_refusal dims fact.region) refl none (each-small dims facts)
  where
    either : (refusal : Option Code) → region_refusal dims fact.region ≡ refusal → (not (is_none refusal) || has_large_region dims facts) ≡ false
        → (has_large_region dims facts ≡ false → All (λ f. region_refusal dims f.region ≡ None) facts) → All (λ f. region_refusal dims f.region ≡ None) (fact ∷ facts)
    either (Some why) is none rest = cc
    either None is none rest = All-cons (λ f. region_refusal dims f.region ≡ None) fact facts is (rest none)

module _ (shape : ShapeValue) (dims later : List Dimension) (keep : KeepRegions dims later) where
  -- valid facts are so over dimensions that keep the regions, where these are small
  still-valid : (fact : Fact) → IsValid shape dims fact → region_refusal later fact.region ≡ None → IsValid shape later fact
  still-valid fact valid small = record {
    accepted = record { placed = record { id = valid.accepted.placed.id; region = keep.regions fact.region valid.accepted.placed.region }; values = valid.accepted.values };
    size = small;
  }

  each-valid : (facts : List Fact) → All (IsValid shape dims) facts → All (λ f. region_refusal later f.region ≡ None) facts → All (IsValid shape later) facts
  each-valid facts valid small k d within = still-valid _ (valid k d within) (small k d within)

  all-valid : (facts : List Fact) → AreValid shape dims facts → has_large_region later facts ≡ false → AreValid shape later facts
  all-valid facts valid small = record { ascending = valid.ascending; few = valid.few; each = each-valid facts valid.each (each-small later facts small) }

module _ (policy : Policy) (dims later : List Dimension) (facts : List Fact) (up : AllPairs (λ f g. f.id < g.id) facts) where
  -- a fact that is not moved keeps its rows
  left : (n : ℕ) → IsLeft policy dims later facts facts [] (moved policy dims later facts) n
  left n = record { lost = λ none. none; stays = λ not_among. by_found (fact_of n facts) refl not_among }
    where
      by_found : (found : Option Fact) → fact_of n facts ≡ found → is_among (moved policy dims later facts) n ≡ false → option_map (rows_of policy dims facts) found ≡ option_map (rows_of policy later facts) found
      by_found None is not_among = refl
      by_found (Some fact) is not_among =
          let among = among-some policy later facts facts up (λ f. not (lies_the_same policy dims later facts f)) n fact is in
          let same : lies_the_same policy dims later facts fact ≡ true = not-false (lies_the_same policy dims later facts fact) (sym among ∙ not_among) in
          ap (λ a. Some (record_of fact.id a)) (same_allocations (allocation policy dims facts fact) (allocation policy later facts fact) same)

  rows-grown : updated rows_id [] (map kept_rows (filter (λ e. is_among (moved policy dims later facts) e.id) (extended policy later facts))) (map kept_rows (extended policy dims facts)) ≡ map kept_rows (extended policy later facts)
  rows-grown = rows-updated policy dims later facts facts [] (moved policy dims later facts) up up left

pub grown-holds : (policy : Policy) (schema : SchemaValue) (content : Stored) (grow : Grow) → All IsTree schema.dims → IsSound policy (shape_of schema) schema.dims content → IsGrowOf schema.dims grow
    → judge_growth policy schema.dims (facts_told content) grow ≡ None
    → HoldsState policy (shape_of schema) (dims_with grow schema.dims) (facts_told content) (apply_batch (growth_difference policy schema (dims_with grow schema.dims) (facts_told content)) content)
grown-holds policy schema content grow trees sound grows accepted =
    let facts = facts_told content in
    let later = dims_with grow schema.dims in
    let valid : AreValid (shape_of schema) schema.dims facts = good-valid (shape_of schema) schema.dims content.facts sound.good in
    let fine = allowed policy schema.dims facts grow accepted in
    let batch = growth_difference policy schema later facts in
    let keep = keep-grown schema.dims grow.dim grow.parent grow.name trees grows.dim grows.parent in
    holds-these policy (shape_of schema) later facts (apply_batch batch content) (all-valid (shape_of schema) schema.dims later keep facts valid fine.small) fine.few
    (without-none fact_id content.facts ∙ told-kept content.facts)
    (ap (updated rows_id [] batch.rows) sound.rows_are ∙ rows-grown policy schema.dims later facts valid.ascending)
