-- What an edit does to the statistics of the cells that it touches.
use Rattle.std.proofs.Common.{◌≡◌, ℕ, ◌+◌, ◌-◌, ◌*◌, ◌<◌, ◌≤◌, Bool, true, false, List, [], ◌∷◌, map, slice_get, refl, ap, sym, ◌∙◌, arith, ℤ}
use Rattle.std.specs.Prelude.{All, AllPairs, filter, ◌&&◌, ◌==◌, if◌then◌else◌, Option, Some, None}
use Rattle.std.specs.List.{count_by, sum_by}
use Rattle.std.specs.Option.{option_and_then, option_map, option_map_or}
use Rattle.std.proofs.lemmas.Bool.Decides.{nat_tests}
use Rattle.std.proofs.lemmas.List.Elements.{All-head, All-tail, All-weaker}
use Rattle.std.proofs.lemmas.List.Sums.{count_by-le-length, sum_by-cons}
use Rattle.cube_model.specs.declared.edit.Edit.{Edit}
use Rattle.cube_model.specs.declared.edit.Edit.TheVariants.{Withdraw}
use Rattle.cube_model.specs.declared.edit.Fact.{Fact}
use Rattle.cube_model.specs.declared.statistic.CellStat.{CellStat}
use Rattle.cube_model.specs.Allocation.{Policy, add_column, stat_of}
use Rattle.cube_model.specs.Cells.{cells_of, is_among, is_single}
use Rattle.cube_model.specs.Facts.{after, lies_at}
use Rattle.cube_model.specs.Limits.{MAX_VALUE}
use Rattle.cube_model.specs.Tree.{Dimension}
use Rattle.region_algebra.specs.Space.{only_cell}
use Rattle.cell_weight.specs.Stats.{IsStat}
use Rattle.alloc_rows.specs.Changed.{Change}
use Rattle.fact_groups.specs.Changes.{cell_of, cells_in_order, touched_cells}
use Rattle.fact_groups.specs.Edits.{edited_id, given, taken}
use Rattle.fact_groups.proofs.Statistics.{added-after, count-after}
use Rattle.fact_records.specs.declared.shape.Measure.{Measure}
use Rattle.fact_records.specs.Accepted.{cols_refusal}
use Rattle.fact_records.specs.Shape.{IsShape, ShapeValue, adds_of, policy_over, weight_measure}
use Rattle.fact_records.specs.Valid.{AreValid, IsValid}
use Rattle.touched_cells.specs.Touched.{Lying, added_at, change_at, changes_of, lying_of, number_at, stat_moved, touched}
use Rattle.fact_records.proofs.Adding.{weight-adds, weight-small}

-- a fact lies where its one cell is, if there is one
single-among : (cells : List ℕ) (cell : ℕ) → (is_single cells && is_among cells cell) ≡ option_map_or (λ k. k == cell) (only_cell cells) false
single-among [] cell = refl
single-among (c ∷ []) cell = grind (arith, nat_tests)
single-among (c ∷ d ∷ cells) cell = grind (arith, nat_tests)

pub lies-only : (dims : List Dimension) (fact : Fact) (cell : ℕ) → lies_at dims cell fact ≡ option_map_or (λ k. k == cell) (only_cell (cells_of dims fact.region)) false
lies-only dims fact cell = single-among (cells_of dims fact.region) cell

-- so what it brings to a cell is what counts there
module _ (dims : List Dimension) (adds : List ℤ → ℕ) (cell : ℕ) where
  lies : (f : Fact) (only : Option ℕ) → only_cell (cells_of dims f.region) ≡ only → lies_at dims cell f ≡ option_map_or (λ k. k == cell) only false
  lies f only is = single-among (cells_of dims f.region) cell ∙ ap (λ o. option_map_or (λ k. k == cell) o false) is

  pub number-lying : (fact : Option Fact) → number_at (lying_of dims adds fact) cell ≡ option_map_or (λ f. if lies_at dims cell f then 1 else 0) fact 0
  number-lying None = refl
  number-lying (Some f) = either (only_cell (cells_of dims f.region)) refl
    where
      either : (only : Option ℕ) → only_cell (cells_of dims f.region) ≡ only → number_at (option_map (λ k. (k, adds f.cols)) only) cell ≡ (if lies_at dims cell f then 1 else 0)
      either None is = sym (ap {B = ℕ} (λ b. if b then 1 else 0) (lies f None is))
      either (Some k) is = sym (ap {B = ℕ} (λ b. if b then 1 else 0) (lies f (Some k) is))

  pub added-lying : (fact : Option Fact) → added_at (lying_of dims adds fact) cell ≡ option_map_or (λ f. if lies_at dims cell f then adds f.cols else 0) fact 0
  added-lying None = refl
  added-lying (Some f) = either (only_cell (cells_of dims f.region)) refl
    where
      either : (only : Option ℕ) → only_cell (cells_of dims f.region) ≡ only → added_at (option_map (λ k. (k, adds f.cols)) only) cell ≡ (if lies_at dims cell f then adds f.cols else 0)
      either None is = sym (ap {B = ℕ} (λ b. if b then adds f.cols else 0) (lies f None is))
      either (Some k) is = sym (ap {B = ℕ} (λ b. if b then adds f.cols else 0) (lies f (Some k) is))

cell-lying : (dims : List Dimension) (adds : List ℤ → ℕ) (fact : Option Fact) → option_map (λ (l : ℕ × ℕ). l.0) (lying_of dims adds fact) ≡ cell_of dims fact
cell-lying dims adds None = refl
cell-lying dims adds (Some f) = either (only_cell (cells_of dims f.region))
  where
    either : (only : Option ℕ) → option_map (λ (l : ℕ × ℕ). l.0) (option_map (λ k. (k, adds f.cols)) only) ≡ only
    either None = refl
    either (Some k) = refl

map-agree : {X : Type 0} (f g : ℕ → X) (xs : List ℕ) → ((x : ℕ) → f x ≡ g x) → map f xs ≡ map g xs
map-agree f g [] same = refl
map-agree f g (x ∷ xs) same = rw (same x, map-agree f g xs same) refl

abbrev stat_with : ℕ → ℕ → CellStat
stat_with count sum = record { count = count; sum = sum }

same-stat : (stat : CellStat) (count sum : ℕ) → count ≡ stat.count → sum ≡ stat.sum → stat_with count sum ≡ stat
same-stat stat count sum counts sums = ap (λ n. stat_with n sum) counts ∙ ap (stat_with stat.count) sums

module _ (policy : Policy) (dims : List Dimension) (edit : Edit) (facts : List Fact) (up : AllPairs (λ f g. f.id < g.id) facts) where
  abbrev lost : Lying
  lost = lying_of dims policy.adds (taken edit facts)

  abbrev won : Lying
  won = lying_of dims policy.adds (given edit)

  -- what is taken was counted
  pub number-taken : (cell : ℕ) → number_at lost cell ≤ (stat_of policy dims facts cell).count
  number-taken cell = omega (arith, number-lying dims policy.adds cell (taken edit facts), count-after policy dims (Withdraw (edited_id edit)) facts up cell)

  pub added-taken : (cell : ℕ) → added_at lost cell ≤ (stat_of policy dims facts cell).sum
  added-taken cell = omega (arith, added-lying dims policy.adds cell (taken edit facts), added-after policy dims (Withdraw (edited_id edit)) facts up cell)

  moved : (cell : ℕ) → stat_moved lost won cell (stat_of policy dims facts cell) ≡ stat_of policy dims (after edit facts) cell
  moved cell =
      let stat = stat_of policy dims facts cell in
      same-stat (stat_of policy dims (after edit facts) cell) (stat.count + number_at won cell - number_at lost cell) (stat.sum + added_at won cell - added_at lost cell)
      (omega (arith, number-lying dims policy.adds cell (taken edit facts), number-lying dims policy.adds cell (given edit), count-after policy dims edit facts up cell))
      (omega (arith, added-lying dims policy.adds cell (taken edit facts), added-lying dims policy.adds cell (given edit), added-after policy dims edit facts up cell))

  -- the changes of the cells of both facts are those of the cells that the edit touches
  pub changes-touched : (stats : ℕ → CellStat) → ((cell : ℕ) → stats cell ≡ stat_of policy dims facts cell) → changes_of stats lost won ≡ touched policy dims edit facts
  unfolding touched_cells
  changes-touched stats are =
      map-agree (change_at stats lost won) (λ cell. (cell, stat_of policy dims facts cell, stat_of policy dims (after edit facts) cell)) (cells_in_order (option_map (λ (l : ℕ × ℕ). l.0) lost) (option_map (λ (l : ℕ × ℕ). l.0) won)) each
      ∙ ap (λ o. map as_change (cells_in_order o (option_map (λ (l : ℕ × ℕ). l.0) won))) (cell-lying dims policy.adds (taken edit facts))
      ∙ ap (λ o. map as_change (cells_in_order (cell_of dims (taken edit facts)) o)) (cell-lying dims policy.adds (given edit))
    where
      as_change : ℕ → Change
      as_change cell = (cell, stat_of policy dims facts cell, stat_of policy dims (after edit facts) cell)

      each : (cell : ℕ) → change_at stats lost won cell ≡ (cell, stat_of policy dims facts cell, stat_of policy dims (after edit facts) cell)
      each cell =
          ap (λ s. (cell, s, stat_moved lost won cell s)) (are cell)
          ∙ ap (λ s. (cell, stat_of policy dims facts cell, s)) (moved cell)

-- what a valid fact adds is small
pub adds-small : (shape : ShapeValue) (values : List ℤ) → IsShape shape → cols_refusal shape values ≡ None → adds_of shape values ≤ MAX_VALUE
adds-small shape values is accepted = either shape.weight refl
  where
    none_adds : weight_measure shape ≡ None → adds_of shape values ≡ 0
    none_adds none = ap (λ o. option_map_or (λ (m : Measure). add_column m.first_col values) o 0) none

    found : (i : ℕ) (measure : Option Measure) → shape.weight ≡ Some i → slice_get shape.measures i ≡ measure → adds_of shape values ≤ MAX_VALUE
    found i None weighs there =
        let none : weight_measure shape ≡ None = ap (option_and_then (λ k. slice_get shape.measures k)) weighs ∙ there in
        omega (arith, none_adds none)
    found i (Some m) weighs there = omega (arith, weight-adds shape values is accepted i m (sym weighs) there, weight-small shape values is accepted i m (sym weighs) there)

    either : (weight : Option ℕ) → shape.weight ≡ weight → adds_of shape values ≤ MAX_VALUE
    either None none = omega (arith, none_adds (ap (option_and_then (λ k. slice_get shape.measures k)) none))
    either (Some i) weighs = found i (slice_get shape.measures i) weighs refl

sum-light : (p : Fact → Bool) (adds : Fact → ℕ) (facts : List Fact) → All (λ f. adds f ≤ MAX_VALUE) facts → sum_by adds (filter p facts) ≤ count_by p facts * MAX_VALUE
sum-light p adds [] each = omega arith
sum-light p adds (f ∷ facts) each = either (p f) refl (sum-light p adds facts (All-tail (λ f. adds f ≤ MAX_VALUE) f facts each))
  where
    count : count_by p (f ∷ facts) ≡ (if p f then 1 else 0) + count_by p facts
    count = sum_by-cons (λ f. if p f then 1 else 0) f facts

    here : adds f ≤ MAX_VALUE
    here = All-head (λ f. adds f ≤ MAX_VALUE) f facts each

    sum : (b : Bool) → p f ≡ b → sum_by adds (filter p (f ∷ facts)) ≡ sum_by adds (if b then f ∷ filter p facts else filter p facts)
    sum b is = ap (λ b. sum_by adds (if b then f ∷ filter p facts else filter p facts)) is

    counts : (b : Bool) → p f ≡ b → count_by p (f ∷ facts) ≡ (if b then 1 else 0) + count_by p facts
    counts b is = count ∙ ap {B = ℕ} (λ (b : Bool). (if b then 1 else 0) + count_by p facts) is

    either : (b : Bool) → p f ≡ b → sum_by adds (filter p facts) ≤ count_by p facts * MAX_VALUE → sum_by adds (filter p (f ∷ facts)) ≤ count_by p (f ∷ facts) * MAX_VALUE
    either true is rest = omega (arith, rest, here, sum true is ∙ sum_by-cons adds f (filter p facts), counts true is)
    either false is rest = omega (arith, rest, sum false is, counts false is)

-- the statistics of valid facts are such as facts can have
pub IsStat-valid : (weigh : CellStat → ℕ) (shape : ShapeValue) (dims : List Dimension) (facts : List Fact) → IsShape shape → AreValid shape dims facts → (cell : ℕ) → IsStat (stat_of (policy_over weigh shape) dims facts cell)
IsStat-valid weigh shape dims facts is valid cell = record {
  few = omega (arith, valid.few, count_by-le-length (lies_at dims cell) facts);
  light = sum-light (lies_at dims cell) (λ f. adds_of shape f.cols) facts (All-weaker (IsValid shape dims) (λ f. adds_of shape f.cols ≤ MAX_VALUE) (λ f one. adds-small shape f.cols is one.accepted.values) facts valid.each);
}
