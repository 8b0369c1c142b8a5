-- The statistics of cells while facts are counted in: with what the facts that are left bring, they are those of all facts.
use Rattle.std.proofs.Common.{◌≡◌, ℕ, ◌+◌, ◌<◌, ◌≤◌, Bool, true, false, List, ◌∷◌, length, refl, ap, sym, subst, ◌∙◌, arith}
use Rattle.std.specs.Prelude.{All, IfSome, filter, ◌==◌, if◌then◌else◌, Option, Some, None}
use Rattle.std.specs.List.{count_by, sum_by}
use Rattle.std.specs.Option.{option_map, option_map_or}
use Rattle.std.proofs.lemmas.Bool.Decides.{nat_tests}
use Rattle.std.proofs.lemmas.List.Elements.{All-tail}
use Rattle.std.proofs.lemmas.List.Sums.{count_by-le-length, sum_by-cons}
use Rattle.cube_model.specs.declared.edit.Fact.{Fact}
use Rattle.cube_model.specs.declared.statistic.CellStat.{CellStat}
use Rattle.cube_model.specs.Cells.{cells_of}
use Rattle.cube_model.specs.Facts.{lies_at}
use Rattle.cube_model.specs.Limits.{MAX_FACTS}
use Rattle.cube_model.specs.Tree.{Dimension}
use Rattle.region_algebra.specs.Space.{only_cell}
use Rattle.staged_map.specs.Staged.{Places}
use Rattle.cell_weight.specs.Stats.{stat_at}
use Rattle.fact_records.specs.Shape.{ShapeValue, adds_of}
use Rattle.fact_records.specs.Valid.{IsValid}
use Rattle.touched_cells.specs.Touched.{Lying, added_at, lying_of, number_at}
use Rattle.touched_cells.proofs.Touching.{added-lying, lies-only, number-lying}
use Rattle.fact_indexes.specs.Counted.{stat_with}

-- what facts add to the sum of a cell
abbrev pub sum_of : ShapeValue → List Dimension → List Fact → ℕ → ℕ
sum_of shape dims facts cell = sum_by (λ f. adds_of shape f.cols) (filter (lies_at dims cell) facts)

-- Some of the facts are counted in, and the others are left.
pub record IsCounting (shape : ShapeValue) (dims : List Dimension) (facts others : List Fact) (places : Places CellStat) : Type 0 where
  pub numbers : (cell : ℕ) → (stat_at places cell).count + count_by (lies_at dims cell) others ≡ count_by (lies_at dims cell) facts
  pub sums : (cell : ℕ) → (stat_at places cell).sum + sum_of shape dims others cell ≡ sum_of shape dims facts cell
  pub valid : All (IsValid shape dims) others

-- what one fact more brings to a cell
sum-cons : (p : Fact → Bool) (adds : Fact → ℕ) (fact : Fact) (facts : List Fact) → sum_by adds (filter p (fact ∷ facts)) ≡ (if p fact then adds fact else 0) + sum_by adds (filter p facts)
sum-cons p adds fact facts = either (p fact)
  where
    either : (b : Bool) → sum_by adds (if b then fact ∷ filter p facts else filter p facts) ≡ (if b then adds fact else 0) + sum_by adds (filter p facts)
    either true = sum_by-cons adds fact (filter p facts)
    either false = omega arith

module _ (shape : ShapeValue) (dims : List Dimension) (facts left : List Fact) (fact : Fact) (others : List Fact) (first : left ≡ fact ∷ others) (old : Places CellStat) (counting : IsCounting shape dims facts left old)
    (lying : Lying) (is_lying : lying ≡ lying_of dims (adds_of shape) (Some fact)) where
  number-left : (cell : ℕ) → count_by (lies_at dims cell) left ≡ (if lies_at dims cell fact then 1 else 0) + count_by (lies_at dims cell) others
  number-left cell = ap (count_by (lies_at dims cell)) first ∙ sum_by-cons (λ f. if lies_at dims cell f then 1 else 0) fact others

  sum-left : (cell : ℕ) → sum_of shape dims left cell ≡ (if lies_at dims cell fact then adds_of shape fact.cols else 0) + sum_of shape dims others cell
  sum-left cell = ap (λ some. sum_of shape dims some cell) first ∙ sum-cons (lies_at dims cell) (λ f. adds_of shape f.cols) fact others

  -- one more is counted in
  pub IsCounting-next : (new : Places CellStat) → ((cell : ℕ) → stat_at new cell ≡ stat_with lying cell (stat_at old cell)) → IsCounting shape dims facts others new
  IsCounting-next new counted = record {
    numbers = λ cell.
        omega (arith, counting.numbers cell, number-left cell, ap (λ l. number_at l cell) is_lying ∙ number-lying dims (adds_of shape) cell (Some fact), ap (λ (s : CellStat). s.count) (counted cell));
    sums = λ cell.
        omega (arith, counting.sums cell, sum-left cell, ap (λ l. added_at l cell) is_lying ∙ added-lying dims (adds_of shape) cell (Some fact), ap (λ (s : CellStat). s.sum) (counted cell));
    valid = All-tail (IsValid shape dims) fact others (subst (λ some. All (IsValid shape dims) some) first counting.valid);
  }

  -- not too many are counted in yet at its cell
  pub few-next : length facts ≤ MAX_FACTS → IfSome lying (λ l. (stat_at old l.0).count < MAX_FACTS)
  few-next few = subst (λ (l : Lying). IfSome l (λ l. (stat_at old l.0).count < MAX_FACTS)) (sym is_lying) (either (only_cell (cells_of dims fact.region)) refl)
    where
      either : (only : Option ℕ) → only_cell (cells_of dims fact.region) ≡ only → IfSome {T = ℕ × ℕ} (option_map (λ k. (k, adds_of shape fact.cols)) only) (λ l. (stat_at old l.0).count < MAX_FACTS)
      either None is = tt
      either (Some cell) is =
          let same : (cell == cell) ≡ true = grind (arith, nat_tests) in
          let lies : lies_at dims cell fact ≡ true = lies-only dims fact cell ∙ ap (λ o. option_map_or (λ k. k == cell) o false) is ∙ same in
          let one : (if lies_at dims cell fact then 1 else 0) ≡ 1 = ap {B = ℕ} (λ b. if b then 1 else 0) lies in
          omega (arith, few, counting.numbers cell, number-left cell, one, count_by-le-length (lies_at dims cell) facts)
