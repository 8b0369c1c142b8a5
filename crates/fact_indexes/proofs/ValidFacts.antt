-- Facts that a cube may have lie in regions of the space, none of them large, and have few rows.
use Rattle.std.proofs.Common.{◌≡◌, ℕ, ◌*◌, ◌≤◌, Bool, true, false, List, [], ◌∷◌, length, map, refl, arith}
use Rattle.std.specs.Prelude.{All, nat_lt, ◌==◌, if◌then◌else◌, None}
use Rattle.std.specs.List.{sum_by}
use Rattle.std.proofs.lemmas.Bool.Decides.{nat_tests}
use Rattle.std.proofs.lemmas.List.{length-map}
use Rattle.std.proofs.lemmas.List.Elements.{All-weaker}
use Rattle.std.proofs.lemmas.List.Sums.{count_by-le-length, length-filter, sum_by-le}
use Rattle.cube_base.specs.declared.code.Code.TheVariants as code
use Rattle.cube_model.specs.Accepted.{first_that_holds}
use Rattle.cube_model.specs.declared.edit.Fact.{Fact}
use Rattle.cube_model.specs.Allocation.{ExtendedFact, Policy, allocation, extended, row_count, spread, spread_by, spread_evenly, weight_of}
use Rattle.cube_model.specs.Cells.{cells_of, is_single}
use Rattle.cube_model.specs.Limits.{MAX_CELLS, MAX_FACTS}
use Rattle.cube_model.specs.Tree.{Dimension}
use Rattle.region_algebra.specs.Space.{IsRegion}
use Rattle.fact_groups.proofs.Groups.{sum_by-map}
use Rattle.fact_records.specs.Accepted.{region_refusal}
use Rattle.fact_records.specs.Shape.{ShapeValue}
use Rattle.fact_records.specs.Valid.{AreValid, IsValid}

-- no region is larger than may be
pub few-cells : (dims : List Dimension) (region : List ℕ) → region_refusal dims region ≡ None → length (cells_of dims region) ≤ MAX_CELLS
few-cells dims region none = either (nat_lt MAX_CELLS (length (cells_of dims region))) refl none
  where
    either : (b : Bool) → nat_lt MAX_CELLS (length (cells_of dims region)) ≡ b → first_that_holds ((b, code.Region) ∷ []) ≡ None → length (cells_of dims region) ≤ MAX_CELLS
    either true is none = cc
    either false is none = grind (arith, nat_tests, is)

-- facts that a cube may have lie in regions of the space
pub valid-regions : (shape : ShapeValue) (dims : List Dimension) (facts : List Fact) → AreValid shape dims facts → All (λ f. IsRegion dims f.region) facts
valid-regions shape dims facts valid = All-weaker (IsValid shape dims) (λ f. IsRegion dims f.region) (λ f one. one.accepted.placed.region) facts valid.each

-- what is spread has no more rows than there are cells
spread-rows : (weight : ℕ → ℕ) (cells : List ℕ) → length (spread weight cells).rows ≤ length cells
spread-rows weight cells = either (is_single cells) (sum_by weight cells == 0)
  where
    even : length (spread_evenly cells).rows ≡ length cells
    even = length-map {B = ℕ × ℕ} cells (λ cell. (cell, 1))

    weighed : length (spread_by weight cells).rows ≤ length cells
    weighed =
        let all : List (ℕ × ℕ) = map (λ cell. (cell, weight cell)) cells in
        omega (arith, length-filter (λ (row : ℕ × ℕ). nat_lt 0 row.1) all, count_by-le-length (λ (row : ℕ × ℕ). nat_lt 0 row.1) all, length-map {B = ℕ × ℕ} cells (λ cell. (cell, weight cell)))

    either : (single none : Bool) → length (if single then spread_evenly cells else (if none then spread_evenly cells else spread_by weight cells)).rows ≤ length cells
    either true none = omega (arith, even)
    either false true = omega (arith, even)
    either false false = weighed

-- so valid facts have few rows
pub few-rows : (policy : Policy) (shape : ShapeValue) (dims : List Dimension) (facts : List Fact) → AreValid shape dims facts → row_count (extended policy dims facts) ≤ MAX_FACTS * MAX_CELLS
unfolding allocation extended
few-rows policy shape dims facts valid =
    let rows : Fact → ℕ = λ f. length (allocation policy dims facts f).rows in
    let each : All (λ f. rows f ≤ MAX_CELLS) facts =
    All-weaker (IsValid shape dims) (λ f. rows f ≤ MAX_CELLS) (λ f one. omega (arith, spread-rows (weight_of policy dims facts) (cells_of dims f.region), few-cells dims f.region one.size)) facts valid.each in
    omega (
      arith,
      sum_by-map (λ (e : ExtendedFact). length e.allocation.rows) (λ (f : Fact). record { id = f.id; values = f.cols; allocation = allocation policy dims facts f }) facts,
      sum_by-le rows MAX_CELLS facts each,
      valid.few,
    )
