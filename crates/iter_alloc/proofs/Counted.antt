-- The cells of facts are counted one fact after another.
use Rattle.cube_model.specs.declared.edit.Fact.{Fact}
use Rattle.cube_model.specs.Cells.{cells_of}
use Rattle.cube_model.specs.Facts.{is_precise}
use Rattle.cube_model.specs.Limits.{MAX_CELLS}
use Rattle.cube_model.specs.Tree.{Dimension}
use Rattle.iter_alloc.specs.Counting.{cells_in_all, ArePlacedIn}
use Rattle.region_algebra.specs.Space.{IsRegion}
use Rattle.std.proofs.Common.{◌≡◌, ℕ, suc, ◌+◌, ◌*◌, ◌^◌, ◌<◌, ◌≤◌, Bool, true, false, List, [], ◌∷◌, length, ap, sym, ◌∙◌, subst, arith}
use Rattle.std.proofs.Math.Nat.{mul-le-mul_right}
use Rattle.std.proofs.lemmas.List.Elements.{All-head, All-tail}
use Rattle.std.proofs.lemmas.List.Sums.{sum_by-cons}
use Rattle.std.specs.List.{sum_by}
use Rattle.std.specs.Prelude.{All, filter, not, if◌then◌else◌}

-- what is counted, and what is left to count, are all
pub record Counting (dims : List Dimension) (facts left : List Fact) (cells : ℕ) : Type 0 where
  pub all : cells + cells_in_all dims left ≡ cells_in_all dims facts
  pub regions : All (λ fact. IsRegion dims fact.region) left
  pub few : cells_in_all dims facts < 2 ^ 64

cells-cons : (dims : List Dimension) (f : Fact) (facts : List Fact) → cells_in_all dims (f ∷ facts) ≡ (if is_precise dims f then 0 else length (cells_of dims f.region)) + cells_in_all dims facts
cells-cons dims f facts = either (is_precise dims f)
  where
    either : (b : Bool) → sum_by (λ fact. length (cells_of dims fact.region)) (if not b then f ∷ filter (λ fact. not (is_precise dims fact)) facts else filter (λ fact. not (is_precise dims fact)) facts)
        ≡ (if b then 0 else length (cells_of dims f.region)) + cells_in_all dims facts
    either true = omega arith
    either false = sum_by-cons (λ fact. length (cells_of dims fact.region)) f (filter (λ fact. not (is_precise dims fact)) facts)

cells-le : (dims : List Dimension) (facts : List Fact) → All (λ fact. length (cells_of dims fact.region) ≤ MAX_CELLS) facts → cells_in_all dims facts ≤ length facts * MAX_CELLS
cells-le dims [] sizes = omega arith
cells-le dims (f ∷ facts) sizes = either (is_precise dims f) (cells-cons dims f facts) (sizes 0 f (omega arith)) (cells-le dims facts (λ k d within. sizes (suc k) d (omega arith)))
  where
    either : (b : Bool) → cells_in_all dims (f ∷ facts) ≡ (if b then 0 else length (cells_of dims f.region)) + cells_in_all dims facts → length (cells_of dims f.region) ≤ MAX_CELLS → cells_in_all dims facts ≤ length facts * MAX_CELLS
        → cells_in_all dims (f ∷ facts) ≤ length (f ∷ facts) * MAX_CELLS
    either true is size rest = omega (arith, is, rest)
    either false is size rest = omega (arith, is, size, rest)

pub counting-start : (dims : List Dimension) (facts left : List Fact) → ArePlacedIn dims facts → left ≡ facts → Counting dims facts left 0
counting-start dims facts left placed is =
    subst (λ (fs : List Fact). Counting dims facts fs 0) (sym is)
    (record { all = omega arith; regions = placed.regions; few = omega (arith, cells-le dims facts placed.sizes, mul-le-mul_right MAX_CELLS placed.few) })

module _ (dims : List Dimension) (facts left : List Fact) (f : Fact) (others : List Fact) (cells : ℕ) (first : left ≡ f ∷ others) (counting : Counting dims facts left cells) where
  here-all : cells + ((if is_precise dims f then 0 else length (cells_of dims f.region)) + cells_in_all dims others) ≡ cells_in_all dims facts
  here-all = ap (λ n. cells + n) (sym (cells-cons dims f others) ∙ ap (cells_in_all dims) (sym first)) ∙ counting.all

  pub counting-region : IsRegion dims f.region
  counting-region = All-head (λ fact. IsRegion dims fact.region) f others (subst (λ (fs : List Fact). All (λ fact. IsRegion dims fact.region) fs) first counting.regions)

  pub counting-fits : cells + (if is_precise dims f then 0 else length (cells_of dims f.region)) < 2 ^ 64
  counting-fits = omega (arith, here-all, counting.few)

  pub counting-next : Counting dims facts others (cells + (if is_precise dims f then 0 else length (cells_of dims f.region)))
  counting-next = record {
    all = omega (arith, here-all);
    regions = All-tail (λ fact. IsRegion dims fact.region) f others (subst (λ (fs : List Fact). All (λ fact. IsRegion dims fact.region) fs) first counting.regions);
    few = counting.few;
  }

pub counting-end : (dims : List Dimension) (facts left : List Fact) (cells : ℕ) → Counting dims facts left cells → left ≡ [] → cells ≡ cells_in_all dims facts
counting-end dims facts left cells counting none = omega (arith, counting.all, ap (cells_in_all dims) none)
