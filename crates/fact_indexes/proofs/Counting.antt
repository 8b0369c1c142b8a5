-- Over the cells of a region no more facts count than there are.
use Rattle.std.proofs.Common.{◌≡◌, ℕ, ◌+◌, ◌<◌, ◌≤◌, Bool, true, false, List, [], ◌∷◌, length, ap, arith, inl, inr}
use Rattle.std.specs.Prelude.{◌==◌, if◌then◌else◌, Option, Some, None}
use Rattle.std.specs.List.{count_by, sum_by}
use Rattle.std.specs.Option.{option_map_or}
use Rattle.std.proofs.lemmas.Bool.{cases_eq}
use Rattle.std.proofs.lemmas.Bool.Decides.{nat_tests}
use Rattle.std.proofs.lemmas.List.Sums.{sum_by-cons}
use Rattle.cube_model.specs.declared.edit.Fact.{Fact}
use Rattle.cube_model.specs.declared.statistic.CellStat.{CellStat}
use Rattle.cube_model.specs.Allocation.{Policy, stat_of}
use Rattle.cube_model.specs.Cells.{all_cells, cells_of, is_inside, places_from}
use Rattle.cube_model.specs.Facts.{lies_at}
use Rattle.cube_model.specs.Limits.{MAX_FACTS}
use Rattle.cube_model.specs.Tree.{Dimension}
use Rattle.region_algebra.specs.Space.{only_cell}
use Rattle.alloc_rows.specs.Alloc.{AreFewIn}
use Rattle.touched_cells.proofs.Touching.{lies-only}

-- how many of the facts lie at a cell
abbrev facts_at : List Dimension → List Fact → ℕ → ℕ
facts_at dims facts cell = count_by (lies_at dims cell) facts

facts_at-cons : (dims : List Dimension) (fact : Fact) (facts : List Fact) (cell : ℕ) → facts_at dims (fact ∷ facts) cell ≡ (if lies_at dims cell fact then 1 else 0) + facts_at dims facts cell
facts_at-cons dims fact facts cell = sum_by-cons (λ f. if lies_at dims cell f then 1 else 0) fact facts

-- a number is at most once among places
once-if : (b : Bool) (k m : ℕ) (cells : List ℕ) → sum_by (λ c. if k == c then 1 else 0) (if b then m ∷ cells else cells) ≤ (if k == m then 1 else 0) + sum_by (λ c. if k == c then 1 else 0) cells
once-if true k m cells = omega (arith, sum_by-cons (λ (c : ℕ). if k == c then 1 else 0) m cells)
once-if false k m cells = omega arith

never-below : {X : Type 0} (p : X → Bool) (k m : ℕ) (xs : List X) → k < m → sum_by (λ c. if k == c then 1 else 0) (places_from p m xs) ≤ 0
never-below p k m [] below = omega arith
never-below p k m (x ∷ xs) below = grind (arith, nat_tests, once-if (p x) k m (places_from p (m + 1) xs), never-below p k (m + 1) xs (omega arith))

once : {X : Type 0} (p : X → Bool) (k m : ℕ) (xs : List X) → sum_by (λ c. if k == c then 1 else 0) (places_from p m xs) ≤ 1
once p k m [] = omega arith
once p k m (x ∷ xs) =
    let step = once-if (p x) k m (places_from p (m + 1) xs) in
    elim (cases_eq k m) [
      | inl same ↦ grind (arith, nat_tests, step, never-below p k (m + 1) xs (omega (arith, same)))
      | inr other ↦ grind (arith, nat_tests, step, once p k (m + 1) xs)
    ]

-- sums of what is at most the sum of two
sum_by-le_both : (w f g : ℕ → ℕ) (cells : List ℕ) → ((c : ℕ) → w c ≤ f c + g c) → sum_by w cells ≤ sum_by f cells + sum_by g cells
sum_by-le_both w f g [] each = omega arith
sum_by-le_both w f g (c ∷ cells) each = omega (arith, each c, sum_by-le_both w f g cells each, sum_by-cons w c cells, sum_by-cons f c cells, sum_by-cons g c cells)

sum_by-none : (w : ℕ → ℕ) (cells : List ℕ) → ((c : ℕ) → w c ≤ 0) → sum_by w cells ≤ 0
sum_by-none w [] each = omega arith
sum_by-none w (c ∷ cells) each = omega (arith, each c, sum_by-none w cells each, sum_by-cons w c cells)

one_cell-if : (found : Option ℕ) (b : ℕ → Bool) (cells : List ℕ) → ((k : ℕ) → sum_by (λ c. if k == c then 1 else 0) cells ≤ 1) → ((c : ℕ) → b c ≡ option_map_or (λ k. k == c) found false) → sum_by (λ c. if b c then 1 else 0) cells ≤ 1
one_cell-if None b cells each is = omega (arith, sum_by-none (λ c. if b c then 1 else 0) cells (λ c. omega (arith, ap {B = ℕ} (λ t. if t then 1 else 0) (is c))))
one_cell-if (Some k) b cells each is =
    omega (arith, each k, sum_by-le_both (λ c. if b c then 1 else 0) (λ c. if k == c then 1 else 0) (λ c. 0) cells (λ c. omega (arith, ap {B = ℕ} (λ t. if t then 1 else 0) (is c))), sum_by-none (λ c. 0) cells (λ c. omega arith))

-- a fact lies at one cell of a region at most
one_cell : (dims : List Dimension) (region : List ℕ) (fact : Fact) → sum_by (λ c. if lies_at dims c fact then 1 else 0) (cells_of dims region) ≤ 1
unfolding cells_of
one_cell dims region fact = one_cell-if (only_cell (cells_of dims fact.region)) (λ c. lies_at dims c fact) (cells_of dims region) (λ k. once (is_inside dims region) k 0 (all_cells dims)) (λ c. lies-only dims fact c)

-- so over the cells of a region no more facts count than there are
counts-le : (dims : List Dimension) (region : List ℕ) (facts : List Fact) (w : ℕ → ℕ) → ((c : ℕ) → w c ≤ facts_at dims facts c) → sum_by w (cells_of dims region) ≤ length facts
counts-le dims region [] w each = sum_by-none w (cells_of dims region) each
counts-le dims region (fact ∷ facts) w each =
    omega (
      arith,
      one_cell dims region fact,
      counts-le dims region facts (facts_at dims facts) (λ c. omega arith),
      sum_by-le_both w (λ c. if lies_at dims c fact then 1 else 0) (facts_at dims facts) (cells_of dims region) (λ c. omega (arith, each c, facts_at-cons dims fact facts c)),
    )

-- so statistics of facts count few
pub AreFewIn-facts : (policy : Policy) (dims : List Dimension) (facts : List Fact) (stats : ℕ → CellStat) (region : List ℕ) → ((cell : ℕ) → stats cell ≡ stat_of policy dims facts cell) → length facts ≤ MAX_FACTS → AreFewIn dims stats region
AreFewIn-facts policy dims facts stats region are few =
    omega (arith, few, counts-le dims region facts (λ cell. (stats cell).count) (λ c. omega (arith, ap (λ (s : CellStat). s.count) (are c))))
