-- No cell comes to stand higher than all facts together would make it.
use Rattle.cube_model.specs.declared.edit.Fact.{Fact}
use Rattle.cube_model.specs.Cells.{cells_of, is_among}
use Rattle.cube_model.specs.Facts.{is_precise, lies_at}
use Rattle.cube_model.specs.Tree.{Dimension}
use Rattle.fact_groups.proofs.Filters.{sum_by-filter-le}
use Rattle.iter_alloc.proofs.Tests.{equal, and-first, and-second}
use Rattle.iter_alloc.specs.Rounds.{WHOLE_FACT, has_cell, share_of, share_by, given_to_cell, level_from}
use Rattle.std.proofs.Common.{◌≡◌, ℕ, zero, suc, ◌+◌, ◌*◌, ◌/◌, ◌≤◌, Bool, true, false, List, [], ◌∷◌, get_or, length, refl, ap, arith}
use Rattle.std.proofs.Math.Nat.{div-le_self, div-le_of_le-mul, mul-le-mul_left, mul_comm}
use Rattle.std.proofs.lemmas.List.Elements.{filter_passes}
use Rattle.std.proofs.lemmas.List.Sums.{sum_by-cons, sum_by-le, length-filter, count_by-le-length}
use Rattle.std.specs.List.{sum_by, count_by}
use Rattle.std.specs.Prelude.{All, filter, not, ◌&&◌, ◌||◌, ◌==◌, if◌then◌else◌}

level-mass : (level : ℕ → ℕ) (cells : List ℕ) (cell : ℕ) → is_among cells cell ≡ true → level cell ≤ sum_by level cells
level-mass level [] cell among = cc
level-mass level (c ∷ cells) cell among = either (c == cell) refl among (level-mass level cells cell)
  where
    either : (b : Bool) → (c == cell) ≡ b → (b || is_among cells cell) ≡ true → (is_among cells cell ≡ true → level cell ≤ sum_by level cells) → level cell ≤ sum_by level (c ∷ cells)
    either true is h rest = omega (arith, sum_by-cons level c cells, ap level (equal c cell is))
    either false is h rest = omega (arith, sum_by-cons level c cells, rest h)

-- no share is more than the whole
pub share-unit : (level mass count : ℕ) → level ≤ mass → share_of level mass count ≤ WHOLE_FACT
share-unit level mass count below = either (mass == 0)
  where
    either : (b : Bool) → (if b then WHOLE_FACT / count else WHOLE_FACT * level / mass) ≤ WHOLE_FACT
    either true = div-le_self WHOLE_FACT count
    either false = div-le_of_le-mul mass (omega (arith, mul-le-mul_left WHOLE_FACT below, mul_comm mass WHOLE_FACT))

pub share_by-unit : (level : ℕ → ℕ) (cells : List ℕ) (cell : ℕ) → is_among cells cell ≡ true → share_by level cells cell ≤ WHOLE_FACT
share_by-unit level cells cell among = share-unit (level cell) (sum_by level cells) (length cells) (level-mass level cells cell among)

count-kept : {X : Type 0} (p keep : X → Bool) (xs : List X) → count_by p (filter keep xs) ≤ count_by p xs
count-kept p keep xs = sum_by-filter-le keep (λ x. if p x then 1 else 0) xs

count-apart : {X : Type 0} (p q : X → Bool) (xs : List X) → ((x : X) → p x ≡ true → q x ≡ false) → count_by p xs + count_by q xs ≤ length xs
count-apart p q [] apart = omega arith
count-apart p q (x ∷ xs) apart =
    omega (arith, sum_by-cons (λ x. if p x then 1 else 0) x xs, sum_by-cons (λ x. if q x then 1 else 0) x xs, count-apart p q xs apart, one (p x) (q x) (apart x))
  where
    one : (a b : Bool) → (a ≡ true → b ≡ false) → (if a then 1 else 0) + (if b then 1 else 0) ≤ 1
    one true true h = cc (h refl)
    one true false h = omega arith
    one false true h = omega arith
    one false false h = omega arith

module _ (dims : List Dimension) where
  lies-apart : (cell : ℕ) (f : Fact) → lies_at dims cell f ≡ true → has_cell dims cell f ≡ false
  lies-apart cell f lies =
      let precise = and-first (is_precise dims f) (is_among (cells_of dims f.region) cell) lies in
      ap (λ (b : Bool). not b && is_among (cells_of dims f.region) cell) precise

  given_to_cell-le : (givers : List Fact) (level : ℕ → ℕ) (cell : ℕ) → given_to_cell dims givers level cell ≤ WHOLE_FACT * count_by (has_cell dims cell) givers
  given_to_cell-le givers level cell =
      let each : All (λ f. share_by level (cells_of dims f.region) cell ≤ WHOLE_FACT) (filter (has_cell dims cell) givers)
      = λ k d within.
      share_by-unit level (cells_of dims (get_or (filter (has_cell dims cell) givers) k d).region) cell
      (and-second (not (is_precise dims (get_or (filter (has_cell dims cell) givers) k d))) (is_among (cells_of dims (get_or (filter (has_cell dims cell) givers) k d).region) cell) (filter_passes (has_cell dims cell) givers k d within))
      in
      omega (arith, sum_by-le (λ f. share_by level (cells_of dims f.region) cell) WHOLE_FACT (filter (has_cell dims cell) givers) each, length-filter (has_cell dims cell) givers)

  pub level-bound : (keep : Fact → Bool) (facts : List Fact) (n cell : ℕ) → level_from dims facts (filter keep facts) n cell ≤ WHOLE_FACT * length facts
  unfolding level_from
  level-bound keep facts zero cell = omega (arith, count_by-le-length (lies_at dims cell) facts)
  level-bound keep facts (suc n) cell =
      omega (
        arith,
        given_to_cell-le (filter keep facts) (level_from dims facts (filter keep facts) n) cell,
        count-kept (has_cell dims cell) keep facts,
        count-apart (lies_at dims cell) (has_cell dims cell) facts (lies-apart cell),
      )
