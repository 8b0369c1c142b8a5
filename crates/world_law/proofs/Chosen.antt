-- The worlds of the choices of facts are those of the facts.
use Rattle.std.proofs.Common.{◌≡◌, ℕ, ◌+◌, ◌*◌, ◌<◌, ◌≤◌, Bool, true, false, List, [], ◌∷◌, ◌++◌, length, get_or, take, map, refl, ap, sym, ◌∙◌, arith, ℤ, pos, ◌+ℤ◌, ◌*ℤ◌}
use Rattle.std.specs.Prelude.{if◌then◌else◌}
use Rattle.std.proofs.lemmas.Int.{ints}
use Rattle.std.proofs.lemmas.List.{length-map, map-append, take_all, take_more}
use Rattle.std.proofs.lemmas.List.Sums.{sum_by-cons}
use Rattle.cube_model.specs.Allocation.{ExtendedFact}
use Rattle.cube_model.specs.Answer.{weight_inside}
use Rattle.cube_model.specs.Cells.{cells_of, is_among}
use Rattle.cube_model.specs.Tree.{Dimension}
use Rattle.world_law.specs.Choices.{choice_of, gain, heft, own, ways, whole, yield}
use Rattle.world_law.specs.Worlds.{column_of, mass, total, world_count, worlds}
use Rattle.world_law.proofs.Products.{scaled-by_none, scaled-none, scaled-sum, scaled-twice}
use Rattle.world_law.proofs.Recurrences.{mass-cons, total-cons, weights, weights_in, weights_in-cons, world_count-cons}

-- what is made of each item so far, with one item more and at the end
module _ {X Y : Type 0} (f : X → Y) (xs : List X) (i : ℕ) where
  pub made_next : (d : X) (y : Y) (old new : List Y) → i < length xs → y ≡ f (get_or xs i d) → old ≡ map f (take i xs) → new ≡ old ++ y ∷ [] → new ≡ map f (take (i + 1) xs)
  made_next d y old new inside is before pushed =
      pushed ∙ ap (λ ys. ys ++ y ∷ []) before ∙ ap (λ z. map f (take i xs) ++ z ∷ []) is
      ∙ sym (ap (map f) (take_more xs i d inside) ∙ map-append f (take i xs) (get_or xs i d ∷ []))

  pub made_all : (made : List Y) → length xs ≤ i → made ≡ map f (take i xs) → made ≡ map f xs
  made_all made end is = is ∙ ap (map f) (take_all i xs end)

heft-choice_of : (cells : List ℕ) (column : ℕ) (e : ExtendedFact) (rows : List (ℕ × ℕ)) → heft (map (λ row. (row.1, own cells column e row.0)) rows) ≡ weights rows
heft-choice_of cells column e [] = refl
heft-choice_of cells column e (row ∷ rows) =
    let values : ℕ × ℕ → ℕ × ℤ = λ row. (row.1, own cells column e row.0) in
    sum_by-cons (λ (row : ℕ × ℤ). row.0) (values row) (map values rows) ∙ omega (arith, heft-choice_of cells column e rows, sum_by-cons (λ (row : ℕ × ℕ). row.1) row rows)

gain_more : (b : Bool) (x : ℤ) (n inside : ℕ) → (if b then x else pos 0) *ℤ pos n +ℤ x *ℤ pos inside ≡ x *ℤ pos (if b then n + inside else inside)
gain_more true x n inside = sym (scaled-sum x n inside)
gain_more false x n inside = omega (arith, ints, scaled-none n)

gain-choice_of : (cells : List ℕ) (column : ℕ) (e : ExtendedFact) (rows : List (ℕ × ℕ)) → gain (map (λ row. (row.1, own cells column e row.0)) rows) ≡ column_of column e *ℤ pos (weights_in cells rows)
gain-choice_of cells column e [] = sym (scaled-by_none (column_of column e))
gain-choice_of cells column e (row ∷ rows) =
    ap (λ z. own cells column e row.0 *ℤ pos row.1 +ℤ z) (gain-choice_of cells column e rows)
    ∙ gain_more (is_among cells row.0) (column_of column e) row.1 (weights_in cells rows)
    ∙ ap (λ n. column_of column e *ℤ pos n) (sym (weights_in-cons cells column row rows))

pub ways-choices : (cells : List ℕ) (column : ℕ) (facts : List ExtendedFact) → ways (map (choice_of cells column) facts) ≡ world_count facts
unfolding worlds
ways-choices cells column [] = refl
ways-choices cells column (e ∷ facts) =
    ap (λ n. n * ways (map (choice_of cells column) facts)) (length-map e.allocation.rows (λ row. (row.1, own cells column e row.0)))
    ∙ ap (λ n. length e.allocation.rows * n) (ways-choices cells column facts) ∙ sym (world_count-cons e facts)

pub whole-choices : (cells : List ℕ) (column : ℕ) (facts : List ExtendedFact) → whole (map (choice_of cells column) facts) ≡ mass facts
unfolding worlds
whole-choices cells column [] = refl
whole-choices cells column (e ∷ facts) =
    ap (λ n. n * whole (map (choice_of cells column) facts)) (heft-choice_of cells column e e.allocation.rows)
    ∙ ap (λ n. weights e.allocation.rows * n) (whole-choices cells column facts) ∙ sym (mass-cons e facts)

pub yield-choices : (dims : List Dimension) (region : List ℕ) (column : ℕ) (facts : List ExtendedFact) → yield (map (choice_of (cells_of dims region) column) facts) ≡ total dims region column facts
unfolding worlds
yield-choices dims region column [] = refl
yield-choices dims region column (e ∷ facts) =
    let cells = cells_of dims region in
    let x = column_of column e in
    let inside = weight_inside cells e.allocation in
    let all = total dims region column facts in
    ap (λ z. z *ℤ pos (whole (map (choice_of cells column) facts)) +ℤ yield (map (choice_of cells column) facts) *ℤ pos (heft (choice_of cells column e))) (gain-choice_of cells column e e.allocation.rows)
    ∙ ap (λ n. x *ℤ pos inside *ℤ pos n +ℤ yield (map (choice_of cells column) facts) *ℤ pos (heft (choice_of cells column e))) (whole-choices cells column facts)
    ∙ ap (λ z. x *ℤ pos inside *ℤ pos (mass facts) +ℤ z *ℤ pos (heft (choice_of cells column e))) (yield-choices dims region column facts)
    ∙ ap (λ n. x *ℤ pos inside *ℤ pos (mass facts) +ℤ all *ℤ pos n) (heft-choice_of cells column e e.allocation.rows)
    ∙ ap (λ z. z +ℤ all *ℤ pos (weights e.allocation.rows)) (scaled-twice x inside (mass facts))
    ∙ sym (total-cons dims region column e facts)
