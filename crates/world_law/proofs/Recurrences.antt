-- What a fact more makes of the worlds, their mass and their totals.
use Rattle.std.proofs.Common.{◌≡◌, ℕ, ◌+◌, ◌*◌, Bool, true, false, List, [], ◌∷◌, length, map, filter, refl, ap, sym, ◌∙◌, arith, ℤ, pos, ◌+ℤ◌, ◌*ℤ◌}
use Rattle.std.specs.List.{sum_by}
use Rattle.std.specs.Prelude.{if◌then◌else◌}
use Rattle.std.proofs.lemmas.Int.{ints}
use Rattle.std.proofs.lemmas.List.{length-map}
use Rattle.std.proofs.lemmas.List.Concat.{length-flat_map}
use Rattle.std.proofs.lemmas.List.Sums.{sum_by-cons}
use Rattle.cube_model.specs.Allocation.{ExtendedFact}
use Rattle.cube_model.specs.Answer.{total_by, weight_inside}
use Rattle.cube_model.specs.Cells.{cells_of, is_among}
use Rattle.cube_model.specs.Tree.{Dimension}
use Rattle.cube_model.proofs.Totals.{total_by-either}
use Rattle.world_law.specs.Choices.{own}
use Rattle.world_law.specs.Worlds.{World, column_of, mass, total, with_fact, world_count, world_sum, worlds}
use Rattle.world_law.proofs.Products.{scaled-by_none, scaled-none, scaled-sum, scaled-twice, sum-scaled}
use Rattle.world_law.proofs.Totals.{sum_by-flat_map, total_by-flat_map}

-- the weights of rows
abbrev pub weights : List (ℕ × ℕ) → ℕ
weights rows = sum_by (λ row. row.1) rows

-- those of the rows in these cells
abbrev pub weights_in : List ℕ → List (ℕ × ℕ) → ℕ
weights_in cells rows = sum_by (λ row. row.1) (filter (λ row. is_among cells row.0) rows)

sum_by-constant : (n : ℕ) (rows : List (ℕ × ℕ)) → sum_by (λ row. n) rows ≡ length rows * n
sum_by-constant n [] = omega arith
sum_by-constant n (row ∷ rows) = omega (arith, sum_by-cons (λ (row : ℕ × ℕ). n) row rows, sum_by-constant n rows)

sum_by-lengths : (e : ExtendedFact) (ws : List World) (rows : List (ℕ × ℕ)) → sum_by (λ row. length (map (with_fact e row) ws)) rows ≡ sum_by (λ row. length ws) rows
sum_by-lengths e ws [] = refl
sum_by-lengths e ws (row ∷ rows) =
    omega (arith, length-map ws (with_fact e row), sum_by-lengths e ws rows, sum_by-cons (λ (row : ℕ × ℕ). length (map (with_fact e row) ws)) row rows, sum_by-cons (λ (row : ℕ × ℕ). length ws) row rows)

pub world_count-cons : (e : ExtendedFact) (rest : List ExtendedFact) → world_count (e ∷ rest) ≡ length e.allocation.rows * world_count rest
unfolding worlds
world_count-cons e rest =
    length-flat_map (λ row. map (with_fact e row) (worlds rest)) e.allocation.rows ∙ sum_by-lengths e (worlds rest) e.allocation.rows ∙ sum_by-constant (world_count rest) e.allocation.rows

-- the weights where a fact stands at one cell

one_mass : (e : ExtendedFact) (row : ℕ × ℕ) (ws : List World) → sum_by (λ w. w.weight) (map (with_fact e row) ws) ≡ row.1 * sum_by (λ w. w.weight) ws
one_mass e row [] = omega arith
one_mass e row (w ∷ ws) =
    sum_by-cons (λ (w : World). w.weight) (with_fact e row w) (map (with_fact e row) ws) ∙ omega (arith, one_mass e row ws, ap (λ k. row.1 * k) (sum_by-cons (λ (w : World). w.weight) w ws))

rows_mass : (e : ExtendedFact) (ws : List World) (rows : List (ℕ × ℕ)) → sum_by (λ row. sum_by (λ w. w.weight) (map (with_fact e row) ws)) rows ≡ weights rows * sum_by (λ w. w.weight) ws
rows_mass e ws [] = omega arith
rows_mass e ws (row ∷ rows) =
    let all = sum_by (λ (w : World). w.weight) ws in
    sum_by-cons (λ (row : ℕ × ℕ). sum_by (λ w. w.weight) (map (with_fact e row) ws)) row rows
    ∙ omega (arith, one_mass e row ws, rows_mass e ws rows, ap (λ k. k * all) (sum_by-cons (λ (row : ℕ × ℕ). row.1) row rows))

pub mass-cons : (e : ExtendedFact) (rest : List ExtendedFact) → mass (e ∷ rest) ≡ weights e.allocation.rows * mass rest
unfolding worlds
mass-cons e rest = sum_by-flat_map (λ (w : World). w.weight) (λ row. map (with_fact e row) (worlds rest)) e.allocation.rows ∙ rows_mass e (worlds rest) e.allocation.rows

-- the same of totals, over any cells
module _ (cells : List ℕ) (column : ℕ) where
  -- what a world adds to a total
  abbrev pub share : World → ℤ
  share w = world_sum cells column w *ℤ pos w.weight

  -- one world more
  stepped : (x s t : ℤ) (w m n : ℕ) → (x +ℤ s) *ℤ pos (w * n) +ℤ (x *ℤ pos m +ℤ t) *ℤ pos n ≡ (x *ℤ pos (w + m) +ℤ (s *ℤ pos w +ℤ t)) *ℤ pos n
  stepped x s t w m n =
      ap (λ z. z +ℤ (x *ℤ pos m +ℤ t) *ℤ pos n) (sym (scaled-twice (x +ℤ s) w n))
      ∙ sym (sum-scaled ((x +ℤ s) *ℤ pos w) (x *ℤ pos m +ℤ t) n)
      ∙ ap (λ z. z *ℤ pos n) (omega (arith, ints, sum-scaled x s w, scaled-sum x w m))

  one_total : (e : ExtendedFact) (row : ℕ × ℕ) (ws : List World) → total_by share (map (with_fact e row) ws) ≡ (own cells column e row.0 *ℤ pos (sum_by (λ w. w.weight) ws) +ℤ total_by share ws) *ℤ pos row.1
  one_total e row [] = sym (ap (λ z. (z +ℤ pos 0) *ℤ pos row.1) (scaled-by_none (own cells column e row.0)) ∙ scaled-none row.1)
  one_total e row (w ∷ ws) =
      let m = sum_by (λ (w : World). w.weight) ws in
      let t = total_by share ws in
      ap (λ z. z *ℤ pos (w.weight * row.1) +ℤ total_by share (map (with_fact e row) ws)) (total_by-either (is_among cells row.0) (λ s. column_of column s.0) (e, row.0) (filter (λ s. is_among cells s.1) w.standing))
      ∙ ap (λ z. (own cells column e row.0 +ℤ world_sum cells column w) *ℤ pos (w.weight * row.1) +ℤ z) (one_total e row ws)
      ∙ stepped (own cells column e row.0) (world_sum cells column w) t w.weight m row.1
      ∙ ap (λ k. (own cells column e row.0 *ℤ pos k +ℤ total_by share (w ∷ ws)) *ℤ pos row.1) (sym (sum_by-cons (λ (w : World). w.weight) w ws))

  -- a row more, which is inside or not
  row_more : (b : Bool) (c t : ℤ) (m n inside all : ℕ)
      → ((if b then c else pos 0) *ℤ pos m +ℤ t) *ℤ pos n +ℤ (c *ℤ pos (inside * m) +ℤ t *ℤ pos all) ≡ c *ℤ pos ((if b then n + inside else inside) * m) +ℤ t *ℤ pos (n + all)
  row_more true c t m n inside all =
      let joined : c *ℤ pos ((n + inside) * m) ≡ c *ℤ pos (m * n) +ℤ c *ℤ pos (inside * m) = ap (λ k. c *ℤ pos k) (omega arith) ∙ scaled-sum c (m * n) (inside * m) in
      omega (arith, ints, sum-scaled (c *ℤ pos m) t n, scaled-twice c m n, scaled-sum t n all, joined)
  row_more false c t m n inside all =
      ap (λ z. (z +ℤ t) *ℤ pos n +ℤ (c *ℤ pos (inside * m) +ℤ t *ℤ pos all)) (scaled-none m)
      ∙ omega (arith, ints, sum-scaled (pos 0) t n, scaled-none n, scaled-sum t n all)

  weights_either : (b : Bool) (row : ℕ × ℕ) (rows : List (ℕ × ℕ)) → weights (if b then row ∷ rows else rows) ≡ (if b then row.1 + weights rows else weights rows)
  weights_either true row rows = sum_by-cons (λ (row : ℕ × ℕ). row.1) row rows
  weights_either false row rows = refl

  pub weights_in-cons : (row : ℕ × ℕ) (rows : List (ℕ × ℕ)) → weights_in cells (row ∷ rows) ≡ (if is_among cells row.0 then row.1 + weights_in cells rows else weights_in cells rows)
  weights_in-cons row rows = weights_either (is_among cells row.0) row (filter (λ row. is_among cells row.0) rows)

  rows_total : (e : ExtendedFact) (ws : List World) (rows : List (ℕ × ℕ))
      → total_by (λ row. total_by share (map (with_fact e row) ws)) rows ≡ column_of column e *ℤ pos (weights_in cells rows * sum_by (λ w. w.weight) ws) +ℤ total_by share ws *ℤ pos (weights rows)
  rows_total e ws [] =
      let c = column_of column e in
      let m = sum_by (λ (w : World). w.weight) ws in
      let none : 0 * m ≡ 0 = omega arith in
      sym (ap (λ k. c *ℤ pos k +ℤ total_by share ws *ℤ pos 0) none ∙ omega (arith, ints, scaled-by_none c, scaled-by_none (total_by share ws)))
  rows_total e ws (row ∷ rows) =
      let c = column_of column e in
      let t = total_by share ws in
      let m = sum_by (λ (w : World). w.weight) ws in
      ap (λ z. z +ℤ total_by (λ row. total_by share (map (with_fact e row) ws)) rows) (one_total e row ws)
      ∙ ap (λ z. (own cells column e row.0 *ℤ pos m +ℤ t) *ℤ pos row.1 +ℤ z) (rows_total e ws rows)
      ∙ row_more (is_among cells row.0) c t m row.1 (weights_in cells rows) (weights rows)
      ∙ ap (λ k. c *ℤ pos (k * m) +ℤ t *ℤ pos (row.1 + weights rows)) (sym (weights_in-cons row rows))
      ∙ ap (λ k. c *ℤ pos (weights_in cells (row ∷ rows) * m) +ℤ t *ℤ pos k) (sym (sum_by-cons (λ (row : ℕ × ℕ). row.1) row rows))

pub total-cons : (dims : List Dimension) (region : List ℕ) (column : ℕ) (e : ExtendedFact) (rest : List ExtendedFact)
    → total dims region column (e ∷ rest) ≡ column_of column e *ℤ pos (weight_inside (cells_of dims region) e.allocation * mass rest) +ℤ total dims region column rest *ℤ pos (weights e.allocation.rows)
unfolding worlds
total-cons dims region column e rest =
    let cells = cells_of dims region in
    total_by-flat_map (share cells column) (λ row. map (with_fact e row) (worlds rest)) e.allocation.rows ∙ rows_total cells column e (worlds rest) e.allocation.rows
