-- An allocation by weight that steps along with changes of statistics.
use Rattle.std.proofs.Common.{◌≡◌, ◌≢◌, ℕ, ◌+◌, ◌-◌, ◌*◌, ◌<◌, ◌≤◌, List, take, get_or, length, sym, ap, ◌∙◌, add-one, arith}
use Rattle.std.proofs.lemmas.Bool.Decides.{nat_tests}
use Rattle.std.proofs.lemmas.List.{take_all}
use Rattle.std.specs.List.{sum_by}
use Rattle.cube_model.specs.Allocation.{Allocation, rows_of, spread}
use Rattle.cube_model.specs.Cells.{cells_of}
use Rattle.cube_model.specs.Limits.{DEN_LIMIT, MAX_CELLS, MAX_FACTS, MAX_VALUE}
use Rattle.cube_model.specs.Tree.{Dimension}
use Rattle.cube_model.specs.declared.statistic.CellStat.{CellStat}
use Rattle.cube_model.proofs.Ascending.{ascends_cells}
use Rattle.cell_weight.specs.Stats.{IsStat, no_facts}
use Rattle.alloc_rows.specs.Changed.{AreChangesAt, Change, stat_after}
use Rattle.alloc_rows.specs.Rows.{weighted_part, with_row}
use Rattle.alloc_rows.proofs.Changes.{stat_after-before, stat_after-next}
use Rattle.alloc_rows.proofs.OneRow.{among-le, rows_of-changed, sum_by-changed}
use Rattle.alloc_rows.proofs.WeightedPart.{sum_by-bounded, weighted_part-spread}

-- what is read past the end of changes
abbrev pub no_change : Change
no_change = (0, no_facts, no_facts)

-- what a cell weighs after so many of the changes
abbrev pub weight_after : (CellStat → ℕ) → (ℕ → CellStat) → List Change → ℕ → ℕ → ℕ
weight_after weigh stats changes done cell = weigh (stat_after stats (take done changes) cell)

-- The total and the rows are those by weight after so many of the changes.
pub record Stepped (weigh : CellStat → ℕ) (stats : ℕ → CellStat) (cells : List ℕ) (changes : List Change) (done total : ℕ) (rows : List (ℕ × ℕ)) : Type 0 where
  pub sum : total ≡ sum_by (weight_after weigh stats changes done) cells
  pub rows_are : rows ≡ rows_of (weight_after weigh stats changes done) cells
  pub bound : total < DEN_LIMIT * (done + 1)

-- weights that a policy's bound keeps small add up to less than the limit
pub sum-limit : (weigh : CellStat → ℕ) (stats : ℕ → CellStat) (cells : List ℕ) → ((stat : CellStat) → IsStat stat → weigh stat ≤ 1 + stat.count * MAX_VALUE) → ((cell : ℕ) → IsStat (stats cell))
    → length cells ≤ MAX_CELLS → sum_by (λ cell. (stats cell).count) cells ≤ MAX_FACTS → sum_by (λ cell. weigh (stats cell)) cells < DEN_LIMIT
sum-limit weigh stats cells bound possible few counted =
    omega (arith, sum_by-bounded (λ cell. weigh (stats cell)) (λ cell. (stats cell).count) cells (λ cell. bound (stats cell) (possible cell)))

-- before the first change there is what was there by weight
pub Stepped-start : (weigh : CellStat → ℕ) (stats : ℕ → CellStat) (cells : List ℕ) (changes : List Change) (old : Allocation) (total : ℕ) (rows : List (ℕ × ℕ)) → 1 < length cells
    → old ≡ spread (λ cell. weigh (stats cell)) cells → sum_by (λ cell. weigh (stats cell)) cells < DEN_LIMIT
    → total ≡ (weighted_part (λ cell. weigh (stats cell)) old).den → rows ≡ (weighted_part (λ cell. weigh (stats cell)) old).rows → Stepped weigh stats cells changes 0 total rows
Stepped-start weigh stats cells changes old total rows several is limit sum are =
    let part = ap (weighted_part (λ cell. weigh (stats cell))) is ∙ weighted_part-spread (λ cell. weigh (stats cell)) cells several in
    let total_is : total ≡ sum_by (λ cell. weigh (stats cell)) cells = sum ∙ ap (λ (a : Allocation). a.den) part in
    record { sum = total_is; rows_are = are ∙ ap (λ (a : Allocation). a.rows) part; bound = omega (arith, total_is, limit) }

module _ (weigh : CellStat → ℕ) (stats : ℕ → CellStat) (dims : List Dimension) (region : List ℕ) (changes : List Change) (i total : ℕ) (rows : List (ℕ × ℕ)) (d : Change)
    (are : AreChangesAt (cells_of dims region) stats changes) (within : i < length changes) (so_far : Stepped weigh stats (cells_of dims region) changes i total rows) where
  -- the cell still has its old statistics
  here_before : (get_or changes i d).1 ≡ stat_after stats (take i changes) (get_or changes i d).0
  here_before = are.from i d within ∙ sym (stat_after-before stats changes i d are.ascending within)

  here_after : (get_or changes i d).2 ≡ stat_after stats (take (i + 1) changes) (get_or changes i d).0
  here_after = rw add-one (grind (arith, nat_tests, stat_after-next stats changes i d are.ascending within (get_or changes i d).0))

  elsewhere : (cell : ℕ) → cell ≢ (get_or changes i d).0 → weight_after weigh stats changes i cell ≡ weight_after weigh stats changes (i + 1) cell
  elsewhere cell other = rw add-one (ap weigh (grind (arith, nat_tests, stat_after-next stats changes i d are.ascending within cell)))

  -- what the cell weighed is a part of the total
  pub Stepped-most : weigh (get_or changes i d).1 ≤ total
  Stepped-most = omega (arith, so_far.sum, ap weigh here_before, among-le (weight_after weigh stats changes i) (cells_of dims region) (get_or changes i d).0 (are.inside i d within))

  -- one change more, of which the weights are known
  pub Stepped-next : (before after next : ℕ) (put : List (ℕ × ℕ)) → before ≡ weigh (get_or changes i d).1 → after ≡ weigh (get_or changes i d).2 → after < DEN_LIMIT
      → next ≡ total - before + after → put ≡ with_row rows (get_or changes i d).0 after → Stepped weigh stats (cells_of dims region) changes (i + 1) next put
  Stepped-next before after next put was is small sum puts =
      let inside = are.inside i d within in
      let ascends = ascends_cells dims region in
      let was_here : before ≡ weight_after weigh stats changes i (get_or changes i d).0 = was ∙ ap weigh here_before in
      let is_here : after ≡ weight_after weigh stats changes (i + 1) (get_or changes i d).0 = is ∙ ap weigh here_after in
      let sums = sum_by-changed (weight_after weigh stats changes i) (weight_after weigh stats changes (i + 1)) (get_or changes i d).0 elsewhere 0 (cells_of dims region) ascends inside in
      let all = rows_of-changed (weight_after weigh stats changes i) (weight_after weigh stats changes (i + 1)) (get_or changes i d).0 elsewhere 0 (cells_of dims region) ascends inside in
      record {
        sum = omega (arith, so_far.sum, was_here, is_here, sums, sum, Stepped-most);
        rows_are = puts ∙ ap (λ (held : List (ℕ × ℕ)). with_row held (get_or changes i d).0 after) so_far.rows_are
            ∙ ap (λ (weight : ℕ). with_row (rows_of (weight_after weigh stats changes i) (cells_of dims region)) (get_or changes i d).0 weight) is_here ∙ sym all;
        bound = omega (arith, so_far.bound, sum, small);
      }

-- after all of them the statistics are those after the changes
pub Stepped-all : (weigh : CellStat → ℕ) (stats : ℕ → CellStat) (cells : List ℕ) (changes : List Change) (done total : ℕ) (rows : List (ℕ × ℕ)) → length changes ≤ done → Stepped weigh stats cells changes done total rows
    → (total ≡ sum_by (λ cell. weigh (stat_after stats changes cell)) cells) × (rows ≡ rows_of (λ cell. weigh (stat_after stats changes cell)) cells)
Stepped-all weigh stats cells changes done total rows end stepped =
    let all : take done changes ≡ changes = take_all done changes end in (
      stepped.sum ∙ ap (λ (done_are : List Change). sum_by (λ cell. weigh (stat_after stats done_are cell)) cells) all,
      stepped.rows_are ∙ ap (λ (done_are : List Change). rows_of (λ cell. weigh (stat_after stats done_are cell)) cells) all,
    )
