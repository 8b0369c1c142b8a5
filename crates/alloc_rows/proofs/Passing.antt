-- Rows that are copied in parts along with changes: those so far are of smaller cells than the changes to come, and a rest is left.
use Rattle.std.proofs.Common.{◌≡◌, ℕ, ◌+◌, ◌-◌, ◌<◌, ◌≤◌, true, List, [], ◌∷◌, ◌++◌, get_or, length, filter, refl, ◌∙◌, append_assoc, arith}
use Rattle.std.proofs.lemmas.Bool.Decides.{nat_tests}
use Rattle.std.proofs.lemmas.Grind.{common_steps}
use Rattle.std.proofs.lemmas.List.Elements.{filter-append}
use Rattle.std.specs.List.{sum_by}
use Rattle.std.specs.Prelude.{nat_lt}
use Rattle.cube_model.specs.Allocation.{rows_of}
use Rattle.cube_model.specs.Ascending.{ascends_from}
use Rattle.cube_model.specs.Cells.{cells_of}
use Rattle.cube_model.specs.Limits.{DEN_LIMIT}
use Rattle.cube_model.specs.Tree.{Dimension}
use Rattle.cube_model.specs.declared.statistic.CellStat.{CellStat}
use Rattle.cube_model.proofs.Ascending.{ascends_filter, ascends_later}
use Rattle.alloc_rows.specs.Changed.{AreChangesAt, Change, stat_after}
use Rattle.alloc_rows.specs.Rows.{cell_row, with_row}
use Rattle.alloc_rows.proofs.Ascending.{rows_of-ascend}
use Rattle.alloc_rows.proofs.RowPlaces.{key}
use Rattle.alloc_rows.proofs.Stepped.{Stepped, Stepped-all, Stepped-next, no_change, weight_after}

abbrev below : ℕ → List (ℕ × ℕ) → List (ℕ × ℕ)
below cell rows = filter (λ row. nat_lt row.0 cell) rows

abbrev above : ℕ → List (ℕ × ℕ) → List (ℕ × ℕ)
above cell rows = filter (λ row. nat_lt cell row.0) rows

-- all of these rows are of smaller cells
pub record ArePassed (cell : ℕ) (rows : List (ℕ × ℕ)) : Type 0 where
  pub smaller : filter (λ row. nat_lt row.0 cell) rows ≡ rows
  pub not_greater : filter (λ row. nat_lt cell row.0) rows ≡ []

ArePassed-append : (cell : ℕ) (rows more : List (ℕ × ℕ)) → ArePassed cell rows → ArePassed cell more → ArePassed cell (rows ++ more)
ArePassed-append cell rows more first second = record {
  smaller = rw (filter-append (λ (row : ℕ × ℕ). nat_lt row.0 cell) rows more, first.smaller, second.smaller) refl;
  not_greater = rw (filter-append (λ (row : ℕ × ℕ). nat_lt cell row.0) rows more, first.not_greater, second.not_greater) refl;
}

module _ (passed cell : ℕ) (less : passed < cell) where
  -- rows below a smaller cell are
  ArePassed-below : (rows : List (ℕ × ℕ)) → ArePassed cell (below passed rows)
  ArePassed-below [] = record { smaller = refl; not_greater = refl }
  ArePassed-below (row ∷ rows) =
      let others = ArePassed-below rows in
      record {
        smaller = grind (arith, nat_tests, common_steps, less, others.smaller);
        not_greater = grind (arith, nat_tests, common_steps, less, others.not_greater);
      }

  -- and so is the row of that cell
  ArePassed-row : (weight : ℕ) → ArePassed cell (cell_row passed weight)
  ArePassed-row weight = record { smaller = grind (arith, nat_tests, less); not_greater = grind (arith, nat_tests, less) }

-- behind passed rows a row is put into the rest
with_row-passed : (cell weight : ℕ) (rows rest : List (ℕ × ℕ)) → ArePassed cell rows → (rows ++ (below cell rest ++ cell_row cell weight)) ++ above cell rest ≡ with_row (rows ++ rest) cell weight
with_row-passed cell weight rows rest passed =
    rw (filter-append (λ (row : ℕ × ℕ). nat_lt row.0 cell) rows rest, filter-append (λ (row : ℕ × ℕ). nat_lt cell row.0) rows rest, passed.smaller, passed.not_greater)
    (simp append_assoc refl)

-- After so many of the changes the rows so far and the rest are those by weight, and those so far are passed by each change to come.
pub record Passing (weigh : CellStat → ℕ) (stats : ℕ → CellStat) (cells : List ℕ) (changes : List Change) (done total : ℕ) (rows rest : List (ℕ × ℕ)) : Type 0 where
  pub so_far : Stepped weigh stats cells changes done total (rows ++ rest)
  pub ascending : ascends_from (λ row. row.0) 0 rest ≡ true
  pub passed : (k : ℕ) → done ≤ k → k < length changes → ArePassed (get_or changes k no_change).0 rows

-- before the first change all is rest
pub Passing-start : (weigh : CellStat → ℕ) (stats : ℕ → CellStat) (dims : List Dimension) (region : List ℕ) (changes : List Change) (total : ℕ) (rows rest : List (ℕ × ℕ))
    → rows ≡ [] → Stepped weigh stats (cells_of dims region) changes 0 total rest → Passing weigh stats (cells_of dims region) changes 0 total rows rest
Passing-start weigh stats dims region changes total rows rest none stepped = record {
  so_far = rw none stepped;
  ascending = rw stepped.rows_are (rows_of-ascend (weight_after weigh stats changes 0) dims region);
  passed = λ k from to. record { smaller = rw none refl; not_greater = rw none refl };
}

-- one change more, of which the weights are known
pub Passing-next : (weigh : CellStat → ℕ) (stats : ℕ → CellStat) (dims : List Dimension) (region : List ℕ) (changes : List Change) (i total : ℕ) (rows rest : List (ℕ × ℕ))
    → AreChangesAt (cells_of dims region) stats changes → i < length changes → Passing weigh stats (cells_of dims region) changes i total rows rest
    → (before after next : ℕ) (put left : List (ℕ × ℕ)) → before ≡ weigh (get_or changes i no_change).1 → after ≡ weigh (get_or changes i no_change).2 → after < DEN_LIMIT → next ≡ total - before + after
    → put ≡ rows ++ (below (get_or changes i no_change).0 rest ++ cell_row (get_or changes i no_change).0 after) → left ≡ above (get_or changes i no_change).0 rest
    → Passing weigh stats (cells_of dims region) changes (i + 1) next put left
Passing-next weigh stats dims region changes i total rows rest are within so before after next put left was is small sum puts lefts =
    let cell = (get_or changes i no_change).0 in
    let both : put ++ left ≡ with_row (rows ++ rest) cell after = rw (puts, lefts) (with_row-passed cell after rows rest (so.passed i (omega arith) within)) in
    record {
      so_far = Stepped-next weigh stats dims region changes i total (rows ++ rest) no_change are within so.so_far before after next (put ++ left) was is small sum both;
      ascending = rw lefts (ascends_filter key (λ (row : ℕ × ℕ). nat_lt cell row.0) 0 rest so.ascending);
      passed = λ k from to.
          let later = (get_or changes k no_change).0 in
          let less : cell < later = ascends_later (λ (change : Change). change.0) 0 changes are.ascending i k no_change no_change (omega arith) to in
          rw puts (ArePassed-append later rows (below cell rest ++ cell_row cell after) (so.passed k (omega arith) to)
          (ArePassed-append later (below cell rest) (cell_row cell after) (ArePassed-below cell later less rest) (ArePassed-row cell later less after)));
    }

-- after all of them the rest is the last part
pub Passing-all : (weigh : CellStat → ℕ) (stats : ℕ → CellStat) (cells : List ℕ) (changes : List Change) (done total : ℕ) (rows rest all : List (ℕ × ℕ)) → length changes ≤ done → Passing weigh stats cells changes done total rows rest
    → all ≡ rows ++ rest → (total ≡ sum_by (λ cell. weigh (stat_after stats changes cell)) cells) × (all ≡ rows_of (λ cell. weigh (stat_after stats changes cell)) cells)
Passing-all weigh stats cells changes done total rows rest all end so together =
    let stepped = Stepped-all weigh stats cells changes done total (rows ++ rest) end so.so_far in
    (stepped.0, together ∙ stepped.1)
