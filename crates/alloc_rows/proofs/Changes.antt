-- Statistics after one change more, and after all.
use Rattle.std.proofs.Common.{◌≡◌, ℕ, zero, suc, ◌+◌, ◌<◌, Bool, true, false, cond, List, [], ◌∷◌, ◌++◌, take, get_or, length, Option, Some, None, unwrap_or, refl, arith}
use Rattle.std.proofs.lemmas.Bool.Decides.{nat_tests}
use Rattle.std.proofs.lemmas.Grind.{common_steps}
use Rattle.std.proofs.lemmas.List.Elements.{All-head, All-tail}
use Rattle.std.specs.Prelude.{All, if◌then◌else◌, ◌==◌}
use Rattle.cube_model.specs.Ascending.{ascends_from}
use Rattle.cube_model.specs.Cells.{is_among}
use Rattle.cube_model.specs.declared.statistic.CellStat.{CellStat}
use Rattle.cube_model.proofs.Ascending.{ascends_first, ascends_later}
use Rattle.cell_weight.specs.Stats.{IsStat, change_of}
use Rattle.alloc_rows.specs.Changed.{Change, changes_among, new_stats, stat_after}

-- the changed cell
abbrev cell_of : Change → ℕ
cell_of change = change.0

-- one change more, where no cell changes twice
change_of-next : (changes : List Change) (least i : ℕ) (d : Change) (cell : ℕ) → ascends_from cell_of least changes ≡ true → i < length changes
    → change_of (new_stats (take (suc i) changes)) cell ≡ (if cell == (get_or changes i d).0 then Some (get_or changes i d).2 else change_of (new_stats (take i changes)) cell)
change_of-next [] least i d cell ascends within = absurd (omega arith)
change_of-next (change ∷ changes) least zero d cell ascends within = refl
change_of-next (change ∷ changes) least (suc i) d cell ascends within =
    let later : change.0 < (get_or changes i d).0 = ascends_later cell_of least (change ∷ changes) ascends 0 (suc i) d d (omega arith) within in
    let first = ascends_first cell_of least change changes ascends in
    grind (arith, nat_tests, later, change_of-next changes (change.0 + 1) i d cell first.others (omega arith))

-- a cell does not change before its change
change_of-before : (changes : List Change) (least i : ℕ) (d : Change) → ascends_from cell_of least changes ≡ true → i < length changes
    → change_of (new_stats (take i changes)) (get_or changes i d).0 ≡ None
change_of-before [] least i d ascends within = absurd (omega arith)
change_of-before (change ∷ changes) least zero d ascends within = refl
change_of-before (change ∷ changes) least (suc i) d ascends within =
    let later : change.0 < (get_or changes i d).0 = ascends_later cell_of least (change ∷ changes) ascends 0 (suc i) d d (omega arith) within in
    let first = ascends_first cell_of least change changes ascends in
    grind (arith, nat_tests, later, change_of-before changes (change.0 + 1) i d first.others (omega arith))

module _ (stats : ℕ → CellStat) (changes : List Change) (i : ℕ) (d : Change) (ascends : ascends_from cell_of 0 changes ≡ true) (within : i < length changes) where
  pub stat_after-next : (cell : ℕ) → stat_after stats (take (suc i) changes) cell ≡ (if cell == (get_or changes i d).0 then (get_or changes i d).2 else stat_after stats (take i changes) cell)
  stat_after-next cell = grind (arith, common_steps, change_of-next changes 0 i d cell ascends within)

  pub stat_after-before : stat_after stats (take i changes) (get_or changes i d).0 ≡ stats (get_or changes i d).0
  stat_after-before = rw (change_of-before changes 0 i d ascends within) refl

-- statistics that facts can have stay such
either_possible : (changed : Bool) (stat : CellStat) (found : Option CellStat) (before : CellStat) → IsStat stat → IsStat (unwrap_or found before) → IsStat (unwrap_or (cond changed (Some stat) found) before)
either_possible true stat found before is other = is
either_possible false stat found before is other = other

pub stat_after-possible : (stats : ℕ → CellStat) (changes : List Change) (cell : ℕ) → IsStat (stats cell) → All (λ change. IsStat change.2) changes → IsStat (stat_after stats changes cell)
stat_after-possible stats [] cell is possible = is
stat_after-possible stats (change ∷ changes) cell is possible =
    let rest = stat_after-possible stats changes cell is (All-tail (λ (c : Change). IsStat c.2) change changes possible) in
    either_possible (cell == change.0) change.2 (change_of (new_stats changes) cell) (stats cell) (All-head (λ (c : Change). IsStat c.2) change changes possible) rest

-- changes that follow others come to both
pub stat_after-twice : (stats : ℕ → CellStat) (first second : List Change) (cell : ℕ) → stat_after (stat_after stats first) second cell ≡ stat_after stats (second ++ first) cell
stat_after-twice stats first [] cell = refl
stat_after-twice stats first (change ∷ second) cell = grind (arith, common_steps, stat_after-twice stats first second cell)

-- at a cell that is one of these, only the changes of these count
pub stat_after-among : (stats : ℕ → CellStat) (cells : List ℕ) (changes : List Change) (cell : ℕ) → is_among cells cell ≡ true → stat_after stats (changes_among cells changes) cell ≡ stat_after stats changes cell
stat_after-among stats cells [] cell among = refl
stat_after-among stats cells (change ∷ changes) cell among = grind (arith, nat_tests, common_steps, among, stat_after-among stats cells changes cell among)

-- each of cells is one of them
pub among-itself : (cells : List ℕ) (i d : ℕ) → i < length cells → is_among cells (get_or cells i d) ≡ true
among-itself [] i d within = absurd (omega arith)
among-itself (cell ∷ cells) zero d within = grind (arith, nat_tests)
among-itself (cell ∷ cells) (suc i) d within = grind (arith, nat_tests, among-itself cells i d (omega arith))
