-- One more change of cells' statistics, staged or installed.
use Rattle.std.proofs.Common.{◌≡◌, ℕ, zero, suc, ◌+◌, ◌<◌, ◌≤◌, true, false, cond, List, [], ◌∷◌, ◌++◌, ◌||◌, take, drop, get_or, length, Option, Some, None, eqb, refl, ap, sym, ◌∙◌, unwrap_or, arith}
use Rattle.std.proofs.lemmas.Bool.{or_left}
use Rattle.std.proofs.lemmas.Bool.Decides.{nat_tests}
use Rattle.std.proofs.lemmas.Grind.{common_steps}
use Rattle.std.proofs.lemmas.List.{get_or-map, take-append-drop, take_all, take_more}
use Rattle.std.proofs.lemmas.List.Folds.{list_any-append}
use Rattle.std.proofs.lemmas.Map.Entries.{All-lookup, length-keys_of}
use Rattle.std.proofs.lemmas.Map.Keys.{IsDistinct-tail, apart_from_distinct}
use Rattle.std.specs.List.{All, list_any}
use Rattle.std.specs.Map.{keys_of}
use Rattle.std.specs.Option.{IfSome, option_or, option_map_or}
use Rattle.cube_model.specs.declared.statistic.CellStat.{CellStat}
use Rattle.staged_map.specs.Staged.{Places, Reserves, ReservesSome, has_place}
use Rattle.staged_map.proofs.Changes.{Reserves-next}
use Rattle.cell_weight.specs.Stats.{AreOfDifferentCells, AreStats, Installs, IsStat, change_of, has_facts, have_stat_places, stat_at}

-- the changes before this one are installed, and the others have places
pub record Installing (old new : Places CellStat) (changes : List (ℕ × CellStat)) (i : ℕ) : Type 0 where
  pub before : Installs old new (take i changes)
  pub left : (j : ℕ) (d : ℕ × CellStat) → i ≤ j → j < length changes → has_place new (get_or changes j d).0 ≡ true

-- a changed cell is one of the keys
keys_of-at : (changes : List (ℕ × CellStat)) (i : ℕ) (d : ℕ × CellStat) → i < length changes → get_or (keys_of changes) i 0 ≡ (get_or changes i d).0
keys_of-at changes i d within = get_or-map (λ (change : ℕ × CellStat). change.0) changes i d 0 within

-- where all keys got places, each changed cell has one
have_stat_places-from : (places : Places CellStat) (changes : List (ℕ × CellStat)) → ((cell : ℕ) → list_any (eqb cell) (keys_of changes) ≡ true → has_place places cell ≡ true) → have_stat_places places changes ≡ true
have_stat_places-from places [] has = refl
have_stat_places-from places (change ∷ changes) has =
    let first : has_place places change.0 ≡ true = has change.0 (grind (arith, common_steps, nat_tests)) in
    let rest : have_stat_places places changes ≡ true = have_stat_places-from places changes (λ cell among. has cell (grind (arith, common_steps, among))) in
    grind (arith, first, rest)

-- what is looked up among changes and one more
change_of-push : (changes : List (ℕ × CellStat)) (change : ℕ × CellStat) (cell : ℕ) → change_of (changes ++ change ∷ []) cell ≡ option_or (change_of changes cell) (cond (eqb cell change.0) (Some change.1) None)
change_of-push [] change cell = refl
change_of-push (first ∷ changes) change cell = grind (arith, common_steps, change_of-push changes change cell)

-- of different cells no two are the same
cells-apart : (changes : List (ℕ × CellStat)) (i j : ℕ) (d e : ℕ × CellStat) → AreOfDifferentCells changes → i < j → j < length changes → eqb (get_or changes i d).0 (get_or changes j e).0 ≡ false
cells-apart changes i j d e distinct before within =
    let cell_of : ℕ × CellStat → ℕ = λ change. change.0 in
    let first : get_or (keys_of changes) i 0 ≡ (get_or changes i d).0 = get_or-map cell_of changes i d 0 (omega arith) in
    let second : get_or (keys_of changes) j 0 ≡ (get_or changes j e).0 = get_or-map cell_of changes j e 0 within in
    let apart = apart_from_distinct eqb (keys_of changes) i j 0 distinct before (omega (arith, length-keys_of changes)) in
    rw (first, second) at apart

-- a cell of different ones is not among those before it
change_of-before : (changes : List (ℕ × CellStat)) (i : ℕ) (d : ℕ × CellStat) → AreOfDifferentCells changes → i < length changes → change_of (take i changes) (get_or changes i d).0 ≡ None
change_of-before [] i d distinct within = absurd (omega arith)
change_of-before (change ∷ changes) zero d distinct within = refl
change_of-before (change ∷ changes) (suc i) d distinct within =
    let rest : change_of (take i changes) (get_or changes i d).0 ≡ None = change_of-before changes i d (IsDistinct-tail eqb change.0 (keys_of changes) distinct) (omega arith) in
    grind (arith, nat_tests, rest, cells-apart (change ∷ changes) 0 (suc i) d d distinct (omega arith) within)

module _ (old between new : Places CellStat) (changes : List (ℕ × CellStat)) (i : ℕ) (d : ℕ × CellStat) (within : i < length changes) where
  pub Installing-next : AreOfDifferentCells changes → Installing old between changes i → Installs between new (get_or changes i d ∷ []) → Installing old new changes (i + 1)
  Installing-next distinct so_far last = record {
    before = rw (take_more changes i d within) (record { stats = stats; places = places });
    left = left;
  }
    where
      absent : change_of (take i changes) (get_or changes i d).0 ≡ None
      absent = change_of-before changes i d distinct within

      stats : (cell : ℕ) → stat_at new cell ≡ unwrap_or (change_of (take i changes ++ get_or changes i d ∷ []) cell) (stat_at old cell)
      stats cell = grind (arith, common_steps, nat_tests, absent, last.stats cell, so_far.before.stats cell, change_of-push (take i changes) (get_or changes i d) cell)

      places : (cell : ℕ) → has_place new cell ≡ option_map_or has_facts (change_of (take i changes ++ get_or changes i d ∷ []) cell) (has_place old cell)
      places cell = grind (arith, common_steps, nat_tests, absent, last.places cell, so_far.before.places cell, change_of-push (take i changes) (get_or changes i d) cell)

      left : (j : ℕ) (e : ℕ × CellStat) → i + 1 ≤ j → j < length changes → has_place new (get_or changes j e).0 ≡ true
      left j e later there = grind (arith, common_steps, nat_tests, cells-apart changes i j d e distinct (omega arith) there, last.places (get_or changes j e).0, so_far.left j e (omega arith) there)

module _ (old between new : Places CellStat) (changes : List (ℕ × CellStat)) (i : ℕ) (d : ℕ × CellStat) (within : i < length changes) (before : Reserves old between (take i (keys_of changes))) where
  here : get_or (keys_of changes) i 0 ≡ (get_or changes i d).0
  here = keys_of-at changes i d within

  inside : i < length (keys_of changes)
  inside = omega (arith, length-keys_of changes)

  -- the cell of one change more has a place
  pub Reserves-change : Reserves between new ((get_or changes i d).0 ∷ []) → Reserves old new (take (i + 1) (keys_of changes))
  Reserves-change last = Reserves-next old new between (keys_of changes) i inside before (rw (← here) at last)

  -- or it gets none
  pub ReservesSome-change : ReservesSome between new ((get_or changes i d).0 ∷ []) → ReservesSome old new (keys_of changes)
  ReservesSome-change last = record {
    values = λ k. last.values k ∙ before.values k;
    kept = λ k there. last.kept k (before.places k ∙ or_left _ _ there);
    among = λ k there. among k (last.among k there);
  }
    where
      whole : (k : ℕ) → list_any (eqb k) (keys_of changes) ≡ ((list_any (eqb k) (take i (keys_of changes)) || list_any (eqb k) (get_or (keys_of changes) i 0 ∷ [])) || list_any (eqb k) (drop (i + 1) (keys_of changes)))
      whole k =
          sym (ap (list_any (eqb k)) (take-append-drop (i + 1) (keys_of changes)))
          ∙ list_any-append (eqb k) (take (i + 1) (keys_of changes)) (drop (i + 1) (keys_of changes))
          ∙ ap (λ any. any || list_any (eqb k) (drop (i + 1) (keys_of changes))) (ap (list_any (eqb k)) (take_more (keys_of changes) i 0 inside) ∙ list_any-append (eqb k) (take i (keys_of changes)) (get_or (keys_of changes) i 0 ∷ []))

      among : (k : ℕ) → (has_place between k || list_any (eqb k) ((get_or changes i d).0 ∷ [])) ≡ true → (has_place old k || list_any (eqb k) (keys_of changes)) ≡ true
      among k part_has = grind (arith, common_steps, part_has, before.places k, whole k, here)

-- all changed cells have places
pub have_stat_places-reserved : (old new : Places CellStat) (changes : List (ℕ × CellStat)) (i : ℕ) → length changes ≤ i → Reserves old new (take i (keys_of changes)) → have_stat_places new changes ≡ true
have_stat_places-reserved old new changes i end part =
    let all : take i (keys_of changes) ≡ keys_of changes = take_all i (keys_of changes) (omega (arith, length-keys_of changes)) in
    have_stat_places-from new changes (λ cell among. grind (arith, common_steps, part.places cell, among, all))

IsStat-either : (change : Option CellStat) (stat : CellStat) → IsStat stat → IfSome change IsStat → IsStat (unwrap_or change stat)
IsStat-either None stat is change_is = is
IsStat-either (Some change) stat is change_is = change_is

-- statistics that facts can have stay such
pub AreStats-installed : (old new : Places CellStat) (changes : List (ℕ × CellStat)) (i : ℕ) → AreStats old → All (λ change. IsStat change.1) changes → Installing old new changes i → length changes ≤ i → AreStats new
AreStats-installed old new changes i are possible installing end cell =
    let installs : Installs old new changes = rw (take_all) at installing.before in
    let changed = All-lookup IsStat (eqb cell) changes possible in
    rw (installs.stats cell) (IsStat-either (change_of changes cell) (stat_at old cell) (are cell) changed)
