-- What a list of facts keeps through an edit.
use Rattle.std.proofs.Common.{◌≡◌, ℕ, ◌+◌, ◌-◌, ◌<◌, ◌≤◌, true, List, length, set, refl, ap, arith, length-set}
use Rattle.std.specs.Prelude.{nat_lt, ◌||◌}
use Rattle.std.specs.List.{insert, remove}
use Rattle.std.proofs.lemmas.Bool.Decides.{nat_tests}
use Rattle.std.proofs.lemmas.List.Edits.{length-insert, length-remove}
use Rattle.cube_model.specs.declared.edit.Fact.{Fact}
use Rattle.cube_model.specs.Facts.{has_id}
use Rattle.fact_records.specs.BlockList.{AllFilled, BlockList, all_facts, spare_of}
use Rattle.fact_records.specs.Cut.{IsIdAt, IsGapAt}
use Rattle.fact_records.specs.Kept.{IsKept}
use Rattle.fact_records.proofs.Ascending.{ascending-insert, ascending-remove, ascending-set, has_id_gap}

-- an id without a fact is put only where there is room
pub room_for_new : (facts : List Fact) (id p spare : ℕ) → IsGapAt facts id p → (has_id id facts || nat_lt 0 spare) ≡ true → 0 < spare
room_for_new facts id p spare gap allowed =
    let absent = has_id_gap facts id p gap in
    grind (arith, nat_tests)

module _ (old new : BlockList) (count spare p : ℕ) (kept : IsKept old count spare) where
  -- a new fact
  pub kept_after_insert : (fact : Fact) → IsGapAt (all_facts old.used) fact.id p → 0 < spare → all_facts new.used ≡ insert (all_facts old.used) p fact → AllFilled new.used → spare_of old ≤ spare_of new + 1 → IsKept new (count + 1) (spare - 1)
  kept_after_insert fact gap some facts filled room = record {
    ascending = rw facts (ascending-insert (all_facts old.used) fact.id p gap kept.ascending fact refl);
    filled = filled;
    counted = omega (arith, kept.counted, ap length facts, length-insert (all_facts old.used) p fact gap.in_range);
    fits = omega (arith, kept.fits);
    room = omega (arith, kept.room);
  }

  -- one in the place of another
  pub kept_after_set : (fact : Fact) → IsIdAt (all_facts old.used) fact.id p → all_facts new.used ≡ set (all_facts old.used) p fact → AllFilled new.used → spare_of old ≤ spare_of new → IsKept new count spare
  kept_after_set fact here facts filled room = record {
    ascending = rw facts (ascending-set (all_facts old.used) kept.ascending fact.id p here fact refl);
    filled = filled;
    counted = omega (arith, kept.counted, ap length facts, length-set (all_facts old.used) p fact);
    fits = kept.fits;
    room = omega (arith, kept.room);
  }

  -- one fact fewer
  pub kept_after_remove : p < length (all_facts old.used) → all_facts new.used ≡ remove (all_facts old.used) p → AllFilled new.used → spare_of old ≤ spare_of new → IsKept new (count - 1) spare
  kept_after_remove in_range facts filled room = record {
    ascending = rw facts (ascending-remove (all_facts old.used) kept.ascending p in_range);
    filled = filled;
    counted = omega (arith, kept.counted, ap length facts, length-remove (all_facts old.used) p in_range);
    fits = omega (arith, kept.fits);
    room = omega (arith, kept.room);
  }
