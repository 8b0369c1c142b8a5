-- Kept rows that ascend by id: how that is told, and what a search among them finds.
use Rattle.std.proofs.Common.{◌≡◌, ℕ, zero, suc, ◌+◌, ◌<◌, Bool, true, false, List, [], ◌∷◌, get_or, length, refl, ap, sym, ◌∙◌, arith}
use Rattle.std.specs.Prelude.{All, MatchBool, nat_lt, ◌==◌, ◌||◌}
use Rattle.std.specs.List.{AllAdjacentBelow, list_any}
use Rattle.std.proofs.lemmas.Bool.Decides.{nat_tests}
use Rattle.std.proofs.lemmas.List.{get_or_default}
use Rattle.std.proofs.lemmas.List.Elements.{All-from_get_or, All-head, All-tail}
use Rattle.cube_base.specs.Search.{IsKeyAt, IsKeyGap}
use Rattle.cube_model.specs.Ascending.{ascends_from}
use Rattle.cube_model.proofs.Ascending.{ascends_later}
use Rattle.fact_groups.proofs.Ascending.{ascends-from_pairs, pairs-from_ascends}
use Rattle.fact_keeper.specs.Batch.{rows_id}
use Rattle.fact_keeper.specs.Order.{AscendsBy}
use Rattle.fact_keeper.specs.declared.content.KeptRows.{KeptRows}
use Rattle.fact_keeper.proofs.Puts.{ascending_from_adjacent, first_least, rest_ascends}
use Rattle.store_audit.specs.Mending.{is_equal}
use Rattle.store_audit.proofs.PutRight.{none-equal}

-- an entry, for where none is
abbrev pub no-rows : KeptRows
no-rows = record { id = 0; den = 0; rows = [] }

-- an entry that does not stand before the next
fall : (xs : List KeptRows) (k : ℕ) → k + 1 < length xs → ((d : KeptRows) → false ≡ nat_lt (rows_id (get_or xs k d)) (rows_id (get_or xs (k + 1) d))) → ascends_from rows_id 0 xs ≡ true → ⊥
fall xs k within falls up =
    let rise = ascends_later rows_id 0 xs up k (k + 1) no-rows no-rows (omega arith) within in
    let no : false ≡ true = falls no-rows ∙ grind (arith, nat_tests, rise) in
    cc

pub told-order : (r : Bool) (xs : List KeptRows)
    → MatchBool r (AllAdjacentBelow (λ a b. true ≡ nat_lt (rows_id a) (rows_id b)) xs (length xs)) ((k : ℕ) × (k + 1 < length xs) × ((d : KeptRows) → false ≡ nat_lt (rows_id (get_or xs k d)) (rows_id (get_or xs (k + 1) d))))
    → r ≡ ascends_from rows_id 0 xs
told-order true xs told = sym (ascends-from_pairs rows_id 0 xs (ascending_from_adjacent rows_id xs told) (λ i d within. omega arith))
told-order false xs told = either (ascends_from rows_id 0 xs) refl
  where
    either : (b : Bool) → ascends_from rows_id 0 xs ≡ b → false ≡ ascends_from rows_id 0 xs
    either true up = absurd (fall xs told.0 told.1 told.2 up)
    either false is = sym is

-- ids rise from place to place
pub rises : (xs : List KeptRows) → ascends_from rows_id 0 xs ≡ true → (i j : ℕ) → i < j → j < length xs → rows_id (get_or xs i no-rows) < rows_id (get_or xs j no-rows)
rises xs up i j before within = ascends_later rows_id 0 xs up i j no-rows no-rows before within

-- the entry of an id alone may be equal to rows of that id
or-false : (b c : Bool) → c ≡ false → (b || c) ≡ b
or-false true c none = refl
or-false false c none = none

equal-there : (new : KeptRows) (xs : List KeptRows) (place : ℕ) (d : KeptRows) → AscendsBy rows_id xs → place < length xs → (get_or xs place d).id ≡ new.id → list_any (λ k. is_equal k new) xs ≡ is_equal (get_or xs place d) new
equal-there new [] place d up within named = absurd (omega (arith, within))
equal-there new (x ∷ xs) zero d up within named = or-false (is_equal x new) (list_any (λ k. is_equal k new) xs) (none-equal new xs (λ i e lt. omega (arith, named, first_least rows_id x xs up i e lt)))
equal-there new (x ∷ xs) (suc place) d up within named =
    let below = first_least rows_id x xs up place d (omega (arith, within)) in
    let other : (x.id == new.id) ≡ false = grind (arith, nat_tests, below, named) in
    rw other (equal-there new xs place d (rest_ascends rows_id x xs up) (omega (arith, within)) named)

pub equal-at : (new : KeptRows) (xs : List KeptRows) (place : ℕ) (found : KeptRows) → ascends_from rows_id 0 xs ≡ true → IsKeyAt rows_id no-rows xs new.id place → found ≡ get_or xs place found → list_any (λ k. is_equal k new) xs ≡ is_equal found new
equal-at new xs place found up at is =
    let named : (get_or xs place found).id ≡ new.id = ap rows_id (get_or_default xs place found no-rows at.in_range) ∙ at.has_key in
    equal-there new xs place found (pairs-from_ascends rows_id 0 xs up) at.in_range named ∙ ap (λ k. is_equal k new) (sym is)

none-of : (new : KeptRows) (xs : List KeptRows) → All (λ k. (k.id == new.id) ≡ false) xs → list_any (λ k. is_equal k new) xs ≡ false
none-of new [] other = refl
none-of new (x ∷ xs) other = let here = All-head (λ k. (k.id == new.id) ≡ false) x xs other in rw here (none-of new xs (All-tail (λ k. (k.id == new.id) ≡ false) x xs other))

pub equal-nowhere : (new : KeptRows) (xs : List KeptRows) (place : ℕ) → IsKeyGap rows_id no-rows xs new.id place → list_any (λ k. is_equal k new) xs ≡ false
equal-nowhere new xs place gap = none-of new xs (All-from_get_or (λ k. (k.id == new.id) ≡ false) xs no-rows other)
  where
    other : (k : ℕ) → k < length xs → ((get_or xs k no-rows).id == new.id) ≡ false
    other k within = grind (arith, nat_tests, gap.smaller_before k, gap.greater_after k)
