-- What a fact adds at an end, told by the sides on which its rows lie.
use Rattle.std.proofs.Common.{◌≡◌, ℕ, ◌≤◌, Bool, true, false, List, [], ◌∷◌, length, refl, ap, arith, ℤ, pos, Option, Some, None}
use Rattle.std.specs.Prelude.{MatchOption, find, if◌then◌else◌, not, ◌&&◌, ◌||◌}
use Rattle.std.specs.List.{list_any}
use Rattle.std.specs.Option.{option_map_or, option_or}
use Rattle.std.specs.Ordering.{int_eq}
use Rattle.std.proofs.lemmas.Bool.{not-false, not-true, or_parts}
use Rattle.std.proofs.lemmas.Bool.Decides.{Decides-int_eq}
use Rattle.cube_model.specs.Allocation.{ExtendedFact}
use Rattle.cube_model.specs.Cells.{is_among}
use Rattle.world_law.specs.Worlds.{column_of}
use Rattle.world_range.specs.declared.extreme.Extreme.{Extreme}
use Rattle.world_range.specs.Ends.{HasRows}
use Rattle.world_range.specs.Picks.{part, pick_among, wants_inside}
use Rattle.world_range.specs.Sides.{sides_of, part_where}

-- what a value adds where its fact stands inside, or does not
abbrev pub added : ℤ → Bool → ℤ
added value inside = if inside then value else pos 0

-- What is found passes, so that some passes; where nothing is found none does.
module _ {X : Type 0} (p : X → Bool) where
  found_either : (b any : Bool) (x : X) (rest : Option X) → p x ≡ b → MatchOption rest (any ≡ false) (λ y. (p y ≡ true) × (any ≡ true))
      → MatchOption (if b then Some x else rest) ((b || any) ≡ false) (λ y. (p y ≡ true) × ((b || any) ≡ true))
  found_either true any x rest is others = (is, refl)
  found_either false any x rest is others = others

  found : (xs : List X) → MatchOption (find p xs) (list_any p xs ≡ false) (λ x. (p x ≡ true) × (list_any p xs ≡ true))
  found [] = refl
  found (x ∷ xs) = found_either (p x) (list_any p xs) x (find p xs) refl (found xs)

-- the cell of a row, or else that of the first
abbrev pub cell_of : Option (ℕ × ℕ) → ℕ × ℕ → ℕ
cell_of row first = option_map_or (λ row. row.0) (option_or row (Some first)) 0

module _ (test : ℕ → Bool) where
  -- a value that is wanted inside
  told_inside : (row : Option (ℕ × ℕ)) (first : ℕ × ℕ) (value : ℤ) (inside outside : Bool) → MatchOption row (inside ≡ false) (λ row. (test row.0 ≡ true) × (inside ≡ true)) → (inside ≡ false → test first.0 ≡ false)
      → added value (test (cell_of row first)) ≡ (if inside then (if outside && false then pos 0 else value) else pos 0)
  told_inside None first value true outside none first_out = cc
  told_inside None first value false outside none first_out = ap (added value) (first_out refl)
  told_inside (Some row) first value true true some first_out = ap (added value) some.0
  told_inside (Some row) first value true false some first_out = ap (added value) some.0
  told_inside (Some row) first value false outside some first_out = cc

  -- one that is wanted outside
  told_outside : (row : Option (ℕ × ℕ)) (first : ℕ × ℕ) (value : ℤ) (inside outside : Bool) → MatchOption row (outside ≡ false) (λ row. (not (test row.0) ≡ true) × (outside ≡ true)) → (outside ≡ false → test first.0 ≡ true)
      → (test first.0 ≡ true → inside ≡ true) → added value (test (cell_of row first)) ≡ (if inside then (if outside && true then pos 0 else value) else pos 0)
  told_outside None first value inside true none first_in some_in = cc
  told_outside None first value true false none first_in some_in = ap (added value) (first_in refl)
  told_outside None first value false false none first_in some_in = let some = some_in (first_in refl) in cc
  told_outside (Some row) first value true true some first_in some_in = ap (added value) (not-true (test row.0) some.0)
  told_outside (Some row) first value false outside some first_in some_in = ap (added value) (not-true (test row.0) some.0)
  told_outside (Some row) first value true false some first_in some_in = cc

  -- the value 0
  told_zero : (stands inside outside wants : Bool) → added (pos 0) stands ≡ (if inside then (if outside && not wants then pos 0 else pos 0) else pos 0)
  told_zero stands inside outside wants = grind arith

  told : (zero wants : Bool) (value : ℤ) (first : ℕ × ℕ) (rows : List (ℕ × ℕ)) → (zero ≡ true → value ≡ pos 0)
      → added value (test (cell_of (find (λ row. zero || (if wants then test row.0 else not (test row.0))) (first ∷ rows)) first))
      ≡ (if list_any (λ row. test row.0) (first ∷ rows) then (if list_any (λ row. not (test row.0)) (first ∷ rows) && not wants then pos 0 else value) else pos 0)
  told true wants value first rows is_zero = rw (is_zero refl) (told_zero _ _ _ _)
  told false true value first rows is_zero =
      told_inside _ first value _ _ (found (λ (row : ℕ × ℕ). test row.0) (first ∷ rows)) (λ none. (or_parts (test first.0) (list_any (λ row. test row.0) rows) none).0)
  told false false value first rows is_zero =
      told_outside _ first value _ _ (found (λ (row : ℕ × ℕ). not (test row.0)) (first ∷ rows)) (λ none. not-false (test first.0) (or_parts (not (test first.0)) (list_any (λ row. not (test row.0)) rows) none).0)
      (λ is. ap (λ b. b || list_any (λ row. test row.0) rows) is)

pub among-where : (extreme : Extreme) (cells : List ℕ) (value : ℤ) (rows : List (ℕ × ℕ)) → 1 ≤ length rows
    → added value (is_among cells (pick_among extreme cells value rows)) ≡ part_where extreme (sides_of cells rows) value
among-where extreme cells value [] some = absurd (omega arith)
among-where extreme cells value (first ∷ rows) some = told (is_among cells) (int_eq value (pos 0)) (wants_inside extreme value) value first rows (Decides-int_eq value (pos 0)).0

pub part-where : (extreme : Extreme) (cells : List ℕ) (column : ℕ) (e : ExtendedFact) → HasRows e → part extreme cells column e ≡ part_where extreme (sides_of cells e.allocation.rows) (column_of column e)
part-where extreme cells column e some = among-where extreme cells (column_of column e) e.allocation.rows some
