-- A world in which each fact stands at its pick has the sum of the end.
use Rattle.std.proofs.Common.{◌≡◌, ℕ, zero, suc, ◌*◌, ◌≤◌, Bool, true, false, List, [], ◌∷◌, length, filter, map, refl, ap, sym, ◌∙◌, subst, arith, ℤ, ◌+ℤ◌, Option, Some, None}
use Rattle.std.specs.Prelude.{All, MatchOption, find, if◌then◌else◌}
use Rattle.std.specs.List.{Contains, flat_map, zip}
use Rattle.std.proofs.lemmas.List.{get_or-map, length-map}
use Rattle.std.proofs.lemmas.List.Elements.{All-head, All-tail, Contains-append_left, Contains-append_right}
use Rattle.cube_model.specs.Allocation.{ExtendedFact}
use Rattle.cube_model.specs.Cells.{cells_of, is_among}
use Rattle.cube_model.specs.Tree.{Dimension}
use Rattle.cube_model.proofs.Totals.{total_by-either}
use Rattle.world_law.specs.Worlds.{World, column_of, with_fact, world_sum, worlds}
use Rattle.world_range.specs.declared.extreme.Extreme.{Extreme}
use Rattle.world_range.specs.declared.extreme.Extreme.TheVariants.{Greatest, Least}
use Rattle.world_range.specs.Ends.{AreEnds, HasRows, IsReachedEnd, IsWorld}
use Rattle.world_range.specs.Picks.{end_of, is_wanted, part, pick, pick_among, picks}
use Rattle.world_range.proofs.Bounds.{world_bounds}
use Rattle.world_range.proofs.Parts.{cell_of}

-- Lists have what is found in them, what is made of what they have, and what is in a part of them.

contains_head : {X : Type 0} (x : X) (xs : List X) → Contains (x ∷ xs) x
contains_head x xs = (0, omega arith, refl)

contains_either : {X : Type 0} (b : Bool) (x : X) (rest : Option X) (xs : List X) → MatchOption rest (Unit {0}) (Contains xs) → MatchOption (if b then Some x else rest) (Unit {0}) (Contains (x ∷ xs))
contains_either true x rest xs others = contains_head x xs
contains_either false x None xs others = tt
contains_either false x (Some y) xs others = Contains-append_right (x ∷ []) xs y others

contains_found : {X : Type 0} (p : X → Bool) (xs : List X) → MatchOption (find p xs) (Unit {0}) (Contains xs)
contains_found p [] = tt
contains_found p (x ∷ xs) = contains_either (p x) x (find p xs) xs (contains_found p xs)

contains_made : {X Y : Type 0} (f : X → Y) (xs : List X) (x : X) → Contains xs x → Contains (map f xs) (f x)
contains_made f xs x (k, within, is) = (k, omega (arith, within, length-map xs f), get_or-map f xs k x (f x) within ∙ ap f is)

contains_part : {X Y : Type 0} (f : X → List Y) (xs : List X) (x : X) (y : Y) → Contains xs x → Contains (f x) y → Contains (flat_map f xs) y
contains_part f [] x y (k, within, is) there = absurd (omega (arith, within))
contains_part {X} {Y} f (first ∷ xs) x y (zero, within, is) there =
    let P : X → Type 0 = λ z. Contains (f z) y in
    Contains-append_left (f first) (flat_map f xs) y (subst P (sym is) there)
contains_part f (first ∷ xs) x y (suc k, within, is) there = Contains-append_right (f first) (flat_map f xs) y (contains_part f xs x y (k, omega (arith, within), is) there)

-- a row of a fact at the cell that is picked
pub record IsPickOf (rows : List (ℕ × ℕ)) (cell : ℕ) : Type 0 where
  pub row : ℕ × ℕ
  pub there : Contains rows row
  pub is : row.0 ≡ cell

picked_or_first : (row : Option (ℕ × ℕ)) (first : ℕ × ℕ) (rows : List (ℕ × ℕ)) → MatchOption row (Unit {0}) (Contains (first ∷ rows)) → IsPickOf (first ∷ rows) (cell_of row first)
picked_or_first None first rows found = record { row = first; there = contains_head first rows; is = refl }
picked_or_first (Some row) first rows found = record { row = row; there = found; is = refl }

pub picked_row : (extreme : Extreme) (cells : List ℕ) (value : ℤ) (rows : List (ℕ × ℕ)) → 1 ≤ length rows → IsPickOf rows (pick_among extreme cells value rows)
picked_row extreme cells value [] some = absurd (omega arith)
picked_row extreme cells value (first ∷ rows) some = picked_or_first _ first rows (contains_found (λ (row : ℕ × ℕ). is_wanted extreme value (is_among cells row.0)) (first ∷ rows))

module _ (extreme : Extreme) (cells : List ℕ) (column : ℕ) where
  picks_sum : (weight : ℕ) (facts : List ExtendedFact) → world_sum cells column (record { weight = weight; standing = zip facts (picks extreme cells column facts) }) ≡ end_of extreme cells column facts
  picks_sum weight [] = refl
  picks_sum weight (e ∷ facts) =
      total_by-either (is_among cells (pick extreme cells column e)) (λ s. column_of column s.0) (e, pick extreme cells column e) (filter (λ s. is_among cells s.1) (zip facts (picks extreme cells column facts)))
      ∙ ap (λ z. part extreme cells column e +ℤ z) (picks_sum weight facts)

  picks_world : (facts : List ExtendedFact) → All HasRows facts → IsWorld facts (picks extreme cells column facts)
  unfolding worlds
  picks_world [] some = record { weight = 1; there = contains_head _ [] }
  picks_world (e ∷ facts) some =
      let others = picks_world facts (All-tail HasRows e facts some) in
      let here = picked_row extreme cells (column_of column e) e.allocation.rows (All-head HasRows e facts some) in
      let standing = zip facts (picks extreme cells column facts) in
      let rest : World = record { weight = others.weight; standing = standing } in
      let weight = others.weight * here.row.1 in
      let P : ℕ → Type 0 = λ cell. Contains (worlds (e ∷ facts)) (record { weight = weight; standing = (e, cell) ∷ standing }) in
      record {
        weight = weight;
        there =
            subst P here.is
            (contains_part (λ row. map (with_fact e row) (worlds facts)) e.allocation.rows here.row (with_fact e here.row rest) here.there (contains_made (with_fact e here.row) (worlds facts) rest others.there));
      }

  reached : (facts : List ExtendedFact) → All HasRows facts → IsReachedEnd extreme cells column facts
  reached facts some = record { world = picks_world facts some; sum = λ weight. picks_sum weight facts }

pub ends_reached : (dims : List Dimension) (region : List ℕ) (column : ℕ) (facts : List ExtendedFact) → All HasRows facts → AreEnds dims region column facts
ends_reached dims region column facts some = record {
  low = reached Least (cells_of dims region) column facts some;
  high = reached Greatest (cells_of dims region) column facts some;
  above = world_bounds Least (cells_of dims region) column facts some;
  below = world_bounds Greatest (cells_of dims region) column facts some;
}
