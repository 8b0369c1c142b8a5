-- The sum of no world is beyond an end.
use Rattle.std.proofs.Common.{◌≡◌, ℕ, Bool, true, false, List, [], ◌∷◌, get_or, filter, map, refl, ap, sym, subst, arith, ℤ, pos, ◌+ℤ◌}
use Rattle.std.specs.Prelude.{All, if◌then◌else◌, not, ◌&&◌, ◌≤ℤ◌}
use Rattle.std.specs.List.{flat_map}
use Rattle.std.proofs.lemmas.Int.{ints}
use Rattle.std.proofs.lemmas.List.Elements.{All-append, All-cons, All-head, All-map, All-nil, All-tail}
use Rattle.std.proofs.lemmas.List.Folds.{list_any_at}
use Rattle.cube_model.specs.Allocation.{ExtendedFact}
use Rattle.cube_model.specs.Cells.{is_among}
use Rattle.cube_model.proofs.Totals.{total_by-either}
use Rattle.world_law.specs.Choices.{own}
use Rattle.world_law.specs.Worlds.{World, column_of, with_fact, world_sum, worlds}
use Rattle.world_range.specs.declared.extreme.Extreme.{Extreme}
use Rattle.world_range.specs.declared.extreme.Extreme.TheVariants.{Greatest, Least}
use Rattle.world_range.specs.Ends.{HasRows}
use Rattle.world_range.specs.Picks.{end_of, part, wants_inside}
use Rattle.world_range.specs.Sides.{sides_of}
use Rattle.world_range.proofs.Parts.{added, part-where}

-- the second number is not beyond the first, at this end
abbrev pub Bounds : Extreme → ℤ → ℤ → Type 0
Bounds Least a b = a ≤ℤ b
Bounds Greatest a b = b ≤ℤ a

bounds_itself : (extreme : Extreme) (a : ℤ) → Bounds extreme a a
bounds_itself Least a = omega (arith, ints)
bounds_itself Greatest a = omega (arith, ints)

bounds_sum : (extreme : Extreme) (a b c d : ℤ) → Bounds extreme a b → Bounds extreme c d → Bounds extreme (a +ℤ c) (b +ℤ d)
bounds_sum Least a b c d first second = omega (arith, ints)
bounds_sum Greatest a b c d first second = omega (arith, ints)

-- where a value is wanted inside, there is an end; else outside
wanted_bounds : (extreme : Extreme) (value : ℤ) → wants_inside extreme value ≡ true → Bounds extreme value (pos 0)
wanted_bounds Least value is = grind (arith, ints)
wanted_bounds Greatest value is = grind (arith, ints)

unwanted_bounds : (extreme : Extreme) (value : ℤ) → wants_inside extreme value ≡ false → Bounds extreme (pos 0) value
unwanted_bounds Least value is = grind (arith, ints)
unwanted_bounds Greatest value is = grind (arith, ints)

-- what a fact adds at an end bounds what it adds inside where it has rows inside, and outside where it has rows outside
side_bounds : (extreme : Extreme) (wants stands inside outside : Bool) (value : ℤ) → (wants ≡ true → Bounds extreme value (pos 0)) → (wants ≡ false → Bounds extreme (pos 0) value)
    → (stands ≡ true → inside ≡ true) → (stands ≡ false → outside ≡ true) → Bounds extreme (if inside then (if outside && not wants then pos 0 else value) else pos 0) (added value stands)
side_bounds extreme true true true true value wanted unwanted inn out = bounds_itself extreme value
side_bounds extreme true true true false value wanted unwanted inn out = bounds_itself extreme value
side_bounds extreme wants true false outside value wanted unwanted inn out = let is = inn refl in cc
side_bounds extreme true false true true value wanted unwanted inn out = wanted refl
side_bounds extreme wants false inside false value wanted unwanted inn out = let is = out refl in cc
side_bounds extreme wants false false true value wanted unwanted inn out = bounds_itself extreme (pos 0)
side_bounds extreme false true true true value wanted unwanted inn out = unwanted refl
side_bounds extreme false true true false value wanted unwanted inn out = bounds_itself extreme value
side_bounds extreme false false true true value wanted unwanted inn out = bounds_itself extreme (pos 0)

All-flat_map : {X Y : Type 0} (P : Y → Type 0) (f : X → List Y) (xs : List X) → All (λ x. All P (f x)) xs → All P (flat_map f xs)
All-flat_map P f [] all = All-nil P
All-flat_map P f (x ∷ xs) all = All-append P (f x) (flat_map f xs) (All-head (λ x. All P (f x)) x xs all) (All-flat_map P f xs (All-tail (λ x. All P (f x)) x xs all))

-- what stands in cells once a fact stands at one
pub world_sum-with_fact : (cells : List ℕ) (column : ℕ) (e : ExtendedFact) (row : ℕ × ℕ) (world : World) → world_sum cells column (with_fact e row world) ≡ own cells column e row.0 +ℤ world_sum cells column world
world_sum-with_fact cells column e row world = total_by-either (is_among cells row.0) (λ s. column_of column s.0) (e, row.0) (filter (λ s. is_among cells s.1) world.standing)

module _ (extreme : Extreme) (cells : List ℕ) (column : ℕ) where
  -- what a fact adds at an end bounds what it adds at the cell of any of its rows
  row_bounds : (e : ExtendedFact) → HasRows e → All (λ row. Bounds extreme (part extreme cells column e) (own cells column e row.0)) e.allocation.rows
  row_bounds e some k d within =
      let rows = e.allocation.rows in
      let value = column_of column e in
      let stands = is_among cells (get_or rows k d).0 in
      let P : ℤ → Type 0 = λ z. Bounds extreme z (own cells column e (get_or rows k d).0) in
      subst P (sym (part-where extreme cells column e some))
      (side_bounds extreme (wants_inside extreme value) stands (sides_of cells rows).inside (sides_of cells rows).outside value (wanted_bounds extreme value) (unwanted_bounds extreme value)
      (λ is. list_any_at (λ row. is_among cells row.0) rows k d within is) (λ is. list_any_at (λ row. not (is_among cells row.0)) rows k d within (ap not is)))

  pub world_bounds : (facts : List ExtendedFact) → All HasRows facts → All (λ world. Bounds extreme (end_of extreme cells column facts) (world_sum cells column world)) (worlds facts)
  unfolding worlds
  world_bounds [] some = All-cons (λ world. Bounds extreme (pos 0) (world_sum cells column world)) _ [] (bounds_itself extreme (pos 0)) (All-nil (λ world. Bounds extreme (pos 0) (world_sum cells column world)))
  world_bounds (e ∷ facts) some =
      let here = All-head HasRows e facts some in
      let others = world_bounds facts (All-tail HasRows e facts some) in
      let P : World → Type 0 = λ world. Bounds extreme (end_of extreme cells column (e ∷ facts)) (world_sum cells column world) in
      let rows = e.allocation.rows in
      All-flat_map P (λ row. map (with_fact e row) (worlds facts)) rows
      (λ k d within. All-map P (with_fact e (get_or rows k d)) (worlds facts)
      (λ j world among.
      let Q : ℤ → Type 0 = λ z. Bounds extreme (end_of extreme cells column (e ∷ facts)) z in
      subst Q (sym (world_sum-with_fact cells column e (get_or rows k d) (get_or (worlds facts) j world)))
      (bounds_sum extreme _ _ _ _ (row_bounds e here k d within) (others j world among))))
