-- Worlds take no notice of ids.
use Rattle.std.proofs.Common.{◌≡◌, ℕ, ◌*◌, List, [], ◌∷◌, length, map, refl, ap, sym, ◌∙◌, pos, ◌+ℤ◌, ◌*ℤ◌}
use Rattle.cube_model.specs.Allocation.{ExtendedFact}
use Rattle.cube_model.specs.Answer.{weight_inside}
use Rattle.cube_model.specs.Cells.{cells_of}
use Rattle.cube_model.specs.Tree.{Dimension}
use Rattle.world_law.specs.Placed.{placed_facts, placed_of}
use Rattle.world_law.specs.Worlds.{column_of, mass, total, world_count, worlds}
use Rattle.world_law.proofs.Recurrences.{mass-cons, total-cons, weights, world_count-cons}

-- facts without their ids
abbrev pub nameless : List ExtendedFact → List ExtendedFact
nameless facts = placed_facts (map placed_of facts)

pub world_count-nameless : (facts : List ExtendedFact) → world_count (nameless facts) ≡ world_count facts
unfolding worlds
world_count-nameless [] = refl
world_count-nameless (e ∷ facts) =
    world_count-cons (record { id = 0; values = e.values; allocation = e.allocation }) (nameless facts) ∙ ap (λ n. length e.allocation.rows * n) (world_count-nameless facts) ∙ sym (world_count-cons e facts)

pub mass-nameless : (facts : List ExtendedFact) → mass (nameless facts) ≡ mass facts
unfolding worlds
mass-nameless [] = refl
mass-nameless (e ∷ facts) =
    mass-cons (record { id = 0; values = e.values; allocation = e.allocation }) (nameless facts) ∙ ap (λ n. weights e.allocation.rows * n) (mass-nameless facts) ∙ sym (mass-cons e facts)

pub total-nameless : (dims : List Dimension) (region : List ℕ) (column : ℕ) (facts : List ExtendedFact) → total dims region column (nameless facts) ≡ total dims region column facts
unfolding worlds
total-nameless dims region column [] = refl
total-nameless dims region column (e ∷ facts) =
    let x = column_of column e in
    let inside = weight_inside (cells_of dims region) e.allocation in
    total-cons dims region column (record { id = 0; values = e.values; allocation = e.allocation }) (nameless facts)
    ∙ ap (λ n. x *ℤ pos (inside * n) +ℤ total dims region column (nameless facts) *ℤ pos (weights e.allocation.rows)) (mass-nameless facts)
    ∙ ap (λ z. x *ℤ pos (inside * mass facts) +ℤ z *ℤ pos (weights e.allocation.rows)) (total-nameless dims region column facts)
    ∙ sym (total-cons dims region column e facts)
