use Rattle.std.proofs.Common.{◌≡◌, ℕ, zero, suc, ◌<◌, refl, arith}
use Rattle.std.specs.Prelude.{[], ◌∷◌, None}
use Rattle.cube_model.specs.Cells.{all_cells, cells_of, is_inside}
use Rattle.cube_model.specs.Tree.{is_leaf, is_under, leaves, parent, path}
use Rattle.fact_records.specs.Examples.{one_number}
use Rattle.region_algebra.specs.Examples.{small_space}
use Rattle.store_audit.specs.Examples.{facts_of_ids}
use Rattle.store_audit.specs.Sound.{fault_at}
use Rattle.store_audit.proofs.laws.worked_facts.Goals as goal

two-good : (place : ℕ) → place < 2 → fault_at one_number small_space (facts_of_ids (1 ∷ 2 ∷ 2 ∷ [])) place ≡ None
unfolding all_cells cells_of is_inside is_leaf is_under leaves parent path
two-good zero below = refl
two-good (suc zero) below = refl
two-good (suc (suc place)) below = absurd (omega (arith, below))

-- the definitions compute it
pub returns : goal.returns
unfolding all_cells cells_of is_inside is_leaf is_under leaves parent path
returns c = record {
  ascending = refl;
  zero = record { there = refl; refused = refl; first = λ earlier below. absurd (omega (arith, below)) };
  repeated = record { there = refl; refused = refl; first = two-good };
  reasons = refl;
}
