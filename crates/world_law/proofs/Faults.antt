-- Worlds are refused exactly where there are too many, or their mass is too great.
use Rattle.std.proofs.Common.{◌≡◌, ℕ, ◌*◌, ◌≤◌, false, List, [], ◌∷◌, length, map, None, refl, sym, ap, ◌∙◌, arith}
use Rattle.std.specs.Prelude.{All, nat_lt, ◌↔◌}
use Rattle.std.proofs.lemmas.Bool.Decides.{nat_tests}
use Rattle.std.proofs.lemmas.List.Elements.{All-tail}
use Rattle.std.proofs.Math.Nat.{mul-le-mul_left}
use Rattle.region_algebra.specs.Space.{product}
use Rattle.world_law.specs.declared.placed.Placed.{Placed}
use Rattle.world_law.specs.Law.{IsShared}
use Rattle.world_law.specs.Limits.{MAX_WORLDS}
use Rattle.world_law.specs.Placed.{dens, placed_facts, product_above, row_counts}
use Rattle.world_law.specs.Worlds.{mass, world_count}
use Rattle.world_law.proofs.Expectation.{mass-product, world_count-product}
use Rattle.world_law.proofs.Judging.{product_some, product_within}
use Rattle.world_law.proofs.Placing.{counts_same, dens_same}

-- no first product is above the limit where that of all numbers is not, none of them being 0
module _ (f : Placed → ℕ) where
  product_none : (most p : ℕ) (placed : List Placed) → All (λ x. 1 ≤ f x) placed → p * product (map f placed) ≤ most → product_above most p (map f placed) ≡ None
  product_none most p [] some within = refl
  product_none most p (x ∷ placed) some within =
      let others = All-tail (λ x. 1 ≤ f x) x placed some in
      let least = product_some f placed others in
      let here : p * f x ≤ most = omega (arith, within, mul-le-mul_left (p * f x) least) in
      let not : nat_lt most (p * f x) ≡ false = grind (arith, nat_tests) in
      rw not (product_none most (p * f x) placed others (omega (arith, within)))

pub few_worlds : (placed : List Placed) → All (λ p. 1 ≤ length p.rows) placed → (product_above MAX_WORLDS 1 (row_counts placed) ≡ None) ↔ (world_count (placed_facts placed) ≤ MAX_WORLDS)
few_worlds placed some =
    let count = world_count-product (placed_facts placed) ∙ ap product (counts_same placed) in (
      λ none. omega (arith, count, product_within MAX_WORLDS 1 (row_counts placed) (omega arith) none),
      λ few. product_none (λ p. length p.rows) MAX_WORLDS 1 placed some (omega (arith, count, few)),
    )

pub mass_of_dens : (placed : List Placed) → All IsShared (placed_facts placed) → product (dens placed) ≡ mass (placed_facts placed)
mass_of_dens placed are = sym (mass-product (placed_facts placed) are ∙ ap product (dens_same placed))
