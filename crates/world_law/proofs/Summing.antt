-- The sums over all worlds, column by column.
use Rattle.std.proofs.Common.{◌≡◌, ℕ, ◌+◌, ◌≤◌, List, [], ◌∷◌, ◌++◌, map, refl, ap, sym, ◌∙◌, inl, inr, arith, ℤ}
use Rattle.std.specs.List.{range_with_len}
use Rattle.std.specs.Prelude.{All}
use Rattle.std.proofs.lemmas.Bool.{cases_eq}
use Rattle.std.proofs.lemmas.List.FromFn.{map-range_with_len_more}
use Rattle.cube_model.specs.Tree.{Dimension}
use Rattle.world_law.specs.declared.placed.Placed.{Placed}
use Rattle.world_law.specs.Placed.{IsPlacedFact, placed_facts}
use Rattle.world_law.specs.Worlds.{mass, total, world_count, worlds}
use Rattle.world_law.proofs.Placing.{none_placed}

-- The columns so far were walked through: each tells the number of worlds and their mass, and its own total.
pub record SumsTo (dims : List Dimension) (region : List ℕ) (placed : List Placed) (column count weight : ℕ) (totals : List ℤ) : Type 0 where
  pub start : column ≡ 0 → (count ≡ 1) × (weight ≡ 1)
  pub worlds_are : 1 ≤ column → count ≡ world_count (placed_facts placed)
  pub mass_is : 1 ≤ column → weight ≡ mass (placed_facts placed)
  pub totals_are : totals ≡ map (λ k. total dims region k (placed_facts placed)) (range_with_len 0 column)

module _ (dims : List Dimension) (region : List ℕ) (placed : List Placed) where
  pub sums_none : (totals : List ℤ) → totals ≡ [] → SumsTo dims region placed 0 1 1 totals
  sums_none totals none = record {
    start = λ is. (refl, refl);
    worlds_are = λ some. absurd (omega (arith, some));
    mass_is = λ some. absurd (omega (arith, some));
    totals_are = none;
  }

  -- one column more
  pub sums_next : (column count weight c w : ℕ) (totals new : List ℤ) (t : ℤ) → SumsTo dims region placed column c w totals → count ≡ world_count (placed_facts placed) → weight ≡ mass (placed_facts placed)
      → t ≡ total dims region column (placed_facts placed) → new ≡ totals ++ t ∷ [] → SumsTo dims region placed (column + 1) count weight new
  sums_next column count weight c w totals new t before counted weighed summed pushed =
      let total_at : ℕ → ℤ = λ k. total dims region k (placed_facts placed) in
      record {
        start = λ is. absurd (omega (arith, is));
        worlds_are = λ some. counted;
        mass_is = λ some. weighed;
        totals_are =
            pushed ∙ ap (λ (zs : List ℤ). zs ++ t ∷ []) before.totals_are ∙ ap (λ z. map total_at (range_with_len 0 column) ++ z ∷ []) summed
            ∙ sym (map-range_with_len_more total_at 0 column column (omega arith));
      }

  -- after all columns
  module _ (columns column count weight : ℕ) (totals : List ℤ) (are : All (IsPlacedFact dims columns) placed) (sums : SumsTo dims region placed column count weight totals) (end : columns ≤ column) (within : column ≤ columns) where
    pub sums_count : count ≡ world_count (placed_facts placed)
    unfolding worlds
    sums_count = elim (cases_eq column 0) [
      | inl none ↦ (sums.start none).0 ∙ sym (ap (λ (ps : List Placed). world_count (placed_facts ps)) (none_placed dims columns placed are (omega (arith, none, end))))
      | inr some ↦ sums.worlds_are (omega (arith, some))
    ]

    pub sums_mass : weight ≡ mass (placed_facts placed)
    unfolding worlds
    sums_mass = elim (cases_eq column 0) [
      | inl none ↦ (sums.start none).1 ∙ sym (ap (λ (ps : List Placed). mass (placed_facts ps)) (none_placed dims columns placed are (omega (arith, none, end))))
      | inr some ↦ sums.mass_is (omega (arith, some))
    ]

    pub sums_totals : totals ≡ map (λ k. total dims region k (placed_facts placed)) (range_with_len 0 columns)
    sums_totals =
        let all : column ≡ columns = omega (arith, end, within) in
        sums.totals_are ∙ ap (λ n. map (λ k. total dims region k (placed_facts placed)) (range_with_len 0 n)) all
