-- What is listed of placed facts is what the facts' worlds come to.
use Rattle.std.proofs.Common.{◌≡◌, ℕ, ◌+◌, List, [], ◌∷◌, map, refl, ap, ◌∙◌, arith, Ok, Err, Result}
use Rattle.std.specs.Prelude.{IfOk, ℤ}
use Rattle.std.specs.List.{range_with_len}
use Rattle.cube_model.specs.Allocation.{ExtendedFact}
use Rattle.cube_model.specs.Tree.{Dimension}
use Rattle.world_law.specs.declared.placed.Placed.{Placed}
use Rattle.world_law.specs.declared.sum.WorldSum.{WorldSum}
use Rattle.world_law.specs.Placed.{placed_facts, placed_of}
use Rattle.world_law.specs.Worlds.{mass, total, world_count}
use Rattle.world_law.proofs.Ids.{mass-nameless, total-nameless, world_count-nameless}

map-same : (f g : ℕ → ℤ) (xs : List ℕ) → ((x : ℕ) → f x ≡ g x) → map f xs ≡ map g xs
map-same f g [] same = refl
map-same f g (x ∷ xs) same = rw (same x, map-same f g xs same) refl

module _ (dims space : List Dimension) (region : List ℕ) (rows : List ExtendedFact) (placed : List Placed) (width columns : ℕ) (same : space ≡ dims) (are : placed ≡ map placed_of rows) (counted : columns ≡ 1 + width) where
  totals-listed : map (λ column. total space region column (placed_facts placed)) (range_with_len 0 columns) ≡ map (λ column. total dims region column rows) (range_with_len 0 (width + 1))
  totals-listed =
      let turned : columns ≡ width + 1 = omega (arith, counted) in
      ap (λ ds. map (λ column. total ds region column (placed_facts placed)) (range_with_len 0 columns)) same
      ∙ ap (λ (ps : List Placed). map (λ column. total dims region column (placed_facts ps)) (range_with_len 0 columns)) are
      ∙ map-same (λ column. total dims region column (placed_facts (map placed_of rows))) (λ column. total dims region column rows) (range_with_len 0 columns) (λ column. total-nameless dims region column rows)
      ∙ ap (λ n. map (λ column. total dims region column rows) (range_with_len 0 n)) turned

  pub listed : {E : Type 0} (result : Result WorldSum E) → IfOk result (λ sum. sum.worlds ≡ world_count (placed_facts placed)) → IfOk result (λ sum. sum.mass ≡ mass (placed_facts placed))
      → IfOk result (λ sum. sum.totals ≡ map (λ column. total space region column (placed_facts placed)) (range_with_len 0 columns))
      → IfOk result (λ sum. sum ≡ record { worlds = world_count rows; mass = mass rows; totals = map (λ column. total dims region column rows) (range_with_len 0 (width + 1)) })
  listed (Err e) worlds masses totals = tt
  listed (Ok sum) worlds masses totals =
      let first : sum.worlds ≡ world_count rows = worlds ∙ ap (λ (ps : List Placed). world_count (placed_facts ps)) are ∙ world_count-nameless rows in
      let second : sum.mass ≡ mass rows = masses ∙ ap (λ (ps : List Placed). mass (placed_facts ps)) are ∙ mass-nameless rows in
      let third : sum.totals ≡ map (λ column. total dims region column rows) (range_with_len 0 (width + 1)) = totals ∙ totals-listed in
      rw (← first, ← second, ← third) refl
