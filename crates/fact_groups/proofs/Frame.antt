-- Regions that hold no cell which weighs otherwise are spread as before.
use Rattle.std.proofs.Common.{◌≡◌, ℕ, ◌<◌, Bool, true, false, List, [], ◌∷◌, get_or, map, refl, ap, sym, ◌∙◌, arith}
use Rattle.std.specs.Prelude.{All, AllPairs, filter, nat_lt, not, ◌&&◌, ◌==◌, if◌then◌else◌}
use Rattle.std.specs.List.{list_any, sum_by}
use Rattle.std.proofs.lemmas.Bool.Decides.{nat_tests}
use Rattle.std.proofs.lemmas.List.Elements.{All-head, All-tail}
use Rattle.std.proofs.lemmas.List.Folds.{list_any_at}
use Rattle.std.proofs.lemmas.List.Sums.{sum_by-cons}
use Rattle.cube_model.specs.declared.edit.Edit.{Edit}
use Rattle.cube_model.specs.declared.edit.Fact.{Fact}
use Rattle.cube_model.specs.Allocation.{Allocation, Policy, spread, spread_evenly, weight_of}
use Rattle.cube_model.specs.Cells.{cells_of, is_among, is_single}
use Rattle.cube_model.specs.Facts.{after, is_precise}
use Rattle.cube_model.specs.Tree.{Dimension}
use Rattle.fact_groups.specs.Changes.{covers_any, holds_any, is_reweighed, reweighed_cells}
use Rattle.fact_groups.specs.Groups.{spread_at}
use Rattle.fact_groups.proofs.Statistics.{among-reweighed}

-- weights that agree on the cells spread alike
sum_by-agree : (v w : ℕ → ℕ) (cells : List ℕ) → All (λ cell. v cell ≡ w cell) cells → sum_by v cells ≡ sum_by w cells
sum_by-agree v w [] agree = refl
sum_by-agree v w (cell ∷ cells) agree =
    omega (
      arith,
      sum_by-cons v cell cells,
      sum_by-cons w cell cells,
      All-head (λ cell. v cell ≡ w cell) cell cells agree,
      sum_by-agree v w cells (All-tail (λ cell. v cell ≡ w cell) cell cells agree),
    )

weighted-agree : (v w : ℕ → ℕ) (cells : List ℕ) → All (λ cell. v cell ≡ w cell) cells → ◌≡◌ {A = List (ℕ × ℕ)} (map (λ cell. (cell, v cell)) cells) (map (λ cell. (cell, w cell)) cells)
weighted-agree v w [] agree = refl
weighted-agree v w (cell ∷ cells) agree =
    ap (λ (n : ℕ). (cell, n) ∷ map (λ c. (c, v c)) cells) (All-head (λ cell. v cell ≡ w cell) cell cells agree)
    ∙ ap (λ (rows : List (ℕ × ℕ)). (cell, w cell) ∷ rows) (weighted-agree v w cells (All-tail (λ cell. v cell ≡ w cell) cell cells agree))

-- what cells of this total and these weights are spread to
abbrev spread_from : List ℕ → ℕ → List (ℕ × ℕ) → Allocation
spread_from cells total weighted =
    if is_single cells then spread_evenly cells
    else (if total == 0 then spread_evenly cells else record { den = total; rows = filter (λ row. nat_lt 0 row.1) weighted })

pub spread-agree : (v w : ℕ → ℕ) (cells : List ℕ) → All (λ cell. v cell ≡ w cell) cells → spread v cells ≡ spread w cells
spread-agree v w cells agree =
    ap (λ (n : ℕ). spread_from cells n (map (λ cell. (cell, v cell)) cells)) (sum_by-agree v w cells agree)
    ∙ ap (λ (rows : List (ℕ × ℕ)). spread_from cells (sum_by w cells) rows) (weighted-agree v w cells agree)

-- among cells of which none passes, no other list's cell passes either
not-both : (cells : List ℕ) (p : ℕ → Bool) (cell : ℕ) → is_among cells cell ≡ true → p cell ≡ true → list_any p cells ≡ true
not-both [] p cell among passes = cc
not-both (c ∷ cells) p cell among passes = either (c == cell) (p c) refl refl among (not-both cells p cell)
  where
    either : (same b : Bool) → (c == cell) ≡ same → p c ≡ b → is_among (c ∷ cells) cell ≡ true → (is_among cells cell ≡ true → p cell ≡ true → list_any p cells ≡ true) → list_any p (c ∷ cells) ≡ true
    either same true is here among rest = rw here refl
    either true false is here among rest = let its : c ≡ cell = grind (arith, nat_tests) in let alike = ap p its in cc
    either false false is here among rest = rw here (rest (rw is at among) passes)

module _ (policy : Policy) (dims : List Dimension) (edit : Edit) (facts : List Fact) (up : AllPairs (λ f g. f.id < g.id) facts) where
  weight-kept : (region : List ℕ) → holds_any dims region (reweighed_cells policy dims edit facts) ≡ false
      → All (λ cell. weight_of policy dims (after edit facts) cell ≡ weight_of policy dims facts cell) (cells_of dims region)
  weight-kept region none k d within =
      let cell = get_or (cells_of dims region) k d in
      let here : is_among (cells_of dims region) cell ≡ true = list_any_at (λ c. c == cell) (cells_of dims region) k d within (grind (arith, nat_tests)) in
      either (is_reweighed policy dims edit facts cell) cell refl here
    where
      either : (b : Bool) (cell : ℕ) → is_reweighed policy dims edit facts cell ≡ b → is_among (cells_of dims region) cell ≡ true → weight_of policy dims (after edit facts) cell ≡ weight_of policy dims facts cell
      either true cell is here =
          let held : holds_any dims region (reweighed_cells policy dims edit facts) ≡ true = not-both (reweighed_cells policy dims edit facts) (is_among (cells_of dims region)) cell (among-reweighed policy dims edit facts up cell ∙ is) here in
          absurd (clash (sym none ∙ held))
        where
          clash : false ≡ true → ⊥
          clash e = cc
      either false cell is here = grind (arith, nat_tests, is)

  -- the frame
  pub spread_at-kept : (region : List ℕ) → holds_any dims region (reweighed_cells policy dims edit facts) ≡ false → spread_at policy dims (after edit facts) region ≡ spread_at policy dims facts region
  unfolding spread_at
  spread_at-kept region none = spread-agree (weight_of policy dims (after edit facts)) (weight_of policy dims facts) (cells_of dims region) (weight-kept region none)

-- one cell alone is spread the same way always
single-spread : (v : ℕ → ℕ) (cells : List ℕ) (b : Bool) → is_single cells ≡ b → b ≡ true → spread v cells ≡ spread_evenly cells
single-spread v cells true single is = rw single refl
single-spread v cells false single is = cc

pub spread_at-single : (policy : Policy) (dims : List Dimension) (facts : List Fact) (region : List ℕ) → is_single (cells_of dims region) ≡ true → spread_at policy dims facts region ≡ spread_evenly (cells_of dims region)
unfolding spread_at
spread_at-single policy dims facts region single = single-spread (weight_of policy dims facts) (cells_of dims region) true single refl

-- so the region of a fact that covers no cell which weighs otherwise is spread as before
pub spread_at-uncovered : (policy : Policy) (dims : List Dimension) (edit : Edit) (facts : List Fact) → AllPairs (λ f g. f.id < g.id) facts → (fact : Fact)
    → covers_any dims (reweighed_cells policy dims edit facts) fact ≡ false → spread_at policy dims (after edit facts) fact.region ≡ spread_at policy dims facts fact.region
spread_at-uncovered policy dims edit facts up fact none = either (is_precise dims fact) refl none
  where
    either : (b : Bool) → is_precise dims fact ≡ b → (not b && holds_any dims fact.region (reweighed_cells policy dims edit facts)) ≡ false → spread_at policy dims (after edit facts) fact.region ≡ spread_at policy dims facts fact.region
    either true single none = spread_at-single policy dims (after edit facts) fact.region single ∙ sym (spread_at-single policy dims facts fact.region single)
    either false several none = spread_at-kept policy dims edit facts up fact.region none
