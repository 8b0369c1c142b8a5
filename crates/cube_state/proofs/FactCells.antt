-- What the code of a fact's region tells, and its cell, where it is one.
use Rattle.std.proofs.Common.{◌≡◌, ℕ, ◌<◌, true, false, List, [], ◌∷◌, length, refl, ap, sym, ◌∙◌, arith, ℤ}
use Rattle.std.specs.Prelude.{All, IfSome, ◌==◌, Option, Some, None, is_some, slice_get}
use Rattle.std.specs.Option.{option_map, option_map_or}
use Rattle.std.proofs.lemmas.Bool.Decides.{nat_tests}
use Rattle.cube_model.specs.declared.edit.Fact.{Fact}
use Rattle.cube_model.specs.Cells.{cells_of, is_single}
use Rattle.cube_model.specs.Facts.{is_precise}
use Rattle.cube_model.specs.Tree.{Dimension, IsTree}
use Rattle.region_algebra.specs.Space.{IsRegion, all_regions, code_of, only_cell}
use Rattle.region_algebra.proofs.Tuples.{region-at_code}
use Rattle.region_algebra.proofs.Turns.{cells-some}
use Rattle.fact_groups.specs.Changes.{cell_of}
use Rattle.cube_state.specs.Moves.{indexed_as, indexed_by, region_code}
use Rattle.touched_cells.specs.Touched.{lying_of}

-- cells of which one is the only one are one
some-only : (cells : List ℕ) → is_some (only_cell cells) ≡ is_single cells
some-only [] = refl
some-only (cell ∷ []) = refl
some-only (cell ∷ other ∷ cells) = grind (arith, nat_tests)

-- a fact lies on its cell
pub cell-lying : (dims : List Dimension) (adds : List ℤ → ℕ) (fact : Option Fact) → option_map (λ (l : ℕ × ℕ). l.0) (lying_of dims adds fact) ≡ cell_of dims fact
cell-lying dims adds None = refl
cell-lying dims adds (Some f) = either (only_cell (cells_of dims f.region))
  where
    either : (only : Option ℕ) → option_map (λ (l : ℕ × ℕ). l.0) (option_map (λ k. (k, adds f.cols)) only) ≡ only
    either None = refl
    either (Some k) = refl

-- a fact is imprecise where it has no cell
pub indexed-known : (dims : List Dimension) (fact : Option Fact) (code cell : Option ℕ) → code ≡ region_code dims fact → cell ≡ cell_of dims fact → indexed_by fact code cell ≡ indexed_as dims fact
indexed-known dims fact code cell code_is cell_is = rw (code_is, cell_is) (by fact)
  where
    by : (fact : Option Fact) → indexed_by fact (region_code dims fact) (cell_of dims fact) ≡ indexed_as dims fact
    by None = refl
    by (Some f) = either (only_cell (cells_of dims f.region)) refl
      where
        either : (only : Option ℕ) → only_cell (cells_of dims f.region) ≡ only → indexed_by (Some f) (Some (code_of dims f.region)) only ≡ indexed_as dims (Some f)
        either None is =
            let several : is_precise dims f ≡ false = sym (some-only (cells_of dims f.region)) ∙ ap is_some is in
            rw several refl
        either (Some k) is =
            let one : is_precise dims f ≡ true = sym (some-only (cells_of dims f.region)) ∙ ap is_some is in
            rw one refl

module _ (dims : List Dimension) (trees : All IsTree dims) (region : List ℕ) where
  -- a region of several cells has more than one
  pub several-cells : IsRegion dims region → is_single (cells_of dims region) ≡ false → 1 < length (cells_of dims region)
  several-cells placed several = grind (arith, nat_tests, several, cells-some dims region trees placed)

  -- a fact whose region has the code of another has that one, and its cell tells whether that is one cell
  pub single-known : (fact : Option Fact) (code : ℕ) (at cell : Option ℕ) → IfSome fact (λ f. IsRegion dims f.region) → at ≡ region_code dims fact → cell ≡ cell_of dims fact
      → option_map_or (λ k. k == code) at false ≡ true → Some region ≡ slice_get (all_regions dims) code → is_some cell ≡ is_single (cells_of dims region)
  single-known None code at cell placed at_is cell_is has is = let clash : false ≡ true = rw at_is at has in cc
  single-known (Some f) code at cell placed at_is cell_is has is =
      let coded : (code_of dims f.region == code) ≡ true = rw at_is at has in
      let its : code ≡ code_of dims f.region = grind (arith, nat_tests, coded) in
      let found : Some region ≡ Some f.region = is ∙ ap (slice_get (all_regions dims)) its ∙ region-at_code dims f.region trees placed in
      let here : region ≡ f.region = cc in
      ap is_some cell_is ∙ some-only (cells_of dims f.region) ∙ ap (λ r. is_single (cells_of dims r)) (sym here)
