-- Spots claim the cells of their regions, one after another. The first that claims a cell owns it; the others join its owner.
use Rattle.cube_model.specs.Cells.{cells_of}
use Rattle.cube_model.specs.Tree.{Dimension}
use Rattle.iter_alloc.specs.Forest.{at, AreRoots, relabelled}
use Rattle.std.specs.List.{fold, range_with_len}
use Rattle.std.specs.Map.{lookup}
use Rattle.std.specs.Prelude.{Option, Some, None, nat_eq, ◌≡◌, ℕ, ◌+◌, List, [], ◌∷◌, ◌++◌, length}

-- the owner of each cell that was claimed, and the root of each spot
pub record Claimed : Type 0 where
  pub owners : List (ℕ × ℕ)
  pub roots : List ℕ

-- the owner of a cell, if it was claimed
abbrev pub owner_of : List (ℕ × ℕ) → ℕ → Option ℕ
owner_of owners cell = lookup (λ c. nat_eq cell c) owners

abbrev pub claim_from : Option ℕ → ℕ → Claimed → ℕ → Claimed
claim_from None spot claimed cell = record { owners = claimed.owners ++ (cell, spot) ∷ []; roots = claimed.roots }
claim_from (Some owner) spot claimed cell = record { owners = claimed.owners; roots = relabelled (at claimed.roots spot) (at claimed.roots owner) claimed.roots }

-- a spot claims a cell
abbrev pub claim_cell : ℕ → Claimed → ℕ → Claimed
claim_cell spot claimed cell = claim_from (owner_of claimed.owners cell) spot claimed cell

-- it claims several
abbrev pub claim_cells : ℕ → Claimed → List ℕ → Claimed
claim_cells spot claimed cells = fold (claim_cell spot) claimed cells

-- spots from a number on claim the cells of their regions
abbrev pub claim_regions : List Dimension → ℕ → Claimed → List (List ℕ) → Claimed
claim_regions dims spot claimed [] = claimed
claim_regions dims spot claimed (region ∷ regions) = claim_regions dims (spot + 1) (claim_cells spot claimed (cells_of dims region)) regions

-- before any claim each spot is its own root
abbrev pub unclaimed : ℕ → Claimed
unclaimed count = record { owners = []; roots = range_with_len 0 count }

-- owners and parents are as was claimed
pub record AreClaimed (claimed : Claimed) (owners : List (ℕ × ℕ)) (parents : List ℕ) : Type 0 where
  pub owners_are : owners ≡ claimed.owners
  pub roots_are : AreRoots parents claimed.roots

-- the roots of the spots of these regions
unfoldable pub roots_of : List Dimension → List (List ℕ) → List ℕ
roots_of dims regions = (claim_regions dims 0 (unclaimed (length regions)) regions).roots
