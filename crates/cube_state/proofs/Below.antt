-- The cells that an edit touches are cells of the space.
use Rattle.std.proofs.Common.{◌≡◌, ℕ, ◌<◌, Bool, true, false, List, [], ◌∷◌, length, map, refl, arith}
use Rattle.std.specs.Prelude.{All, IfSome, nat_lt, ◌==◌, if◌then◌else◌, Option, Some, None}
use Rattle.std.proofs.lemmas.List.Elements.{All-cons, All-filter, All-head, All-nil, All-tail}
use Rattle.cube_model.specs.declared.edit.Edit.{Edit}
use Rattle.cube_model.specs.declared.edit.Fact.{Fact}
use Rattle.cube_model.specs.Allocation.{Policy, stat_of}
use Rattle.cube_model.specs.Cells.{all_cells, cells_of}
use Rattle.cube_model.specs.Facts.{after}
use Rattle.cube_model.specs.Tree.{Dimension}
use Rattle.region_algebra.specs.Space.{cell_total, only_cell}
use Rattle.region_algebra.proofs.Codes.{length-all_cells}
use Rattle.region_algebra.proofs.Turns.{cells-below}
use Rattle.cell_weight.specs.Stats.{IsStat}
use Rattle.alloc_rows.specs.Changed.{Change}
use Rattle.fact_groups.specs.Changes.{cell_of, cells_in_order, touched_cells}
use Rattle.fact_groups.specs.Edits.{given, taken}
use Rattle.touched_cells.specs.Touched.{reweighing, reweighs, touched}

in_order-below : (n : ℕ) (a b : Option ℕ) → IfSome a (λ k. k < n) → IfSome b (λ k. k < n) → All (λ k. k < n) (cells_in_order a b)
in_order-below n None None first second = All-nil (λ k. k < n)
in_order-below n None (Some b) first second = All-cons (λ k. k < n) b [] second (All-nil (λ k. k < n))
in_order-below n (Some a) None first second = All-cons (λ k. k < n) a [] first (All-nil (λ k. k < n))
in_order-below n (Some a) (Some b) first second = either (a == b) (nat_lt a b)
  where
    one : (k : ℕ) → k < n → All (λ k. k < n) (k ∷ [])
    one k below = All-cons (λ k. k < n) k [] below (All-nil (λ k. k < n))

    either : (same less : Bool) → All (λ k. k < n) (if same then a ∷ [] else (if less then a ∷ b ∷ [] else b ∷ a ∷ []))
    either true less = one a first
    either false true = All-cons (λ k. k < n) a (b ∷ []) first (one b second)
    either false false = All-cons (λ k. k < n) b (a ∷ []) second (one a first)

only-below : (n k : ℕ) (cells : List ℕ) → All (λ c. c < n) cells → only_cell cells ≡ Some k → k < n
only-below n k [] each only = cc
only-below n k (c ∷ []) each only = let its : c ≡ k = cc in omega (arith, its, All-head (λ (c : ℕ). c < n) c [] each)
only-below n k (c ∷ d ∷ cells) each only = cc

cell_of-below : (dims : List Dimension) (fact : Option Fact) → IfSome (cell_of dims fact) (λ k. k < length (all_cells dims))
cell_of-below dims None = tt
cell_of-below dims (Some f) = either (only_cell (cells_of dims f.region)) refl
  where
    either : (o : Option ℕ) → only_cell (cells_of dims f.region) ≡ o → IfSome o (λ k. k < length (all_cells dims))
    either None is = tt
    either (Some k) is = omega (arith, length-all_cells dims, only-below (cell_total dims) k (cells_of dims f.region) (cells-below dims f.region) is)

module _ (policy : Policy) (dims : List Dimension) (edit : Edit) (facts : List Fact) where
  abbrev as_change : ℕ → Change
  as_change cell = (cell, stat_of policy dims facts cell, stat_of policy dims (after edit facts) cell)

  All-made : (Q : Change → Type 0) (P : ℕ → Type 0) → ((c : ℕ) → P c → Q (as_change c)) → (cells : List ℕ) → All P cells → All Q (map as_change cells)
  All-made Q P each [] all = All-nil Q
  All-made Q P each (c ∷ cells) all = All-cons Q (as_change c) (map as_change cells) (each c (All-head P c cells all)) (All-made Q P each cells (All-tail P c cells all))

  -- each cell that an edit touches is one of the space
  pub touched-below : All (λ change. change.0 < length (all_cells dims)) (touched policy dims edit facts)
  unfolding touched_cells
  touched-below =
      All-made (λ change. change.0 < length (all_cells dims)) (λ k. k < length (all_cells dims)) (λ c below. below) (touched_cells dims edit facts)
      (in_order-below (length (all_cells dims)) (cell_of dims (taken edit facts)) (cell_of dims (given edit)) (cell_of-below dims (taken edit facts)) (cell_of-below dims (given edit)))

  pub reweighing-below : All (λ change. change.0 < length (all_cells dims)) (reweighing policy.weigh (touched policy dims edit facts))
  reweighing-below = All-filter (reweighs policy.weigh) (λ change. change.0 < length (all_cells dims)) (touched policy dims edit facts) touched-below

  -- and its statistics are such as facts can have, where those of all cells are
  pub touched-possible : ((cell : ℕ) → IsStat (stat_of policy dims facts cell)) → ((cell : ℕ) → IsStat (stat_of policy dims (after edit facts) cell))
      → All (λ change. IsStat change.1) (touched policy dims edit facts) × All (λ change. IsStat change.2) (touched policy dims edit facts)
  touched-possible before now = (
    All-made (λ change. IsStat change.1) (λ c. Unit {0}) (λ c any. before c) (touched_cells dims edit facts) (λ k d within. tt),
    All-made (λ change. IsStat change.2) (λ c. Unit {0}) (λ c any. now c) (touched_cells dims edit facts) (λ k d within. tt),
  )
