-- Trees of places, each of which has a parent that stands no later than it. A root is its own parent.
use Rattle.std.specs.Prelude.{◌==◌, if◌then◌else◌, slice_index_or, ◌≡◌, ℕ, ◌<◌, ◌≤◌, List, length, map, min, max}

-- what stands at a place
abbrev pub at : List ℕ → ℕ → ℕ
at numbers i = slice_index_or numbers i 0

-- no parent stands later than its place
pub record IsForest (parents : List ℕ) : Type 0 where
  pub low : (i : ℕ) → i < length parents → at parents i ≤ i

-- each place has the label of its parent, and a root its own place
pub record AreRoots (parents roots : List ℕ) : Type 0 where
  pub low : (i : ℕ) → i < length parents → at parents i ≤ i
  pub as_many : length roots ≡ length parents
  pub each : (i : ℕ) → i < length parents → at roots i ≡ (if at parents i == i then i else at roots (at parents i))

-- the lesser of two labels in place of the greater
abbrev pub relabelled : ℕ → ℕ → List ℕ → List ℕ
relabelled a b roots = map (λ root. if root == max a b then min a b else root) roots

-- roots stand no later than the places that have them, and are their own
pub record AreOwnRoots (roots : List ℕ) : Type 0 where
  pub low : (i : ℕ) → i < length roots → at roots i ≤ i
  pub own : (i : ℕ) → i < length roots → at roots (at roots i) ≡ at roots i
