-- For each block the number of facts before it.
use Rattle.std.specs.Prelude.{◌≡◌, ℕ, zero, suc, ◌+◌, ◌<◌, ◌≤◌, List, [], ◌∷◌, length, slice_index_or}
use Rattle.cube_model.specs.declared.edit.Fact.{Fact}

-- counted from so many facts on
abbrev pub starts_from : ℕ → List (List Fact) → List ℕ
starts_from n [] = []
starts_from n (block ∷ used) = n ∷ starts_from (n + length block) used

abbrev pub starts_of : List (List Fact) → List ℕ
starts_of used = starts_from 0 used

-- other numbers from a place on
abbrev pub mapped_from : (ℕ → ℕ) → ℕ → List ℕ → List ℕ
mapped_from f place [] = []
mapped_from f zero (x ∷ xs) = f x ∷ mapped_from f zero xs
mapped_from f (suc place) (x ∷ xs) = x ∷ mapped_from f place xs

-- from 0 on, each is greater than those before
pub record IsRising (starts : List ℕ) : Type 0 where
  pub first : slice_index_or starts 0 0 ≡ 0
  pub rise : (i j : ℕ) → i < j → j < length starts → slice_index_or starts i 0 < slice_index_or starts j 0

-- the last block before which there are no more facts than this
pub record IsStartBefore (starts : List ℕ) (i block : ℕ) : Type 0 where
  pub in_range : block < length starts
  pub begun : slice_index_or starts block 0 ≤ i
  pub last : (later : ℕ) → block < later → later < length starts → i < slice_index_or starts later 0
