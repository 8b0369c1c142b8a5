-- Rows of numbers, and the terms that they stand for.
use Rattle.std.specs.Prelude.{◌≡◌, ℕ, ◌+◌, ◌≤◌, Bool, true, List, [], ◌∷◌, length, ◌==◌, map, take, drop, ℤ, pos, ◌+ℤ◌, ◌-ℤ◌, nat_abs, slice_index_or}
use Rattle.std.specs.List.{flat_map, list_all}
use Rattle.cube_model.specs.declared.term.Term.{Term}

-- the numerators of a term, that of the count first
abbrev pub row_of : Term → List ℤ
row_of term = pos term.count ∷ term.sums

-- the term of a denominator with the numerators of a row
abbrev pub row_term : ℕ → List ℤ → Term
row_term den row = record { den = den; count = nat_abs (slice_index_or row 0 (pos 0)); sums = drop 1 row }

-- a row has a count first, which is not below 0
abbrev pub IsRow : List ℤ → Type 0
IsRow row = row_of (row_term 0 row) ≡ row

-- a row of so many numerators
pub record IsRowIn (columns : ℕ) (row : List ℤ) : Type 0 where
  pub is_row : IsRow row
  pub len : length row ≡ columns

-- the terms of these denominators with so many numerators each
abbrev pub row_terms : ℕ → List ℕ → List ℤ → List Term
row_terms columns [] nums = []
row_terms columns (den ∷ dens) nums = row_term den (take columns nums) ∷ row_terms columns dens (drop columns nums)

-- the denominators of terms
abbrev pub denominators : List Term → List ℕ
denominators terms = map (λ t. t.den) terms

-- the numerators of terms, row after row
abbrev pub numerators : List Term → List ℤ
numerators terms = flat_map row_of terms

-- each term has the columns, the count included
abbrev pub have_columns : ℕ → List Term → Bool
have_columns columns terms = list_all (λ t. length t.sums + 1 == columns) terms

-- the terms are kept as their denominators and their numerators
pub record IsFlat (columns : ℕ) (terms : List Term) (dens : List ℕ) (nums : List ℤ) : Type 0 where
  pub some : 1 ≤ columns
  pub whole : have_columns columns terms ≡ true
  pub dens_are : denominators terms ≡ dens
  pub nums_are : numerators terms ≡ nums

-- the numerators at a place of two rows added up
abbrev pub total_at : List ℤ → List ℤ → ℕ → ℤ
total_at row other k = slice_index_or row k (pos 0) +ℤ slice_index_or other k (pos 0)

-- one without the other
abbrev pub difference_at : List ℤ → List ℤ → ℕ → ℤ
difference_at row other k = slice_index_or row k (pos 0) -ℤ slice_index_or other k (pos 0)
