-- What the facts inside a region add up to, denominator by denominator.
use Rattle.std.specs.Prelude.{ℕ, ◌+◌, List, [], ◌∷◌, ◌++◌, zero, suc, map, filter, sum_by, max, ◌==◌, if◌then◌else◌, ℤ, pos, ◌+ℤ◌, ◌*ℤ◌, slice_index_or, Option}
use Rattle.std.specs.Option.{option_map_or}
use Rattle.std.specs.List.{find, range_with_len}
use Rattle.cube_model.specs.declared.term.Term.{Term}
use Rattle.cube_model.specs.Tree.{Dimension}
use Rattle.cube_model.specs.Cells.{cells_of, is_among}
use Rattle.cube_model.specs.Allocation.{Allocation, ExtendedFact}

-- the weight of an allocation inside these cells
abbrev pub weight_inside : List ℕ → Allocation → ℕ
weight_inside cells allocation = sum_by (λ row. row.1) (filter (λ row. is_among cells row.0) allocation.rows)

-- the sum of a whole number of each item
abbrev pub total_by : {X : Type 0} → (X → ℤ) → List X → ℤ
total_by f [] = pos 0
total_by f (x ∷ xs) = f x +ℤ total_by f xs

-- the facts with a denominator
abbrev pub over : ℕ → List ExtendedFact → List ExtendedFact
over den rows = filter (λ e. e.allocation.den == den) rows

-- the count's numerator at a denominator: the weights inside, added up
abbrev pub count_at : List ℕ → List ExtendedFact → ℕ → ℕ
count_at cells rows den = sum_by (λ e. weight_inside cells e.allocation) (over den rows)

-- a column's numerator at a denominator: the values times the weights inside, added up
abbrev pub sum_at : List ℕ → List ExtendedFact → ℕ → ℕ → ℤ
sum_at cells rows column den = total_by (λ e. pos (weight_inside cells e.allocation) *ℤ slice_index_or e.values column (pos 0)) (over den rows)

-- the terms of all denominators below a bound, ascending; one whose count is 0 is left out
abbrev pub terms_below : (ℕ → ℕ) → (ℕ → List ℤ) → ℕ → List Term
terms_below count sums zero = []
terms_below count sums (suc den) = terms_below count sums den ++ (if count den == 0 then [] else record { den = den; count = count den; sums = sums den } ∷ [])

-- one more than the largest denominator
abbrev pub bound_of : List ExtendedFact → ℕ
bound_of [] = 0
bound_of (e ∷ rows) = max (suc e.allocation.den) (bound_of rows)

-- the answer at a region, over a number of columns of values
unfoldable pub answer : ℕ → List Dimension → List ExtendedFact → List ℕ → List Term
answer columns dims rows region =
    let cells = cells_of dims region in
    terms_below (count_at cells rows) (λ den. map (λ column. sum_at cells rows column den) (range_with_len 0 columns)) (bound_of rows)

-- one more than the largest denominator of terms
abbrev pub den_bound : List Term → ℕ
den_bound [] = 0
den_bound (t ∷ terms) = max (suc t.den) (den_bound terms)

-- the term of a denominator, if there is one
abbrev pub term_of : List Term → ℕ → Option Term
term_of terms den = find (λ t. t.den == den) terms

-- the count's numerator at a denominator, 0 where there is no term
abbrev pub count_of : List Term → ℕ → ℕ
count_of terms den = option_map_or (λ t. t.count) (term_of terms den) 0

-- a column's numerator at a denominator, the count being column 0; 0 where there is no term
abbrev pub numerator_of : List Term → ℕ → ℕ → ℤ
numerator_of terms den column = option_map_or (λ t. slice_index_or (pos t.count ∷ t.sums) column (pos 0)) (term_of terms den) (pos 0)

-- Two answers merged, over a number of columns of values: numerators of equal denominators are added, and a term whose count is 0 is left out.
unfoldable pub merge : ℕ → List Term → List Term → List Term
merge columns left right =
    terms_below (λ den. count_of left den + count_of right den)
    (λ den. map (λ column. numerator_of left den (column + 1) +ℤ numerator_of right den (column + 1)) (range_with_len 0 columns))
    (max (den_bound left) (den_bound right))

-- several answers merged
abbrev pub merge_all : ℕ → List (List Term) → List Term
merge_all columns [] = []
merge_all columns (terms ∷ answers) = merge columns terms (merge_all columns answers)
