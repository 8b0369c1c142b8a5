-- What the terms of an answer over distributions keep: the numerators of a measure's outcomes add up to its scale times the count.
use Rattle.std.specs.Prelude.{◌≡◌, ℕ, ◌*◌, List, ◌∷◌, All, ⊤, ℤ, pos, slice_index_or}
use Rattle.std.specs.List.{range_with_len}
use Rattle.cube_model.specs.declared.term.Term.{Term}
use Rattle.cube_model.specs.Answer.{total_by}
use Rattle.fact_records.specs.declared.shape.Kind.{Kind}
use Rattle.fact_records.specs.declared.shape.Kind.TheVariants.{Number, Parts}
use Rattle.fact_records.specs.declared.shape.Measure.{Measure}
use Rattle.fact_records.specs.Shape.{width_of}

-- the columns of a measure
abbrev pub columns_of : Measure → List ℕ
columns_of measure = range_with_len measure.first_col (width_of measure.kind)

-- the numerator of a column of a term, the count being column 0
abbrev pub numerator_in : Term → ℕ → ℤ
numerator_in term column = slice_index_or (pos term.count ∷ term.sums) column (pos 0)

-- a sum of numerators is the scale times the count, where a measure has a scale
abbrev pub IsScaled : Kind → ℕ → ℤ → Type 0
IsScaled Number count sum = ⊤
IsScaled (Parts scale _) count sum = sum ≡ pos (scale * count)

-- the numerators of a measure's outcomes add up so at a term
abbrev pub AddsUp : Measure → Term → Type 0
AddsUp measure term = IsScaled measure.kind term.count (total_by (numerator_in term) (columns_of measure))

-- at each term
abbrev pub AddsUpAtEach : List Term → Measure → Type 0
AddsUpAtEach terms measure = All (AddsUp measure) terms

-- and those of every measure
abbrev pub AllAddUp : List Measure → List Term → Type 0
AllAddUp measures terms = All (AddsUpAtEach terms) measures
