-- The outcomes of a distribution measure, pooled over terms.
use Rattle.std.specs.Prelude.{◌≡◌, ℕ, ◌+◌, ◌<◌, ◌≤◌, List, [], map, length, Option, Some, None, IfSome, slice_get, pos, ⊤}
use Rattle.std.specs.Option.{option_map}
use Rattle.cube_model.specs.declared.term.Term.{Term}
use Rattle.exact_fraction.specs.declared.quotients.Quotient.{Quotient}
use Rattle.exact_fraction.specs.declared.quotients.Quotient.TheVariants.{Undefined, Is}
use Rattle.exact_fraction.specs.Fraction.{Fraction, column_fractions, sum_over}
use Rattle.exact_fraction.specs.Laws.{IsCommonMultiple, TellsQuotient}
use Rattle.exact_fraction.specs.Ratio.{ratio_of}
use Rattle.fact_records.specs.declared.shape.Kind.{Kind}
use Rattle.fact_records.specs.declared.shape.Kind.TheVariants.{Number, Parts}
use Rattle.fact_records.specs.declared.shape.Measure.{Measure}
use Rattle.fact_records.specs.Outcomes.{AddsUpAtEach, columns_of}

-- what the values of a measure add up to; a number is taken as it is
abbrev pub scale_of : Kind → ℕ
scale_of Number = 1
scale_of (Parts scale _) = scale

-- a distribution of a scale from 1 to some number
abbrev pub HasScaleTo : ℕ → Kind → Type 0
HasScaleTo most Number = ⊥
HasScaleTo most (Parts scale _) = (1 ≤ scale) × (scale ≤ most)

-- the quotient of each column of a measure by the count and the scale, in order
abbrev pub pool_of : Option Measure → List Term → List Quotient
pool_of None terms = []
pool_of (Some m) terms = map (λ column. ratio_of column (scale_of m.kind) terms) (columns_of m)

-- each tells what a quotient tells of its column
abbrev pub TellsOutcomes : Option Measure → List Term → List Quotient → Type 0
TellsOutcomes None terms pooled = ⊤
TellsOutcomes (Some m) terms pooled = (k : ℕ) → k < length pooled → IfSome (slice_get pooled k) (TellsQuotient (scale_of m.kind) (column_fractions (m.first_col + k) terms) (column_fractions 0 terms))

-- at every term the outcomes add up to the scale times the count
abbrev pub AreOfOneTotal : Option Measure → List Term → Type 0
AreOfOneTotal m terms = IfSome m (AddsUpAtEach terms)

-- the fraction that a quotient was given as, if it was
abbrev pub fraction_in : Quotient → Option Fraction
fraction_in Undefined = None
fraction_in (Is lo hi exact) = option_map (λ x. record { num = x.0; den = x.1 }) exact

-- where each quotient was given as a fraction, these add up to 1, over every common multiple of their denominators
abbrev pub AddUpToOne : List Quotient → Type 0
AddUpToOne pooled = (fs : List Fraction) → map fraction_in pooled ≡ map Some fs → (multiple : ℕ) → IsCommonMultiple multiple fs → sum_over multiple fs ≡ pos multiple
