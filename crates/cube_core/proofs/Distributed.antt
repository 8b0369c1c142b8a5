-- The numerators of a measure's outcomes, in an answer over facts whose values are accepted.
use Rattle.std.proofs.Common.{get_or, ◌≡◌, ℕ, zero, suc, ◌+◌, ◌-◌, ◌*◌, ◌<◌, ◌≤◌, true, false, List, [], ◌∷◌, length, map, take, drop, subst, refl, sym, ap, ◌∙◌, arith, add-one, ℤ, pos, ◌+ℤ◌, ◌*ℤ◌, None}
use Rattle.std.specs.Prelude.{All, fold, not, slice_index_or, sum_by, ◌==◌}
use Rattle.std.specs.List.{range_with_len}
use Rattle.std.proofs.lemmas.Bool.{or_parts}
use Rattle.std.proofs.lemmas.Bool.Decides.{nat_tests}
use Rattle.std.proofs.lemmas.Int.{ints}
use Rattle.std.proofs.lemmas.List.Elements.{All-filter}
use Rattle.std.proofs.lemmas.List.FromFn.{get_or-map-range_with_len, get_or-range_with_len, length-range_with_len}
use Rattle.std.proofs.lemmas.List.Sums.{sum_by-cons}
use Rattle.std.proofs.Math.IntN.{*ℤ_comm, +ℤ_assoc}
use Rattle.std.proofs.Math.Seq.{drop-cons}
use Rattle.cube_model.specs.declared.term.Term.{Term}
use Rattle.cube_model.specs.Allocation.{ExtendedFact}
use Rattle.cube_model.specs.Answer.{answer, bound_of, count_at, over, sum_at, total_by, weight_inside}
use Rattle.cube_model.specs.Cells.{cells_of}
use Rattle.cube_model.specs.Tree.{Dimension}
use Rattle.cube_model.proofs.Totals.{total_by-same, total_by-times, total_by-total_by}
use Rattle.fact_records.specs.declared.shape.Kind.{Kind}
use Rattle.fact_records.specs.declared.shape.Kind.TheVariants.{Number, Parts}
use Rattle.fact_records.specs.declared.shape.Measure.{Measure}
use Rattle.fact_records.specs.Accepted.{cols_refusal, has_wrong_number, has_wrong_parts, is_no_distribution}
use Rattle.fact_records.specs.Outcomes.{AddsUp, AllAddUp, IsScaled, columns_of, numerator_in}
use Rattle.fact_records.specs.Shape.{AreMeasures, IsWithin, ShapeValue, values_of, width_of, width_of_all}
use Rattle.fact_records.specs.Values.{has_negative, sums_to}
use Rattle.fact_records.proofs.Columns.{AreMeasures-within}
use Rattle.fact_records.proofs.SmallValues.{none_of, not_refused}
use Rattle.cube_core.proofs.TermsBelow.{terms_below-each}

-- a value of a fact by its column
abbrev value_in : List ℤ → ℕ → ℤ
value_in values column = slice_index_or values (column - 1) (pos 0)

-- a sum from some number on
fold-total : (z : ℤ) (values : List ℤ) → fold ◌+ℤ◌ z values ≡ z +ℤ total_by (λ v. v) values
fold-total z [] = omega (arith, ints)
fold-total z (v ∷ values) = fold-total (z +ℤ v) values ∙ +ℤ_assoc z v (total_by (λ v. v) values)

-- the values in so many columns, one behind the other
values-total : (width first : ℕ) (values : List ℤ) → first + width ≤ length values → total_by (value_in values) (range_with_len (first + 1) width) ≡ total_by (λ v. v) (take width (drop first values))
values-total zero first values within = refl
values-total (suc width) first values within =
    let here : value_in values (first + 1) ≡ get_or values first (pos 0) = ap (λ n. get_or values n (pos 0)) (let same : first + 1 - 1 ≡ first = omega arith in same) in
    let rest = values-total width (first + 1) values (omega arith) in
    let cut : drop first values ≡ get_or values first (pos 0) ∷ drop (first + 1) values = rw add-one (drop-cons values first (pos 0) (omega arith)) in
    ap (λ z. z +ℤ total_by (value_in values) (range_with_len (first + 1 + 1) width)) here ∙ ap (λ z. get_or values first (pos 0) +ℤ z) rest
    ∙ ap (λ (vs : List ℤ). total_by (λ v. v) (take (suc width) vs)) (sym cut)

-- values that are a distribution add up to its scale
distribution-total : (kind : Kind) (values : List ℤ) → is_no_distribution kind values ≡ false → IsScaled kind 1 (total_by (λ v. v) values)
distribution-total Number values right = tt
distribution-total (Parts scale outcomes) values right =
    let parts = or_parts (has_negative values) (not (sums_to scale values)) right in
    let whole : sums_to scale values ≡ true = grind (arith, parts.1) in
    let sum : fold ◌+ℤ◌ (pos 0) values ≡ pos scale = grind (arith, nat_tests, whole) in
    omega (arith, ints, fold-total (pos 0) values, sum)

-- so do accepted values, in the columns of each measure
pub accepted-total : (shape : ShapeValue) (values : List ℤ) → AreMeasures shape.measures → cols_refusal shape values ≡ None → All (λ m. IsScaled m.kind 1 (total_by (value_in values) (columns_of m))) shape.measures
accepted-total shape values are accepted = λ i d lt.
    let m = get_or shape.measures i d in
    let tests = not_refused (length values == width_of_all shape.measures) (has_wrong_number shape values) (has_wrong_parts shape.measures values) accepted in
    let count : length values ≡ width_of_all shape.measures = grind (arith, nat_tests, tests.0) in
    let within = AreMeasures-within (length values) shape.measures are count i d lt in
    let right : is_no_distribution m.kind (values_of m values) ≡ false = none_of (λ (m : Measure). is_no_distribution m.kind (values_of m values)) shape.measures tests.2 i d lt in
    let first : m.first_col - 1 + 1 ≡ m.first_col = omega (arith, within.first) in
    let same : total_by (value_in values) (columns_of m) ≡ total_by (λ v. v) (values_of m values) =
    ap (λ n. total_by (value_in values) (range_with_len n (width_of m.kind))) (sym first) ∙ values-total (width_of m.kind) (m.first_col - 1) values (omega (arith, within.first, within.last)) in
    subst (IsScaled m.kind 1) (sym same) (distribution-total m.kind (values_of m values) right)

-- the values of a row in some columns, and those of several rows, weighed
row-scaled : (scale weight : ℕ) (values : List ℤ) (columns : List ℕ) → total_by (value_in values) columns ≡ pos (scale * 1) → total_by (λ column. pos weight *ℤ value_in values column) columns ≡ pos (scale * weight)
row-scaled scale weight values columns total =
    total_by-same (λ column. pos weight *ℤ value_in values column) (λ column. value_in values column *ℤ pos weight) columns (λ k d lt. *ℤ_comm (pos weight) (value_in values (get_or columns k d)))
    ∙ sym (total_by-times (value_in values) weight columns) ∙ ap (λ z. z *ℤ pos weight) total ∙ ap pos (turned scale weight)
  where
    turned : (scale weight : ℕ) → scale * 1 * weight ≡ scale * weight
    turned scale weight = omega arith

weights-scaled : (scale : ℕ) (weight : ExtendedFact → ℕ) (rows : List ExtendedFact) → total_by (λ e. pos (scale * weight e)) rows ≡ pos (scale * sum_by weight rows)
weights-scaled scale weight [] = ap pos (omega arith)
weights-scaled scale weight (e ∷ rows) = ap (λ z. pos (scale * weight e) +ℤ z) (weights-scaled scale weight rows) ∙ ap pos (joined (weight e) (sum_by weight rows) (sum_by weight (e ∷ rows)) (sum_by-cons weight e rows))
  where
    joined : (m n all : ℕ) → all ≡ m + n → scale * m + scale * n ≡ scale * all
    joined m n all is = rw is (omega arith)

rows-scaled : (kind : Kind) (columns : List ℕ) (weight : ExtendedFact → ℕ) (rows : List ExtendedFact) → All (λ e. IsScaled kind 1 (total_by (value_in e.values) columns)) rows
    → IsScaled kind (sum_by weight rows) (total_by (λ column. total_by (λ e. pos (weight e) *ℤ value_in e.values column) rows) columns)
rows-scaled Number columns weight rows each = tt
rows-scaled (Parts scale outcomes) columns weight rows each =
    total_by-total_by (λ column (e : ExtendedFact). pos (weight e) *ℤ value_in e.values column) columns rows
    ∙ total_by-same (λ (e : ExtendedFact). total_by (λ column. pos (weight e) *ℤ value_in e.values column) columns) (λ e. pos (scale * weight e)) rows
    (λ k d lt. let e = get_or rows k d in row-scaled scale (weight e) e.values columns (each k d lt))
    ∙ weights-scaled scale weight rows

-- the term of a denominator
module _ (cells : List ℕ) (rows : List ExtendedFact) (columns den : ℕ) where
  abbrev term : Term
  term = record { den = den; count = count_at cells rows den; sums = map (λ column. sum_at cells rows column den) (range_with_len 0 columns) }

  numerator_in-term : (column : ℕ) → 1 ≤ column → column ≤ columns → numerator_in term column ≡ sum_at cells rows (column - 1) den
  numerator_in-term column some within =
      let behind : column ≡ suc (column - 1) = omega arith in
      ap (λ n. get_or (pos term.count ∷ term.sums) n (pos 0)) behind ∙ get_or-map-range_with_len (λ column. sum_at cells rows column den) 0 columns (column - 1) (column - 1) (pos 0) (omega arith) (omega arith)

  term_adds_up : (m : Measure) → IsWithin columns m → All (λ e. IsScaled m.kind 1 (total_by (value_in e.values) (columns_of m))) rows → AddsUp m term
  term_adds_up m within each =
      let weight : ExtendedFact → ℕ = λ e. weight_inside cells e.allocation in
      let inside = over den rows in
      let total : total_by (numerator_in term) (columns_of m) ≡ total_by (λ column. total_by (λ e. pos (weight e) *ℤ value_in e.values column) inside) (columns_of m) =
      total_by-same (numerator_in term) (λ column. total_by (λ e. pos (weight e) *ℤ value_in e.values column) inside) (columns_of m)
      (λ k d lt.
      let lower : k < width_of m.kind = omega (arith, length-range_with_len m.first_col (width_of m.kind)) in
      let place = get_or-range_with_len m.first_col (width_of m.kind) k d lower in
      numerator_in-term (get_or (columns_of m) k d) (omega (arith, place, within.first)) (omega (arith, place, within.last))) in
      subst (IsScaled m.kind term.count) (sym total)
      (rows-scaled m.kind (columns_of m) weight inside (All-filter (λ (e : ExtendedFact). e.allocation.den == den) (λ (e : ExtendedFact). IsScaled m.kind 1 (total_by (value_in e.values) (columns_of m))) rows each))

-- at each term of an answer over rows of accepted values, the outcomes of every measure add up to the scale times the count
pub answer_adds_up : (shape : ShapeValue) (dims : List Dimension) (rows : List ExtendedFact) (region : List ℕ) → AreMeasures shape.measures → All (λ e. cols_refusal shape e.values ≡ None) rows
    → AllAddUp shape.measures (answer (width_of_all shape.measures) dims rows region)
unfolding answer
answer_adds_up shape dims rows region are accepted = λ i d lt.
    let m = get_or shape.measures i d in
    let columns = width_of_all shape.measures in
    let cells = cells_of dims region in
    let within = AreMeasures-within columns shape.measures are refl i d lt in
    let each : All (λ e. IsScaled m.kind 1 (total_by (value_in e.values) (columns_of m))) rows = λ k e in_rows. accepted-total shape (get_or rows k e).values are (accepted k e in_rows) i d lt in
    terms_below-each (AddsUp m) (count_at cells rows) (λ den. map (λ column. sum_at cells rows column den) (range_with_len 0 columns)) (λ den some. term_adds_up cells rows columns den m within each) (bound_of rows)
