-- How many columns measures have, and where these lie.
use Rattle.std.proofs.Common.{◌≡◌, ℕ, zero, suc, ◌+◌, ◌<◌, ◌≤◌, List, [], ◌∷◌, length, take, get_or, arith, lit≤, sym, ap, ◌∙◌, add-one, subst}
use Rattle.std.specs.Prelude.{All}
use Rattle.std.proofs.lemmas.List.Elements.{All-cons, All-head, All-nil, All-tail}
use Rattle.fact_records.specs.declared.shape.Measure.{Measure}
use Rattle.cube_model.specs.Limits.{MAX_COLS}
use Rattle.fact_records.specs.Shape.{AreInOrder, AreMeasures, IsWithin, width_of, width_of_all}

-- one measure more
width_of_all-suc : (measures : List Measure) (i : ℕ) (d : Measure) → i < length measures
    → width_of_all (take (suc i) measures) ≡ width_of_all (take i measures) + width_of (get_or measures i d).kind
width_of_all-suc [] i d within = absurd (omega arith)
width_of_all-suc (m ∷ measures) zero d within = omega arith
width_of_all-suc (m ∷ measures) (suc i) d within = omega (arith, width_of_all-suc measures i d (omega arith))

pub width_of_all-next : (measures : List Measure) (i : ℕ) (m : Measure) → i < length measures → m ≡ get_or measures i m
    → width_of_all (take (i + 1) measures) ≡ width_of_all (take i measures) + width_of m.kind
width_of_all-next measures i m within at = ap (λ n. width_of_all (take n measures)) (add-one i) ∙ width_of_all-suc measures i m within ∙ ap (λ n. width_of_all (take i measures) + width_of n.kind) (sym at)

-- the first measures have no more columns than all
pub width_of_all-take : (i : ℕ) (measures : List Measure) → width_of_all (take i measures) ≤ width_of_all measures
width_of_all-take zero measures = omega arith
width_of_all-take (suc i) [] = omega arith
width_of_all-take (suc i) (m ∷ measures) = omega (arith, width_of_all-take i measures)

-- where each measure has a column, there are no more measures than columns
pub length-width_of_all : (measures : List Measure) → All (λ m. 1 ≤ width_of m.kind) measures → length measures ≤ width_of_all measures
length-width_of_all [] some = lit≤ tt
length-width_of_all (m ∷ measures) some =
    omega (arith, All-head (λ m. 1 ≤ width_of m.kind) m measures some, length-width_of_all measures (All-tail (λ m. 1 ≤ width_of m.kind) m measures some))

-- where the columns follow one another and end with the last value, each measure has its columns among the values
within_from : (len first : ℕ) (measures : List Measure) → 1 ≤ first → AreInOrder first measures → first + width_of_all measures ≤ len + 1 → All (IsWithin len) measures
within_from len first [] some order end = All-nil (IsWithin len)
within_from len first (m ∷ measures) some order end =
    let here : m.first_col ≡ first = order.0 in
    All-cons (IsWithin len) m measures
    (record { first = omega arith; last = omega arith })
    (within_from len (first + width_of m.kind) measures (omega arith) order.1 (omega arith))

pub AreMeasures-within : (len : ℕ) (measures : List Measure) → AreMeasures measures → len ≡ width_of_all measures → All (IsWithin len) measures
AreMeasures-within len measures shape whole = within_from len 1 measures (lit≤ tt) shape.order (omega arith)

-- the columns of each measure are among the seven
pub AreMeasures-measure : (measures : List Measure) (i : ℕ) (m : Measure) → AreMeasures measures → i < length measures → m ≡ get_or measures i m → IsWithin MAX_COLS m
AreMeasures-measure measures i m shape within at =
    subst (IsWithin MAX_COLS) (sym at) (within_from MAX_COLS 1 measures (lit≤ tt) shape.order (omega (arith, shape.most)) i m within)
