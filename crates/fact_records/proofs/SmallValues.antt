-- Values that are accepted are small: a number by its limit, and a part since parts are not below 0 and add up to their scale.
use Rattle.std.proofs.Common.{◌≡◌, ℕ, ◌+◌, ◌-◌, ◌<◌, ◌≤◌, Bool, true, false, List, [], ◌∷◌, length, get_or, drop, refl, ap, ◌∙◌, inl, inr, arith, ℤ, pos, negsuc, Some, None}
use Rattle.std.specs.Prelude.{All, fold, if◌then◌else◌, nat_abs, nat_lt, not, unsigned_abs, ◌==◌, ◌||◌, ◌+ℤ◌, int_lt}
use Rattle.std.specs.List.{list_any}
use Rattle.std.proofs.lemmas.Bool.{cases_lt, or_parts}
use Rattle.std.proofs.lemmas.Bool.Decides.{nat_tests}
use Rattle.std.proofs.lemmas.Int.{ints}
use Rattle.std.proofs.lemmas.List.{get_or-drop, get_or-take, length-drop, length-take-le}
use Rattle.std.proofs.lemmas.List.Elements.{All-cons, All-from_get_or, All-head, All-nil, All-tail, All-weaker}
use Rattle.cube_base.specs.declared.code.Code.TheVariants as code
use Rattle.cube_model.specs.Limits.{MAX_VALUE}
use Rattle.fact_records.specs.declared.shape.Kind.{Kind}
use Rattle.fact_records.specs.declared.shape.Kind.TheVariants.{Number, Parts}
use Rattle.fact_records.specs.declared.shape.Measure.{Measure}
use Rattle.fact_records.specs.Accepted.{cols_refusal, has_wrong_number, has_wrong_parts, is_large, is_no_distribution, is_wrong_number}
use Rattle.fact_records.specs.Shape.{AreInOrder, AreMeasures, HasScale, ShapeValue, values_of, width_of, width_of_all}
use Rattle.fact_records.specs.Values.{has_negative, sums_to}

-- what holds of no element holds of none of them
pub none_of : {X : Type 0} (p : X → Bool) (xs : List X) → list_any p xs ≡ false → All (λ x. p x ≡ false) xs
none_of p [] none = All-nil (λ x. p x ≡ false)
none_of p (x ∷ xs) none =
    let parts = or_parts (p x) (list_any p xs) none in
    All-cons (λ x. p x ≡ false) x xs parts.0 (none_of p xs parts.1)

-- where nothing is refused, the number of the values is right, and no number and no distribution is wrong
pub not_refused : (right number parts : Bool) → (if not right || number then Some code.Value else (if parts then Some code.Parts else None)) ≡ None → (right ≡ true) × (number ≡ false) × (parts ≡ false)
not_refused true false false none = (refl, refl, refl)
not_refused true false true none = cc
not_refused true true parts none = cc
not_refused false number parts none = cc

-- numbers that are not below 0 are at most what they add up to, from some number on
parts-from : (n total : ℕ) (values : List ℤ) → has_negative values ≡ false → fold ◌+ℤ◌ (pos n) values ≡ pos total → (n ≤ total) × All (λ value. nat_abs value ≤ total) values
parts-from n total [] none sum = (omega (arith, ints), All-nil (λ value. nat_abs value ≤ total))
parts-from n total (pos value ∷ values) none sum =
    let others : has_negative values ≡ false = (or_parts (int_lt (pos value) (pos 0)) (has_negative values) none).1 in
    let rest = parts-from (n + value) total values others sum in
    (omega (arith, rest.0), All-cons (λ value. nat_abs value ≤ total) (pos value) values (omega (arith, rest.0)) rest.1)
parts-from n total (negsuc value ∷ values) none sum = cc

parts-small : (scale : ℕ) (values : List ℤ) → has_negative values ≡ false → sums_to scale values ≡ true → All (λ value. nat_abs value ≤ scale) values
parts-small scale values none sum = (parts-from 0 scale values none (grind (arith, nat_tests, sum))).1

-- the values of one measure
measure-small : (kind : Kind) (values : List ℤ) → HasScale kind → is_large kind values ≡ false → is_no_distribution kind values ≡ false → All (λ value. nat_abs value ≤ MAX_VALUE) values
measure-small Number values scale_is small right = All-weaker (λ value. nat_lt MAX_VALUE (unsigned_abs value) ≡ false) (λ value. nat_abs value ≤ MAX_VALUE) (λ value test. grind (arith, nat_tests, test)) values (none_of _ values small)
measure-small (Parts scale outcomes) values scale_is small right =
    let parts = or_parts (has_negative values) (not (sums_to scale values)) right in
    let whole : sums_to scale values ≡ true = grind (arith, parts.1) in
    All-weaker (λ value. nat_abs value ≤ scale) (λ value. nat_abs value ≤ MAX_VALUE) (λ value le. omega (arith, le, scale_is.most)) values (parts-small scale values parts.0 whole)

-- a value among those of its measure
value_of-at : (m : Measure) (values : List ℤ) (k i : ℕ) → k + 1 ≡ m.first_col + i → 1 ≤ m.first_col → i < width_of m.kind → get_or (values_of m values) i (pos 0) ≡ get_or values k (pos 0)
value_of-at m values k i place some within =
    let at : m.first_col - 1 + i ≡ k = omega arith in
    get_or-take (width_of m.kind) (drop (m.first_col - 1) values) i (pos 0) within ∙ get_or-drop (m.first_col - 1) values i (pos 0) ∙ ap (λ n. get_or values n (pos 0)) at

length-values_of : (m : Measure) (values : List ℤ) → 1 ≤ m.first_col → m.first_col + width_of m.kind ≤ length values + 1 → length (values_of m values) ≡ width_of m.kind
length-values_of m values some end = length-take-le (width_of m.kind) (drop (m.first_col - 1) values) (omega (arith, length-drop (m.first_col - 1) values))

module _ (shape : ShapeValue) (values : List ℤ) where
  small-here : (m : Measure) (first k : ℕ) → m.first_col ≡ first → 1 ≤ first → first + width_of m.kind ≤ length values + 1 → HasScale m.kind → is_wrong_number shape m (values_of m values) ≡ false
      → is_no_distribution m.kind (values_of m values) ≡ false → first ≤ k + 1 → k + 1 < first + width_of m.kind → nat_abs (get_or values k (pos 0)) ≤ MAX_VALUE
  small-here m first k column some end scale_is number parts from to =
      let i = k + 1 - first in
      let each = measure-small m.kind (values_of m values) scale_is (or_parts _ _ number).0 parts in
      let count = length-values_of m values (omega arith) (omega arith) in
      let here : nat_abs (get_or (values_of m values) i (pos 0)) ≤ MAX_VALUE = each i (pos 0) (omega (arith, count)) in
      rw (value_of-at m values k i (omega arith) (omega arith) (omega arith)) at here

  small-from : (first : ℕ) (measures : List Measure) → 1 ≤ first → AreInOrder first measures → first + width_of_all measures ≤ length values + 1 → All (λ m. HasScale m.kind) measures
      → list_any (λ m. is_wrong_number shape m (values_of m values)) measures ≡ false → has_wrong_parts measures values ≡ false
      → (k : ℕ) → first ≤ k + 1 → k + 1 < first + width_of_all measures → nat_abs (get_or values k (pos 0)) ≤ MAX_VALUE
  small-from first [] some order end scales number parts k from to = absurd (omega arith)
  small-from first (m ∷ measures) some order end scales number parts k from to =
      let numbers = or_parts (is_wrong_number shape m (values_of m values)) (list_any (λ m. is_wrong_number shape m (values_of m values)) measures) number in
      let distributions = or_parts (is_no_distribution m.kind (values_of m values)) (has_wrong_parts measures values) parts in
      elim (cases_lt (k + 1) (first + width_of m.kind)) [
        | inl here ↦ small-here m first k order.0 some (omega arith) (All-head (λ (m : Measure). HasScale m.kind) m measures scales) numbers.0 distributions.0 from here
        | inr later ↦ small-from (first + width_of m.kind) measures (omega arith) order.1 (omega arith) (All-tail (λ (m : Measure). HasScale m.kind) m measures scales) numbers.1 distributions.1 k later (omega arith)
      ]

-- so are they all, as many as the columns
module _ (shape : ShapeValue) (values : List ℤ) (accepted : cols_refusal shape values ≡ None) where
  tests : (length values == width_of_all shape.measures) ≡ true × has_wrong_number shape values ≡ false × has_wrong_parts shape.measures values ≡ false
  tests = not_refused (length values == width_of_all shape.measures) (has_wrong_number shape values) (has_wrong_parts shape.measures values) accepted

  pub count-accepted : length values ≡ width_of_all shape.measures
  count-accepted = grind (arith, nat_tests, tests.0)

  pub small-accepted : AreMeasures shape.measures → All (λ value. nat_abs value ≤ MAX_VALUE) values
  small-accepted are =
      All-from_get_or (λ value. nat_abs value ≤ MAX_VALUE) values (pos 0)
      (λ k lt. small-from shape values 1 shape.measures (omega arith) are.order (omega (arith, count-accepted)) are.scales tests.1 tests.2 k (omega arith) (omega (arith, count-accepted)))
