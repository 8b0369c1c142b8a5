-- The measure by whose sum cells weigh, found by its name.
use Rattle.std.proofs.Common.{◌≡◌, ◌≢◌, ℕ, zero, suc, ◌+◌, true, false, List, [], ◌∷◌, get_or, refl, sym, ap, ◌∙◌, arith, Option, Some, None}
use Rattle.std.specs.Prelude.{AllPairs, ◌&&◌, slice_get}
use Rattle.std.specs.List.{position_from}
use Rattle.std.specs.Option.{option_map}
use Rattle.std.specs.Str.{bytes_eq}
use Rattle.std.proofs.Math.Bool.{and-false}
use Rattle.std.proofs.lemmas.Bool.{and_parts, false_from_ne_true}
use Rattle.std.proofs.lemmas.Iterator.Adapters.{position_from-zero}
use Rattle.std.proofs.lemmas.List.Quantifiers.{position-Some}
use Rattle.std.proofs.lemmas.Option.{get_or_from_slice_get, none-some, same_Some, slice_get-get_or, slice_get_within}
use Rattle.std.proofs.lemmas.Slice.Eq.{bytes_eq-Decides}
use Rattle.fact_records.specs.declared.shape.Kind.{Kind}
use Rattle.fact_records.specs.declared.shape.Kind.TheVariants as kind
use Rattle.fact_records.specs.declared.shape.Measure.{Measure}
use Rattle.fact_records.specs.Fields.{is_number_measure}
use Rattle.fact_records.specs.Shape.{IsWeighable}
use Rattle.schema_text.specs.SchemaText.{number_measure_named}

number-kind : (of_kind : Kind) → is_number_measure of_kind ≡ true → of_kind ≡ kind.Number
number-kind kind.Number e = refl
number-kind (kind.Parts scale outcomes) e = cc

-- cells may weigh by the number measure of a name
pub IsWeighable-named : (measures : List Measure) (name : List ℕ) (i : ℕ) → number_measure_named measures name ≡ Some i → IsWeighable measures (Some i)
IsWeighable-named measures name i found =
    let none : Measure = record { name = []; kind = kind.Number; first_col = 0 } in
    let parts = position-Some (λ (m : Measure). is_number_measure m.kind && bytes_eq m.name name) measures i none found in
    let number = number-kind (get_or measures i none).kind (and_parts (is_number_measure (get_or measures i none).kind) (bytes_eq (get_or measures i none).name name) parts.1).0 in
    ap (option_map (λ (m : Measure). m.kind)) (slice_get-get_or measures i none parts.0) ∙ ap (λ (k : Kind). Some k) number

pub IsWeighable-measure : (measures : List Measure) (i : ℕ) → IsWeighable measures (Some i) → (m : Measure) × (slice_get measures i ≡ Some m) × (is_number_measure m.kind ≡ true)
IsWeighable-measure measures i weighable = found (slice_get measures i) weighable
  where
    found : (o : Option Measure) → option_map (λ m. m.kind) o ≡ Some kind.Number → (m : Measure) × (o ≡ Some m) × (is_number_measure m.kind ≡ true)
    found None e = absurd (none-some kind.Number e)
    found (Some m) e = (m, refl, ap is_number_measure (same_Some m.kind kind.Number e))

-- the number measure at a place is the first of its name, where the places are counted from k
found_from : (measures : List Measure) (k i n : ℕ) (m : Measure) → n ≡ k + i → slice_get measures i ≡ Some m → is_number_measure m.kind ≡ true → AllPairs (λ a b. a.name ≢ b.name) measures
    → position_from (λ (x : Measure). is_number_measure x.kind && bytes_eq x.name m.name) k measures ≡ Some n
found_from [] k i n m count at number distinct = absurd (none-some m at)
found_from (first ∷ measures) k zero n m count at number distinct =
    let here : first ≡ m = same_Some first m at in
    let same : bytes_eq first.name m.name ≡ true = (bytes_eq-Decides first.name m.name).1 (ap (λ (x : Measure). x.name) here) in
    let kind : is_number_measure first.kind ≡ true = ap (λ (x : Measure). is_number_measure x.kind) here ∙ number in
    let at_k : k ≡ n = omega arith in
    rw (kind, same) (ap (λ (x : ℕ). Some x) at_k)
found_from (first ∷ measures) k (suc i) n m count at number distinct =
    let within = slice_get_within measures i m at in
    let other : first.name ≢ m.name = λ same. distinct 0 (suc i) m (omega arith) (omega arith) (same ∙ ap (λ (x : Measure). x.name) (sym (get_or_from_slice_get measures i m m at))) in
    let differs : bytes_eq first.name m.name ≡ false = false_from_ne_true (bytes_eq first.name m.name) (λ e. other ((bytes_eq-Decides first.name m.name).0 e)) in
    let rest = found_from measures (k + 1) i n m (omega arith) at number (λ j l d before in_list. distinct (suc j) (suc l) d (omega arith) (omega arith)) in
    rw (differs, and-false (is_number_measure first.kind)) rest

pub number_measure-found : (measures : List Measure) (i : ℕ) (m : Measure) → slice_get measures i ≡ Some m → is_number_measure m.kind ≡ true → AllPairs (λ a b. a.name ≢ b.name) measures → number_measure_named measures m.name ≡ Some i
number_measure-found measures i m at number distinct =
    position_from-zero (λ (x : Measure). is_number_measure x.kind && bytes_eq x.name m.name) measures ∙ found_from measures 0 i i m (omega arith) at number distinct
